-- The bytes of a play's record, as they are written piece by piece.
use Rattle.std.proofs.Common.{◌≡◌, refl, ℕ, List, [], ◌∷◌, length, replicate, slice_set, arith}
use Rattle.std.specs.List.{flat_map}
use Rattle.gd_base.specs.declared.play.PlayRecord.{PlayRecord}
use Rattle.gd_base.specs.Histories.Numbers.{game_number}
use Rattle.gd_base.specs.Payloads.Bytes.{four, eight, choice_code, play_bytes}
use Rattle.gd_recall.specs.Pieces.{put_at}

abbrev pub ids : PlayRecord → List ℕ
ids p = flat_map eight (p.number ∷ p.index ∷ [])

abbrev pub amounts : PlayRecord → List ℕ
amounts p = flat_map eight (p.win ∷ p.before ∷ p.after ∷ p.place ∷ [])

abbrev pub with_game : (game bet : ℕ) → List ℕ → List ℕ
with_game game bet image = slice_set (slice_set image 144 game) 145 bet

abbrev pub with_choices : (choice turns colours : ℕ) → List ℕ → List ℕ
with_choices choice turns colours image = slice_set (slice_set (slice_set image 150 choice) 151 turns) 152 colours

pub play_written : (p : PlayRecord) (words : List ℕ) → length words ≡ 16
    → put_at 154 (amounts p) (with_choices (choice_code p.game p.choice) p.turns p.colours (put_at 146 (four p.wager)
    (with_game (game_number p.game) p.bet (put_at 16 (flat_map eight words) (put_at 0 (ids p) (replicate 186 0))))))
    ≡ play_bytes (record p { words = words })
play_written p (t0 ∷ t1 ∷ t2 ∷ t3 ∷ t4 ∷ t5 ∷ t6 ∷ t7 ∷ t8 ∷ t9 ∷ ta ∷ tb ∷ tc ∷ td ∷ te ∷ tf ∷ []) sixteen = refl
play_written p words sixteen = absurd (omega (arith, sixteen))
