-- An open play, or none, is read from its part behind the head.
use Rattle.std.proofs.Common.{◌≡◌, ◌∙◌, ap, refl, ℕ, ◌+◌, ◌-◌, ◌==◌, List, ◌∷◌, ◌++◌, if◌then◌else◌, length, replicate, slice_index, append_assoc, Option, Some, None}
use Rattle.gd_base.specs.declared.layout.TheConstants.{OPEN_AT, OPEN_PLAY_LEN}
use Rattle.gd_base.specs.declared.play.PlayRecord.{PlayRecord}
use Rattle.gd_base.specs.Payloads.Bytes.{filled_part, open_bytes, play_bytes}
use Rattle.gd_base.specs.Payloads.Reading.{number_at, short_at, play_read, open_read, game_of, choice_of}
use Rattle.gd_base.proofs.PayloadLemmas.Behind.{number_behind, short_behind, byte_behind}
use Rattle.gd_base.proofs.PayloadLemmas.OneView.{Open}
use Rattle.gd_base.proofs.PayloadLemmas.RecordsBack.{sixteen, play_kept, play_before}

play_behind : (h r : List ℕ) → length h ≡ OPEN_AT → play_read (OPEN_AT + 1) (h ++ r) ≡ play_read 1 r
play_behind h r len =
    let at : (k : ℕ) → number_at (OPEN_AT + k) (h ++ r) ≡ number_at k r = λ k. number_behind OPEN_AT k h r len in
    let byte : (k : ℕ) → slice_index (h ++ r) (OPEN_AT + k) ≡ slice_index r k = λ k. byte_behind OPEN_AT k h r len in
    let wager = short_behind OPEN_AT 147 h r len in
    λ j. record {
      number = at 1 j;
      index = at 9 j;
      words = sixteen (at 17 j) (at 25 j) (at 33 j) (at 41 j) (at 49 j) (at 57 j) (at 65 j) (at 73 j) (at 81 j) (at 89 j) (at 97 j) (at 105 j) (at 113 j) (at 121 j) (at 129 j) (at 137 j);
      game = game_of (byte 145 j);
      bet = byte 146 j;
      wager = wager j;
      choice = choice_of (byte 151 j);
      turns = byte 152 j;
      colours = byte 153 j;
      win = at 155 j;
      before = at 163 j;
      after = at 171 j;
      place = at 179 j;
    }

open_behind : (h r : List ℕ) → length h ≡ OPEN_AT → open_read OPEN_AT (h ++ r) ≡ open_read 0 r
open_behind h r len =
    let byte = byte_behind OPEN_AT 0 h r len in
    let play = play_behind h r len in
    λ j. if byte j == 0 then None else Some (play j)

-- behind one byte
behind_one : (n : ℕ) (t : List ℕ) → play_read 1 (n ∷ t) ≡ play_read 0 t
unfolding number_at short_at
behind_one n t = refl

open_first : (play : Option PlayRecord) (rest : List ℕ) → Open play → open_read 0 (filled_part OPEN_PLAY_LEN (open_bytes play) ++ rest) ≡ play
open_first None rest t = refl
open_first (Some p) rest t =
    let zeros = replicate (OPEN_PLAY_LEN - length (1 ∷ play_bytes p)) 0 in
    let whole = append_assoc (1 ∷ play_bytes p) zeros rest in
    let back = behind_one 1 (play_bytes p ++ (zeros ++ rest)) ∙ play_before p (zeros ++ rest) (play_kept p t.0, t.1) in
    ap (open_read 0) whole ∙ (λ j. Some (back j))

pub open_back : (head : List ℕ) (play : Option PlayRecord) (rest : List ℕ) → length head ≡ OPEN_AT → Open play
    → open_read OPEN_AT (head ++ (filled_part OPEN_PLAY_LEN (open_bytes play) ++ rest)) ≡ play
open_back head play rest len t = open_behind head (filled_part OPEN_PLAY_LEN (open_bytes play) ++ rest) len ∙ open_first play rest t
