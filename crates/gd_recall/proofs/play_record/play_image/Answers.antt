use Rattle.std.proofs.Common.{◌≡◌, ◌∙◌, ap, length, List, ℕ, rules}
use Rattle.std.specs.List.{flat_map}
use Rattle.gd_base.specs.Payloads.Bytes.{four, eight}
use Rattle.gd_recall.specs.Pieces.{put_at}
use Rattle.gd_recall.proofs.PlayImage.{amounts, with_game, with_choices, play_written}
use Rattle.gd_recall.proofs.play_record.play_image.Goals as goal

pub returns : goal.returns
returns c =
    let p = c.args.play.now in
    let sixteen : length p.words ≡ 16 = search rules in
    let words = c.put_numbers-2.ensures ∙ ap (λ (x : List ℕ). put_at 16 (flat_map eight p.words) x) c.put_numbers.ensures in
    let wager = c.put_four_bytes.ensures ∙ (λ j. put_at 146 (four p.wager) (with_game (c.game_number.ensures j) p.bet (words j))) in
    c.put_numbers-3.ensures ∙ (λ j. put_at 154 (amounts p) (with_choices (c.choice_number.ensures j) p.turns p.colours (wager j)))
    ∙ play_written p p.words sixteen
