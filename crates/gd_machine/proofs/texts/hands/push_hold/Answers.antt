use Rattle.std.proofs.Common.{◌∙◌, ap, ◌++◌, List, ℕ, codes, map}
use Rattle.gd_base.specs.Games.Chance.{final_hand, rank}
use Rattle.gd_base.specs.Texts.Names.{card_name, rank_name}
use Rattle.gd_base.specs.Texts.OfViews.{bits, spaced_texts}
use Rattle.gd_machine.proofs.Lists.{seven_in_row}
use Rattle.gd_machine.proofs.texts.hands.push_hold.Goals as goal

pub returns-clause-bytes : goal.returns-clause-bytes
returns-clause-bytes c =
    let words = c.args.play.now.words in
    let mask = c.args.mask in
    let hand = final_hand words mask in
    let drawn = c.hand_after-drawn.ensures in
    let t3 = c.push_str-2.new.self.bytes in
    let t5 = c.push_str-3.new.self.bytes in
    seven_in_row c.args.text.now.bytes c.push_str.new.self.bytes c.push_mask.new.text.bytes t3 c.push_cards.new.text.bytes t5 c.push_str-4.new.self.bytes c.push_str-5.new.self.bytes
    (codes "held ") (bits mask 0 5) (codes " final") (spaced_texts (map card_name hand)) (codes " ") (rank_name (rank hand)) (codes "\n")
    c.push_str.ensures.bytes c.push_mask.ensures.bytes c.push_str-2.ensures.bytes
    (c.push_cards.ensures.bytes ∙ ap (λ (cards : List ℕ). t3 ++ spaced_texts (map card_name cards)) drawn)
    c.push_str-3.ensures.bytes
    (c.push_str-4.ensures.bytes ∙ ap (λ (name : List ℕ). t5 ++ name) (c.name_of_rank.ensures.name ∙ ap rank_name (c.rank.ensures.rank ∙ ap rank drawn)))
    c.push_str-5.ensures.bytes
