use Rattle.std.proofs.Common.{rules, ◌∙◌, not, ap, arith, filter, length}
use Rattle.arrayvec.proofs.ArrayVecLemmas.{filter-from_retain}
use Rattle.gd_base.specs.Setups.Tables.{deck}
use Rattle.gd_cards.specs.Hands.{has_card}
use Rattle.gd_cards.proofs.Copies.{deck_once, length-left}
use Rattle.gd_cards.proofs.deck.cards_left.Goals as goal

pub returns-clause-cards : goal.returns-clause-cards
returns-clause-cards c =
    filter-from_retain _ (λ card. not (has_card c.args.hand.now card)) _ (λ x b f' y called. search rules) _ _ c.retain.ensures.filtered
    ∙ ap (filter (λ card. not (has_card c.args.hand.now card))) c.full_deck-left.ensures.cards

pub returns-clause-count : goal.returns-clause-count
returns-clause-count c =
    omega (arith, ap length (returns-clause-cards c), length-left c.args.hand.now deck deck_once, c.told-hand)
