use Rattle.std.proofs.Common.{◌∙◌, sym, ap, take, arith}
use Rattle.std.proofs.lemmas.List.{length-take-le}
use Rattle.gd_base.specs.Games.Chance.{cards_from}
use Rattle.gd_cards.specs.Hands.{are_distinct, are_of_deck}
use Rattle.gd_cards.proofs.Replaced.{dealt_distinct, dealt_of_deck, hand_is, words_of}
use Rattle.gd_cards.proofs.dealing.deal.Goals as goal

pub invariant_of-result-clause-has_distinct : goal.invariant_of-result-clause-has_distinct
invariant_of-result-clause-has_distinct c =
    let words = c.args.words.now in
    let dealt = c.draw_five-cards.ensures.cards ∙ ap (λ left. cards_from left (take 5 words)) c.full_deck.ensures.cards in
    ap are_distinct dealt ∙ dealt_distinct (take 5 words) (words_of 5 words c.fits-words) (length-take-le 5 words (omega arith))

pub invariant_of-result-clause-has_cards : goal.invariant_of-result-clause-has_cards
invariant_of-result-clause-has_cards c =
    let words = c.args.words.now in
    let dealt = c.draw_five-cards.ensures.cards ∙ ap (λ left. cards_from left (take 5 words)) c.full_deck.ensures.cards in
    ap are_of_deck dealt ∙ dealt_of_deck (take 5 words) (words_of 5 words c.fits-words) (length-take-le 5 words (omega arith))

pub returns : goal.returns
returns c =
    let words = c.args.words.now in
    let dealt = c.draw_five-cards.ensures.cards ∙ ap (λ left. cards_from left (take 5 words)) c.full_deck.ensures.cards in
    record { cards = dealt ∙ sym (hand_is words c.told-words) }
