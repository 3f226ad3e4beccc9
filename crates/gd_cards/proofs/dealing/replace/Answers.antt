use Rattle.std.proofs.Common.{◌≤◌, ◌∙◌, sym, ap, length, take, drop, length-drop, arith}
use Rattle.std.proofs.lemmas.List.{length-take-le}
use Rattle.gd_base.specs.Games.Chance.{cards_from, exchanged_cards}
use Rattle.gd_cards.specs.Hands.{are_distinct, are_of_deck, cards_left, replaced_hand}
use Rattle.gd_cards.proofs.Replaced.{replaced_distinct, replaced_of_deck, final_is, words_of, words_past}
use Rattle.gd_cards.proofs.dealing.replace.Goals as goal

pub invariant_of-result-clause-has_distinct : goal.invariant_of-result-clause-has_distinct
invariant_of-result-clause-has_distinct c =
    let dealt = c.args.dealt.now.cards in
    let words = take 5 (drop 5 c.args.words.now) in
    let next = c.draw_five-next.ensures.cards ∙ ap (λ left. cards_from left words) c.cards_left.ensures.cards in
    let cards = c.exchanged-cards.ensures.cards ∙ ap (exchanged_cards c.args.mask 0 dealt) next in
    let five = length-take-le 5 (drop 5 c.args.words.now) (omega (arith, length-drop 5 c.args.words.now)) in
    let enough : 5 ≤ length (cards_left dealt) = omega (arith, c.cards_left.ensures.count, ap length c.cards_left.ensures.cards) in
    let fits = words_of 5 (drop 5 c.args.words.now) (words_past 5 c.args.words.now c.fits-words) in
    ap are_distinct cards ∙ replaced_distinct dealt words c.args.mask fits five enough c.args.dealt.now.has_distinct

pub invariant_of-result-clause-has_cards : goal.invariant_of-result-clause-has_cards
invariant_of-result-clause-has_cards c =
    let dealt = c.args.dealt.now.cards in
    let words = take 5 (drop 5 c.args.words.now) in
    let next = c.draw_five-next.ensures.cards ∙ ap (λ left. cards_from left words) c.cards_left.ensures.cards in
    let cards = c.exchanged-cards.ensures.cards ∙ ap (exchanged_cards c.args.mask 0 dealt) next in
    let five = length-take-le 5 (drop 5 c.args.words.now) (omega (arith, length-drop 5 c.args.words.now)) in
    let enough : 5 ≤ length (cards_left dealt) = omega (arith, c.cards_left.ensures.count, ap length c.cards_left.ensures.cards) in
    let fits = words_of 5 (drop 5 c.args.words.now) (words_past 5 c.args.words.now c.fits-words) in
    ap are_of_deck cards ∙ replaced_of_deck dealt words c.args.mask fits five enough c.args.dealt.now.has_cards

pub returns : goal.returns
returns c =
    let dealt = c.args.dealt.now.cards in
    let words = c.args.words.now in
    let next = c.draw_five-next.ensures.cards ∙ ap (λ left. cards_from left (take 5 (drop 5 words))) c.cards_left.ensures.cards in
    let replaced = c.exchanged-cards.ensures.cards ∙ ap (exchanged_cards c.args.mask 0 dealt) next in
    record {
      cards = replaced;
      of_deal = λ is_deal. replaced ∙ ap (λ cards. replaced_hand cards c.args.mask words) is_deal ∙ sym (final_is words c.args.mask c.told-words c.fits-words);
    }
