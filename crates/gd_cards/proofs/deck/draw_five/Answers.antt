use Rattle.std.proofs.Common.{◌∷◌, [], ◌∙◌, sym, refl, ap, get_or}
use Rattle.gd_base.specs.Games.Chance.{cards_from}
use Rattle.gd_cards.proofs.Drawn.{five_words, one_more}
use Rattle.gd_cards.proofs.deck.draw_five.Goals as goal

pub returns : goal.returns
returns c =
    let words = c.args.words.now in
    let fifth = one_more c.draw-5.result c.draw-4.new.left.items c.draw-5.new.left.items [] (get_or words 4 0) []
    c.draw-5.ensures.card c.draw-5.ensures.left refl in
    let fourth = one_more c.draw-4.result c.draw-3.new.left.items c.draw-4.new.left.items (c.draw-5.result ∷ []) (get_or words 3 0) (get_or words 4 0 ∷ [])
    c.draw-4.ensures.card c.draw-4.ensures.left fifth in
    let third = one_more c.draw-3.result c.draw-2.new.left.items c.draw-3.new.left.items (c.draw-4.result ∷ c.draw-5.result ∷ []) (get_or words 2 0) (get_or words 3 0 ∷ get_or words 4 0 ∷ [])
    c.draw-3.ensures.card c.draw-3.ensures.left fourth in
    let second = one_more c.draw-2.result c.draw.new.left.items c.draw-2.new.left.items (c.draw-3.result ∷ c.draw-4.result ∷ c.draw-5.result ∷ []) (get_or words 1 0)
    (get_or words 2 0 ∷ get_or words 3 0 ∷ get_or words 4 0 ∷ [])
    c.draw-2.ensures.card c.draw-2.ensures.left third in
    let first = one_more c.draw.result c.args.left.items c.draw.new.left.items (c.draw-2.result ∷ c.draw-3.result ∷ c.draw-4.result ∷ c.draw-5.result ∷ []) (get_or words 0 0)
    (get_or words 1 0 ∷ get_or words 2 0 ∷ get_or words 3 0 ∷ get_or words 4 0 ∷ [])
    c.draw.ensures.card c.draw.ensures.left second in
    record { cards = first ∙ sym (ap (cards_from c.args.left.items) (five_words words c.requires.five)) }
