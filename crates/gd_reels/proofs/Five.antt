-- Five reels: a list of five is its five elements.
use Rattle.std.proofs.Common.{◌≡◌, ℕ, ◌+◌, ◌%◌, List, [], ◌∷◌, length, get_or, slice_index, refl, ap, ◌∙◌, arith}
use Rattle.gd_base.specs.Games.Chance.{row}

pub five : {X : Type 0} → (xs : List X) (d : X) → length xs ≡ 5
    → xs ≡ get_or xs 0 d ∷ get_or xs 1 d ∷ get_or xs 2 d ∷ get_or xs 3 d ∷ get_or xs 4 d ∷ []
five [] d h = absurd (omega (arith, h))
five (a ∷ []) d h = absurd (omega (arith, h))
five (a ∷ b ∷ []) d h = absurd (omega (arith, h))
five (a ∷ b ∷ c ∷ []) d h = absurd (omega (arith, h))
five (a ∷ b ∷ c ∷ e ∷ []) d h = absurd (omega (arith, h))
five (a ∷ b ∷ c ∷ e ∷ f ∷ []) d h = refl
five (a ∷ b ∷ c ∷ e ∷ f ∷ g ∷ others) d h = absurd (omega (arith, h))

-- the letters of a row, one for each reel
pub row-five : (below : ℕ) (strips : List (List ℕ)) (stops : List ℕ) → length strips ≡ 5 → length stops ≡ 5
    → row below strips stops
    ≡ slice_index (get_or strips 0 []) ((get_or stops 0 0 + below) % 32)
    ∷ slice_index (get_or strips 1 []) ((get_or stops 1 0 + below) % 32)
    ∷ slice_index (get_or strips 2 []) ((get_or stops 2 0 + below) % 32)
    ∷ slice_index (get_or strips 3 []) ((get_or stops 3 0 + below) % 32)
    ∷ slice_index (get_or strips 4 []) ((get_or stops 4 0 + below) % 32)
    ∷ []
row-five below strips stops h k =
    ap (λ s. row below s stops) (five strips [] h)
    ∙ ap (row below (get_or strips 0 [] ∷ get_or strips 1 [] ∷ get_or strips 2 [] ∷ get_or strips 3 [] ∷ get_or strips 4 [] ∷ [])) (five stops 0 k)
