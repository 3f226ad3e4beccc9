-- Each of a list of words is below 2 ^ 64, as a test.
use Rattle.std.proofs.Common.{◌≡◌, refl, ℕ, suc, ◌<◌, ◌^◌, nat_lt, true, get_or, List, [], ◌∷◌}
use Rattle.std.specs.List.{list_all}
use Rattle.gd_base.specs.Judging.Product.{both_hold}
use Rattle.gd_base.proofs.BoolTests.{is_below}

pub each_below : (xs : List ℕ) → ((i : ℕ) → get_or xs i 0 < 2 ^ 64) → list_all (λ w. nat_lt w (2 ^ 64)) xs ≡ true
each_below [] f = refl
each_below (x ∷ xs) f = both_hold (nat_lt x (2 ^ 64)) (list_all (λ w. nat_lt w (2 ^ 64)) xs) (is_below x (2 ^ 64) (f 0)) (each_below xs (λ i. f (suc i)))
