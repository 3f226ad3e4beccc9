-- The pays of the symbols on a line, one after another, and the greatest of them.
use Rattle.std.proofs.Common.{◌≡◌, ◌<◌, ◌+◌, ◌++◌, ℕ, zero, suc, List, [], ◌∷◌, length, get_or, take, max, refl, arith, IsTrue}
use Rattle.std.proofs.lemmas.List.{take_more}
use Rattle.gd_base.specs.Games.Chance.{greatest, pays_on, pay_of_run, run_length}
use Rattle.gd_base.proofs.BoolTests.{both}
use Rattle.gd_base.specs.Setups.SetupRules.{are_small, are_pays}

pub length-pays_on : (line letters : List ℕ) (pays : List (List ℕ)) → length letters ≡ length pays
    → length (pays_on line letters pays) ≡ length letters
length-pays_on line [] pays same = refl
length-pays_on line (x ∷ xs) [] same = absurd (omega (arith, same))
length-pays_on line (x ∷ xs) (p ∷ ps) same = let inner = length-pays_on line xs ps (omega (arith, same)) in omega (arith, inner)

pub pays_on-at : (line letters : List ℕ) (pays : List (List ℕ)) (i : ℕ) → length letters ≡ length pays → i < length letters
    → get_or (pays_on line letters pays) i 0 ≡ pay_of_run (get_or pays i []) (run_length (get_or letters i 0) line)
pays_on-at line [] pays i same h = absurd (omega (arith, h))
pays_on-at line (x ∷ xs) [] i same h = absurd (omega (arith, same))
pays_on-at line (x ∷ xs) (p ∷ ps) zero same h = refl
pays_on-at line (x ∷ xs) (p ∷ ps) (suc i) same h = pays_on-at line xs ps i (omega (arith, same)) (omega (arith, h))

-- the greatest of some numbers and one more
greatest-append : (xs : List ℕ) (y : ℕ) → greatest (xs ++ y ∷ []) ≡ max (greatest xs) y
greatest-append [] y = omega arith
greatest-append (x ∷ xs) y = let inner = greatest-append xs y in omega (arith, inner)

pub greatest-more : (xs : List ℕ) (i best : ℕ) → i < length xs → best ≡ greatest (take i xs)
    → max best (get_or xs i 0) ≡ greatest (take (i + 1) xs)
greatest-more xs i best h so_far = rw (take_more xs i 0 h, greatest-append (take i xs) (get_or xs i 0), ← so_far) refl

-- the pays of each symbol are small
pub small_at : (pays : List (List ℕ)) (i : ℕ) → i < length pays → IsTrue (are_pays pays) → IsTrue (are_small (get_or pays i []))
small_at [] i h t = absurd (omega (arith, h))
small_at (p ∷ ps) zero h t = (both (are_small p) (are_pays ps) t).0
small_at (p ∷ ps) (suc i) h t = small_at ps i (omega (arith, h)) (both (are_small p) (are_pays ps) t).1
