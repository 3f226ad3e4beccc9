-- For callers: what tests tell, and which tests hold.
use Rattle.std.specs.Prelude.{◌≡◌, ℕ, ◌<◌, ◌≤◌, ◌==◌, nat_le, nat_lt, Bool, true, false, ◌&&◌, List, [], ◌∷◌, refl}
use Rattle.std.proofs.Common.{ap, sym, ◌∙◌, arith}
use Rattle.std.proofs.lemmas.Bool.Decides.{nat_tests}
use Rattle.gd_base.specs.Payloads.ViewRules.{all_true}
use Rattle.gd_base.specs.Judging.Product.{both_hold}

pub both : (a b : Bool) → a && b ≡ true → (a ≡ true) × (b ≡ true)
both true true h = (refl, refl)
both true false h = absurd (cc h)
both false b h = absurd (cc h)

pub second_of : (a b : Bool) → a ≡ true → b ≡ (a && b)
second_of a b h = ap (λ (x : Bool). x && b) (sym h)

pub not_first : (a b : Bool) → a ≡ false → a ≡ (a && b)
not_first a b h = h ∙ ap (λ (x : Bool). x && b) (sym h)

abbrev pub AllTrue : List Bool → Type 0
AllTrue [] = Unit {0}
AllTrue (b ∷ bs) = (b ≡ true) × AllTrue bs

pub all_told : (bs : List Bool) → all_true bs ≡ true → AllTrue bs
all_told [] h = tt
all_told (b ∷ bs) h = let t = both b (all_true bs) h in (t.0, all_told bs t.1)

pub all_hold : (bs : List Bool) → AllTrue bs → all_true bs ≡ true
all_hold [] t = refl
all_hold (b ∷ bs) t = both_hold b (all_true bs) t.0 (all_hold bs t.1)

-- ================ numbers

pub is_so : (m n : ℕ) → (m == n) ≡ true → m ≡ n
is_so m n h = grind (arith, nat_tests, h)

pub is_equal : (m n : ℕ) → m ≡ n → (m == n) ≡ true
is_equal m n h = grind (arith, nat_tests, h)

pub at_most : (m n : ℕ) → nat_le m n ≡ true → m ≤ n
at_most m n h = grind (arith, nat_tests, h)

pub is_within : (m n : ℕ) → m ≤ n → nat_le m n ≡ true
is_within m n h = grind (arith, nat_tests, h)

pub is_below : (m n : ℕ) → m < n → nat_lt m n ≡ true
is_below m n h = grind (arith, nat_tests, h)

pub is_less : (m n : ℕ) → nat_lt m n ≡ true → m < n
is_less m n h = grind (arith, nat_tests, h)
