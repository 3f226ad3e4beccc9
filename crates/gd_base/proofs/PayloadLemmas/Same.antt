-- The test on two views is true exactly where they are one, of views that keep the rules of a view.
use Rattle.std.specs.Prelude.{◌≡◌, ℕ, ◌==◌, true, List, [], ◌∷◌, refl}
use Rattle.std.proofs.Common.{arith}
use Rattle.std.proofs.lemmas.Bool.Decides.{nat_tests}
use Rattle.gd_base.specs.declared.setup.Setup.{Setup}
use Rattle.gd_base.specs.Payloads.Bytes.{payload_of}
use Rattle.gd_base.specs.Payloads.ViewRules.{is_possible}
use Rattle.gd_base.specs.Payloads.Spelled.{Spelled}
use Rattle.gd_base.specs.Judging.Product.{machine, same_numbers}
use Rattle.gd_base.specs.Histories.View.{View}
use Rattle.gd_base.proofs.PayloadLemmas.OneView.{one_view}
use Rattle.gd_base.proofs.BoolTests.{both}

pub numbers_one : (xs ys : List ℕ) → same_numbers xs ys ≡ true → xs ≡ ys
numbers_one [] [] h = refl
numbers_one [] (y ∷ ys) h = absurd (cc h)
numbers_one (x ∷ xs) [] h = absurd (cc h)
numbers_one (x ∷ xs) (y ∷ ys) h =
    let t = both (x == y) (same_numbers xs ys) h in
    let one : x ≡ y = grind (arith, nat_tests, t.0) in
    let more = numbers_one xs ys t.1 in
    λ i. one i ∷ more i

pub same-one : (setup : Setup) (digest : List ℕ) (spelled : List ℕ → Spelled View) (v w : View) → is_possible v ≡ true → is_possible w ≡ true → (machine setup digest spelled).same v w ≡ true → v ≡ w
same-one setup digest spelled v w p q h = one_view v w p q (numbers_one (payload_of v) (payload_of w) h)
