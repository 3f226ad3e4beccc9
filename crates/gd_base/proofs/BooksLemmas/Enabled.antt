-- For callers: a bill of a value that is enabled is small.
use Rattle.std.specs.Prelude.{◌≡◌, ℕ, zero, suc, ◌≤◌, ◌==◌, ◌&&◌, ◌||◌, nat_le, Bool, true, false, List, [], ◌∷◌, take, drop}
use Rattle.std.specs.List.{list_all, list_any}
use Rattle.std.proofs.Common.{arith, refl}
use Rattle.gd_base.specs.declared.setup.Setup.{Setup}
use Rattle.gd_base.specs.Judging.Rule.{is_bill}
use Rattle.gd_base.specs.Setups.SetupRules.{rise_above}
use Rattle.gd_base.proofs.BoolTests.{at_most, both, is_so}

enabled_by : (is_it more : Bool) (b value : ℕ) → nat_le b 100000000 ≡ true → (b == value) ≡ is_it → (more ≡ true → value ≤ 100000000) → is_it || more ≡ true → value ≤ 100000000
enabled_by true more b value small is rest h = let same : b ≡ value = is_so b value is in omega (arith, same, at_most b 100000000 small)
enabled_by false more b value small is rest h = rest h

enabled_small : (bills : List ℕ) (n value : ℕ) → list_all (λ x. nat_le x 100000000) bills ≡ true → list_any (λ b. b == value) (take n bills) ≡ true → value ≤ 100000000
enabled_small [] zero value all h = absurd (cc h)
enabled_small [] (suc n) value all h = absurd (cc h)
enabled_small (b ∷ bills) zero value all h = absurd (cc h)
enabled_small (b ∷ bills) (suc n) value all h =
    let t = both (nat_le b 100000000) (list_all (λ x. nat_le x 100000000) bills) all in
    enabled_by (b == value) (list_any (λ x. x == value) (take n bills)) b value t.0 refl (enabled_small bills n value t.1) h

pub bill_small : (setup : Setup) (value : ℕ) → is_bill setup value ≡ true → value ≤ 100000000
bill_small setup value h =
    let zeros = list_all (λ x. x == 0) (drop setup.bill_count setup.bills) in
    let smalls = list_all (λ x. nat_le x 100000000) setup.bills in
    let rise = rise_above 0 (take setup.bill_count setup.bills) in
    let t = both (nat_le setup.bill_count 8 && rise && smalls) zeros setup.has_bills in
    enabled_small setup.bills setup.bill_count value (both (nat_le setup.bill_count 8 && rise) smalls t.0).1 h
