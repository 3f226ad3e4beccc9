-- The view of the empty history keeps all rules of a view.
use Rattle.std.proofs.Common.{◌≡◌, subst, sym, refl, ℕ, ◌<◌, suc, get_or, nat_lt, true, List, [], ◌∷◌, length}
use Rattle.std.specs.List.{list_all}
use Rattle.gd_base.specs.declared.setup.Setup.{Setup}
use Rattle.gd_base.specs.Histories.View.{View}
use Rattle.gd_base.specs.Histories.ViewOf.{empty_view}
use Rattle.gd_base.specs.Judging.Product.{both_hold}
use Rattle.gd_base.specs.Payloads.ViewRules.{setup_rules, view_rules}
use Rattle.gd_base.proofs.BoolTests.{all_hold, is_below, is_equal}
use Rattle.gd_machine.specs.Words.{IsWhole}

pub each_below : (most : ℕ) (xs : List ℕ) → ((i : ℕ) → get_or xs i 0 < most) → list_all (λ n. nat_lt n most) xs ≡ true
each_below most [] f = refl
each_below most (x ∷ xs) f = both_hold (nat_lt x most) (list_all (λ n. nat_lt n most) xs) (is_below x most (f 0)) (each_below most xs (λ i. f (suc i)))

empty_whole : (setup : Setup) (digest : List ℕ) → length digest ≡ 32 → list_all (λ b. nat_lt b 256) digest ≡ true → IsWhole setup (empty_view digest)
empty_whole setup digest long bytes =
    let v = empty_view digest in
    record {
      possible = all_hold (view_rules v) (is_equal (length digest) 32 long, (bytes, (refl, (refl, (refl, (refl, (refl, (refl, (refl, (refl, (refl, (refl, (refl, (refl, (refl, (refl, (refl, (refl, (refl, (refl, (refl, (refl, (refl, tt)))))))))))))))))))))));
      under = all_hold (setup_rules setup v) (refl, (refl, (refl, (refl, (refl, tt)))));
    }

pub whole_of : (setup : Setup) (digest : List ℕ) (v : View) → v ≡ empty_view digest → length digest ≡ 32 → list_all (λ b. nat_lt b 256) digest ≡ true → IsWhole setup v
whole_of setup digest v is long bytes = subst (IsWhole setup) (sym is) (empty_whole setup digest long bytes)
