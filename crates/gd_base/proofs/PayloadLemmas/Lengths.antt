-- How long records in a row are, and a part that is filled up.
use Rattle.std.proofs.Common.{◌≡◌, ◌∙◌, ap, refl, ℕ, ◌+◌, ◌-◌, ◌*◌, ◌≤◌, List, [], ◌∷◌, length, replicate, arith, length-append}
use Rattle.std.specs.List.{flat_map}
use Rattle.std.proofs.Math.Nat.{mul-suc}
use Rattle.std.proofs.lemmas.List.{length-replicate}
use Rattle.std.proofs.lemmas.List.Concat.{flat_map-cons}
use Rattle.gd_base.specs.Payloads.Bytes.{eight, filled_part}
use Rattle.gd_base.proofs.PayloadLemmas.Fields.{Each}

pub row_length : {A : Type 0} (f : A → List ℕ) (size : ℕ) → ((x : A) → length (f x) ≡ size) → (xs : List A) → length (flat_map f xs) ≡ size * length xs
row_length f size long [] = omega arith
row_length f size long (x ∷ xs) =
    let one : length (flat_map f (x ∷ xs)) ≡ length (f x) + length (flat_map f xs) = ap length (flat_map-cons f x xs) ∙ length-append (f x) (flat_map f xs) in
    omega (arith, one, long x, row_length f size long xs, mul-suc size (length xs))

pub row_long : {A : Type 0} (f : A → List ℕ) (ok : A → Type 0) (size : ℕ) → ((x : A) → ok x → length (f x) ≡ size) → (xs : List A) → Each ok xs → length (flat_map f xs) ≡ size * length xs
row_long f ok size long [] each = omega arith
row_long f ok size long (x ∷ xs) each =
    let one : length (flat_map f (x ∷ xs)) ≡ length (f x) + length (flat_map f xs) = ap length (flat_map-cons f x xs) ∙ length-append (f x) (flat_map f xs) in
    omega (arith, one, long x each.0, row_long f ok size long xs each.1, mul-suc size (length xs))

pub eight_long : (n : ℕ) → length (eight n) ≡ 8
eight_long n = refl

pub filled_long : (size : ℕ) (bytes : List ℕ) → length bytes ≤ size → length (filled_part size bytes) ≡ size
filled_long size bytes few = omega (arith, few, length-append bytes (replicate (size - length bytes) 0), length-replicate {A = ℕ} (size - length bytes) 0)
