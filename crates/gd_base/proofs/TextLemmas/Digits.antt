-- Digits with zeros in front.
use Rattle.std.proofs.Common.{◌≡◌, ◌<◌, ◌≤◌, ◌-◌, ◌^◌, ◌++◌, ℕ, List, length, replicate, decimal, arith, ap, sym, ◌∙◌, append-nil}
use Rattle.std.proofs.lemmas.Fmt.{length-decimal-le}

pub at_most_ten : (n : ℕ) (digits : List ℕ) → digits ≡ decimal n → n < 10 ^ 10 → length digits ≤ 10
at_most_ten n digits h small = grind (arith, h, length-decimal-le 10 n)

nothing : (n : ℕ) → 0 ≡ n - n
nothing n = omega arith

pub none_in_front : (xs : List ℕ) (n : ℕ) → xs ≡ xs ++ replicate (n - n) 48
none_in_front xs n = sym (append-nil xs) ∙ ap (λ (k : ℕ). xs ++ replicate k 48) (nothing n)
