-- A list that is written place by place.
use Rattle.std.proofs.Common.{◌≡◌, ◌∙◌, ap, sym, refl, ℕ, zero, suc, ◌+◌, ◌-◌, ◌<◌, ◌≤◌, List, [], ◌∷◌, ◌++◌, length, map, take, drop, set, get_or, replicate, add-one, arith}

set_next : {X A : Type 0} (f : X → A) (xs : List X) (before : List A) (n : ℕ) (d : X) → n < length xs → length xs ≤ length before
    → set (map f (take n xs) ++ drop n before) n (f (get_or xs n d)) ≡ map f (take (suc n) xs) ++ drop (suc n) before
set_next f [] before n d h k = absurd (omega (arith, h))
set_next f (x ∷ xs) [] n d h k = absurd (omega (arith, k))
set_next f (x ∷ xs) (b ∷ before) zero d h k = refl
set_next f (x ∷ xs) (b ∷ before) (suc n) d h k = ap (λ rest. f x ∷ rest) (set_next f xs before n d (omega (arith, h)) (omega (arith, k)))

-- one place more holds what is read of the item there
pub written : {X A : Type 0} (f : X → A) (xs : List X) (before into : List A) (n : ℕ) (x : X) (r : A) → into ≡ map f (take n xs) ++ drop n before
    → n < length xs → length xs ≤ length before → x ≡ get_or xs n x → r ≡ f x
    → set into n r ≡ map f (take (n + 1) xs) ++ drop (n + 1) before
written f xs before into n x r so_far here room item read =
    ap (λ l. set l n r) so_far ∙ ap (set (map f (take n xs) ++ drop n before) n) (read ∙ ap f item)
    ∙ set_next f xs before n x here room
    ∙ ap (λ m. map f (take m xs) ++ drop m before) (sym (add-one n))

-- zeros that are left behind so many places
pub zeros_left : (k n : ℕ) → drop {A = ℕ} k (replicate n 0) ≡ replicate (n - k) 0
zeros_left zero n = let e : n ≡ n - 0 = omega arith in ap (λ (m : ℕ). replicate {A = ℕ} m 0) e
zeros_left (suc k) zero = let e : 0 ≡ 0 - suc k = omega arith in ap (λ (m : ℕ). replicate {A = ℕ} m 0) e
zeros_left (suc k) (suc n) = let e : n - k ≡ suc n - suc k = omega arith in zeros_left k n ∙ ap (λ (m : ℕ). replicate {A = ℕ} m 0) e
