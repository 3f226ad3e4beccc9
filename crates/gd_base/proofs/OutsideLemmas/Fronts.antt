-- What is given in part.
use Rattle.std.proofs.Common.{◌≡◌, ℕ, ◌+◌, List, [], ◌++◌, Bool, true, false, cond, Some, refl, sym, ◌∙◌, subst, take, drop, append-nil, take-append-drop, length, ◌-◌, ◌≤◌, arith, length-drop}
use Rattle.std.proofs.lemmas.List.{take_all}
use Rattle.std.proofs.Math.Seq.{take-add}
use Rattle.std.proofs.KnownBytes.{Appends-trans}
use Rattle.std.specs.declared.option.Option.{Option}
use Rattle.std.specs.Io.KnownBytes.{Appends}
use Rattle.gd_base.specs.Outside.Causes.{AppendsFront}

-- the first n bytes are a front
pub front_of_take : (a b : Option (List ℕ)) (bytes : List ℕ) (n : ℕ) → Appends a b (take n bytes) → AppendsFront a b bytes
front_of_take a b bytes n h = record { front = take n bytes; rest = drop n bytes; whole = take-append-drop n bytes; appended = h }

-- a vector grew by the first n bytes, or not at all
pub front_of_grown : (old new bytes : List ℕ) (n : ℕ) (b : Bool) → new ≡ cond b (old ++ take n bytes) old → AppendsFront (Some old) (Some new) bytes
front_of_grown old new bytes n true h = front_of_take (Some old) (Some new) bytes n h
front_of_grown old new bytes n false h = record { front = []; rest = bytes; whole = refl; appended = h ∙ sym (append-nil old) }

-- what `&bytes[i..]` is
pub rest_from : (i : ℕ) (bytes : List ℕ) → take (length bytes - i) (drop i bytes) ≡ drop i bytes
rest_from i bytes = let few : length (drop i bytes) ≤ length bytes - i = omega (arith, length-drop i bytes) in take_all (length bytes - i) (drop i bytes) few

-- one more piece
pub given_more : (a b c : Option (List ℕ)) (bytes : List ℕ) (i n : ℕ) → Appends a b (take i bytes) → Appends b c (take n (take (length bytes - i) (drop i bytes))) → Appends a c (take (i + n) bytes)
given_more a b c bytes i n p q =
    subst (Appends a c) (sym (take-add i n bytes)) (Appends-trans a b c _ _ p (subst (λ (xs : List ℕ). Appends b c (take n xs)) (rest_from i bytes) q))

-- a piece of nothing
pub given_none : (a b c : Option (List ℕ)) (bytes rest : List ℕ) (i n : ℕ) → n ≡ 0 → Appends a b (take i bytes) → Appends b c (take n rest) → Appends a c (take i bytes)
given_none a b c bytes rest i n e p q =
    subst (Appends a c) (append-nil (take i bytes)) (Appends-trans a b c _ _ p (subst (λ (k : ℕ). Appends b c (take k rest)) e q))
