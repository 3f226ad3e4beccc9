-- Bytes that wait in a buffer before those that a source has left.
use Rattle.std.proofs.Common.{◌≡◌, ℕ, List, [], ◌∷◌, ◌++◌, Option, None, Some, IfNone, IfSome, sym, ap, subst, ◌∙◌, append_assoc, append-nil, option_to_list, OnErr, Result, Ok, Err}
use Rattle.std.specs.Io.KnownBytes.{Consumes, Keeps, IsAtEnd, prepend_known}

-- what is taken from the source waits, and its front is consumed
pub refilled : (old all front rest : List ℕ) (a b : Option (List ℕ)) → old ≡ [] → Consumes a b all → all ≡ front ++ rest → Consumes (prepend_known old a) (prepend_known rest b) front
refilled old all front rest None b o p e = tt
refilled old all front rest (Some x) None o p e = absurd p
refilled old all front rest (Some x) (Some y) o p e =
    ap (λ bs. bs ++ x) o ∙ (p ∙ (ap (λ bs. bs ++ y) e ∙ append_assoc front rest y))

-- a source that failed kept what it has
pub kept_empty : (old new : List ℕ) (a b : Option (List ℕ)) → old ≡ [] → new ≡ [] → Keeps a b → Consumes (prepend_known old a) (prepend_known new b) []
kept_empty old new None b o n p = tt
kept_empty old new (Some x) None o n p = absurd p
kept_empty old new (Some x) (Some y) o n p = ap (λ bs. bs ++ x) o ∙ (sym p ∙ sym (ap (λ bs. bs ++ y) n))

at_end : (new : List ℕ) (a : Option (List ℕ)) → new ≡ [] → IsAtEnd a → IsAtEnd (prepend_known new a)
at_end new None n p = tt
at_end new (Some x) n p = ap (λ bs. bs ++ x) n ∙ p

-- no byte came: nothing waits and nothing is left
pub none_at_end : (r : Option ℕ) (all rest : List ℕ) (a : Option (List ℕ)) → IfNone r (all ≡ []) → all ≡ option_to_list r ++ rest → (all ≡ [] → IsAtEnd a) → IfNone r (IsAtEnd (prepend_known rest a))
none_at_end None all rest a n e f = at_end rest a (sym e ∙ n) (f n)
none_at_end (Some b) all rest a n e f = tt

pub on_err_from : {T E P : Type 0} (r : Result T E) → P → OnErr r P
on_err_from (Ok x) p = tt
on_err_from (Err e) p = p

-- ================ the whole of the bytes

-- what was consumed is a front of what was left
pub split_some : (left new : Option (List ℕ)) (bs : List ℕ) → Consumes left new bs → IfSome left (λ script. (rest : List ℕ) × (script ≡ bs ++ rest))
split_some None new bs p = tt
split_some (Some x) None bs p = absurd p
split_some (Some x) (Some y) bs p = (y, p)

-- at the end it is the whole
pub split_end : (left new : Option (List ℕ)) (bs : List ℕ) → Consumes left new bs → IsAtEnd new → IfSome left (λ script. script ≡ bs)
split_end None new bs p e = tt
split_end (Some x) None bs p e = absurd p
split_end (Some x) (Some y) bs p e = p ∙ (ap (λ (r : List ℕ). bs ++ r) e ∙ append-nil bs)

-- where nothing waits, the source has all that is left
pub nothing_waits : (new : List ℕ) (a left : Option (List ℕ)) (bs : List ℕ) → new ≡ [] → Consumes left (prepend_known new a) bs → Consumes left a bs
nothing_waits new None left bs e p = p
nothing_waits new (Some x) left bs e p = subst (λ (xs : List ℕ). Consumes left (Some (xs ++ x)) bs) e p

pub none_consumed : (waits : List ℕ) (a : Option (List ℕ)) → waits ≡ [] → Consumes a (prepend_known waits a) []
none_consumed waits None e = tt
none_consumed waits (Some x) e = sym (ap (λ (xs : List ℕ). xs ++ x) e)

-- at the end nothing is left in the source either
pub source_at_end : (waits : List ℕ) (a : Option (List ℕ)) → IsAtEnd (prepend_known waits a) → IsAtEnd a
source_at_end waits None e = tt
source_at_end [] (Some x) e = e
source_at_end (b ∷ bs) (Some x) e = absurd (never e)
  where
    never : b ∷ (bs ++ x) ≡ [] → ⊥
    never is = cc is
