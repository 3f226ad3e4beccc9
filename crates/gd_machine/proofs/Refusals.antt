-- Refusals that are tried one after another, in pieces.
use Rattle.std.proofs.Common.{◌&&◌, Bool, true, false, OnOk, ◌≡◌, ◌∙◌, ap, sym, refl, List, [], ◌∷◌, ◌++◌, Option, Some, None, Result, Ok, Err}
use Rattle.gd_base.specs.declared.refusal.Refusal.{Refusal}
use Rattle.gd_base.specs.declared.refusal.Reply.{Reply}
use Rattle.gd_base.specs.Judging.Rule.{refuse_if, reply_by, unless}
use Rattle.gd_account.specs.Judging.{first_refusal, outcome}
use Rattle.gd_machine.specs.Acts.{replied}

-- the reply by all is that of how they went
pub replied_by : (xs : List (Option Refusal)) → replied (outcome (first_refusal xs)) ≡ reply_by xs
replied_by [] = refl
replied_by (None ∷ xs) = replied_by xs
replied_by (Some why ∷ xs) = refl

-- the first pieces refuse
pub refused_by : (xs ys : List (Option Refusal)) (why : Refusal) → outcome (first_refusal xs) ≡ Err why → Reply.Refused why ≡ reply_by (xs ++ ys)
refused_by [] ys why h = absurd (cc h)
refused_by (None ∷ xs) ys why h = refused_by xs ys why h
refused_by (Some w ∷ xs) ys why h = ap replied (sym h)

-- the first pieces pass, and the others tell
pub passed_by : (xs ys : List (Option Refusal)) → outcome (first_refusal xs) ≡ Ok tt → reply_by ys ≡ reply_by (xs ++ ys)
passed_by [] ys h = refl
passed_by (None ∷ xs) ys h = passed_by xs ys h
passed_by (Some w ∷ xs) ys h = absurd (cc h)

-- the first pieces pass, and a further one tells how it went
pub told_by : (xs ys : List (Option Refusal)) (r : Result (Unit {0}) Refusal) → outcome (first_refusal xs) ≡ Ok tt → r ≡ outcome (first_refusal ys) → replied r ≡ reply_by (xs ++ ys)
told_by xs ys r passed told = ap replied told ∙ replied_by ys ∙ passed_by xs ys passed

-- ================ what the exit of a `?` returns

given : (r : Result (Unit {0}) Refusal) (why : Refusal) → (x : Refusal) × (r ≡ Err x) × (x ≡ why) → r ≡ Err why
given r why t = t.1 ∙ ap Err t.2

-- the refusal of the first pieces is handed on
pub refused_on : (xs ys : List (Option Refusal)) (r : Result (Unit {0}) Refusal) (why : Refusal) → (x : Refusal) × (r ≡ Err x) × (x ≡ why) → Err why ≡ outcome (first_refusal xs)
    → replied r ≡ reply_by (xs ++ ys)
refused_on xs ys r why t h = ap replied (given r why t) ∙ refused_by xs ys why (sym h)

-- the refusal of a further piece is
pub told_on : (xs ys : List (Option Refusal)) (r : Result (Unit {0}) Refusal) (why : Refusal) → outcome (first_refusal xs) ≡ Ok tt → (x : Refusal) × (r ≡ Err x) × (x ≡ why)
    → Err why ≡ outcome (first_refusal ys) → replied r ≡ reply_by (xs ++ ys)
told_on xs ys r why passed t h = told_by xs ys r passed (given r why t ∙ h)

-- ================ a refusal that is tried between two of another piece

abbrev Around : List (Option Refusal) → Bool → Bool → Refusal → Refusal → Option Refusal → Result (Unit {0}) Refusal → Type 0
Around xs good seen bad twice over r = replied r ≡ reply_by (xs ++ (unless good bad ∷ refuse_if seen twice ∷ over ∷ []))

-- it refuses where the first part passes
pub between_on : (xs : List (Option Refusal)) (good seen : Bool) (bad twice : Refusal) (over : Option Refusal) (r : Result (Unit {0}) Refusal) (why : Refusal) → outcome (first_refusal xs) ≡ Ok tt
    → (x : Refusal) × (r ≡ Err x) × (x ≡ why) → Err why ≡ outcome (refuse_if (good && seen) twice) → Around xs good seen bad twice over r
between_on xs true true bad twice over r why passed t h = told_by xs (None ∷ Some twice ∷ over ∷ []) r passed (given r why t ∙ h)
between_on xs true false bad twice over r why passed t h = absurd (cc h)
between_on xs false seen bad twice over r why passed t h = absurd (cc h)

-- it passes, and the piece around it tells
pub told_around : (xs : List (Option Refusal)) (good seen : Bool) (bad twice : Refusal) (over : Option Refusal) (r : Result (Unit {0}) Refusal) → outcome (first_refusal xs) ≡ Ok tt
    → outcome (refuse_if (good && seen) twice) ≡ Ok tt → r ≡ outcome (first_refusal (unless good bad ∷ over ∷ [])) → Around xs good seen bad twice over r
told_around xs true true bad twice over r passed new h = absurd (cc new)
told_around xs true false bad twice over r passed new h = told_by xs (None ∷ None ∷ over ∷ []) r passed h
told_around xs false seen bad twice over r passed new h = told_by xs (Some bad ∷ refuse_if seen twice ∷ over ∷ []) r passed h

-- ================ what holds where it went well

pub ok_both : {A B C : Type 0} (r : Result (Unit {0}) Refusal) → (A → B → C) → OnOk r A → OnOk r B → OnOk r C
ok_both (Ok done) f a b = f a b
ok_both (Err why) f a b = tt

-- the refusal of one piece is that of it and others
pub refused_still : (x : Option Refusal) (others : List (Option Refusal)) (r : Result (Unit {0}) Refusal) (why : Refusal) → (y : Refusal) × (r ≡ Err y) × (y ≡ why) → Err why ≡ outcome x
    → r ≡ outcome (first_refusal (x ∷ others))
refused_still None others r why t h = absurd (cc h)
refused_still (Some w) others r why t h = given r why t ∙ h

-- ================ a cash-out

-- no order is open, and no play, and the rest tells
pub told_at_cash : (locked : Option Refusal) (has_order has_play has_none : Bool) (ordered open_play nothing : Refusal) (r : Result (Unit {0}) Refusal)
    → outcome (first_refusal (locked ∷ refuse_if has_order ordered ∷ [])) ≡ Ok tt → has_play ≡ false → r ≡ outcome (first_refusal (refuse_if has_order ordered ∷ refuse_if has_none nothing ∷ []))
    → replied r ≡ reply_by (locked ∷ refuse_if has_order ordered ∷ refuse_if has_play open_play ∷ refuse_if has_none nothing ∷ [])
told_at_cash locked has_order true has_none ordered open_play nothing r passed none h = absurd (cc none)
told_at_cash (Some why) has_order false has_none ordered open_play nothing r passed none h = absurd (cc passed)
told_at_cash None true false has_none ordered open_play nothing r passed none h = absurd (cc passed)
told_at_cash None false false has_none ordered open_play nothing r passed none h = ap replied h ∙ replied_by (refuse_if has_none nothing ∷ [])

-- the first of two refusals doesn't hold where both pass
pub first_passed : (a b : Option Refusal) → outcome (first_refusal (a ∷ b ∷ [])) ≡ Ok tt → a ≡ None
first_passed None b h = refl
first_passed (Some why) b h = absurd (cc h)
