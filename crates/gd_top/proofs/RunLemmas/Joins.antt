-- Parts of a run, put together: the laws that the code's proofs rest on.
use Rattle.std.proofs.Common.{◌≡◌, ℕ, List, [], ◌∷◌, ◌++◌, refl, sym, ap, ◌∙◌, append-nil, append_assoc}
use Rattle.std.specs.declared.option.Option.{Option}
use Rattle.gd_base.specs.Judging.Machine.{Machine, Blocks}
use Rattle.gd_script.specs.declared.item.Item.{Item}
use Rattle.gd_top.specs.Run.Items.{line_meaning, lines_meaning}
use Rattle.gd_top.specs.Run.Life.{run_meaning}
use Rattle.gd_top.specs.Run.Openings.{power_on, Done}
use Rattle.gd_top.specs.Run.State.{State, Nothing, Part, Outcome, Goes, Stops, Differs, Breaks, prints, before, goes_on, followed_by}

pub before_before : {V : Type 0} (p q : List ℕ) (t : Part V) → before p (before q t) ≡ before (p ++ q) t
before_before {V} p q t = ap (λ (r : List ℕ). let u : Part V = record { report = r; state = t.state; outcome = t.outcome } in u) (sym (append_assoc p q t.report))

-- a text in front changes nothing of how a run goes on
pub before_goes_on : {V : Type 0} (o : Outcome) (text : List ℕ) (u : Part V) (next : State V → Part V) → before text (goes_on o u next) ≡ goes_on o (before text u) next
before_goes_on Goes text u next = before_before text u.report (next u.state)
before_goes_on Stops text u next = refl
before_goes_on Differs text u next = refl
before_goes_on Breaks text u next = refl

then_then : {V : Type 0} (o : Outcome) (t : Part V) (f g : State V → Part V) → t.outcome ≡ o → goes_on o t (λ s. followed_by (f s) g) ≡ followed_by (goes_on o t f) g
then_then Goes t f g e = before_goes_on (f t.state).outcome t.report (f t.state) g
then_then Stops t f g e = ap (λ (o : Outcome). goes_on o t g) (sym e)
then_then Differs t f g e = ap (λ (o : Outcome). goes_on o t g) (sym e)
then_then Breaks t f g e = ap (λ (o : Outcome). goes_on o t g) (sym e)

-- parts that go on in equal ways are equal
pub goes_on_same : {V : Type 0} (o : Outcome) (t : Part V) (f g : State V → Part V) → ((s : State V) → f s ≡ g s) → goes_on o t f ≡ goes_on o t g
goes_on_same Goes t f g h = ap (before t.report) (h t.state)
goes_on_same Stops t f g h = refl
goes_on_same Differs t f g h = refl
goes_on_same Breaks t f g h = refl

nothing_by : {V : Type 0} (o : Outcome) (t : Part V) → t.outcome ≡ o → goes_on o t (λ s. prints [] s) ≡ t
nothing_by {V} Goes t e =
    ap (λ (r : List ℕ). let u : Part V = record { report = r; state = t.state; outcome = Goes } in u) (append-nil t.report)
    ∙ ap (λ (o : Outcome). let u : Part V = record { report = t.report; state = t.state; outcome = o } in u) (sym e)
nothing_by Stops t e = refl
nothing_by Differs t e = refl
nothing_by Breaks t e = refl

-- a part with nothing behind it
pub goes_on_nothing : {V : Type 0} (t : Part V) → followed_by t (λ s. prints [] s) ≡ t
goes_on_nothing t = nothing_by t.outcome t refl

-- joining parts is associative
pub followed_assoc : {V : Type 0} (t : Part V) (f g : State V → Part V) → followed_by t (λ s. followed_by (f s) g) ≡ followed_by (followed_by t f) g
followed_assoc t f g = then_then t.outcome t f g refl

-- lines in two parts
pub lines_append : {V : Type 0} (M : Machine V) (B : Blocks) (xs ys : List (Option Item)) (s : State V) → lines_meaning M B (xs ++ ys) s ≡ followed_by (lines_meaning M B xs s) (λ u. lines_meaning M B ys u)
lines_append M B [] ys s = refl
lines_append M B (x ∷ xs) ys s =
    goes_on_same (line_meaning M B x s).outcome (line_meaning M B x s) (λ u. lines_meaning M B (xs ++ ys) u) (λ u. followed_by (lines_meaning M B xs u) (λ v. lines_meaning M B ys v)) (λ u. lines_append M B xs ys u)
    ∙ followed_assoc (line_meaning M B x s) (λ u. lines_meaning M B xs u) (λ v. lines_meaning M B ys v)

-- a whole run in two parts
pub run_append : {V : Type 0} (M : Machine V) (B : Blocks) (xs ys : List (Option Item)) (s : State V) → run_meaning M B (xs ++ ys) s ≡ followed_by (run_meaning M B xs s) (λ u. lines_meaning M B ys u)
run_append M B xs ys s =
    goes_on_same (power_on M B Nothing Done s).outcome (power_on M B Nothing Done s) (λ u. lines_meaning M B (xs ++ ys) u) (λ u. followed_by (lines_meaning M B xs u) (λ v. lines_meaning M B ys v)) (λ u. lines_append M B xs ys u)
    ∙ followed_assoc (power_on M B Nothing Done s) (λ u. lines_meaning M B xs u) (λ v. lines_meaning M B ys v)
