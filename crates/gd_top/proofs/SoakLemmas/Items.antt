-- One step of the loop over the items of a soak: an item is carried out, behind those so far.
use Rattle.std.proofs.Common.{◌≡◌, ap, sym, subst, refl, ℕ, ◌+◌, ◌<◌, List, [], ◌∷◌, ◌++◌, true, false, arith, Option, Some, Result, Ok, Err, is_err}
use Rattle.std.proofs.lemmas.List.FromFn.{map-range_with_len_more}
use Rattle.gd_script.specs.Generated.{generated, is_soak_item}
use Rattle.gd_script.specs.declared.item.Item.{Item}
use Rattle.gd_script.proofs.GeneratedItems.{generated_kind}
use Rattle.gd_top.specs.Claims.Soak.{soak_lines}
use Rattle.gd_top.specs.Code.Memory.{Moment, Fits, Leaves, Serves, CarriesOut, outside}
use Rattle.gd_top.specs.Code.Parts.{Carries, CarriesBy}
use Rattle.gd_top.specs.Code.SoakDone.{ItemsOver}
use Rattle.gd_top.specs.Code.Standing.{Standing}
use Rattle.gd_top.specs.Run.Items.{item_meaning, lines_meaning}
use Rattle.gd_top.specs.Run.State.{Goes}
use Rattle.gd_top.specs.Script.Kinds.{is_comment, line_alone}
use Rattle.gd_top.specs.declared.halt.Halt.{Halt}
use Rattle.gd_top.specs.declared.script.reader.TheConstants.{MOST_LINES}
use Rattle.gd_top.proofs.LineLemmas.Alike.{alike_by}
use Rattle.gd_top.proofs.LineLemmas.Counted.{after_line, counted_line}
use Rattle.gd_top.proofs.LineLemmas.Exits.{line_then}
use Rattle.gd_top.proofs.LineLemmas.Steps.{err_line}
use Rattle.gd_top.proofs.RunLemmas.Said.{goes_here}

-- no item is a comment
comment_by : (item : Item) → is_soak_item item ≡ true → is_comment item ≡ false
comment_by Item.Skip is = absurd (cc is)
comment_by _ is = refl

pub no_comment : (seed n : ℕ) (item : Item) → item ≡ generated seed n → is_comment item ≡ false
no_comment seed n item is = comment_by item (subst (λ (i : Item). is_soak_item i ≡ true) (sym is) (generated_kind seed n))

-- the items of one place more
pub soak_more : (seed n : ℕ) → soak_lines (n + 1) seed ≡ soak_lines n seed ++ Some (generated seed n) ∷ []
soak_more seed n = map-range_with_len_more (λ k. let line : Option Item = Some (generated seed k) in line) 0 n n (omega arith)

pub never_ok : (r : Result (Unit {0}) Halt) → is_err r ≡ true → r ≡ Ok tt → ⊥
never_ok (Ok done) err is = cc err
never_ok (Err halt) err is = cc is

module _ {V : Type 0} where
  -- the items of the places below n were carried out
  abbrev pub SoFar : (seed n : ℕ) (was now : Moment V) → Type 0
  SoFar seed n was now = (s : Standing V) → Fits s was
      → (t : Standing V) × Fits t now × Carries was.machine (lines_meaning was.machine was.blocks (soak_lines n seed)) Goes s t (outside was) (outside now)

  pub none_yet : (seed : ℕ) (was : Moment V) → SoFar seed 0 was was
  none_yet seed was s fits = (s, fits, goes_here was.machine (lines_meaning was.machine was.blocks []) s (outside was) (λ x. refl))

  module _ (seed n : ℕ) (was mid next : Moment V) (r : Result (Unit {0}) Halt) (so_far : SoFar seed n was mid) (leaves : Leaves (Ok tt) was mid) (few : mid.counts.lines < MOST_LINES) where
    -- an item more, however it ended
    one_more_item : (s t u : Standing V) → t.lines < MOST_LINES → Carries was.machine (lines_meaning was.machine was.blocks (soak_lines n seed)) Goes s t (outside was) (outside mid)
        → CarriesBy r mid.machine (item_meaning mid.machine mid.blocks (generated seed n)) t u (outside mid) (outside next) next.disk
        → CarriesBy r was.machine (lines_meaning was.machine was.blocks (soak_lines (n + 1) seed)) s (after_line r u) (outside was) (outside next) next.disk
    one_more_item s t u lines k q =
        subst (λ (ls : List (Option Item)). CarriesBy r was.machine (lines_meaning was.machine was.blocks ls) s (after_line r u) (outside was) (outside next) next.disk) (sym (soak_more seed n))
        (line_then was.machine was.blocks r s t (after_line r u) (outside was) (outside mid) (outside next) next.disk (soak_lines n seed) (Some (generated seed n)) k
        (counted_line was.machine was.blocks r (Some (generated seed n)) t u (outside mid) (outside next) next.disk lines
        (alike_by was.machine mid.machine was.blocks mid.blocks (λ M B. line_alone M B (Some (generated seed n))) r t u (outside mid) (outside next) next.disk leaves.machine leaves.blocks q)))

    -- it ended the run
    pub item_halts : (count : ℕ) → n < count → is_err r ≡ true → CarriesOut (λ M B. item_meaning M B (generated seed n)) r mid next → ItemsOver count seed r was next
    item_halts count below err out s fits =
        let k = so_far s fits in
        let t = k.0 in
        let q = out t k.1 in
        let u = q.0 in
        let lines : t.lines < MOST_LINES = subst (λ (c : ℕ). c < MOST_LINES) (sym k.1.lines) few in
        let by = one_more_item s t u lines k.2 q.2 in (
          u,
          q.1,
          record {
            items = n + 1;
            few = omega (arith, below);
            all = λ is. absurd (never_ok r err is);
            carried = subst (λ (z : Standing V). CarriesBy r was.machine (lines_meaning was.machine was.blocks (soak_lines (n + 1) seed)) s z (outside was) (outside next) next.disk) (err_line r u err) by;
          },
        )

    -- or the run goes on
    pub item_goes : r ≡ Ok tt → CarriesOut (λ M B. item_meaning M B (generated seed n)) r mid next → SoFar seed (n + 1) was (record next { counts = record next.counts { lines = next.counts.lines + 1 } })
    item_goes went out s fits =
        let k = so_far s fits in
        let t = k.0 in
        let q = out t k.1 in
        let u = q.0 in
        let f = q.1 (subst (λ (z : Result (Unit {0}) Halt). Serves z) (sym went) tt) in
        let lines : t.lines < MOST_LINES = subst (λ (c : ℕ). c < MOST_LINES) (sym k.1.lines) few in
        let by = one_more_item s t u lines k.2 q.2 in (
          record u { lines = u.lines + 1 },
          record { phase = f.phase; trial = f.trial; known = f.known; lines = ap (λ (c : ℕ). c + 1) f.lines; power_ons = f.power_ons; lap = f.lap; offers = f.offers; armed = f.armed; spelled = f.spelled; holds = f.holds; bad = f.bad; explained = f.explained },
          subst (λ (z : Result (Unit {0}) Halt). CarriesBy z was.machine (lines_meaning was.machine was.blocks (soak_lines (n + 1) seed)) s (after_line z u) (outside was) (outside next) next.disk) went by,
        )

  -- all items were carried out
  pub items_all : (seed n count : ℕ) (was now : Moment V) → n ≡ count → SoFar seed n was now → ItemsOver count seed (Ok tt) was now
  items_all seed n count was now all so_far s fits =
      let k = so_far s fits in
      (k.0, (λ serves. k.1), record { items = n; few = omega (arith, all); all = λ is. all; carried = k.2 })
