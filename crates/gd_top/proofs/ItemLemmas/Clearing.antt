-- The clearing of a locked memory: what it tells, and where it ends.
use Rattle.std.proofs.Common.{◌≡◌, ◌∙◌, ap, sym, subst, refl, inl, inr, ◌⊎◌, ⊎_elim, ℕ, ◌+◌, ◌<◌, ◌≤◌, ◌==◌, nat_le, ◌&&◌, Bool, true, false, append-nil, append_assoc, if◌then◌else◌, List, [], ◌∷◌, ◌++◌, length, arith, codes, Option, None, Some, Result, Ok, Err, OnErr, is_err}
use Rattle.std.proofs.lemmas.Bool.Decides.{nat_tests}
use Rattle.std.proofs.KnownBytes.{Appends-nil}
use Rattle.std.specs.Io.KnownBytes.{Appends}
use Rattle.gd_base.specs.Judging.Machine.{Machine, Blocks}
use Rattle.gd_base.specs.Outside.Causes.{AppendsFront, Rose}
use Rattle.gd_base.specs.Payloads.Spelled.{Shows}
use Rattle.gd_base.specs.Laws.TellsViews.{HasPayload}
use Rattle.gd_cabinet.specs.Shown.{IsInBoth, shows}
use Rattle.gd_cabinet.proofs.Showing.{settled_shows}
use Rattle.gd_disk.specs.CutRuns.{FirstComes, IsCutOff, IsFaulted}
use Rattle.gd_disk.specs.Disk.{DiskState, later_cuts}
use Rattle.gd_disk.specs.declared.disk.ArmedCut.{ArmedCut}
use Rattle.gd_disk.proofs.WholeRuns.{fault_keeps}
use Rattle.gd_script.specs.declared.item.Item.{Item}
use Rattle.gd_store.specs.Copy.{AreBad}
use Rattle.gd_store.specs.Making.{IsMaking}
use Rattle.gd_store.specs.Masks.{AreWithin}
use Rattle.gd_store.specs.declared.copy.layout.TheConstants.{LAYOUT}
use Rattle.gd_top.specs.Code.Falls.{fall_of, falls_by}
use Rattle.gd_top.specs.Run.Offers.{syncs_of_making}
use Rattle.gd_top.specs.declared.memory.counts.Counts.{Counts}
use Rattle.gd_top.specs.Run.Items.{at_limit, clear_meaning, item_meaning}
use Rattle.gd_top.specs.declared.memory.TheConstants.{MOST_POWER_ONS}
use Rattle.gd_top.specs.Claims.MemoryLeft.{IsExplained, IsLeftIn, IsMasked, IsOfMaking, IsShut}
use Rattle.gd_top.specs.Code.Memory.{Moment, Does, Leaves, Fits, FitsDown, IsKnownIn, IsMade, IsMakingOver, OpensTo, Opens, Sits, Reopens, Serves, as_opened, is_of_making, outside, stands_with}
use Rattle.gd_top.specs.Code.Parts.{Outside, CarriesBy, GivesText, Pending, Unwritten}
use Rattle.gd_top.specs.Code.Standing.{Standing, Later, at, only}
use Rattle.gd_top.specs.Run.Openings.{Done, Cleared, make, power_on}
use Rattle.gd_top.specs.Run.State.{Flight, Nothing, Phase, On, Off, Locked, State, Part, before, breaks, is_powered, prints, ends, Stops, Making}
use Rattle.gd_top.specs.declared.halt.Halt.{Halt}
use Rattle.gd_top.specs.declared.item.opening.Opened.{Opened}
use Rattle.gd_top.proofs.LineLemmas.Alike.{alike_by}
use Rattle.gd_top.proofs.RunLemmas.Equations.{clear_is, no_start}
use Rattle.gd_top.proofs.RunLemmas.Parts.{broken_then, differing_then, pending_then, then_by, unwritten_then}
use Rattle.gd_top.proofs.RunLemmas.Said.{ends_nowhere, found_none, err_is, err_of, unwritten_of, moves_not, moves_on, stops_here}
use Rattle.gd_top.proofs.RunLemmas.Cuts.{armed_faulted, armed_length, armed_used, armed_whole, falls_are}
use Rattle.gd_top.proofs.RunLemmas.OffersAt.{after_fall, after_offer, fall_moves}
use Rattle.gd_top.proofs.ItemLemmas.Images.{both_alike, unmasked}
use Rattle.gd_top.proofs.ItemLemmas.Lines.{limit_is}
use Rattle.gd_top.proofs.ItemLemmas.MakingOffers.{making_broke, making_cleared, making_fell, making_whole}

module _ {V : Type 0} (M : Machine V) (B : Blocks) (s : Standing V) where
  -- a memory that was made is told, and then the opening
  abbrev pub told_cleared : State V → Part V
  told_cleared u = before (codes "cleared\n") (power_on M B Nothing Done u)

  pub cleared_goes : (u o : Outside) → o.found ≡ u.found → o.falls ≡ u.falls → o.syncs ≡ u.syncs → Appends u.taken o.taken (codes "cleared\n")
      → Pending M told_cleared (power_on M B Nothing Done) s s u o
  cleared_goes u o found falls syncs gives = record {
    since = [];
    listed = found ∙ sym (append-nil u.found);
    fell = [];
    fallen = falls ∙ sym (append-nil u.falls);
    report = codes "cleared\n";
    printed = gives;
    moves = record { offers = omega arith; falls = omega arith; rising = λ later rise. rise; synced = λ same. ap (λ (n : ℕ). n + s.syncs) syncs };
    tells = λ x whole rise. refl;
  }

  -- the sink failed then: that is told with no opening behind it
  pub cleared_unwritten : (u o : Outside) (disk : DiskState) → IsExplained (at s (only [] [] None)) → o.found ≡ u.found → o.falls ≡ u.falls → length disk.armed ≡ length s.armed
      → ((image : List ℕ) → disk.may_find image → IsMasked M s.view s.masks image) → AppendsFront u.taken o.taken (codes "cleared\n")
      → Unwritten M told_cleared s u o disk
  cleared_unwritten u o disk clear found falls armed holds gives = record {
    ending = record {
      found = found_none M u.found o.found found;
      fell = [];
      fallen = falls ∙ sym (append-nil u.falls);
      rising = tt;
      broken_at = None;
      late = ends_nowhere s.offers;
      end = before (codes "cleared\n") (breaks Nothing (at s (only [] [] None)));
      tells = ap (before (codes "cleared\n")) (no_start M B Nothing Done (at s (only [] [] None)));
      used_up = (refl, refl);
      explained = clear;
    };
    printed = subst (AppendsFront u.taken o.taken) (sym (append-nil (codes "cleared\n"))) gives;
    armed = armed;
    left = λ image may. inl (holds image may);
  }

-- a closed memory that fits is one before an opening
pub as_down : {V : Type 0} (s : Standing V) (m : Moment V) → m.phase ≡ Off → Fits s m → FitsDown Nothing s m
as_down {V} s m is fits = record {
  trial = fits.trial;
  lines = fits.lines;
  power_ons = fits.power_ons;
  lap = fits.lap;
  offers = fits.offers;
  armed = fits.armed;
  within = subst (λ (p : Phase). IsKnownIn p s.view s.masks m.view) is fits.known;
  spelled = fits.spelled;
  near = λ image may. inl (subst (λ (p : Phase). IsLeftIn m.machine p s.view s.masks m.disk) is fits.holds image may);
  fallen = λ image may. tt;
  explained = fits.explained;
}

-- ================ an opening behind a part

module _ {V : Type 0} (was mid : Moment V) where
  -- how the openings ended, as what a line tells that wants nothing more once the memory stands
  pub opened_carries : (r : Result (Unit {0}) Halt) (now : Moment V) (flight : Flight) (tell : State V → Part V) (s t : Standing V)
      → (r ≡ Err Halt.ScriptFault → ⊥) → (r ≡ Err Halt.ReadFault → ⊥) → (r ≡ Ok tt → is_powered now.phase ≡ true)
      → Pending mid.machine tell (power_on mid.machine mid.blocks flight Done) s t (outside was) (outside mid) → OpensTo (as_opened r) flight Done t mid now
      → (u : Standing V) × (Serves r → Fits u now) × CarriesBy r mid.machine tell s u (outside was) (outside now) now.disk
  opened_carries (Ok done) now flight tell s t stop read powered p k =
      (k.0, (λ serves. k.1), pending_then mid.machine tell (power_on mid.machine mid.blocks flight Done) _ s t k.0 (outside was) (outside mid) (outside now) p (stood now.phase (powered refl) t k.0 k.2))
    where
      stood : (phase : Phase) → is_powered phase ≡ true → (t u : Standing V)
          → Pending mid.machine (power_on mid.machine mid.blocks flight Done) (stands_with mid.machine mid.blocks phase Done) t u (outside mid) (outside now)
          → Pending mid.machine (power_on mid.machine mid.blocks flight Done) (λ s. prints [] s) t u (outside mid) (outside now)
      stood On is t u q = q
      stood Off is t u q = absurd (cc is)
      stood Locked is t u q = q
  opened_carries (Err Halt.ScriptFault) now flight tell s t stop read powered p k = absurd k
  opened_carries (Err Halt.ReadFault) now flight tell s t stop read powered p k = absurd k
  opened_carries (Err Halt.DiskFault) now flight tell s t stop read powered p k =
      (t, (λ serves. absurd serves), broken_then mid.machine tell (power_on mid.machine mid.blocks flight Done) s t (outside was) (outside mid) (outside now) now.disk p k)
  opened_carries (Err Halt.WriteFault) now flight tell s t stop read powered p k =
      (t, (λ serves. absurd serves), unwritten_then mid.machine tell (power_on mid.machine mid.blocks flight Done) s t (outside was) (outside mid) (outside now) now.disk p k)
  opened_carries (Err Halt.SetupDiffers) now flight tell s t stop read powered p k =
      (k.0, (λ serves. absurd serves), differing_then mid.machine tell (power_on mid.machine mid.blocks flight Done) s t k.0 (outside was) (outside mid) (outside now) now.disk p k.1)

  -- a part behind which an opening follows, or several
  pub opened_from : (tell : Machine V → Blocks → State V → Part V) (r : Result (Unit {0}) Halt) (now : Moment V)
      → mid.machine ≡ was.machine → ((lap index : ℕ) → mid.blocks lap index ≡ was.blocks lap index) → mid.disk.faults ≡ was.disk.faults → was.faults ≤ mid.faults
      → Leaves r mid now → (r ≡ Err Halt.ScriptFault → ⊥) → (r ≡ Err Halt.ReadFault → ⊥) → (r ≡ Ok tt → is_powered now.phase ≡ true)
      → ((s : Standing V) → Fits s was → (flight : Flight) × (t : Standing V)
      × Pending mid.machine (tell mid.machine mid.blocks) (power_on mid.machine mid.blocks flight Done) s t (outside was) (outside mid) × OpensTo (as_opened r) flight Done t mid now)
      → Does tell r was now
  opened_from tell r now machine blocks faults later leaves no_stop no_read powered each = record {
    carried = λ s fits.
        let k = each s fits in
        let q = opened_carries r now k.0 (tell mid.machine mid.blocks) s k.1 no_stop no_read powered k.2 k.3 in (
          q.0,
          q.1,
          alike_by was.machine mid.machine was.blocks mid.blocks tell r s q.0 (outside was) (outside now) now.disk machine blocks q.2,
        );
    leaves = record {
      sits = leaves.sits;
      no_fault = λ serves. leaves.no_fault serves ∙ faults;
      disk_fault = λ is. subst (λ (n : ℕ). Rose n now.disk.faults) faults (leaves.disk_fault is);
      later = omega (arith, later, leaves.later);
      write_fault = λ is. omega (arith, later, leaves.write_fault is);
      machine = leaves.machine ∙ machine;
      blocks = λ lap index. leaves.blocks lap index ∙ blocks lap index;
    };
    reads_nothing = no_read;
  }

  pub opened_by : (tell : Machine V → Blocks → State V → Part V) (r : Result (Unit {0}) Halt) (now : Moment V)
      → mid.machine ≡ was.machine → ((lap index : ℕ) → mid.blocks lap index ≡ was.blocks lap index) → mid.disk.faults ≡ was.disk.faults → was.faults ≤ mid.faults
      → Reopens r mid now
      → ((s : Standing V) → Fits s was → (flight : Flight) × (is_of_making flight ≡ false) × (t : Standing V) × FitsDown flight t mid
      × Pending mid.machine (tell mid.machine mid.blocks) (power_on mid.machine mid.blocks flight Done) s t (outside was) (outside mid))
      → Does tell r was now
  opened_by tell r now machine blocks faults later opens each =
      opened_from tell r now machine blocks faults later opens.leaves opens.no_stop opens.no_read opens.powered
      (λ s fits. let k = each s fits in (k.0, k.2, k.4, opens.carried k.0 Done (k.1, refl) k.2 k.3))

-- ================ the parts of a clearing

near_making : {V : Type 0} (M N : Machine V) (v : V) (old : DiskState) (found : List (List ℕ)) (image : List ℕ) → N ≡ M → v ≡ M.empty → (later : List (List ℕ)) → length later ≤ 1 → found ≡ old.found ++ later
    → IsShut M old → IsMakingOver N v old image → IsOfMaking M found image
near_making M N v old found image same empty later few listed shut m = record {
  old = shut.image;
  earlier = shut.earlier;
  later = later;
  listed = listed ∙ ap (λ (images : List (List ℕ)). images ++ later) shut.last ∙ append_assoc shut.earlier (shut.image ∷ []) later;
  few = few;
  shut = shut.shut;
  payload = m.payload;
  empty = ap (λ O. O.spelled m.payload) (sym same) ∙ m.spelled ∙ ap Shows empty;
  making = subst (λ (c : List ℕ). IsMaking LAYOUT m.payload c image) (shut.only m.before m.was_there) m.making;
}

-- what a making over bad copies leaves
bad_or_empty : {V : Type 0} (M N : Machine V) (v : V) (old : DiskState) (image : List ℕ) → N ≡ M → v ≡ M.empty → ((other : List ℕ) → old.may_find other → AreBad LAYOUT other) → IsMakingOver N v old image
    → AreBad LAYOUT image ⊎ (shows M image ≡ Shows M.empty)
bad_or_empty M N v old image same empty bad m =
    ⊎_elim (λ keeps. inl (keeps (bad m.other m.also_there)))
    (λ boot. inr (settled_shows M 0 m.payload M.empty image boot (ap (λ O. O.spelled m.payload) (sym same) ∙ m.spelled ∙ ap Shows empty) M.count_empty)) m.boots

-- a cut leaves fewer
fewer_cuts : (done syncs : ℕ) (old new : List ArmedCut) → FirstComes done syncs old → new ≡ later_cuts old → length new < length old
fewer_cuts done syncs [] new came used = absurd came
fewer_cuts done syncs (cut ∷ cuts) new came used = let same = ap length used in omega (arith, same)

pub was_faulted : (n : ℕ) (old new : DiskState) → length old.armed ≤ length new.armed → IsCutOff n old new ⊎ IsFaulted n old new → IsFaulted n old new
was_faulted n old new many (inl cut) = absurd (let less = fewer_cuts cut.done n old.armed new.armed cut.came cut.used in omega (arith, many, less))
was_faulted n old new many (inr fault) = fault

pub was_cut : (n : ℕ) (old new : DiskState) → length new.armed < length old.armed → IsCutOff n old new ⊎ IsFaulted n old new → IsCutOff n old new
was_cut n old new less (inl cut) = cut
was_cut n old new less (inr fault) = absurd (let same = fault_keeps n old new fault in omega (arith, same, less))

pub some_cut : (n : ℕ) (old new : DiskState) → IsCutOff n old new → length new.armed < length old.armed
some_cut n old new cut = fewer_cuts cut.done n old.armed new.armed cut.came cut.used

not_it : (m n : ℕ) → n < m → (m == n) ≡ false
not_it m n lt = grind (arith, nat_tests, lt)

is_it : (n : ℕ) → (n == n) ≡ true
is_it n = grind (arith, nat_tests)

module _ {V : Type 0} where
  pending_alike : (M N : Machine V) (B A : Blocks) (f g : Machine V → Blocks → State V → Part V) (a b : Standing V) (u v : Outside) → N ≡ M → ((lap index : ℕ) → A lap index ≡ B lap index)
      → Pending N (f N A) (g N A) a b u v → Pending M (f M B) (g M B) a b u v
  pending_alike M N B A f g a b u v m same h =
      subst (λ (D : Blocks). Pending M (f M D) (g M D) a b u v) (λ i lap index. same lap index i) (subst (λ (O : Machine V). Pending O (f O A) (g O A) a b u v) m h)

  -- so far a part is told so, and the rest is still to be told, in each standing
  pub record ComesTo (tell rest : Machine V → Blocks → State V → Part V) (fit : Standing V → Type 0) (was mid : Moment V) : Type 0 where
    pub so_far : (s : Standing V) → Fits s was → (t : Standing V) × fit t × Pending was.machine (tell was.machine was.blocks) (rest was.machine was.blocks) s t (outside was) (outside mid)
    pub machine : mid.machine ≡ was.machine
    pub blocks : (lap index : ℕ) → mid.blocks lap index ≡ was.blocks lap index
    pub no_fault : mid.disk.faults ≡ was.disk.faults
    pub later : was.faults ≤ mid.faults

  -- then the rest was done
  pub comes_ends : (tell rest : Machine V → Blocks → State V → Part V) (P : Standing V → Type 0) (r : Result (Unit {0}) Halt) (was mid now : Moment V) → ComesTo tell rest P was mid
      → ((t : Standing V) → P t → (u : Standing V) × (Serves r → Fits u now) × CarriesBy r mid.machine (rest mid.machine mid.blocks) t u (outside mid) (outside now) now.disk)
      → Leaves r mid now → (r ≡ Err Halt.ReadFault → ⊥) → Does tell r was now
  comes_ends tell rest P r was mid now comes each leaves no_read = record {
    carried = λ s fits.
        let k = comes.so_far s fits in
        let q = each k.0 k.1 in (
          q.0,
          q.1,
          then_by was.machine r (tell was.machine was.blocks) (rest was.machine was.blocks) s k.0 q.0 (outside was) (outside mid) (outside now) now.disk k.2
              (alike_by was.machine mid.machine was.blocks mid.blocks rest r k.0 q.0 (outside mid) (outside now) now.disk comes.machine comes.blocks q.2),
        );
    leaves = record {
      sits = leaves.sits;
      no_fault = λ serves. leaves.no_fault serves ∙ comes.no_fault;
      disk_fault = λ is. subst (λ (n : ℕ). Rose n now.disk.faults) comes.no_fault (leaves.disk_fault is);
      later = omega (arith, comes.later, leaves.later);
      write_fault = λ is. omega (arith, comes.later, leaves.write_fault is);
      machine = leaves.machine ∙ comes.machine;
      blocks = λ lap index. leaves.blocks lap index ∙ comes.blocks lap index;
    };
    reads_nothing = no_read;
  }

  pub comes_does : (tell rest : Machine V → Blocks → State V → Part V) (r : Result (Unit {0}) Halt) (was mid now : Moment V) → ComesTo tell rest (λ t. Fits t mid) was mid → Does rest r mid now → Does tell r was now
  comes_does tell rest r was mid now comes does = comes_ends tell rest (λ t. Fits t mid) r was mid now comes does.carried does.leaves does.reads_nothing

  -- a step more
  comes_step : (tell f g : Machine V → Blocks → State V → Part V) (P Q : Standing V → Type 0) (was mid now : Moment V) → ComesTo tell f P was mid
      → ((t : Standing V) → P t → (u : Standing V) × Q u × Pending mid.machine (f mid.machine mid.blocks) (g mid.machine mid.blocks) t u (outside mid) (outside now))
      → now.machine ≡ mid.machine → ((lap index : ℕ) → now.blocks lap index ≡ mid.blocks lap index) → now.disk.faults ≡ mid.disk.faults → mid.faults ≤ now.faults → ComesTo tell g Q was now
  comes_step tell f g P Q was mid now comes step machine blocks faults later = record {
    so_far = λ s fits.
        let k = comes.so_far s fits in
        let q = step k.0 k.1 in (
          q.0,
          q.1,
          pending_then was.machine (tell was.machine was.blocks) (f was.machine was.blocks) (g was.machine was.blocks) s k.0 q.0 (outside was) (outside mid) (outside now) k.2
              (pending_alike was.machine mid.machine was.blocks mid.blocks f g k.0 q.0 (outside mid) (outside now) comes.machine comes.blocks q.2),
        );
    machine = machine ∙ comes.machine;
    blocks = λ lap index. blocks lap index ∙ comes.blocks lap index;
    no_fault = faults ∙ comes.no_fault;
    later = omega (arith, comes.later, later);
  }

  abbrev pub clear_line : Machine V → Blocks → State V → Part V
  clear_line M B s = item_meaning M B Item.Clear s

  abbrev pub making_rest : Machine V → Blocks → State V → Part V
  making_rest M B s = make M (power_on M B) s

  abbrev pub cleared_rest : Machine V → Blocks → State V → Part V
  cleared_rest M B s = before (codes "cleared\n") (power_on M B Nothing Done s)

  abbrev pub opening_rest : Machine V → Blocks → State V → Part V
  opening_rest M B s = power_on M B Making Cleared s

  -- the empty memory was made, and nothing was altered since
  abbrev pub IsCleared : Moment V → Standing V → Type 0
  IsCleared made t = Fits t made × ((t.masks ≡ []) × (t.view ≡ made.machine.empty))

  -- a standing of which less is known
  pub comes_as : (tell f : Machine V → Blocks → State V → Part V) (P Q : Standing V → Type 0) (was mid : Moment V) → ((t : Standing V) → P t → Q t) → ComesTo tell f P was mid → ComesTo tell f Q was mid
  comes_as tell f P Q was mid less comes = record {
    so_far = λ s fits. let k = comes.so_far s fits in (k.0, less k.0 k.1, k.2);
    machine = comes.machine;
    blocks = comes.blocks;
    no_fault = comes.no_fault;
    later = comes.later;
  }

  -- the sink failed where it is told that the memory was made
  pub cleared_front : (was : Moment V) (r : Result (Unit {0}) Halt) (taken : Option (List ℕ)) (faults : ℕ) → is_err r ≡ true → was.phase ≡ Off → GivesText r was.taken taken (codes "cleared\n") → was.faults ≤ faults → OnErr r (Rose was.faults faults)
      → Does cleared_rest r was (record was { taken = taken; faults = faults })
  cleared_front was r taken faults failed off gives later cause =
      let now : Moment V = record was { taken = taken; faults = faults } in
      let front = unwritten_of r _ _ _ failed gives in
      subst (λ q. Does cleared_rest q was now) (sym front.0)
      (record {
        carried = λ s fits. (
          s,
          (λ serves. absurd serves),
          cleared_unwritten was.machine was.blocks s (outside was) (outside now) was.disk fits.explained refl refl (armed_length s.armed was.disk.armed fits.armed)
              (subst (λ (p : Phase). IsLeftIn was.machine p s.view s.masks was.disk) off fits.holds) front.1,
        );
        leaves = record {
          sits = λ serves. absurd serves;
          no_fault = λ serves. absurd serves;
          disk_fault = λ is. absurd (cc is);
          later = later;
          write_fault = λ is. err_of r _ failed cause;
          machine = refl;
          blocks = λ lap index. refl;
        };
        reads_nothing = λ is. absurd (cc is);
      })

  -- ================ at its beginning

  clear_by : (M : Machine V) (B : Blocks) (s : Standing V) (x : Later V) (b : Bool) → s.phase ≡ Locked → at_limit (at s x) ≡ b
      → (let u = at s x in item_meaning M B Item.Clear u ≡ (if b then ends Stops [] u else make M (power_on M B) u))
  clear_by M B s x b is test =
      let u = at s x in
      clear_is M B u ∙ ap (λ (p : Phase). clear_meaning M B p u) is ∙ ap (λ (b : Bool). if b then ends Stops [] u else make M (power_on M B) u) test

  -- whether a trial is at its limit, as its code tests it
  pub limit_in_trial : (was : Moment V) → was.is_trial ≡ true → Sits was → (b : Bool) → nat_le MOST_POWER_ONS (was.counts.power_ons + length was.counts.calls.items) ≡ b → (s : Standing V) → Fits s was → (x : Later V) → at_limit (at s x) ≡ b
  limit_in_trial was trial sits b test s fits x =
      ap (λ (t : Bool). t && nat_le MOST_POWER_ONS (s.power_ons + length s.armed)) (fits.trial ∙ trial) ∙ ap (nat_le MOST_POWER_ONS) (limit_is was s sits fits) ∙ test

  pub clear_stops : (was : Moment V) → was.is_trial ≡ true → was.phase ≡ Locked → Sits was → nat_le MOST_POWER_ONS (was.counts.power_ons + length was.counts.calls.items) ≡ true → Does clear_line (Err Halt.ScriptFault) was was
  clear_stops was trial is sits limit = record {
    carried = λ s fits. (
      s,
      (λ serves. fits),
      stops_here was.machine (item_meaning was.machine was.blocks Item.Clear) s (outside was)
          (λ x. clear_by was.machine was.blocks s x true (fits.phase ∙ is) (limit_in_trial was trial sits true limit s fits x)),
    );
    leaves = record {
      sits = λ serves. sits;
      no_fault = λ serves. refl;
      disk_fault = λ is. absurd (cc is);
      later = omega arith;
      write_fault = λ is. absurd (cc is);
      machine = refl;
      blocks = λ lap index. refl;
    };
    reads_nothing = λ is. absurd (cc is);
  }

  pub clear_begins : (was : Moment V) → was.phase ≡ Locked → ((s : Standing V) → Fits s was → (x : Later V) → at_limit (at s x) ≡ false) → ComesTo clear_line making_rest (λ t. Fits t was) was was
  clear_begins was is below = record {
    so_far = λ s fits. (
      s,
      fits,
      record {
        since = [];
        listed = sym (append-nil was.disk.found);
        fell = [];
        fallen = sym (append-nil was.counts.falls.items);
        report = [];
        printed = Appends-nil was.taken;
        moves = moves_not s (outside was);
        tells = λ x whole rise. clear_by was.machine was.blocks s x false (fits.phase ∙ is) (below s fits x);
      },
    );
    machine = refl;
    blocks = λ lap index. refl;
    no_fault = refl;
    later = omega arith;
  }

  -- ================ the making

  module _ (was mid : Moment V) (is : mid.phase ≡ Locked) (comes : ComesTo clear_line making_rest (λ t. Fits t mid) was mid) (N : Machine V) (v : V) (same : N ≡ mid.machine) (empty : v ≡ mid.machine.empty) where
    shut_of : (t : Standing V) → Fits t mid → IsShut mid.machine mid.disk
    shut_of t fits = subst (λ (p : Phase). IsLeftIn mid.machine p t.view t.masks mid.disk) is fits.holds

    masks_of : (t : Standing V) → Fits t mid → t.masks ≡ []
    masks_of t fits = subst (λ (p : Phase). IsKnownIn p t.view t.masks mid.view) is fits.known

    -- it was whole
    pub comes_made : (made : Moment V) → made.is_trial ≡ mid.is_trial → Sits mid → made.phase ≡ Off → IsMade N v mid.disk made.disk → made.machine ≡ mid.machine → ((lap index : ℕ) → made.blocks lap index ≡ mid.blocks lap index)
        → made.taken ≡ mid.taken → made.faults ≡ mid.faults → made.counts ≡ record mid.counts { lap = mid.counts.lap + 1; offers = mid.counts.offers + 1 } → ComesTo clear_line cleared_rest (IsCleared made) was made
    comes_made made kind sits off h machine blocks taken faults counts =
        let M = mid.machine in
        let B = mid.blocks in
        let both : (image : List ℕ) → made.disk.may_find image → IsInBoth M M.empty image = both_alike M N M.empty v made.disk same empty h.both in
        comes_step clear_line making_rest cleared_rest (λ t. Fits t mid) (IsCleared made) was mid made comes
        (λ t fits. (
          making_cleared M (power_on M B) t,
          (
            record {
              phase = sym off;
              trial = fits.trial ∙ sym kind;
              known = subst (λ (p : Phase). IsKnownIn p M.empty [] made.view) (sym off) tt;
              lines = fits.lines ∙ sym (ap (λ (k : Counts). k.lines) counts);
              power_ons = fits.power_ons ∙ sym (ap (λ (k : Counts). k.power_ons) counts);
              lap = ap (λ (n : ℕ). n + 1) fits.lap ∙ sym (ap (λ (k : Counts). k.lap) counts);
              offers = ap (λ (n : ℕ). n + 1) fits.offers ∙ sym (ap (λ (k : Counts). k.offers) counts);
              armed = armed_whole syncs_of_making t.armed mid.disk made.disk fits.armed h.run;
              spelled = (h.spelled.0, ap (λ (O : Machine V). O.spelled h.spelled.0) (machine ∙ sym same) ∙ h.spelled.1 ∙ ap Shows empty);
              holds = subst (λ (p : Phase). IsLeftIn made.machine p M.empty [] made.disk) (sym off)
                  (subst (λ (O : Machine V). IsLeftIn O Off M.empty [] made.disk) (sym machine) (λ image may. unmasked M M.empty image (both image may)));
              bad = λ locked. absurd (cc (sym off ∙ locked));
              explained = fits.explained;
            },
            (refl, ap (λ (O : Machine V). O.empty) (sym machine)),
          ),
          record {
            since = [];
            listed = h.found ∙ sym (append-nil mid.disk.found);
            fell = [];
            fallen = ap (λ (k : Counts). k.falls.items) counts ∙ sym (append-nil mid.counts.falls.items);
            report = [];
            printed = subst (λ (bytes : Option (List ℕ)). Appends mid.taken bytes []) (sym taken) (Appends-nil mid.taken);
            moves = moves_on t (making_cleared M (power_on M B) t) (outside mid) (outside made) (omega arith) (omega arith) (omega (arith, h.run.made));
            tells = λ x whole rise. making_whole M (power_on M B) t mid.disk made.disk fits.armed sits.counted.waiting h.run x whole rise;
          },
        )) machine blocks h.run.no_fault (omega (arith, faults))

    -- the disk failed in it
    pub comes_broke : (now : Moment V) → IsFaulted syncs_of_making mid.disk now.disk → ((image : List ℕ) → now.disk.may_find image → IsMakingOver N v mid.disk image) → now.disk.found ≡ mid.disk.found
        → now.machine ≡ mid.machine → ((lap index : ℕ) → now.blocks lap index ≡ mid.blocks lap index) → now.taken ≡ mid.taken → now.faults ≡ mid.faults → now.counts.falls.items ≡ mid.counts.falls.items
        → Does clear_line (Err Halt.DiskFault) was now
    comes_broke now fault near found machine blocks taken faults falls =
        let M = mid.machine in
        let B = mid.blocks in
        comes_does clear_line making_rest (Err Halt.DiskFault) was mid now comes
        (record {
          carried = λ t fits.
              let n = t.offers + 1 in (
                t,
                (λ serves. absurd serves),
                record {
                  ending = record {
                    found = found_none M mid.disk.found now.disk.found found;
                    fell = [];
                    fallen = falls ∙ sym (append-nil mid.counts.falls.items);
                    rising = tt;
                    broken_at = Some n;
                    late = λ m le. not_it n m (omega (arith, le));
                    end = breaks Making (at (after_offer syncs_of_making t) (only [] [] (Some n)));
                    tells = making_broke M (power_on M B) t (only [] [] (Some n)) (is_it n);
                    used_up = (refl, refl);
                    explained = fits.explained;
                  };
                  breaks = refl;
                  printed = subst (λ (bytes : Option (List ℕ)). Appends mid.taken bytes []) (sym taken) (Appends-nil mid.taken);
                  armed = armed_faulted syncs_of_making t.armed mid.disk now.disk fits.armed fault;
                  left = λ image may. near_making M N v mid.disk now.disk.found image same empty [] (omega arith) (found ∙ sym (append-nil mid.disk.found)) (shut_of t fits) (near image may);
                },
              );
          leaves = record {
            sits = λ serves. absurd serves;
            no_fault = λ serves. absurd serves;
            disk_fault = λ e. fault.fault;
            later = omega (arith, faults);
            write_fault = λ e. absurd (cc e);
            machine = machine;
            blocks = blocks;
          };
          reads_nothing = λ e. absurd (cc e);
        })

    -- a cut came in it
    pub comes_fell : (down : Moment V) → down.is_trial ≡ mid.is_trial → Sits mid → IsCutOff syncs_of_making mid.disk down.disk → ((image : List ℕ) → down.disk.may_find image → IsMakingOver N v mid.disk image) → down.disk.found ≡ mid.disk.found
        → down.machine ≡ mid.machine → ((lap index : ℕ) → down.blocks lap index ≡ mid.blocks lap index) → down.taken ≡ mid.taken → down.faults ≡ mid.faults
        → down.counts.lines ≡ mid.counts.lines → down.counts.power_ons ≡ mid.counts.power_ons → down.counts.lap ≡ mid.counts.lap → down.counts.offers ≡ mid.counts.offers + 1
        → down.counts.falls.items ≡ mid.counts.falls.items ++ falls_by mid.counts.calls.items (mid.counts.offers + 1)
        → ComesTo clear_line opening_rest (λ t. FitsDown Making t down) was down
    comes_fell down kind sits cut near found machine blocks taken faults lines power_ons lap offers falls =
        let M = mid.machine in
        let B = mid.blocks in
        comes_step clear_line making_rest opening_rest (λ t. Fits t mid) (λ t. FitsDown Making t down) was mid down comes
        (λ t fits. (
          after_fall syncs_of_making t,
          record {
            trial = fits.trial ∙ sym kind;
            lines = fits.lines ∙ sym lines;
            power_ons = fits.power_ons ∙ sym power_ons;
            lap = fits.lap ∙ sym lap;
            offers = ap (λ (n : ℕ). n + 1) fits.offers ∙ sym offers;
            armed = armed_used syncs_of_making t.armed mid.disk down.disk fits.armed cut;
            within = subst AreWithin (sym (masks_of t fits)) tt;
            spelled = subst (λ (O : Machine V). HasPayload O t.view) (sym machine) fits.spelled;
            near = λ image may. subst (λ (O : Machine V). IsOfMaking O down.disk.found image) (sym machine) (near_making M N v mid.disk down.disk.found image same empty [] (omega arith) (found ∙ sym (append-nil mid.disk.found)) (shut_of t fits) (near image may));
            fallen = λ image may. (
              masks_of t fits,
              (λ none. subst (λ (O : Machine V). AreBad LAYOUT image ⊎ (shows O image ≡ Shows O.empty)) (sym machine) (bad_or_empty M N v mid.disk image same empty (λ other there. fits.bad is none other there) (near image may))),
              (λ next. subst (λ (O : Machine V). IsOfMaking O (down.disk.found ++ next ∷ []) image) (sym machine)
                  (near_making M N v mid.disk (down.disk.found ++ next ∷ []) image same empty (next ∷ []) (omega arith) (ap (λ (images : List (List ℕ)). images ++ next ∷ []) found) (shut_of t fits) (near image may))),
            );
            explained = fits.explained;
          },
          record {
            since = [];
            listed = found ∙ sym (append-nil mid.disk.found);
            fell = fall_of t.armed (t.offers + 1);
            fallen = falls ∙ ap (λ (xs : List ℕ). mid.counts.falls.items ++ xs) (falls_are mid.counts.calls.items t.armed mid.disk.armed (mid.counts.offers + 1) sits.counted.calls fits.armed ∙ ap (λ (n : ℕ). fall_of t.armed (n + 1)) (sym fits.offers));
            report = [];
            printed = subst (λ (bytes : Option (List ℕ)). Appends mid.taken bytes []) (sym taken) (Appends-nil mid.taken);
            moves = fall_moves t.armed t (after_fall syncs_of_making t) (outside mid) (outside down) refl refl;
            tells = λ x whole rise. making_fell M (power_on M B) t mid.disk down.disk fits.armed cut x whole;
          },
        )) machine blocks cut.no_fault (omega (arith, faults))

  -- ================ the opening behind a cut

  module _ (was down : Moment V) (comes : ComesTo clear_line opening_rest (λ t. FitsDown Making t down) was down) (ended : Result Opened Halt) (now : Moment V) (opens : Opens true ended down now) where
    opened_to : (e : Result Opened Halt) → ended ≡ e → (t : Standing V) → FitsDown Making t down → OpensTo e Making Cleared t down now
    opened_to e is t fits = subst (λ (r : Result Opened Halt). OpensTo r Making Cleared t down now) is (opens.carried Making Cleared (refl, refl) t fits)

    -- the memory stands
    comes_stands : ended ≡ Ok Opened.Stands → ComesTo clear_line (λ M B s. stands_with M B now.phase Cleared s) (λ t. Fits t now) was now
    comes_stands is =
        comes_step clear_line opening_rest (λ M B s. stands_with M B now.phase Cleared s) (λ t. FitsDown Making t down) (λ t. Fits t now) was down now comes
        (λ t fits. opened_to (Ok Opened.Stands) is t fits) opens.machine opens.blocks (opens.no_fault Opened.Stands is) opens.later

    rest_at : (p : Phase) → now.phase ≡ p → ComesTo clear_line (λ M B s. stands_with M B now.phase Cleared s) (λ t. Fits t now) was now → ComesTo clear_line (λ M B s. stands_with M B p Cleared s) (λ t. Fits t now) was now
    rest_at p at_phase h = subst (λ (p : Phase). ComesTo clear_line (λ M B s. stands_with M B p Cleared s) (λ t. Fits t now) was now) at_phase h

    -- locked: the making is tried again
    pub comes_again : ended ≡ Ok Opened.Stands → now.phase ≡ Locked → ComesTo clear_line making_rest (λ t. Fits t now) was now
    comes_again is locked = rest_at Locked locked (comes_stands is)

    -- open: the line is done
    pub comes_open : ended ≡ Ok Opened.Stands → (now.phase ≡ Locked → ⊥) → Does clear_line (Ok tt) was now
    comes_open is not_locked =
        let at_on = by_phase now.phase refl in
        let h = rest_at On at_on (comes_stands is) in
        record {
          carried = λ s fits. let k = h.so_far s fits in (k.0, (λ serves. k.1), k.2);
          leaves = record {
            sits = λ serves. opens.stands is;
            no_fault = λ serves. h.no_fault;
            disk_fault = λ e. absurd (cc e);
            later = h.later;
            write_fault = λ e. absurd (cc e);
            machine = h.machine;
            blocks = h.blocks;
          };
          reads_nothing = λ e. absurd (cc e);
        }
      where
        by_phase : (p : Phase) → now.phase ≡ p → now.phase ≡ On
        by_phase On e = e
        by_phase Off e = absurd (cc (ap is_powered (sym e) ∙ opens.powered is))
        by_phase Locked e = absurd (not_locked e)

    -- a cut came in it too: openings follow
    pub comes_reopened : ended ≡ Ok Opened.Fell → (fallen : Moment V) → (r : Result (Unit {0}) Halt) (after : Moment V) → now ≡ fallen → Reopens r fallen after → Does clear_line r was after
    comes_reopened is fallen r after same reopens =
        opened_by was now clear_line r after (opens.machine ∙ comes.machine) (λ lap index. opens.blocks lap index ∙ comes.blocks lap index) (opens.no_fault Opened.Fell is ∙ comes.no_fault) (omega (arith, comes.later, opens.later))
        (subst (λ (m : Moment V). Reopens r m after) (sym same) reopens)
        (λ s fits.
        let k = comes.so_far s fits in
        let q = opened_to (Ok Opened.Fell) is k.0 k.1 in (
          q.0,
          q.1,
          q.2,
          q.3,
          pending_alike now.machine was.machine now.blocks was.blocks clear_line (λ M B s. power_on M B q.0 Done s) s q.2 (outside was) (outside now) (sym (opens.machine ∙ comes.machine)) (λ lap index. sym (opens.blocks lap index ∙ comes.blocks lap index))
              (pending_then was.machine (clear_line was.machine was.blocks) (opening_rest was.machine was.blocks) (λ s. power_on was.machine was.blocks q.0 Done s) s k.0 q.2 (outside was) (outside down) (outside now) k.2
              (pending_alike was.machine down.machine was.blocks down.blocks opening_rest (λ M B s. power_on M B q.0 Done s) k.0 q.2 (outside down) (outside now) comes.machine comes.blocks q.4)),
        ))

    -- the disk or the sink failed in it, or a memory of another setup was found
    pub comes_failed : (h : Halt) → ended ≡ Err h → Does clear_line (Err h) was now
    comes_failed h is = comes_err h is
      where
        failed_by : (h : Halt) (t : Standing V) → OpensTo (Err h) Making Cleared t down now → (u : Standing V) × CarriesBy (Err h) down.machine (power_on down.machine down.blocks Making Cleared) t u (outside down) (outside now) now.disk
        failed_by Halt.ScriptFault t o = absurd o
        failed_by Halt.ReadFault t o = absurd o
        failed_by Halt.DiskFault t o = (t, o)
        failed_by Halt.WriteFault t o = (t, o)
        failed_by Halt.SetupDiffers t o = o

        no_serving : (h : Halt) → ended ≡ Err h → Serves (Err h) → ⊥
        no_serving Halt.ScriptFault is serves = opens.no_stop is
        no_serving Halt.ReadFault is serves = opens.no_read is
        no_serving Halt.DiskFault is serves = serves
        no_serving Halt.WriteFault is serves = serves
        no_serving Halt.SetupDiffers is serves = serves

        comes_err : (h : Halt) → ended ≡ Err h → Does clear_line (Err h) was now
        comes_err h is = record {
          carried = λ s fits.
              let k = comes.so_far s fits in
              let q = failed_by h k.0 (opened_to (Err h) is k.0 k.1) in (
                q.0,
                (λ serves. absurd (no_serving h is serves)),
                then_by was.machine (Err h) (clear_line was.machine was.blocks) (opening_rest was.machine was.blocks) s k.0 q.0 (outside was) (outside down) (outside now) now.disk k.2
                    (alike_by was.machine down.machine was.blocks down.blocks opening_rest (Err h) k.0 q.0 (outside down) (outside now) now.disk comes.machine comes.blocks q.1),
              );
          leaves = record {
            sits = λ serves. absurd (no_serving h is serves);
            no_fault = λ serves. absurd (no_serving h is serves);
            disk_fault = λ e. subst (λ (n : ℕ). Rose n now.disk.faults) comes.no_fault (opens.disk_fault (is ∙ ap (λ (k : Halt). let q : Result Opened Halt = Err k in q) (err_is h Halt.DiskFault e)));
            later = omega (arith, comes.later, opens.later);
            write_fault = λ e. omega (arith, comes.later, opens.write_fault (is ∙ ap (λ (k : Halt). let q : Result Opened Halt = Err k in q) (err_is h Halt.WriteFault e)));
            machine = opens.machine ∙ comes.machine;
            blocks = λ lap index. opens.blocks lap index ∙ comes.blocks lap index;
          };
          reads_nothing = λ e. opens.no_read (is ∙ ap (λ (k : Halt). let q : Result Opened Halt = Err k in q) (err_is h Halt.ReadFault e));
        }
