-- In a soak nothing is altered: no item is a script fault, and the memory is found neither locked nor of another setup.
use Rattle.std.proofs.Common.{◌≡◌, ◌∙◌, ap, sym, subst, refl, ℕ, zero, suc, add-one, ◌+◌, ◌<◌, ◌≤◌, nat_le, nat_lt, List, [], ◌∷◌, ◌++◌, length, inl, inr, Bool, true, false, ◌&&◌, cond, arith, Option, None, Some, Result, Ok, Err}
use Rattle.std.proofs.lemmas.Bool.Decides.{nat_tests}
use Rattle.gd_base.specs.Judging.Machine.{Machine, Blocks}
use Rattle.gd_script.specs.Generated.{cuts_generated, generated, is_soak_item}
use Rattle.gd_script.specs.Items.{is_cut}
use Rattle.gd_script.specs.declared.item.Item.{Item}
use Rattle.gd_script.specs.declared.limits.TheConstants.{MOST_GENERATED}
use Rattle.gd_script.proofs.GeneratedItems.{cuts_few, cuts_more, generated_kind}
use Rattle.gd_top.specs.Claims.Soak.{soak_lines}
use Rattle.gd_top.specs.Code.Memory.{Moment, Fits, Serves, outside}
use Rattle.gd_top.specs.Code.LinesDone.{made_outside}
use Rattle.gd_top.specs.Code.Parts.{Carries}
use Rattle.gd_top.specs.Code.SoakDone.{IsSoakEnd, ItemsDone, SoakRun}
use Rattle.gd_top.specs.Code.Standing.{Standing, at, only, first_standing}
use Rattle.gd_top.specs.Run.Calm.{IsBeyondLimit, IsCalm, IsCalmPart, cuts_armed, is_calm_item}
use Rattle.gd_top.specs.Run.Items.{item_meaning, line_meaning, lines_meaning, one_more}
use Rattle.gd_top.specs.Run.Life.{run_meaning, unopened}
use Rattle.gd_top.specs.Run.Openings.{Done, power_on}
use Rattle.gd_top.specs.Run.Starts.{starts_in}
use Rattle.gd_top.specs.Run.State.{Start, State, Nothing, Part, Phase, On, Off, Locked, Outcome, Goes, Stops, Differs, Breaks, before, ends, followed_by, goes_on, is_powered}
use Rattle.gd_top.specs.declared.halt.Halt.{Halt}
use Rattle.gd_top.specs.declared.memory.TheConstants.{MOST_POWER_ONS}
use Rattle.gd_top.specs.declared.script.reader.TheConstants.{MOST_LINES}
use Rattle.gd_words.specs.declared.limits.TheConstants.{MOST_ITEMS}
use Rattle.gd_top.proofs.LineLemmas.Exits.{one_line}
use Rattle.gd_top.proofs.RunLemmas.Calm.{choose, calm_item, calm_opening, unopened_calm}
use Rattle.gd_top.proofs.RunLemmas.Joins.{goes_on_nothing, run_append}
use Rattle.gd_top.proofs.RunLemmas.Said.{ends_nowhere}
use Rattle.gd_top.proofs.SoakLemmas.Items.{soak_more}

-- ================ items

calm_kind : (item : Item) → is_soak_item item ≡ true → is_calm_item item ≡ true
calm_kind (Item.Event event) is = refl
calm_kind (Item.OrderEvent kind order) is = refl
calm_kind (Item.Cut unit count torn) is = refl
calm_kind _ is = absurd (cc is)

cuts_are : (item : Item) → cuts_armed item ≡ cond (is_cut item) 1 0
cuts_are (Item.Cut unit count torn) = refl
cuts_are _ = refl

-- far below the limit no cut is refused
far_below : (is_trial : Bool) (n : ℕ) → n < MOST_POWER_ONS → (is_trial && nat_le MOST_POWER_ONS n) ≡ true → ⊥
far_below true n few is = absurd (grind (arith, nat_tests, few, is))
far_below false n few is = cc is

full_at : (n : ℕ) → nat_lt n MOST_LINES ≡ false → MOST_LINES ≤ n
full_at n full = grind (arith, nat_tests, full)

-- the phase is open
open_phase : (phase : Phase) → is_powered phase ≡ true → (phase ≡ Locked → ⊥) → phase ≡ On
open_phase On powered never = refl
open_phase Off powered never = absurd (cc powered)
open_phase Locked powered never = absurd (never refl)

module _ {V : Type 0} where
  -- what a calm part leaves, where a script fault comes only past the last line that is allowed
  abbrev IsCalmLine : ℕ → State V → Part V → Type 0
  IsCalmLine more s t = IsCalmPart more (MOST_LINES ≤ t.state.lines) s t

  -- one line more is counted
  with_one_more : (o : Outcome) (more : ℕ) (Fault : Type 0) (s : State V) (t : Part V) → t.outcome ≡ o → (Fault → ⊥) → IsCalmPart more Fault s t → IsCalmLine more s (goes_on o t one_more)
  with_one_more Goes more Fault s t is never h = record {
    calm = record { masks = h.calm.masks; forged = h.calm.forged; trial = h.calm.trial; locked = h.calm.locked };
    powered = λ goes. h.powered is;
    differs = λ differs. absurd (cc differs);
    stops = λ stops. absurd (cc stops);
    power_ons = h.power_ons;
    views = h.views;
    locks = h.locks;
  }
  with_one_more Stops more Fault s t is never h = absurd (never (h.stops is))
  with_one_more Differs more Fault s t is never h = record { calm = h.calm; powered = h.powered; differs = h.differs; stops = λ stops. absurd (cc (is, stops)); power_ons = h.power_ons; views = h.views; locks = h.locks }
  with_one_more Breaks more Fault s t is never h = record { calm = h.calm; powered = h.powered; differs = h.differs; stops = λ stops. absurd (cc (is, stops)); power_ons = h.power_ons; views = h.views; locks = h.locks }

  -- a part behind another, where it went on
  behind : (o : Outcome) (more less most : ℕ) (s : State V) (t : Part V) (next : State V → Part V) → t.outcome ≡ o → more + less ≤ most → IsCalmLine more s t
      → (t.outcome ≡ Goes → IsCalmLine less t.state (next t.state)) → IsCalmLine most s (goes_on o t next)
  behind Goes more less most s t next is room h then_next =
      let k = then_next is in
      record {
        calm = k.calm;
        powered = k.powered;
        differs = k.differs;
        stops = k.stops;
        power_ons = omega (arith, h.power_ons, k.power_ons, room);
        views = omega (arith, h.views, k.views);
        locks = omega (arith, h.locks, k.locks);
      }
  behind Stops more less most s t next is room h then_next = record { calm = h.calm; powered = h.powered; differs = h.differs; stops = h.stops; power_ons = omega (arith, h.power_ons, room); views = h.views; locks = h.locks }
  behind Differs more less most s t next is room h then_next = record { calm = h.calm; powered = h.powered; differs = h.differs; stops = h.stops; power_ons = omega (arith, h.power_ons, room); views = h.views; locks = h.locks }
  behind Breaks more less most s t next is room h then_next = record { calm = h.calm; powered = h.powered; differs = h.differs; stops = h.stops; power_ons = omega (arith, h.power_ons, room); views = h.views; locks = h.locks }

module _ {V : Type 0} (M : Machine V) (B : Blocks) (seed : ℕ) where
  -- the line of an item
  calm_line : (n : ℕ) (s : State V) → IsCalm s → is_powered s.phase ≡ true → s.power_ons + length s.armed < MOST_POWER_ONS
      → IsCalmLine (cuts_armed (generated seed n)) s (line_meaning M B (Some (generated seed n)) s)
  calm_line n s calm on few =
      let item = generated seed n in
      let t = item_meaning M B item s in
      choose (λ (u : Part V). IsCalmLine (cuts_armed item) s u) (nat_lt s.lines MOST_LINES) (followed_by t one_more) (ends Stops [] s)
      (λ below. with_one_more t.outcome (cuts_armed item) (IsBeyondLimit item s) s t refl (λ beyond. far_below s.is_trial (s.power_ons + length s.armed) few beyond.1)
      (calm_item M B item s (calm_kind item (generated_kind seed n)) calm on))
      (λ full. record {
        calm = calm;
        powered = λ goes. absurd (cc goes);
        differs = λ differs. absurd (cc differs);
        stops = λ stops. full_at s.lines full;
        power_ons = omega arith;
        views = omega arith;
        locks = omega arith;
      })

  module _ (falls : List ℕ) (starts : List (Start V)) (broken_at : Option ℕ) where
    abbrev s0 : State V
    s0 = unopened M true falls starts broken_at

    -- after the first n items
    IsCalmAt : ℕ → Type 0
    IsCalmAt n = n ≤ MOST_GENERATED → IsCalmLine (1 + cuts_generated n) s0 (run_meaning M B (soak_lines n seed) s0)

    opened_calm : IsCalmAt 0
    unfolding IsCalmAt
    opened_calm few =
        let h = calm_opening M B s0 (unopened_calm M B falls starts broken_at) in
        let t = power_on M B Nothing Done s0 in
        let k : IsCalmLine (1 + cuts_generated 0) s0 t = record { calm = h.calm; powered = h.powered; differs = h.differs; stops = λ stops. absurd (h.stops stops); power_ons = omega (arith, h.power_ons); views = h.views; locks = h.locks } in
        subst (λ (u : Part V). IsCalmLine (1 + cuts_generated 0) s0 u) (sym (goes_on_nothing t)) k

    one_more_calm : (n : ℕ) → IsCalmAt n → IsCalmAt (n + 1)
    unfolding IsCalmAt
    one_more_calm n so_far few =
        let item = generated seed n in
        let t = run_meaning M B (soak_lines n seed) s0 in
        let h = so_far (omega (arith, few)) in
        let cuts : cuts_generated (n + 1) ≡ cuts_generated n + cuts_armed item = cuts_more seed n ∙ ap (λ (c : ℕ). cuts_generated n + c) (sym (cuts_are item)) in
        let below : cuts_generated n ≤ 200 = cuts_few n (omega (arith, few)) in
        let next = λ (u : State V). lines_meaning M B (Some item ∷ []) u in
        let k : IsCalmLine (1 + cuts_generated (n + 1)) s0 (followed_by t next) =
        behind t.outcome (1 + cuts_generated n) (cuts_armed item) (1 + cuts_generated (n + 1)) s0 t next refl (omega (arith, cuts)) h
        (λ goes. subst (λ (u : Part V). IsCalmLine (cuts_armed item) t.state u) (sym (one_line M B (Some item) t.state))
        (calm_line n t.state h.calm (h.powered goes) (omega (arith, h.power_ons, below)))) in
        subst (λ (u : Part V). IsCalmLine (1 + cuts_generated (n + 1)) s0 u)
        (sym (ap (λ (lines : List (Option Item)). run_meaning M B lines s0) (soak_more seed n) ∙ run_append M B (soak_lines n seed) (Some item ∷ []) s0)) k

    calm_at : (n : ℕ) → IsCalmAt n
    calm_at zero = opened_calm
    calm_at (suc n) = subst IsCalmAt (add-one n) (one_more_calm n (calm_at n))

    pub calm_soak : (n : ℕ) → n ≤ MOST_GENERATED → IsCalmLine (1 + cuts_generated n) s0 (run_meaning M B (soak_lines n seed) s0)
    unfolding IsCalmAt
    calm_soak n = calm_at n

-- ================ how a soak ends

module _ {V : Type 0} (was now : Moment V) (count seed : ℕ) (few : count ≤ MOST_ITEMS) (lines : now.counts.lines ≤ MOST_ITEMS) where
  abbrev M : Machine V
  M = was.machine

  -- what was carried out is calm
  module _ (o : Outcome) (n : ℕ) (below : n ≤ count) (t : Standing V) (k : Carries M (run_meaning M was.blocks (soak_lines n seed)) o (first_standing M) t (made_outside was) (outside now)) where
    abbrev end : Part V
    end = before k.report (record { report = []; state = at t (only [] [] None); outcome = o })

    calm_end : IsCalm end.state × (o ≡ Goes → is_powered t.phase ≡ true) × (o ≡ Differs → 1 ≤ t.other_views) × (o ≡ Stops → MOST_LINES ≤ t.lines)
    calm_end =
        let falls = k.fell ++ [] in
        let starts = starts_in M k.since ++ [] in
        let h = calm_soak M was.blocks seed falls starts None n (omega (arith, below, few)) in
        let e = subst (λ (u : Part V). IsCalmLine (1 + cuts_generated n) (unopened M true falls starts None) u) (k.tells (only [] [] None) (ends_nowhere t.offers) tt) h in
        (e.calm, e.powered, e.differs, e.stops)

  ends_so : (r : Result (Unit {0}) Halt) (t : Standing V) → (Serves r → Fits t now) → (r ≡ Err Halt.WriteFault → ⊥) → ItemsDone M (run_meaning M was.blocks) count seed r (first_standing M) t (made_outside was) (outside now) now.disk → IsSoakEnd r now.phase
  ends_so (Ok done) t fits never k =
      let f = fits tt in
      let e = calm_end Goes k.items k.few t k.carried in
      let phase : t.phase ≡ On = open_phase t.phase (e.1 refl) (λ shut. let more : 1 ≤ t.other_locks = e.0.locked shut in let none : t.other_locks ≡ 0 = (f.explained e.0.forged).1 in absurd (omega (arith, more, none))) in
      sym f.phase ∙ phase
  ends_so (Err Halt.ScriptFault) t fits never k =
      let f = fits tt in
      let e = calm_end Stops k.items k.few t k.carried in
      let full : MOST_LINES ≤ t.lines = e.3 refl in
      absurd (omega (arith, full, f.lines, lines))
  ends_so (Err Halt.ReadFault) t fits never k = absurd k.carried
  ends_so (Err Halt.DiskFault) t fits never k = tt
  ends_so (Err Halt.WriteFault) t fits never k = absurd (never refl)
  ends_so (Err Halt.SetupDiffers) t fits never k =
      let d = k.carried in
      let e = calm_end Differs k.items k.few t d.carried in
      let more : 1 ≤ t.other_views = e.2 refl in
      let none : t.other_views ≡ 0 = (d.explained e.0.forged).0 in
      absurd (omega (arith, more, none))

  pub soak_end : (r : Result (Unit {0}) Halt) → SoakRun count seed r was now → (r ≡ Err Halt.WriteFault → ⊥) → IsSoakEnd r now.phase
  soak_end r (inl k) never = subst (λ (q : Result (Unit {0}) Halt). IsSoakEnd q now.phase) (sym k.fault) tt
  soak_end r (inr k) never = ends_so r k.0 k.1 never k.2
