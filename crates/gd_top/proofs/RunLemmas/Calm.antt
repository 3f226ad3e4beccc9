-- In a trial in which nothing is altered no image is forged, and each lock and each memory of another setup is counted.
use Rattle.std.proofs.Common.{◌≡◌, ◌∙◌, ℕ, ◌+◌, ◌≤◌, nat_le, List, [], ◌∷◌, ◌++◌, length, length-append, Bool, true, false, refl, sym, ap, arith, if◌then◌else◌, codes}
use Rattle.std.specs.declared.option.Option.{Option}
use Rattle.gd_base.specs.declared.step.Numbered.{Numbered}
use Rattle.gd_base.specs.declared.step.Stepped.{Stepped}
use Rattle.gd_base.specs.Judging.Answer.{answer, entry_of, is_full}
use Rattle.gd_base.specs.Histories.Entry.{Entry}
use Rattle.gd_base.specs.Judging.Machine.{Machine, Blocks}
use Rattle.gd_base.specs.Payloads.LoadedView.{opens}
use Rattle.gd_base.specs.Payloads.Spelled.{Spelled, Shows, Foreign, Unreadable}
use Rattle.gd_disk.specs.declared.disk.ArmedCut.{ArmedCut}
use Rattle.gd_disk.specs.declared.disk.CutUnit.{CutUnit}
use Rattle.gd_disk.specs.declared.disk.CutUnit.TheVariants.{Call, Sync}
use Rattle.gd_script.specs.declared.item.Item.{Item}
use Rattle.gd_script.specs.Items.{order_event}
use Rattle.gd_store.specs.Masks.{Mask, is_forged}
use Rattle.gd_store.specs.declared.copy.states.Found.{Found}
use Rattle.gd_store.specs.Repair.{Repair, repair_needed, syncs_of_repair}
use Rattle.gd_top.specs.Report.Lines.{power_line, start_line, locked_line}
use Rattle.gd_top.specs.Run.Calm.{IsBeyondLimit, IsCalm, IsCalmPart, cuts_armed, is_calm_item}
use Rattle.gd_top.specs.Run.Items.{at_limit, below_limit, in_trial, item_meaning, next_numbered, order_of, with_power}
use Rattle.gd_top.specs.Run.Life.{unopened}
use Rattle.gd_top.specs.Run.Offers.{Fate, Whole, Fell, Broke, Offer, is_head, under_unit, under_cuts, is_broken, unless_broken, counted, offer, syncs_of_event}
use Rattle.gd_top.specs.Run.Openings.{Wanted, Done, Answer, Cleared, Reopening, unexplained, resolved, may_lock, locked, recorded, answered, answered_by, resumed, still_wanted, turned_on, start_entry, started, opened_full, opened, locked_with, found_open, powered, reopen, power_on}
use Rattle.gd_top.specs.Run.State.{Start, State, Flight, Nothing, Recording, Making, Phase, On, Off, Locked, Part, is_powered, prints, breaks, before, with_entry}

pub choose : {A : Type 0} (P : A → Type 0) (b : Bool) (x y : A) → (b ≡ true → P x) → (b ≡ false → P y) → P (if b then x else y)
choose P true x y f g = f refl
choose P false x y f g = g refl

-- no making is in flight
abbrev IsPlain : Flight → Type 0
IsPlain Nothing = Unit {0}
IsPlain (Recording e) = Unit {0}
IsPlain Making = ⊥

-- no cleared memory is wanted
abbrev IsKept : Wanted → Type 0
IsKept Done = Unit {0}
IsKept (Answer e) = Unit {0}
IsKept Cleared = ⊥

kept_still : (wanted : Wanted) → IsKept wanted → IsKept (still_wanted wanted)
kept_still Done kept = tt
kept_still (Answer e) kept = tt
kept_still Cleared kept = absurd kept

-- so many cuts are armed after an offer of this fate
abbrev AreLeft : Fate → (now was : ℕ) → Type 0
AreLeft Whole now was = now ≡ was
AreLeft Fell now was = now + 1 ≡ was
AreLeft Broke now was = now ≡ was

module _ {V : Type 0} where
  -- what an offer, an entry or a view that was found leaves as it was, beside the armed cuts
  record IsLike (s u : State V) : Type 0 where
    pub masks : u.masks ≡ s.masks
    pub forged : u.forged ≡ s.forged
    pub trial : u.is_trial ≡ s.is_trial
    pub phase : u.phase ≡ s.phase
    pub power_ons : u.power_ons ≡ s.power_ons
    pub locks : u.other_locks ≡ s.other_locks
    pub views : s.other_views ≤ u.other_views

  alike : (s : State V) → IsLike s s
  alike s = record { masks = refl; forged = refl; trial = refl; phase = refl; power_ons = refl; locks = refl; views = omega arith }

  calm_like : (s u : State V) → IsLike s u → IsCalm s → IsCalm u
  calm_like s u like calm = record {
    masks = like.masks ∙ calm.masks;
    forged = like.forged ∙ calm.forged;
    trial = like.trial ∙ calm.trial;
    locked = λ is. omega (arith, like.locks, calm.locked (sym like.phase ∙ is));
  }

  -- ================ offers

  -- an offer leaves it so, with the cuts of its fate
  record IsOffered (s : State V) (o : Offer V) : Type 0 where
    pub like : IsLike s o.state
    pub left : AreLeft o.fate (length o.state.armed) (length s.armed)

  unit_offered : (u : CutUnit) (cut : ArmedCut) (cuts : List ArmedCut) (n : ℕ) (s : State V) → s.armed ≡ cut ∷ cuts → IsOffered s (under_unit u cut cuts n s)
  unit_offered Sync cut cuts n s is =
      choose (λ (o : Offer V). IsOffered s o) (nat_le cut.count n) _ _
      (λ _. record { like = record { masks = refl; forged = refl; trial = refl; phase = refl; power_ons = refl; locks = refl; views = omega arith }; left = omega (arith, ap length is) })
      (λ _. record { like = record { masks = refl; forged = refl; trial = refl; phase = refl; power_ons = refl; locks = refl; views = omega arith }; left = omega (arith, ap length is) })
  unit_offered Call cut cuts n s is =
      choose (λ (o : Offer V). IsOffered s o) (is_head s.falls s.offers) _ _
      (λ _. record { like = record { masks = refl; forged = refl; trial = refl; phase = refl; power_ons = refl; locks = refl; views = omega arith }; left = omega (arith, ap length is) })
      (λ _. record { like = alike s; left = refl })

  cuts_offered : (cuts : List ArmedCut) (n : ℕ) (s : State V) → s.armed ≡ cuts → IsOffered s (under_cuts cuts n s)
  cuts_offered [] n s is = record { like = alike s; left = refl }
  cuts_offered (cut ∷ cuts) n s is = unit_offered cut.unit cut cuts n s is

  unless_offered : (b : Bool) (n : ℕ) (s : State V) → IsOffered s (unless_broken b n s)
  unless_offered true n s = record { like = alike s; left = refl }
  unless_offered false n s = cuts_offered s.armed n s refl

  offered : (n : ℕ) (s : State V) → IsOffered s (offer n s)
  offered n s =
      let h = unless_offered (is_broken s.broken_at (s.offers + 1)) n (counted n s) in
      record { like = record { masks = h.like.masks; forged = h.like.forged; trial = h.like.trial; phase = h.like.phase; power_ons = h.like.power_ons; locks = h.like.locks; views = h.like.views }; left = h.left }

  -- ================ parts

  -- a part that is no script fault
  abbrev Ends : ℕ → State V → Part V → Type 0
  Ends more s t = IsCalmPart more ⊥ s t

  -- with a text before it
  ends_behind : (text : List ℕ) (more : ℕ) (s : State V) (t : Part V) → Ends more s t → Ends more s (before text t)
  ends_behind text more s t h =
      record { calm = h.calm; powered = h.powered; differs = h.differs; stops = h.stops; power_ons = h.power_ons; views = h.views; locks = h.locks }

  -- the part goes on with the power on
  went : (text : List ℕ) (more : ℕ) (s u : State V) → IsCalm u → is_powered u.phase ≡ true → u.power_ons + length u.armed ≤ s.power_ons + length s.armed + more → s.other_views ≤ u.other_views
      → s.other_locks ≤ u.other_locks → Ends more s (prints text u)
  went text more s u calm on sum views locks = record {
    calm = calm;
    powered = λ goes. on;
    differs = λ differs. absurd (cc differs);
    stops = λ stops. absurd (cc stops);
    power_ons = sum;
    views = views;
    locks = locks;
  }

  -- the run is broken off in it
  broke : (flight : Flight) (more : ℕ) (s u : State V) → IsCalm u → u.power_ons + length u.armed ≤ s.power_ons + length s.armed + more → s.other_views ≤ u.other_views
      → s.other_locks ≤ u.other_locks → Ends more s (breaks flight u)
  broke flight more s u calm sum views locks = record {
    calm = record { masks = calm.masks; forged = calm.forged; trial = calm.trial; locked = calm.locked };
    powered = λ goes. absurd (cc goes);
    differs = λ differs. absurd (cc differs);
    stops = λ stops. absurd (cc stops);
    power_ons = sum;
    views = views;
    locks = locks;
  }

  -- what comes behind other steps
  onward : (more less : ℕ) (s u : State V) (t : Part V) → u.power_ons + length u.armed + more ≤ s.power_ons + length s.armed + less → s.other_views ≤ u.other_views → s.other_locks ≤ u.other_locks
      → Ends more u t → Ends less s t
  onward more less s u t room views locks h = record {
    calm = h.calm;
    powered = h.powered;
    differs = h.differs;
    stops = h.stops;
    power_ons = omega (arith, room, h.power_ons);
    views = omega (arith, views, h.views);
    locks = omega (arith, locks, h.locks);
  }

  is_on : (s : State V) → s.phase ≡ On → is_powered s.phase ≡ true
  is_on s on = ap is_powered on

  -- ================ before the first opening

  pub calm_off : (s : State V) → s.phase ≡ Off → s.masks ≡ [] → s.forged ≡ 0 → s.is_trial ≡ true → IsCalm s
  calm_off s off unmasked unforged trial = record { masks = unmasked; forged = unforged; trial = trial; locked = λ is. absurd (never s.phase off is) }
    where
      never : (phase : Phase) → phase ≡ Off → phase ≡ Locked → ⊥
      never phase off shut = cc (off, shut)

module _ {V : Type 0} (M : Machine V) (B : Blocks) where
  pub unopened_calm : (falls : List ℕ) (starts : List (Start V)) (broken_at : Option ℕ) → IsCalm (unopened M true falls starts broken_at)
  unopened_calm falls starts broken_at = calm_off (unopened M true falls starts broken_at) refl refl refl refl

  -- what a reopening leaves: one power-on more, beside those of the armed cuts
  abbrev Keeps : Reopening V → Type 0
  Keeps again = (flight : Flight) (wanted : Wanted) (s : State V) → IsPlain flight → IsKept wanted → IsCalm s → Ends 1 s (again flight wanted s)

  entry_alike : (s : State V) (e : Entry) → IsLike s (with_entry M s e)
  entry_alike s e = record { masks = refl; forged = refl; trial = refl; phase = refl; power_ons = refl; locks = refl; views = omega arith }

  -- ================ what a view that was found leaves

  -- a view that was found leaves it so, with all cuts
  record IsFound (s u : State V) : Type 0 where
    pub like : IsLike s u
    pub armed : u.armed ≡ s.armed

  itself : (s : State V) → IsFound s s
  itself s = record { like = alike s; armed = refl }

  other_view : (v : V) (s : State V) → IsFound s (unexplained v s)
  other_view v s = record { like = record { masks = refl; forged = refl; trial = refl; phase = refl; power_ons = refl; locks = refl; views = omega arith }; armed = refl }

  found_by : (flight : Flight) → IsPlain flight → (v : V) (s : State V) → IsFound s (resolved M flight v s)
  unfolding resolved
  found_by Nothing plain v s = choose (λ (u : State V). IsFound s u) (M.same v s.view) s (unexplained v s) (λ _. itself s) (λ _. other_view v s)
  found_by (Recording e) plain v s =
      choose (λ (u : State V). IsFound s u) (M.same v s.view) s (if M.same v (M.effect s.view e) then with_entry M s e else unexplained v s) (λ _. itself s)
      (λ _. choose (λ (u : State V). IsFound s u) (M.same v (M.effect s.view e)) (with_entry M s e) (unexplained v s) (λ _. record { like = entry_alike s e; armed = refl }) (λ _. other_view v s))
  found_by Making plain v s = absurd plain

  -- ================ locks

  -- nothing was altered, so that a lock has no reason
  no_reason : (flight : Flight) → IsPlain flight → (masks : List Mask) → masks ≡ [] → may_lock flight masks ≡ false
  no_reason Nothing plain masks none = ap (may_lock Nothing) none
  no_reason (Recording e) plain masks none = ap (may_lock (Recording e)) none
  no_reason Making plain masks none = absurd plain

  one_lock_more : (flight : Flight) → IsPlain flight → (s : State V) → IsCalm s → (locked flight s).other_locks ≡ s.other_locks + 1
  one_lock_more flight plain s calm = ap (λ (b : Bool). if b then s.other_locks else s.other_locks + 1) (no_reason flight plain s.masks calm.masks)

  locked_calm : (flight : Flight) → IsPlain flight → (s : State V) → IsCalm s → IsCalm (locked flight s)
  locked_calm flight plain s calm =
      let more = one_lock_more flight plain s calm in
      record { masks = refl; forged = calm.forged; trial = calm.trial; locked = λ is. omega (arith, more) }

  module _ (again : Reopening V) (K : Keeps again) where
    -- ================ events

    recorded_ends : (e : Entry) (fate : Fate) (s u : State V) → IsLike s u → AreLeft fate (length u.armed) (length s.armed) → IsCalm s → s.phase ≡ On → Ends 0 s (recorded M again e fate u)
    recorded_ends e Whole s u like left calm on =
        let v = with_entry M u e in
        went _ 0 s v (calm_like u v (entry_alike u e) (calm_like s u like calm)) (is_on v (like.phase ∙ on)) (omega (arith, like.power_ons, left)) like.views (omega (arith, like.locks))
    recorded_ends e Fell s u like left calm on =
        onward 1 0 s u (recorded M again e Fell u) (omega (arith, like.power_ons, left)) like.views (omega (arith, like.locks))
        (K (Recording e) (Answer (record { number = e.number; event = e.event })) u tt tt (calm_like s u like calm))
    recorded_ends e Broke s u like left calm on =
        broke (Recording e) 0 s u (calm_like s u like calm) (omega (arith, like.power_ons, left)) like.views (omega (arith, like.locks))

    answered_by_ends : (e : Numbered) (a : Stepped) (s : State V) → IsCalm s → s.phase ≡ On → Ends 0 s (answered_by M B again e a s)
    answered_by_ends e (Stepped.New reply) s calm on =
        let entry = entry_of M B s.lap s.view e in
        let o = offer syncs_of_event s in
        let h = offered syncs_of_event s in
        recorded_ends entry o.fate s o.state h.like h.left calm on
    answered_by_ends e (Stepped.Again reply) s calm on = went _ 0 s s calm (is_on s on) (omega arith) (omega arith) (omega arith)
    answered_by_ends e (Stepped.OutOfStep expected) s calm on = went _ 0 s s calm (is_on s on) (omega arith) (omega arith) (omega arith)
    answered_by_ends e Stepped.HistoryFull s calm on = went _ 0 s s calm (is_on s on) (omega arith) (omega arith) (omega arith)

    answered_ends : (e : Numbered) (s : State V) → IsCalm s → s.phase ≡ On → Ends 0 s (answered M B again e s)
    unfolding answered
    answered_ends e s calm on = answered_by_ends e (answer M s.view e) s calm on

    -- ================ openings

    resumed_ends : (wanted : Wanted) → IsKept wanted → (s : State V) → IsCalm s → s.phase ≡ On → Ends 0 s (resumed M B again wanted s)
    resumed_ends Done kept s calm on = went [] 0 s s calm (is_on s on) (omega arith) (omega arith) (omega arith)
    resumed_ends (Answer e) kept s calm on = answered_ends e s calm on
    resumed_ends Cleared kept s calm on = absurd kept

    started_ends : (repair : Repair) (wanted : Wanted) → IsKept wanted → (fate : Fate) (s u : State V) → IsLike s u → AreLeft fate (length u.armed) (length s.armed) → IsCalm s → s.phase ≡ On
        → Ends 0 s (started M B again repair wanted fate u)
    started_ends repair wanted kept Whole s u like left calm on =
        let v = with_entry M u (start_entry M B u) in
        let rest = resumed_ends wanted kept v (calm_like u v (entry_alike u (start_entry M B u)) (calm_like s u like calm)) (like.phase ∙ on) in
        ends_behind (start_line (M.count v.view) repair) 0 s (resumed M B again wanted v)
        (onward 0 0 s v (resumed M B again wanted v) (omega (arith, like.power_ons, left)) like.views (omega (arith, like.locks)) rest)
    started_ends repair wanted kept Fell s u like left calm on =
        onward 1 0 s u (started M B again repair wanted Fell u) (omega (arith, like.power_ons, left)) like.views (omega (arith, like.locks))
        (K (Recording (start_entry M B u)) (still_wanted wanted) u tt (kept_still wanted kept) (calm_like s u like calm))
    started_ends repair wanted kept Broke s u like left calm on =
        broke (Recording (start_entry M B u)) 0 s u (calm_like s u like calm) (omega (arith, like.power_ons, left)) like.views (omega (arith, like.locks))

    full_ends : (wanted : Wanted) → IsKept wanted → (fate : Fate) (s u : State V) → IsLike s u → AreLeft fate (length u.armed) (length s.armed) → IsCalm s → s.phase ≡ On → Ends 0 s (opened_full M B again wanted fate u)
    full_ends wanted kept Whole s u like left calm on =
        onward 0 0 s u (resumed M B again wanted u) (omega (arith, like.power_ons, left)) like.views (omega (arith, like.locks))
        (resumed_ends wanted kept u (calm_like s u like calm) (like.phase ∙ on))
    full_ends wanted kept Fell s u like left calm on =
        onward 1 0 s u (opened_full M B again wanted Fell u) (omega (arith, like.power_ons, left)) like.views (omega (arith, like.locks))
        (K Nothing (still_wanted wanted) u tt (kept_still wanted kept) (calm_like s u like calm))
    full_ends wanted kept Broke s u like left calm on =
        broke Nothing 0 s u (calm_like s u like calm) (omega (arith, like.power_ons, left)) like.views (omega (arith, like.locks))

    opened_ends : (repair : Repair) (wanted : Wanted) → IsKept wanted → (s : State V) → IsCalm s → s.phase ≡ On → Ends 0 s (opened M B again repair wanted s)
    unfolding opened
    opened_ends repair wanted kept s calm on =
        choose (λ (t : Part V). Ends 0 s t) (is_full M s.view) _ _
        (λ _.
        let n = syncs_of_repair repair in
        let o = offer n s in
        let h = offered n s in
        full_ends wanted kept o.fate s o.state h.like h.left calm on)
        (λ _.
        let n = syncs_of_repair repair + syncs_of_event in
        let o = offer n s in
        let h = offered n s in
        started_ends repair wanted kept o.fate s o.state h.like h.left calm on)

    locked_ends : (wanted : Wanted) → IsKept wanted → (s : State V) → IsCalm s → s.phase ≡ Locked → Ends 0 s (locked_with M again wanted s)
    locked_ends Done kept s calm shut = went [] 0 s s calm (ap is_powered shut) (omega arith) (omega arith) (omega arith)
    locked_ends (Answer e) kept s calm shut = went locked_line 0 s s calm (ap is_powered shut) (omega arith) (omega arith) (omega arith)
    locked_ends Cleared kept s calm shut = absurd kept

    found_ends : (spelled : Spelled V) (found : Found) (flight : Flight) (wanted : Wanted) (s : State V) → IsPlain flight → IsKept wanted → IsCalm s → Ends 0 s (found_open M B again spelled found flight wanted s)
    found_ends Unreadable found flight wanted s plain kept calm =
        let u = locked flight s in
        let more = one_lock_more flight plain s calm in
        ends_behind locked_line 0 s (locked_with M again wanted u)
        (onward 0 0 s u (locked_with M again wanted u) (omega arith) (omega arith) (omega (arith, more)) (locked_ends wanted kept u (locked_calm flight plain s calm) refl))
    found_ends (Foreign kept_as) found flight wanted s plain kept calm = record {
      calm = record { masks = calm.masks; forged = calm.forged; trial = calm.trial; locked = calm.locked };
      powered = λ goes. absurd (cc goes);
      differs = λ differs. omega arith;
      stops = λ stops. absurd (cc stops);
      power_ons = omega arith;
      views = omega arith;
      locks = omega arith;
    }
    found_ends (Shows v) found flight wanted s plain kept calm =
        let on = turned_on s in
        let u = resolved M flight v on in
        let h = found_by flight plain v on in
        let calm_on : IsCalm on = record { masks = refl; forged = calm.forged; trial = calm.trial; locked = λ is. absurd (cc is) } in
        onward 0 0 s u (opened M B again (repair_needed found) wanted u) (omega (arith, h.like.power_ons, ap length h.armed)) h.like.views (omega (arith, h.like.locks))
        (opened_ends (repair_needed found) wanted kept u (calm_like on u h.like calm_on) h.like.phase)

  -- ================ power-ons

  unforged : (masks : List Mask) (behind : Found) → masks ≡ [] → is_forged masks behind ≡ false
  unforged masks behind none = ap (λ (m : List Mask). is_forged m behind) none

  powered_calm : (start : Start V) (starts : List (Start V)) (s : State V) → IsCalm s → IsCalm (powered start starts s)
  powered_calm start starts s calm = record {
    masks = calm.masks;
    forged = ap (λ (b : Bool). if b then s.forged + 1 else s.forged) (unforged s.masks start.behind calm.masks) ∙ calm.forged;
    trial = calm.trial;
    locked = calm.locked;
  }

  reopen_ends : (starts : List (Start V)) → Keeps (reopen M B starts)
  unfolding reopen
  reopen_ends [] flight wanted s plain kept calm = broke flight 1 s s calm (omega arith) (omega arith) (omega arith)
  reopen_ends (start ∷ starts) flight wanted s plain kept calm =
      let u = powered start starts s in
      let t = found_open M B (reopen M B starts) (opens M start.boots) start.found flight wanted u in
      ends_behind (power_line (s.power_ons + 1) start.found) 1 s t
      (onward 0 1 s u t (omega arith) (omega arith) (omega arith)
      (found_ends (reopen M B starts) (reopen_ends starts) (opens M start.boots) start.found flight wanted u plain kept (powered_calm start starts s calm)))

  on_power : Keeps (power_on M B)
  on_power flight wanted s plain kept calm = reopen_ends s.starts flight wanted s plain kept calm

  -- the first opening of a trial
  pub calm_opening : (s : State V) → IsCalm s → IsCalmPart 1 ⊥ s (power_on M B Nothing Done s)
  calm_opening s calm = on_power Nothing Done s tt tt calm

  -- ================ items

  -- a part that is no script fault, whatever would be a reason for one
  no_fault : (Fault : Type 0) (more : ℕ) (s : State V) (t : Part V) → Ends more s t → IsCalmPart more Fault s t
  no_fault Fault more s t h =
      record { calm = h.calm; powered = h.powered; differs = h.differs; stops = λ stops. absurd (h.stops stops); power_ons = h.power_ons; views = h.views; locks = h.locks }

  event_ends : (e : Numbered) (phase : Phase) (s : State V) → s.phase ≡ phase → is_powered phase ≡ true → IsCalm s → Ends 0 s (with_power phase s (answered M B (power_on M B) e s))
  event_ends e On s is on calm = answered_ends (power_on M B) on_power e s calm is
  event_ends e Off s is on calm = absurd (cc on)
  event_ends e Locked s is on calm = went locked_line 0 s s calm (ap is_powered is) (omega arith) (omega arith) (omega arith)

  cut_ends : (cut : ArmedCut) (s : State V) → is_powered s.phase ≡ true → IsCalm s
      → IsCalmPart 1 (at_limit s ≡ true) s (in_trial s (below_limit s (prints (codes "armed\n") (record s { armed = s.armed ++ cut ∷ [] }))))
  cut_ends cut s on calm =
      choose (λ (t : Part V). IsCalmPart 1 (at_limit s ≡ true) s t) s.is_trial _ _
      (λ _. choose (λ (t : Part V). IsCalmPart 1 (at_limit s ≡ true) s t) (at_limit s) _ _
      (λ limit. record {
        calm = calm;
        powered = λ goes. absurd (cc goes);
        differs = λ differs. absurd (cc differs);
        stops = λ stops. limit;
        power_ons = omega arith;
        views = omega arith;
        locks = omega arith;
      })
      (λ below. no_fault (at_limit s ≡ true) 1 s _
      (went (codes "armed\n") 1 s (record s { armed = s.armed ++ cut ∷ [] }) (record { masks = calm.masks; forged = calm.forged; trial = calm.trial; locked = calm.locked }) on
      (omega (arith, length-append s.armed (cut ∷ []))) (omega arith) (omega arith))))
      (λ other. absurd (never (sym other ∙ calm.trial)))
    where
      never : false ≡ true → ⊥
      never clash = cc clash

  -- an item that alters nothing, with the power on
  pub calm_item : (item : Item) (s : State V) → is_calm_item item ≡ true → IsCalm s → is_powered s.phase ≡ true
      → IsCalmPart (cuts_armed item) (IsBeyondLimit item s) s (item_meaning M B item s)
  unfolding item_meaning
  calm_item (Item.Event event) s is calm on =
      no_fault _ 0 s _ (event_ends (next_numbered M event s.view) s.phase s refl on calm)
  calm_item (Item.OrderEvent kind order) s is calm on =
      no_fault _ 0 s _ (event_ends (next_numbered M (order_event kind (order_of M order s.view)) s.view) s.phase s refl on calm)
  calm_item (Item.Cut unit count torn) s is calm on =
      let h = cut_ends (record { unit = unit; count = count; torn = torn }) s on calm in
      record { calm = h.calm; powered = h.powered; differs = h.differs; stops = λ stops. (refl, h.stops stops); power_ons = h.power_ons; views = h.views; locks = h.locks }
  calm_item _ s is calm on = absurd (cc is)
