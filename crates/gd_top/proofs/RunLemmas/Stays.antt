-- What was recorded stays recorded.
use Rattle.std.proofs.Common.{◌≡◌, ◌∙◌, ℕ, ◌+◌, ◌≤◌, ◌==◌, ◌⊎◌, inl, inr, ⊎_elim, nat_le, nat_lt, List, [], ◌∷◌, ◌++◌, append_assoc, Bool, true, false, None, Some, refl, sym, ap, subst, arith, if◌then◌else◌, codes}
use Rattle.std.specs.declared.option.Option.{Option}
use Rattle.gd_base.specs.declared.device.Device.{Device}
use Rattle.gd_base.specs.declared.step.Numbered.{Numbered}
use Rattle.gd_base.specs.declared.step.Stepped.{Stepped}
use Rattle.gd_base.specs.Judging.Answer.{answer, entry_of, is_full}
use Rattle.gd_base.specs.Histories.Entry.{Entry}
use Rattle.gd_base.specs.Judging.Machine.{Machine, Blocks}
use Rattle.gd_base.specs.Payloads.LoadedView.{opens}
use Rattle.gd_base.specs.Payloads.Spelled.{Spelled, Shows, Foreign, Unreadable}
use Rattle.gd_disk.specs.declared.disk.ArmedCut.{ArmedCut}
use Rattle.gd_disk.specs.declared.disk.CutUnit.{CutUnit}
use Rattle.gd_disk.specs.declared.disk.CutUnit.TheVariants.{Call, Sync}
use Rattle.gd_script.specs.declared.item.Item.{Item}
use Rattle.gd_script.specs.Items.{order_event}
use Rattle.gd_store.specs.Masks.{Mask}
use Rattle.gd_store.specs.declared.copy.states.Found.{Found}
use Rattle.gd_store.specs.Repair.{Repair, repair_needed, syncs_of_repair}
use Rattle.gd_top.specs.declared.script.reader.TheConstants.{MOST_LINES}
use Rattle.gd_top.specs.Run.Items.{below_limit, at_limit, in_trial, with_power, next_numbered, event_meaning, order_of, again_meaning, off_meaning, on_meaning, alter_meaning, clear_meaning, item_meaning, one_more, line_meaning, lines_meaning}
use Rattle.gd_top.specs.Run.Life.{unopened, trial_meaning}
use Rattle.gd_top.specs.Run.Offers.{Fate, Whole, Fell, Broke, Offer, is_head, under_unit, under_cuts, is_broken, unless_broken, counted, offer, syncs_of_event, syncs_of_making}
use Rattle.gd_top.specs.Run.Openings.{Wanted, Done, Answer, Cleared, Reopening, unexplained, cleared, resolved, locked, of_another, recorded, record_entry, answered, answered_by, resumed, still_wanted, turned_on, turned_off, start_entry, started, opened_full, opened, made, make, locked_with, found_open, powered, reopen, power_on}
use Rattle.gd_top.specs.Run.State.{Start, State, Flight, Nothing, Recording, Making, Phase, On, Off, Locked, Outcome, Goes, Stops, Differs, Breaks, Part, prints, goes_on, with_entry}
use Rattle.gd_top.specs.Claims.NothingLost.{NothingLost}
use Rattle.gd_top.specs.Claims.OneHistory.{BeginsEmpty}
use Rattle.gd_top.proofs.RunLemmas.Joins.{run_append}

choose : {A : Type 0} (P : A → Type 0) (b : Bool) (x y : A) → (b ≡ true → P x) → (b ≡ false → P y) → P (if b then x else y)
choose P true x y f g = f refl
choose P false x y f g = g refl

state_of_goes : {V : Type 0} (o : Outcome) (t : Part V) (next : State V → Part V) → o ≡ Goes → (goes_on o t next).state ≡ (next t.state).state
state_of_goes Goes t next e = refl
state_of_goes Stops t next e = absurd (cc e)
state_of_goes Differs t next e = absurd (cc e)
state_of_goes Breaks t next e = absurd (cc e)

module _ {V : Type 0} (M : Machine V) where
  abbrev Stays : State V → State V → Type 0
  Stays s t =
      (s.other_views ≤ t.other_views) × (s.lap ≤ t.lap) × (t.other_views ≡ s.other_views → t.lap ≡ s.lap → (more : List Entry) × (t.history ≡ more ++ s.history))
      × (t.other_views ≡ s.other_views → (t.opening ≡ s.opening) ⊎ (t.opening ≡ M.empty))

  -- an offer changes nothing of it
  abbrev Same : State V → State V → Type 0
  Same s u = (u.other_views ≡ s.other_views) × (u.lap ≡ s.lap) × (u.history ≡ s.history) × (u.opening ≡ s.opening)

  of_same : (s t : State V) → Same s t → Stays s t
  of_same s t e = (omega (arith, e.0), omega (arith, e.1), (λ views laps. ([], e.2)), (λ views. inl e.3))

  itself : (s : State V) → Stays s s
  itself s = of_same s s (refl, refl, refl, refl)

  and_then : (s t u : State V) → Stays s t → Stays t u → Stays s u
  and_then s t u h k = (
    omega (arith, h.0, k.0),
    omega (arith, h.1, k.1),
    (λ e f.
        let views : t.other_views ≡ s.other_views = omega (arith, h.0, k.0, e) in
        let laps : t.lap ≡ s.lap = omega (arith, h.1, k.1, f) in
        let first = h.2 views laps in
        let second = k.2 (e ∙ sym views) (f ∙ sym laps) in
        (second.0 ++ first.0, second.1 ∙ ap (λ (xs : List Entry). second.0 ++ xs) first.1 ∙ sym (append_assoc second.0 first.0 s.history))),
    (λ e.
        let views : t.other_views ≡ s.other_views = omega (arith, h.0, k.0, e) in
        ⊎_elim (λ is. ⊎_elim (λ was. inl (is ∙ was)) (λ none. inr (is ∙ none)) (h.3 views)) (λ none. inr none) (k.3 (e ∙ sym views))),
  )

  abbrev Keeps : Reopening V → Type 0
  Keeps again = (f : Flight) (w : Wanted) (s : State V) → Stays s (again f w s).state

  under_unit_same : (u : CutUnit) (cut : ArmedCut) (cuts : List ArmedCut) (n : ℕ) (s : State V) → Same s (under_unit u cut cuts n s).state
  under_unit_same Sync cut cuts n s = choose (λ (o : Offer V). Same s o.state) (nat_le cut.count n) _ _ (λ _. (refl, refl, refl, refl)) (λ _. (refl, refl, refl, refl))
  under_unit_same Call cut cuts n s = choose (λ (o : Offer V). Same s o.state) (is_head s.falls s.offers) _ _ (λ _. (refl, refl, refl, refl)) (λ _. (refl, refl, refl, refl))

  under_cuts_same : (cuts : List ArmedCut) (n : ℕ) (s : State V) → Same s (under_cuts cuts n s).state
  under_cuts_same [] n s = (refl, refl, refl, refl)
  under_cuts_same (cut ∷ cuts) n s = under_unit_same cut.unit cut cuts n s

  unless_same : (b : Bool) (n : ℕ) (s : State V) → Same s (unless_broken b n s).state
  unless_same true n s = (refl, refl, refl, refl)
  unless_same false n s = under_cuts_same s.armed n s

  offer_stays : (n : ℕ) (s : State V) → Stays s (offer n s).state
  offer_stays n s = of_same s (offer n s).state (unless_same (is_broken s.broken_at (s.offers + 1)) n (counted n s))

  -- ================ what an opening makes of the history

  one_entry : (s : State V) (e : Entry) → Stays s (with_entry M s e)
  one_entry s e = (omega arith, omega arith, (λ views laps. (e ∷ [], refl)), (λ views. inl refl))

  other_view : (v : V) (s : State V) → Stays s (unexplained v s)
  other_view v s = (omega arith, omega arith, (λ views laps. absurd (omega (arith, views))), (λ views. absurd (omega (arith, views))))

  another_setup : (s : State V) → Stays s (of_another s)
  another_setup s = (omega arith, omega arith, (λ views laps. absurd (omega (arith, views))), (λ views. absurd (omega (arith, views))))

  one_lap : (s : State V) → Stays s (cleared M s)
  one_lap s = (omega arith, omega arith, (λ views laps. absurd (omega (arith, laps))), (λ views. inr refl))

  resolved_stays : (f : Flight) (v : V) (s : State V) → Stays s (resolved M f v s)
  unfolding resolved
  resolved_stays Nothing v s = choose (λ (u : State V). Stays s u) (M.same v s.view) s (unexplained v s) (λ _. itself s) (λ _. other_view v s)
  resolved_stays (Recording e) v s =
      choose (λ (u : State V). Stays s u) (M.same v s.view) s (if M.same v (M.effect s.view e) then with_entry M s e else unexplained v s) (λ _. itself s)
      (λ _. choose (λ (u : State V). Stays s u) (M.same v (M.effect s.view e)) (with_entry M s e) (unexplained v s) (λ _. one_entry s e) (λ _. other_view v s))
  resolved_stays Making v s =
      choose (λ (u : State V). Stays s u) (M.same v M.empty) (cleared M s) (if M.same v s.view then s else unexplained v s) (λ _. one_lap s)
      (λ _. choose (λ (u : State V). Stays s u) (M.same v s.view) s (unexplained v s) (λ _. itself s) (λ _. other_view v s))

  recorded_stays : (again : Reopening V) → Keeps again → (e : Entry) (fate : Fate) (s : State V) → Stays s (recorded M again e fate s).state
  recorded_stays again K e Whole s = one_entry s e
  recorded_stays again K e Fell s = K (Recording e) (Answer (record { number = e.number; event = e.event })) s
  recorded_stays again K e Broke s = itself s

  record_stays : (again : Reopening V) → Keeps again → (e : Entry) (s : State V) → Stays s (record_entry M again e s).state
  record_stays again K e s =
      let o = offer syncs_of_event s in
      and_then s o.state (recorded M again e o.fate o.state).state (offer_stays syncs_of_event s) (recorded_stays again K e o.fate o.state)

  answered_by_stays : (B : Blocks) (again : Reopening V) → Keeps again → (e : Numbered) (a : Stepped) (s : State V) → Stays s (answered_by M B again e a s).state
  answered_by_stays B again K e (Stepped.New reply) s = record_stays again K (entry_of M B s.lap s.view e) s
  answered_by_stays B again K e (Stepped.Again reply) s = itself s
  answered_by_stays B again K e (Stepped.OutOfStep expected) s = itself s
  answered_by_stays B again K e Stepped.HistoryFull s = itself s

  answered_stays : (B : Blocks) (again : Reopening V) → Keeps again → (e : Numbered) (s : State V) → Stays s (answered M B again e s).state
  unfolding answered
  answered_stays B again K e s = answered_by_stays B again K e (answer M s.view e) s

  resumed_stays : (B : Blocks) (again : Reopening V) → Keeps again → (w : Wanted) (s : State V) → Stays s (resumed M B again w s).state
  resumed_stays B again K Done s = itself s
  resumed_stays B again K (Answer e) s = answered_stays B again K e s
  resumed_stays B again K Cleared s = itself s

  started_stays : (B : Blocks) (again : Reopening V) → Keeps again → (r : Repair) (w : Wanted) (fate : Fate) (s : State V) → Stays s (started M B again r w fate s).state
  started_stays B again K r w Whole s =
      let on = with_entry M s (start_entry M B s) in
      and_then s on (resumed M B again w on).state (one_entry s (start_entry M B s)) (resumed_stays B again K w on)
  started_stays B again K r w Fell s = K (Recording (start_entry M B s)) (still_wanted w) s
  started_stays B again K r w Broke s = itself s

  full_stays : (B : Blocks) (again : Reopening V) → Keeps again → (w : Wanted) (fate : Fate) (s : State V) → Stays s (opened_full M B again w fate s).state
  full_stays B again K w Whole s = resumed_stays B again K w s
  full_stays B again K w Fell s = K Nothing (still_wanted w) s
  full_stays B again K w Broke s = itself s

  opened_stays : (B : Blocks) (again : Reopening V) → Keeps again → (r : Repair) (w : Wanted) (s : State V) → Stays s (opened M B again r w s).state
  unfolding opened
  opened_stays B again K r w s =
      choose (λ (t : Part V). Stays s t.state) (is_full M s.view) _ _
      (λ _. let o = offer (syncs_of_repair r) s in and_then s o.state (opened_full M B again w o.fate o.state).state (offer_stays (syncs_of_repair r) s) (full_stays B again K w o.fate o.state))
      (λ _. let o = offer (syncs_of_repair r + syncs_of_event) s in and_then s o.state (started M B again r w o.fate o.state).state (offer_stays (syncs_of_repair r + syncs_of_event) s) (started_stays B again K r w o.fate o.state))

  made_stays : (again : Reopening V) → Keeps again → (fate : Fate) (s : State V) → Stays s (made M again fate s).state
  made_stays again K Whole s = and_then s (turned_off (cleared M s)) (again Nothing Done (turned_off (cleared M s))).state (one_lap s) (K Nothing Done (turned_off (cleared M s)))
  made_stays again K Fell s = K Making Cleared s
  made_stays again K Broke s = itself s

  make_stays : (again : Reopening V) → Keeps again → (s : State V) → Stays s (make M again s).state
  make_stays again K s =
      let o = offer syncs_of_making s in
      and_then s o.state (made M again o.fate o.state).state (offer_stays syncs_of_making s) (made_stays again K o.fate o.state)

  locked_stays : (again : Reopening V) → Keeps again → (w : Wanted) (s : State V) → Stays s (locked_with M again w s).state
  locked_stays again K Done s = itself s
  locked_stays again K (Answer e) s = itself s
  locked_stays again K Cleared s = make_stays again K s

  found_stays : (B : Blocks) (again : Reopening V) → Keeps again → (sp : Spelled V) (f : Found) (fl : Flight) (w : Wanted) (s : State V) → Stays s (found_open M B again sp f fl w s).state
  found_stays B again K Unreadable f fl w s = and_then s (locked fl s) (locked_with M again w (locked fl s)).state (of_same s (locked fl s) (refl, refl, refl, refl)) (locked_stays again K w (locked fl s))
  found_stays B again K (Foreign kept) f fl w s = another_setup s
  found_stays B again K (Shows v) f fl w s =
      let u = resolved M fl v (turned_on s) in
      and_then s u (opened M B again (repair_needed f) w u).state (resolved_stays fl v (turned_on s)) (opened_stays B again K (repair_needed f) w u)

  reopen_stays : (B : Blocks) (starts : List (Start V)) → Keeps (reopen M B starts)
  unfolding reopen
  reopen_stays B [] fl w s = itself s
  reopen_stays B (start ∷ starts) fl w s = found_stays B (reopen M B starts) (reopen_stays B starts) (opens M start.boots) start.found fl w (powered start starts s)

  on_power : (B : Blocks) → Keeps (power_on M B)
  on_power B fl w s = reopen_stays B s.starts fl w s

  -- ================ items and lines

  below_stays : (s : State V) (t : Part V) → Stays s t.state → Stays s (below_limit s t).state
  below_stays s t k = choose (λ (t : Part V). Stays s t.state) (at_limit s) _ _ (λ _. itself s) (λ _. k)

  trial_stays : (s : State V) (t : Part V) → Stays s t.state → Stays s (in_trial s t).state
  trial_stays s t k = choose (λ (t : Part V). Stays s t.state) s.is_trial _ _ (λ _. k) (λ _. itself s)

  power_stays : (ph : Phase) (s : State V) (t : Part V) → Stays s t.state → Stays s (with_power ph s t).state
  power_stays On s t k = k
  power_stays Off s t k = itself s
  power_stays Locked s t k = itself s

  off_stays : (ph : Phase) (s : State V) → Stays s (off_meaning ph s).state
  off_stays On s = of_same s (turned_off s) (refl, refl, refl, refl)
  off_stays Off s = itself s
  off_stays Locked s = itself s

  alter_stays : (m : Mask) (ph : Phase) (s : State V) → Stays s (alter_meaning m ph s).state
  alter_stays m On s = itself s
  alter_stays m Off s = of_same s (alter_meaning m Off s).state (refl, refl, refl, refl)
  alter_stays m Locked s = itself s

  on_stays : (B : Blocks) (ph : Phase) (s : State V) → Stays s (on_meaning M B ph s).state
  on_stays B On s = itself s
  on_stays B Off s = below_stays s (power_on M B Nothing Done s) (on_power B Nothing Done s)
  on_stays B Locked s = itself s

  clear_stays : (B : Blocks) (ph : Phase) (s : State V) → Stays s (clear_meaning M B ph s).state
  clear_stays B On s = itself s
  clear_stays B Off s = itself s
  clear_stays B Locked s = below_stays s (make M (power_on M B) s) (make_stays (power_on M B) (on_power B) s)

  event_stays : (B : Blocks) (e : Numbered) (s : State V) → Stays s (event_meaning M B e s).state
  event_stays B e s = power_stays s.phase s (answered M B (power_on M B) e s) (answered_stays B (power_on M B) (on_power B) e s)

  again_stays : (d : Device) (s : State V) → Stays s (again_meaning M d s).state
  again_stays d s = choose (λ (t : Part V). Stays s t.state) (M.last s.view d == 0) _ _ (λ _. itself s) (λ _. itself s)

  item_stays : (B : Blocks) (i : Item) (s : State V) → Stays s (item_meaning M B i s).state
  unfolding item_meaning
  item_stays B Item.Skip s = itself s
  item_stays B (Item.Event event) s = event_stays B (next_numbered M event s.view) s
  item_stays B (Item.OrderEvent kind order) s = event_stays B (next_numbered M (order_event kind (order_of M order s.view)) s.view) s
  item_stays B (Item.Again d) s = power_stays s.phase s (again_meaning M d s) (again_stays d s)
  item_stays B (Item.As number event) s = event_stays B (record { number = number; event = event }) s
  item_stays B Item.Off s = trial_stays s (off_meaning s.phase s) (off_stays s.phase s)
  item_stays B Item.On s = trial_stays s (on_meaning M B s.phase s) (on_stays B s.phase s)
  item_stays B (Item.Cut unit count torn) s =
      let t = prints (codes "armed\n") (record s { armed = s.armed ++ record { unit = unit; count = count; torn = torn } ∷ [] }) in
      trial_stays s (below_limit s t) (below_stays s t (of_same s t.state (refl, refl, refl, refl)))
  item_stays B (Item.Alter side at mask) s =
      trial_stays s (alter_meaning (record { side = side; place = at; mask = mask }) s.phase s) (alter_stays (record { side = side; place = at; mask = mask }) s.phase s)
  item_stays B Item.Clear s = clear_stays B s.phase s
  item_stays B (Item.Show what) s = power_stays s.phase s (prints (M.text what s.view) s) (itself s)

  goes_stays : (s : State V) (o : Outcome) (t : Part V) (next : State V → Part V) → Stays s t.state → ((u : State V) → Stays u (next u).state) → Stays s (goes_on o t next).state
  goes_stays s Goes t next h f = and_then s t.state (next t.state).state h (f t.state)
  goes_stays s Stops t next h f = h
  goes_stays s Differs t next h f = h
  goes_stays s Breaks t next h f = h

  line_stays : (B : Blocks) (l : Option Item) (s : State V) → Stays s (line_meaning M B l s).state
  line_stays B None s = itself s
  line_stays B (Some i) s =
      choose (λ (t : Part V). Stays s t.state) (nat_lt s.lines MOST_LINES) _ _
      (λ _. goes_stays s (item_meaning M B i s).outcome (item_meaning M B i s) one_more (item_stays B i s) (λ u. of_same u (one_more u).state (refl, refl, refl, refl)))
      (λ _. itself s)

  lines_stay : (B : Blocks) (ls : List (Option Item)) (s : State V) → Stays s (lines_meaning M B ls s).state
  lines_stay B [] s = itself s
  lines_stay B (l ∷ ls) s = goes_stays s (line_meaning M B l s).outcome (line_meaning M B l s) (λ u. lines_meaning M B ls u) (line_stays B l s) (λ u. lines_stay B ls u)

  pub nothing_lost : (B : Blocks) → NothingLost M B
  nothing_lost B earlier later falls starts ends_at goes =
      let first = trial_meaning M B earlier falls starts ends_at in
      let whole = run_append M B earlier later (unopened M true falls starts ends_at) in
      let rest = lines_stay B later first.state in
      let is : (trial_meaning M B (earlier ++ later) falls starts ends_at).state ≡ (lines_meaning M B later first.state).state =
      ap (λ (t : Part V). t.state) whole ∙ state_of_goes first.outcome first (λ u. lines_meaning M B later u) goes in
      let stays = subst (λ (t : State V). Stays first.state t) (sym is) rest in
      record { views = stays.0; laps = stays.1; history = stays.2 }

  -- the history begins with the empty view, unless a view was found that no order of writing explains
  pub begins_empty : (B : Blocks) → BeginsEmpty M B
  begins_empty B lines falls starts broken_at none =
      let first = unopened M true falls starts broken_at in
      let opened = goes_stays first (power_on M B Nothing Done first).outcome (power_on M B Nothing Done first) (λ u. lines_meaning M B lines u) (on_power B Nothing Done first) (λ u. lines_stay B lines u) in
      ⊎_elim (λ is. is) (λ is. is) (opened.3 none)
