-- One legal history, in every run.
use Rattle.std.proofs.Common.{◌≡◌, ℕ, ◌+◌, ◌<◌, ◌==◌, nat_le, nat_lt, List, [], ◌∷◌, ◌++◌, Bool, true, false, None, Some, refl, sym, ap, subst, ◌∙◌, arith, if◌then◌else◌, codes}
use Rattle.std.proofs.lemmas.Bool.Decides.{nat_tests}
use Rattle.std.specs.declared.option.Option.{Option}
use Rattle.gd_base.specs.declared.device.Device.{Device}
use Rattle.gd_base.specs.declared.limits.TheConstants.{MOST_ENTRIES}
use Rattle.gd_base.specs.declared.step.Numbered.{Numbered}
use Rattle.gd_base.specs.declared.step.Stepped.{Stepped}
use Rattle.gd_base.specs.Judging.Answer.{answer, entry_of, is_full}
use Rattle.gd_base.specs.Histories.Entry.{Entry}
use Rattle.gd_base.specs.Judging.Legal.{IsLegal, IsNext, view_over}
use Rattle.gd_base.specs.Judging.Machine.{Machine, Blocks}
use Rattle.gd_base.specs.Payloads.LoadedView.{opens}
use Rattle.gd_base.specs.Payloads.Spelled.{Spelled, Shows, Foreign, Unreadable}
use Rattle.gd_base.proofs.AnswerLemmas.Answer.{new_entry}
use Rattle.gd_disk.specs.declared.disk.ArmedCut.{ArmedCut}
use Rattle.gd_disk.specs.declared.disk.CutUnit.{CutUnit}
use Rattle.gd_disk.specs.declared.disk.CutUnit.TheVariants.{Call, Sync}
use Rattle.gd_script.specs.declared.item.Item.{Item}
use Rattle.gd_script.specs.Items.{order_event}
use Rattle.gd_store.specs.Masks.{Mask}
use Rattle.gd_store.specs.declared.copy.states.Found.{Found}
use Rattle.gd_store.specs.Repair.{Repair, repair_needed, syncs_of_repair}
use Rattle.gd_top.specs.declared.script.reader.TheConstants.{MOST_LINES}
use Rattle.gd_top.specs.Run.Items.{below_limit, at_limit, in_trial, with_power, next_numbered, event_meaning, order_of, again_meaning, off_meaning, on_meaning, alter_meaning, clear_meaning, item_meaning, one_more, line_meaning, lines_meaning}
use Rattle.gd_top.specs.Claims.OneHistory.{HasLegalHistory, OneLegalHistory, OneLegalHistoryOverImages}
use Rattle.gd_top.specs.Run.Life.{of_trial, over_image, run_meaning, made_memory}
use Rattle.gd_top.specs.Run.Offers.{Fate, Whole, Fell, Broke, Offer, is_head, under_unit, under_cuts, is_broken, unless_broken, counted, offer, syncs_of_event, syncs_of_making}
use Rattle.gd_top.specs.Run.Openings.{Wanted, Done, Answer, Cleared, Reopening, unexplained, cleared, resolved, locked, recorded, record_entry, answered, answered_by, resumed, still_wanted, turned_on, turned_off, start_entry, started, opened_full, opened, made, make, locked_with, found_open, powered, reopen, power_on}
use Rattle.gd_top.specs.Run.State.{Start, State, Flight, Nothing, Recording, Making, Phase, On, Off, Locked, Outcome, Goes, Stops, Differs, Breaks, Part, prints, goes_on, with_entry}

-- what is promised, as a product
abbrev Ok : {V : Type 0} (M : Machine V) (B : Blocks) → State V → Type 0
Ok M B s = IsLegal M B s.lap s.opening s.history × (s.view ≡ view_over M s.opening s.history)

-- an entry in flight is the next one
abbrev InFlight : {V : Type 0} (M : Machine V) (B : Blocks) → Flight → State V → Type 0
InFlight M B Nothing s = Unit {0}
InFlight M B (Recording e) s = IsNext M B s.lap s.view e
InFlight M B Making s = Unit {0}

abbrev Keeps : {V : Type 0} (M : Machine V) (B : Blocks) → Reopening V → Type 0
Keeps {V} M B again = (f : Flight) (w : Wanted) (s : State V) → InFlight M B f s → Ok M B s → Ok M B (again f w s).state

-- the parts of a state that the promise speaks of
abbrev Same : {V : Type 0} → State V → State V → Type 0
Same s u = (u.lap ≡ s.lap) × (u.view ≡ s.view) × (u.opening ≡ s.opening) × (u.history ≡ s.history)

choose : {A : Type 0} (P : A → Type 0) (b : Bool) (x y : A) → (b ≡ true → P x) → (b ≡ false → P y) → P (if b then x else y)
choose P true x y f g = f refl
choose P false x y f g = g refl

ok_same : {V : Type 0} (M : Machine V) (B : Blocks) (s u : State V) → Same s u → Ok M B s → Ok M B u
ok_same {V} M B s u e h = (
  subst (λ (l : ℕ). IsLegal M B l u.opening u.history) (sym e.0)
      (subst (λ (o : V). IsLegal M B s.lap o u.history) (sym e.2)
      (subst (λ (p : List Entry). IsLegal M B s.lap s.opening p) (sym e.3) h.0)),
  e.1 ∙ (h.1 ∙ (ap (λ (o : V). view_over M o s.history) (sym e.2) ∙ ap (λ (p : List Entry). view_over M u.opening p) (sym e.3))),
)

next_same : {V : Type 0} (M : Machine V) (B : Blocks) (s u : State V) (e : Entry) → Same s u → IsNext M B s.lap s.view e → IsNext M B u.lap u.view e
next_same {V} M B s u e h n = subst (λ (l : ℕ). IsNext M B l u.view e) (sym h.0) (subst (λ (v : V). IsNext M B s.lap v e) (sym h.1) n)

-- ================ an offer changes nothing of it

under_unit_same : {V : Type 0} (u : CutUnit) (cut : ArmedCut) (cuts : List ArmedCut) (n : ℕ) (s : State V) → Same s (under_unit u cut cuts n s).state
under_unit_same {V} Sync cut cuts n s = choose (λ (o : Offer V). Same s o.state) (nat_le cut.count n) _ _ (λ _. (refl, refl, refl, refl)) (λ _. (refl, refl, refl, refl))
under_unit_same {V} Call cut cuts n s = choose (λ (o : Offer V). Same s o.state) (is_head s.falls s.offers) _ _ (λ _. (refl, refl, refl, refl)) (λ _. (refl, refl, refl, refl))

under_cuts_same : {V : Type 0} (cuts : List ArmedCut) (n : ℕ) (s : State V) → Same s (under_cuts cuts n s).state
under_cuts_same {V} [] n s = (refl, refl, refl, refl)
under_cuts_same {V} (cut ∷ cuts) n s = under_unit_same cut.unit cut cuts n s

unless_same : {V : Type 0} (b : Bool) (n : ℕ) (s : State V) → Same s (unless_broken b n s).state
unless_same {V} true n s = (refl, refl, refl, refl)
unless_same {V} false n s = under_cuts_same s.armed n s

offer_same : {V : Type 0} (n : ℕ) (s : State V) → Same s (offer n s).state
offer_same {V} n s = unless_same (is_broken s.broken_at (s.offers + 1)) n (counted n s)

-- ================ entries and openings

entry_ok : {V : Type 0} (M : Machine V) (B : Blocks) (s : State V) (e : Entry) → IsNext M B s.lap s.view e → Ok M B s → Ok M B (with_entry M s e)
entry_ok {V} M B s e n h = ((subst (λ (v : V). IsNext M B s.lap v e) h.1 n, h.0), ap (λ (v : V). M.effect v e) h.1)

unexplained_ok : {V : Type 0} (M : Machine V) (B : Blocks) (v : V) (s : State V) → Ok M B (unexplained v s)
unexplained_ok {V} M B v s = (tt, refl)

cleared_ok : {V : Type 0} (M : Machine V) (B : Blocks) (s : State V) → Ok M B (cleared M s)
cleared_ok {V} M B s = (tt, refl)

resolved_ok : {V : Type 0} (M : Machine V) (B : Blocks) (f : Flight) (v : V) (s : State V) → InFlight M B f s → Ok M B s → Ok M B (resolved M f v s)
unfolding resolved
resolved_ok {V} M B Nothing v s n h = choose (λ (u : State V). Ok M B u) (M.same v s.view) s (unexplained v s) (λ _. h) (λ _. unexplained_ok M B v s)
resolved_ok {V} M B (Recording e) v s n h =
    choose (λ (u : State V). Ok M B u) (M.same v s.view) s (if M.same v (M.effect s.view e) then with_entry M s e else unexplained v s) (λ _. h)
    (λ _. choose (λ (u : State V). Ok M B u) (M.same v (M.effect s.view e)) (with_entry M s e) (unexplained v s) (λ _. entry_ok M B s e n h) (λ _. unexplained_ok M B v s))
resolved_ok {V} M B Making v s n h =
    choose (λ (u : State V). Ok M B u) (M.same v M.empty) (cleared M s) (if M.same v s.view then s else unexplained v s) (λ _. cleared_ok M B s)
    (λ _. choose (λ (u : State V). Ok M B u) (M.same v s.view) s (unexplained v s) (λ _. h) (λ _. unexplained_ok M B v s))

has_room : (n : ℕ) → nat_le MOST_ENTRIES n ≡ false → n < MOST_ENTRIES
has_room n e = grind (arith, nat_tests)

start_next : {V : Type 0} (M : Machine V) (B : Blocks) (s : State V) → is_full M s.view ≡ false → IsNext M B s.lap s.view (start_entry M B s)
start_next {V} M B s e = record { room = has_room (M.count s.view) e; made = refl }

recorded_ok : {V : Type 0} (M : Machine V) (B : Blocks) (again : Reopening V) → Keeps M B again → (e : Entry) (fate : Fate) (s : State V) → IsNext M B s.lap s.view e → Ok M B s → Ok M B (recorded M again e fate s).state
recorded_ok {V} M B again K e Whole s n h = entry_ok M B s e n h
recorded_ok {V} M B again K e Fell s n h = K (Recording e) (Answer (record { number = e.number; event = e.event })) s n h
recorded_ok {V} M B again K e Broke s n h = h

record_ok : {V : Type 0} (M : Machine V) (B : Blocks) (again : Reopening V) → Keeps M B again → (e : Entry) (s : State V) → IsNext M B s.lap s.view e → Ok M B s → Ok M B (record_entry M again e s).state
record_ok {V} M B again K e s n h =
    let u = (offer syncs_of_event s).state in
    let same = offer_same syncs_of_event s in
    recorded_ok M B again K e (offer syncs_of_event s).fate u (next_same M B s u e same n) (ok_same M B s u same h)

answered_by_ok : {V : Type 0} (M : Machine V) (B : Blocks) (again : Reopening V) → Keeps M B again → (e : Numbered) (a : Stepped) (s : State V) → answer M s.view e ≡ a → Ok M B s → Ok M B (answered_by M B again e a s).state
answered_by_ok {V} M B again K e (Stepped.New reply) s is h = record_ok M B again K (entry_of M B s.lap s.view e) s (new_entry M B s.lap s.view e reply is) h
answered_by_ok {V} M B again K e (Stepped.Again reply) s is h = h
answered_by_ok {V} M B again K e (Stepped.OutOfStep expected) s is h = h
answered_by_ok {V} M B again K e Stepped.HistoryFull s is h = h

answered_ok : {V : Type 0} (M : Machine V) (B : Blocks) (again : Reopening V) → Keeps M B again → (e : Numbered) (s : State V) → Ok M B s → Ok M B (answered M B again e s).state
unfolding answered
answered_ok {V} M B again K e s h = answered_by_ok M B again K e (answer M s.view e) s refl h

resumed_ok : {V : Type 0} (M : Machine V) (B : Blocks) (again : Reopening V) → Keeps M B again → (w : Wanted) (s : State V) → Ok M B s → Ok M B (resumed M B again w s).state
resumed_ok {V} M B again K Done s h = h
resumed_ok {V} M B again K (Answer e) s h = answered_ok M B again K e s h
resumed_ok {V} M B again K Cleared s h = h

started_ok : {V : Type 0} (M : Machine V) (B : Blocks) (again : Reopening V) → Keeps M B again → (r : Repair) (w : Wanted) (fate : Fate) (s : State V) → IsNext M B s.lap s.view (start_entry M B s) → Ok M B s → Ok M B (started M B again r w fate s).state
started_ok {V} M B again K r w Whole s n h = resumed_ok M B again K w (with_entry M s (start_entry M B s)) (entry_ok M B s (start_entry M B s) n h)
started_ok {V} M B again K r w Fell s n h = K (Recording (start_entry M B s)) (still_wanted w) s n h
started_ok {V} M B again K r w Broke s n h = h

full_ok : {V : Type 0} (M : Machine V) (B : Blocks) (again : Reopening V) → Keeps M B again → (w : Wanted) (fate : Fate) (s : State V) → Ok M B s → Ok M B (opened_full M B again w fate s).state
full_ok {V} M B again K w Whole s h = resumed_ok M B again K w s h
full_ok {V} M B again K w Fell s h = K Nothing (still_wanted w) s tt h
full_ok {V} M B again K w Broke s h = h

full_same : {V : Type 0} (M : Machine V) (s u : State V) → Same s u → is_full M s.view ≡ false → is_full M u.view ≡ false
full_same {V} M s u e f = ap (λ (v : V). nat_le MOST_ENTRIES (M.count v)) e.1 ∙ f

opened_ok : {V : Type 0} (M : Machine V) (B : Blocks) (again : Reopening V) → Keeps M B again → (r : Repair) (w : Wanted) (s : State V) → Ok M B s → Ok M B (opened M B again r w s).state
unfolding opened
opened_ok {V} M B again K r w s h =
    choose (λ (t : Part V). Ok M B t.state) (is_full M s.view) _ _
    (λ _. full_ok M B again K w (offer (syncs_of_repair r) s).fate (offer (syncs_of_repair r) s).state (ok_same M B s (offer (syncs_of_repair r) s).state (offer_same (syncs_of_repair r) s) h))
    (λ f. let n = syncs_of_repair r + syncs_of_event in
    let u = (offer n s).state in
    let e = offer_same n s in
    started_ok M B again K r w (offer n s).fate u (start_next M B u (full_same M s u e f)) (ok_same M B s u e h))

made_ok : {V : Type 0} (M : Machine V) (B : Blocks) (again : Reopening V) → Keeps M B again → (fate : Fate) (s : State V) → Ok M B s → Ok M B (made M again fate s).state
made_ok {V} M B again K Whole s h = K Nothing Done (turned_off (cleared M s)) tt (tt, refl)
made_ok {V} M B again K Fell s h = K Making Cleared s tt h
made_ok {V} M B again K Broke s h = h

make_ok : {V : Type 0} (M : Machine V) (B : Blocks) (again : Reopening V) → Keeps M B again → (s : State V) → Ok M B s → Ok M B (make M again s).state
make_ok {V} M B again K s h =
    made_ok M B again K (offer syncs_of_making s).fate (offer syncs_of_making s).state (ok_same M B s (offer syncs_of_making s).state (offer_same syncs_of_making s) h)

locked_ok : {V : Type 0} (M : Machine V) (B : Blocks) (again : Reopening V) → Keeps M B again → (w : Wanted) (s : State V) → Ok M B s → Ok M B (locked_with M again w s).state
locked_ok {V} M B again K Done s h = h
locked_ok {V} M B again K (Answer e) s h = h
locked_ok {V} M B again K Cleared s h = make_ok M B again K s h

flight_same : {V : Type 0} (M : Machine V) (B : Blocks) (fl : Flight) (s u : State V) → Same s u → InFlight M B fl s → InFlight M B fl u
flight_same M B Nothing s u e n = tt
flight_same M B (Recording x) s u e n = next_same M B s u x e n
flight_same M B Making s u e n = tt

found_ok : {V : Type 0} (M : Machine V) (B : Blocks) (again : Reopening V) → Keeps M B again → (sp : Spelled V) (f : Found) (fl : Flight) (w : Wanted) (s : State V) → InFlight M B fl s → Ok M B s → Ok M B (found_open M B again sp f fl w s).state
found_ok {V} M B again K Unreadable f fl w s n h = locked_ok M B again K w (locked fl s) h
found_ok {V} M B again K (Foreign kept) f fl w s n h = h
found_ok {V} M B again K (Shows v) f fl w s n h = opened_ok M B again K (repair_needed f) w (resolved M fl v (turned_on s)) (resolved_ok M B fl v (turned_on s) (flight_same M B fl s (turned_on s) (refl, refl, refl, refl) n) h)

reopen_ok : {V : Type 0} (M : Machine V) (B : Blocks) (starts : List (Start V)) → Keeps M B (reopen M B starts)
unfolding reopen
reopen_ok {V} M B [] fl w s n h = h
reopen_ok {V} M B (start ∷ starts) fl w s n h =
    found_ok M B (reopen M B starts) (reopen_ok M B starts) (opens M start.boots) start.found fl w (powered start starts s) (flight_same M B fl s (powered start starts s) (refl, refl, refl, refl) n) h

-- ================ items

below_ok : {V : Type 0} (M : Machine V) (B : Blocks) (s : State V) (t : Part V) → Ok M B s → Ok M B t.state → Ok M B (below_limit s t).state
below_ok {V} M B s t h k = choose (λ (t : Part V). Ok M B t.state) (at_limit s) _ _ (λ _. h) (λ _. k)

trial_ok : {V : Type 0} (M : Machine V) (B : Blocks) (s : State V) (t : Part V) → Ok M B s → Ok M B t.state → Ok M B (in_trial s t).state
trial_ok {V} M B s t h k = choose (λ (t : Part V). Ok M B t.state) s.is_trial _ _ (λ _. k) (λ _. h)

power_ok : {V : Type 0} (M : Machine V) (B : Blocks) (ph : Phase) (s : State V) (t : Part V) → Ok M B s → Ok M B t.state → Ok M B (with_power ph s t).state
power_ok M B On s t h k = k
power_ok M B Off s t h k = h
power_ok M B Locked s t h k = h

off_ok : {V : Type 0} (M : Machine V) (B : Blocks) (ph : Phase) (s : State V) → Ok M B s → Ok M B (off_meaning ph s).state
off_ok M B On s h = h
off_ok M B Off s h = h
off_ok M B Locked s h = h

alter_ok : {V : Type 0} (M : Machine V) (B : Blocks) (m : Mask) (ph : Phase) (s : State V) → Ok M B s → Ok M B (alter_meaning m ph s).state
alter_ok M B m On s h = h
alter_ok M B m Off s h = h
alter_ok M B m Locked s h = h

-- the power is turned on with the starts that are left
on_power : {V : Type 0} (M : Machine V) (B : Blocks) → Keeps M B (power_on M B)
on_power M B fl w s n h = reopen_ok M B s.starts fl w s n h

on_ok : {V : Type 0} (M : Machine V) (B : Blocks) (ph : Phase) (s : State V) → Ok M B s → Ok M B (on_meaning M B ph s).state
on_ok M B On s h = h
on_ok M B Off s h = below_ok M B s (power_on M B Nothing Done s) h (on_power M B Nothing Done s tt h)
on_ok M B Locked s h = h

clear_ok : {V : Type 0} (M : Machine V) (B : Blocks) (ph : Phase) (s : State V) → Ok M B s → Ok M B (clear_meaning M B ph s).state
clear_ok M B On s h = h
clear_ok M B Off s h = h
clear_ok M B Locked s h = below_ok M B s (make M (power_on M B) s) h (make_ok M B (power_on M B) (on_power M B) s h)

event_ok : {V : Type 0} (M : Machine V) (B : Blocks) (e : Numbered) (s : State V) → Ok M B s → Ok M B (event_meaning M B e s).state
event_ok M B e s h = power_ok M B s.phase s (answered M B (power_on M B) e s) h (answered_ok M B (power_on M B) (on_power M B) e s h)

again_ok : {V : Type 0} (M : Machine V) (B : Blocks) (d : Device) (s : State V) → Ok M B s → Ok M B (again_meaning M d s).state
again_ok {V} M B d s h = choose (λ (t : Part V). Ok M B t.state) (M.last s.view d == 0) _ _ (λ _. h) (λ _. h)

item_ok : {V : Type 0} (M : Machine V) (B : Blocks) (i : Item) (s : State V) → Ok M B s → Ok M B (item_meaning M B i s).state
unfolding item_meaning
item_ok M B Item.Skip s h = h
item_ok M B (Item.Event event) s h = event_ok M B (next_numbered M event s.view) s h
item_ok M B (Item.OrderEvent kind order) s h = event_ok M B (next_numbered M (order_event kind (order_of M order s.view)) s.view) s h
item_ok M B (Item.Again d) s h = power_ok M B s.phase s (again_meaning M d s) h (again_ok M B d s h)
item_ok M B (Item.As number event) s h = event_ok M B (record { number = number; event = event }) s h
item_ok M B Item.Off s h = trial_ok M B s (off_meaning s.phase s) h (off_ok M B s.phase s h)
item_ok M B Item.On s h = trial_ok M B s (on_meaning M B s.phase s) h (on_ok M B s.phase s h)
item_ok M B (Item.Cut unit count torn) s h =
    trial_ok M B s _ h (below_ok M B s (prints (codes "armed\n") (record s { armed = s.armed ++ record { unit = unit; count = count; torn = torn } ∷ [] })) h h)
item_ok M B (Item.Alter side at mask) s h =
    trial_ok M B s (alter_meaning (record { side = side; place = at; mask = mask }) s.phase s) h (alter_ok M B (record { side = side; place = at; mask = mask }) s.phase s h)
item_ok M B Item.Clear s h = clear_ok M B s.phase s h
item_ok M B (Item.Show what) s h = power_ok M B s.phase s (prints (M.text what s.view) s) h h

-- ================ lines, and whole runs

goes_ok : {V : Type 0} (M : Machine V) (B : Blocks) (o : Outcome) (t : Part V) (next : State V → Part V) → Ok M B t.state → ((s : State V) → Ok M B s → Ok M B (next s).state) → Ok M B (goes_on o t next).state
goes_ok M B Goes t next h f = f t.state h
goes_ok M B Stops t next h f = h
goes_ok M B Differs t next h f = h
goes_ok M B Breaks t next h f = h

line_ok : {V : Type 0} (M : Machine V) (B : Blocks) (l : Option Item) (s : State V) → Ok M B s → Ok M B (line_meaning M B l s).state
line_ok {V} M B None s h = h
line_ok {V} M B (Some i) s h =
    choose (λ (t : Part V). Ok M B t.state) (nat_lt s.lines MOST_LINES) _ _
    (λ _. goes_ok M B (item_meaning M B i s).outcome (item_meaning M B i s) one_more (item_ok M B i s h) (λ u k. k))
    (λ _. h)

pub lines_ok : {V : Type 0} (M : Machine V) (B : Blocks) (ls : List (Option Item)) (s : State V) → Ok M B s → Ok M B (lines_meaning M B ls s).state
lines_ok M B [] s h = h
lines_ok M B (l ∷ ls) s h = goes_ok M B (line_meaning M B l s).outcome (line_meaning M B l s) (λ u. lines_meaning M B ls u) (line_ok M B l s h) (λ u k. lines_ok M B ls u k)

run_ok : {V : Type 0} (M : Machine V) (B : Blocks) (ls : List (Option Item)) (s : State V) → Ok M B s → Ok M B (run_meaning M B ls s).state
run_ok M B ls s h = goes_ok M B (power_on M B Nothing Done s).outcome (power_on M B Nothing Done s) (λ u. lines_meaning M B ls u) (on_power M B Nothing Done s tt h) (λ u k. lines_ok M B ls u k)

-- in every trial, whatever was found and wherever the power fell
pub one_legal_history : {V : Type 0} (M : Machine V) (B : Blocks) → OneLegalHistory M B
one_legal_history M B lines falls starts broken_at =
    let h = run_ok M B lines (of_trial M falls starts broken_at) (tt, refl) in
    record { legal = h.0; seen = h.1 }

-- and in every run over an image, whatever the power-ons find
pub legal_over_image : {V : Type 0} (M : Machine V) (B : Blocks) (image : Start V) (lines : List (Option Item)) (falls : List ℕ) (starts : List (Start V)) (broken_at : Option ℕ)
    → HasLegalHistory M B (run_meaning M B lines (over_image M image falls starts broken_at)).state
legal_over_image M B image lines falls starts broken_at =
    let h = run_ok M B lines (over_image M image falls starts broken_at) (tt, refl) in
    record { legal = h.0; seen = h.1 }

pub one_legal_history_over_images : {V : Type 0} (M : Machine V) (B : Blocks) → OneLegalHistoryOverImages M B
one_legal_history_over_images M B lines image broken_at = legal_over_image M B image lines [] (image ∷ made_memory M ∷ []) broken_at
