-- One equation for each case of the definitions that stay shut.
use Rattle.std.proofs.Common.{◌≡◌, ℕ, ◌+◌, Bool, if◌then◌else◌, List, [], ◌∷◌, ◌++◌, Option, refl, ap}
use Rattle.std.specs.Prelude.{codes}
use Rattle.gd_base.specs.declared.device.Device.{Device}
use Rattle.gd_base.specs.declared.event.Event.{Event}
use Rattle.gd_base.specs.declared.refusal.Reply.{Reply}
use Rattle.gd_base.specs.declared.step.Numbered.{Numbered}
use Rattle.gd_base.specs.declared.step.Stepped.{Stepped}
use Rattle.gd_base.specs.declared.step.What.{What}
use Rattle.gd_base.specs.Judging.Answer.{answer, entry_of}
use Rattle.gd_base.specs.Histories.Entry.{device_of}
use Rattle.gd_base.specs.Judging.Machine.{Machine, Blocks}
use Rattle.gd_base.specs.Payloads.LoadedView.{opens}
use Rattle.gd_disk.specs.declared.disk.CutUnit.{CutUnit}
use Rattle.gd_script.specs.Items.{order_event}
use Rattle.gd_script.specs.declared.item.Item.{Item}
use Rattle.gd_script.specs.declared.item.OrderWord.{OrderWord}
use Rattle.gd_disk.specs.declared.side.Side.{Side}
use Rattle.gd_top.specs.Run.Items.{item_meaning, event_meaning, next_numbered, order_of, again_meaning, with_power, in_trial, below_limit, off_meaning, on_meaning, alter_meaning, clear_meaning}
use Rattle.gd_top.specs.Report.Lines.{answer_line, step_line, full_line, power_line}
use Rattle.gd_top.specs.Run.Openings.{Reopening, Wanted, answered, answered_by, record_entry, reopen, found_open, powered, opened, opened_full, started, resolved, unexplained}
use Rattle.gd_top.specs.Run.Offers.{offer, syncs_of_event}
use Rattle.gd_store.specs.Repair.{Repair, syncs_of_repair}
use Rattle.gd_base.specs.Judging.Answer.{is_full}
use Rattle.gd_top.specs.Run.State.{Start, State, Flight, Nothing, prints, breaks, before}

-- ================ items

pub skip_is : {V : Type 0} (M : Machine V) (B : Blocks) (s : State V) → item_meaning M B Item.Skip s ≡ prints [] s
unfolding item_meaning
skip_is M B s = refl

pub event_is : {V : Type 0} (M : Machine V) (B : Blocks) (event : Event) (s : State V) → item_meaning M B (Item.Event event) s ≡ event_meaning M B (next_numbered M event s.view) s
unfolding item_meaning
event_is M B event s = refl

pub order_is : {V : Type 0} (M : Machine V) (B : Blocks) (kind : OrderWord) (order : Option ℕ) (s : State V)
    → item_meaning M B (Item.OrderEvent kind order) s ≡ event_meaning M B (next_numbered M (order_event kind (order_of M order s.view)) s.view) s
unfolding item_meaning
order_is M B kind order s = refl

pub again_is : {V : Type 0} (M : Machine V) (B : Blocks) (device : Device) (s : State V) → item_meaning M B (Item.Again device) s ≡ with_power s.phase s (again_meaning M device s)
unfolding item_meaning
again_is M B device s = refl

pub as_is : {V : Type 0} (M : Machine V) (B : Blocks) (number : ℕ) (event : Event) (s : State V)
    → item_meaning M B (Item.As number event) s ≡ event_meaning M B (record { number = number; event = event }) s
unfolding item_meaning
as_is M B number event s = refl

pub off_is : {V : Type 0} (M : Machine V) (B : Blocks) (s : State V) → item_meaning M B Item.Off s ≡ in_trial s (off_meaning s.phase s)
unfolding item_meaning
off_is M B s = refl

pub on_is : {V : Type 0} (M : Machine V) (B : Blocks) (s : State V) → item_meaning M B Item.On s ≡ in_trial s (on_meaning M B s.phase s)
unfolding item_meaning
on_is M B s = refl

pub cut_is : {V : Type 0} (M : Machine V) (B : Blocks) (unit : CutUnit) (count torn : ℕ) (s : State V)
    → item_meaning M B (Item.Cut unit count torn) s
    ≡ in_trial s (below_limit s (prints (codes "armed\n") (record s { armed = s.armed ++ record { unit = unit; count = count; torn = torn } ∷ [] })))
unfolding item_meaning
cut_is M B unit count torn s = refl

pub alter_is : {V : Type 0} (M : Machine V) (B : Blocks) (side : Side) (at mask : ℕ) (s : State V)
    → item_meaning M B (Item.Alter side at mask) s ≡ in_trial s (alter_meaning (record { side = side; place = at; mask = mask }) s.phase s)
unfolding item_meaning
alter_is M B side at mask s = refl

pub clear_is : {V : Type 0} (M : Machine V) (B : Blocks) (s : State V) → item_meaning M B Item.Clear s ≡ clear_meaning M B s.phase s
unfolding item_meaning
clear_is M B s = refl

pub show_is : {V : Type 0} (M : Machine V) (B : Blocks) (what : What) (s : State V) → item_meaning M B (Item.Show what) s ≡ with_power s.phase s (prints (M.text what s.view) s)
unfolding item_meaning
show_is M B what s = refl

-- ================ an event, by its answer

pub answered_so : {V : Type 0} (M : Machine V) (B : Blocks) (again : Reopening V) (e : Numbered) (s : State V) → answered M B again e s ≡ answered_by M B again e (answer M s.view e) s
unfolding answered
answered_so M B again e s = refl

pub answered_new : {V : Type 0} (M : Machine V) (B : Blocks) (again : Reopening V) (e : Numbered) (s : State V) (reply : Reply) → answer M s.view e ≡ Stepped.New reply
    → answered M B again e s ≡ record_entry M again (entry_of M B s.lap s.view e) s
unfolding answered
answered_new M B again e s reply h = ap (λ (a : Stepped). answered_by M B again e a s) h

pub answered_again : {V : Type 0} (M : Machine V) (B : Blocks) (again : Reopening V) (e : Numbered) (s : State V) (reply : Reply) → answer M s.view e ≡ Stepped.Again reply
    → answered M B again e s ≡ prints (answer_line (codes "again") (device_of e.event) e.number reply (M.count s.view)) s
unfolding answered
answered_again M B again e s reply h = ap (λ (a : Stepped). answered_by M B again e a s) h

pub answered_step : {V : Type 0} (M : Machine V) (B : Blocks) (again : Reopening V) (e : Numbered) (s : State V) (expected : ℕ) → answer M s.view e ≡ Stepped.OutOfStep expected
    → answered M B again e s ≡ prints (step_line (device_of e.event) expected) s
unfolding answered
answered_step M B again e s expected h = ap (λ (a : Stepped). answered_by M B again e a s) h

pub answered_full : {V : Type 0} (M : Machine V) (B : Blocks) (again : Reopening V) (e : Numbered) (s : State V) → answer M s.view e ≡ Stepped.HistoryFull
    → answered M B again e s ≡ prints (full_line (device_of e.event)) s
unfolding answered
answered_full M B again e s h = ap (λ (a : Stepped). answered_by M B again e a s) h

-- ================ power-ons

pub no_start : {V : Type 0} (M : Machine V) (B : Blocks) (flight : Flight) (wanted : Wanted) (s : State V) → reopen M B [] flight wanted s ≡ breaks flight s
unfolding reopen
no_start M B flight wanted s = refl

pub next_start : {V : Type 0} (M : Machine V) (B : Blocks) (start : Start V) (starts : List (Start V)) (flight : Flight) (wanted : Wanted) (s : State V)
    → reopen M B (start ∷ starts) flight wanted s
    ≡ before (power_line (s.power_ons + 1) start.found)
    (found_open M B (reopen M B starts) (opens M start.boots) start.found flight wanted (powered start starts s))
unfolding reopen
next_start M B start starts flight wanted s = refl

-- ================ openings

pub opened_is : {V : Type 0} (M : Machine V) (B : Blocks) (again : Reopening V) (repair : Repair) (wanted : Wanted) (s : State V) (full : Bool) → is_full M s.view ≡ full
    → opened M B again repair wanted s
    ≡ (if full then (let o = offer (syncs_of_repair repair) s in opened_full M B again wanted o.fate o.state)
    else (let o = offer (syncs_of_repair repair + syncs_of_event) s in started M B again repair wanted o.fate o.state))
unfolding opened
opened_is M B again repair wanted s full e =
    ap (λ (b : Bool). if b then (let o = offer (syncs_of_repair repair) s in opened_full M B again wanted o.fate o.state)
    else (let o = offer (syncs_of_repair repair + syncs_of_event) s in started M B again repair wanted o.fate o.state)) e

pub resolved_nothing : {V : Type 0} (M : Machine V) (v : V) (s : State V) → resolved M Nothing v s ≡ (if M.same v s.view then s else unexplained v s)
unfolding resolved
resolved_nothing M v s = refl
