-- A run that ends in the next offer, an event that has to be new, and a repeat.
use Rattle.std.proofs.Common.{◌≡◌, ◌∙◌, ap, sym, refl, ℕ, ◌+◌, ◌≤◌, ◌<◌, ◌==◌, Bool, true, false, not, ◌&&◌, if◌then◌else◌, arith, Some}
use Rattle.std.proofs.lemmas.Bool.Decides.{nat_tests}
use Rattle.std.specs.Prelude.{codes}
use Rattle.gd_base.specs.declared.device.Device.{Device}
use Rattle.gd_base.specs.declared.refusal.Reply.{Reply}
use Rattle.gd_base.specs.declared.step.Numbered.{Numbered}
use Rattle.gd_base.specs.declared.step.Stepped.{Stepped}
use Rattle.gd_base.specs.Judging.Answer.{answer, is_full, is_new}
use Rattle.gd_base.specs.Histories.Entry.{device_of}
use Rattle.gd_base.specs.Judging.Machine.{Machine, Blocks}
use Rattle.gd_cabinet.specs.Answers.{syncs_of}
use Rattle.gd_script.specs.declared.item.Item.{Item}
use Rattle.gd_top.specs.Code.Standing.{Standing, Later, EndsInNone, at}
use Rattle.gd_top.specs.Report.Lines.{answer_line, none_line}
use Rattle.gd_top.specs.Run.Items.{event_meaning, item_meaning}
use Rattle.gd_top.specs.Run.Offers.{is_broken}
use Rattle.gd_top.specs.Run.Openings.{power_on}
use Rattle.gd_top.specs.Run.State.{prints}
use Rattle.gd_top.proofs.RunLemmas.Equations.{again_is, answered_again}
use Rattle.gd_top.proofs.RunLemmas.Standings.{open_stand}

same_number : (n : ℕ) → (n == n) ≡ true
same_number n = grind (arith, nat_tests)

not_it : (m n : ℕ) → n < m → (m == n) ≡ false
not_it m n lt = grind (arith, nat_tests, lt)

-- a run that ends in the next offer doesn't end before
pub ends_next : (n : ℕ) → EndsInNone (Some (n + 1)) n
ends_next n m le = not_it (n + 1) m (omega (arith, le))

pub is_next : (n : ℕ) → is_broken (Some (n + 1)) (n + 1) ≡ true
is_next n = same_number (n + 1)

-- where a call failed, fewer syncs than those of the event were made: so it was a new one
pub failed_new : (a : Stepped) (before now : ℕ) → now < before + syncs_of (is_new a) → before ≤ now → is_new a ≡ true
failed_new (Stepped.New reply) before now few more = refl
failed_new (Stepped.Again reply) before now few more = absurd (omega (arith, few, more))
failed_new (Stepped.OutOfStep expected) before now few more = absurd (omega (arith, few, more))
failed_new Stepped.HistoryFull before now few more = absurd (omega (arith, few, more))

pub new_reply : (a : Stepped) → is_new a ≡ true → (reply : Reply) × (a ≡ Stepped.New reply)
new_reply (Stepped.New reply) new = (reply, refl)
new_reply (Stepped.Again reply) new = absurd (cc new)
new_reply (Stepped.OutOfStep expected) new = absurd (cc new)
new_reply Stepped.HistoryFull new = absurd (cc new)

module _ {V : Type 0} (M : Machine V) (B : Blocks) (lap : ℕ) where
  is_some : (n : ℕ) → (n ≡ 0 → ⊥) → (n == 0) ≡ false
  is_some n some = grind (arith, nat_tests, some)

  repeats : (n last : ℕ) → n ≡ last → (last ≡ 0 → ⊥) → (not (last == 0) && (n == last)) ≡ true
  repeats n last number some =
      let other : (last == 0) ≡ false = is_some last some in
      let same : (n == last) ≡ true = grind (arith, nat_tests, number) in
      ap (λ (b : Bool). not b && (n == last)) other ∙ same

  repeated : (v : V) (e : Numbered) → e.number ≡ M.last v (device_of e.event) → (M.last v (device_of e.event) ≡ 0 → ⊥) → answer M v e ≡ Stepped.Again (M.kept v (device_of e.event))
  unfolding answer
  repeated v e number some =
      let d = device_of e.event in
      ap (λ (b : Bool). if b then Stepped.Again (M.kept v d)
      else (if not (e.number == M.last v d + 1) then Stepped.OutOfStep (M.last v d + 1) else (if is_full M v then Stepped.HistoryFull else Stepped.New (M.rule v e.event))))
      (repeats e.number (M.last v d) number some)

  again_of : (v : V) (e : Numbered) → e.number ≡ M.last v (device_of e.event) → (M.last v (device_of e.event) ≡ 0 → ⊥) → (s : Standing V) (x : Later V)
      → item_meaning M B (Item.Again (device_of e.event)) (at (open_stand v lap s) x) ≡ event_meaning M B e (at (open_stand v lap s) x)
  again_of v e number some s x =
      let d = device_of e.event in
      let u = at (open_stand v lap s) x in
      again_is M B d u
      ∙ ap (λ (b : Bool). if b then prints (none_line d) u else prints (answer_line (codes "again") d (M.last v d) (M.kept v d) (M.count v)) u) (is_some (M.last v d) some)
      ∙ ap (λ (n : ℕ). prints (answer_line (codes "again") d n (M.kept v d) (M.count v)) u) (sym number)
      ∙ sym (answered_again M B (power_on M B) e u (M.kept v d) (repeated v e number some))

  -- the last number told once more gets the kept reply
  pub again_tells : (v : V) (d : Device) (e : Numbered) → device_of e.event ≡ d → e.number ≡ M.last v d → (M.last v d ≡ 0 → ⊥) → (s : Standing V) (x : Later V)
      → item_meaning M B (Item.Again d) (at (open_stand v lap s) x) ≡ event_meaning M B e (at (open_stand v lap s) x)
  again_tells v d e device number some s x =
      ap (λ (b : Device). item_meaning M B (Item.Again b) (at (open_stand v lap s) x)) (sym device)
      ∙ again_of v e (number ∙ ap (M.last v) (sym device)) (λ none. some (ap (M.last v) (sym device) ∙ none)) s x

  -- a device that has told nothing
  pub none_tells : (v : V) (d : Device) → M.last v d ≡ 0 → (s : Standing V) (x : Later V) → item_meaning M B (Item.Again d) (at (open_stand v lap s) x) ≡ prints (none_line d) (at (open_stand v lap s) x)
  none_tells v d none s x = again_is M B d (at (open_stand v lap s) x) ∙ ap (λ (b : Bool). if b then prints (none_line d) (at (open_stand v lap s) x) else prints (answer_line (codes "again") d (M.last v d) (M.kept v d) (M.count v)) (at (open_stand v lap s) x)) (is_none (M.last v d) none)
    where
      is_none : (n : ℕ) → n ≡ 0 → (n == 0) ≡ true
      is_none n e = grind (arith, nat_tests, e)
