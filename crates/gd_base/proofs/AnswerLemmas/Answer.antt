-- For callers: what an answer tells of the event: which of the four it is, exactly.
use Rattle.std.proofs.Common.{◌≡◌, ℕ, ◌+◌, ◌<◌, ◌≤◌, ◌^◌, ◌==◌, nat_le, not, ◌&&◌, Bool, true, false, refl, ap, ◌∙◌, arith, if◌then◌else◌}
use Rattle.std.proofs.lemmas.Bool.Decides.{nat_tests}
use Rattle.gd_base.specs.declared.event.Event.{Event}
use Rattle.gd_base.specs.declared.refusal.Reply.{Reply}
use Rattle.gd_base.specs.declared.setup.Setup.{Setup}
use Rattle.gd_base.specs.Judging.Draws.{is_drawn}
use Rattle.gd_base.specs.Judging.Rule.{rule}
use Rattle.gd_base.specs.Histories.View.{View}
use Rattle.gd_base.specs.declared.step.Numbered.{Numbered}
use Rattle.gd_base.specs.declared.step.Stepped.{Stepped}
use Rattle.gd_base.specs.Judging.Answer.{answer, entry_of, is_full}
use Rattle.gd_base.specs.Histories.Entry.{Entry, device_of}
use Rattle.gd_base.specs.Judging.Legal.{IsNext, draw_of}
use Rattle.gd_base.specs.Judging.Machine.{Machine, Blocks}

-- the four answers by three tests
abbrev pub choice : Bool → Bool → Bool → Reply → ℕ → Reply → Stepped
choice is_last is_other is_full kept expected reply =
    if is_last then Stepped.Again kept else if is_other then Stepped.OutOfStep expected else if is_full then Stepped.HistoryFull else Stepped.New reply

new_by : (b c d : Bool) (k r : Reply) (n : ℕ) (reply : Reply) → choice b c d k n r ≡ Stepped.New reply → (b ≡ false) × (c ≡ false) × (d ≡ false) × (r ≡ reply)
new_by true c d k r n reply h = absurd (cc h)
new_by false true d k r n reply h = absurd (cc h)
new_by false false true k r n reply h = absurd (cc h)
new_by false false false k r n reply h = (refl, refl, refl, cc h)

pub is_number : (m n : ℕ) → not (m == n) ≡ false → m ≡ n
is_number m n h = grind (arith, nat_tests, h)

has_room : (n : ℕ) → nat_le (2 ^ 36) n ≡ false → n < 2 ^ 36
has_room n h = grind (arith, nat_tests, h)

-- what is known of a new event
pub record IsNew {V : Type 0} (M : Machine V) (v : V) (e : Numbered) (reply : Reply) : Type 0 where
  pub number : e.number ≡ M.last v (device_of e.event) + 1
  pub room : M.count v < 2 ^ 36
  pub judged : M.rule v e.event ≡ reply

pub new_event : {V : Type 0} (M : Machine V) (v : V) (e : Numbered) (reply : Reply) → answer M v e ≡ Stepped.New reply → IsNew M v e reply
unfolding answer
new_event M v e reply h =
    let last = M.last v (device_of e.event) in
    let told = new_by (not (last == 0) && (e.number == last)) (not (e.number == last + 1)) (is_full M v) (M.kept v (device_of e.event)) (M.rule v e.event) (last + 1) reply h in
    record { number = is_number e.number (last + 1) told.1; room = has_room (M.count v) told.2; judged = told.3 }

-- its entry is the next one
pub new_entry : {V : Type 0} (M : Machine V) (blocks : Blocks) (lap : ℕ) (v : V) (e : Numbered) (reply : Reply) → answer M v e ≡ Stepped.New reply
    → IsNext M blocks lap v (entry_of M blocks lap v e)
new_entry M blocks lap v e reply h =
    let known = new_event M v e reply h in
    record {
      room = known.room;
      made = ap (λ (n : ℕ). let x : Entry = record { number = n; event = e.event; draw = draw_of M blocks lap v e.event; reply = M.rule v e.event } in x) known.number;
    }

-- ================ the four, by their causes

pub chosen : (b c d b2 c2 d2 : Bool) (k r : Reply) (n : ℕ) → b ≡ b2 → c ≡ c2 → d ≡ d2 → choice b c d k n r ≡ choice b2 c2 d2 k n r
chosen b c d b2 c2 d2 k r n p q s = ap (λ (x : Bool). choice x c d k n r) p ∙ ap (λ (x : Bool). choice b2 x d k n r) q ∙ ap (λ (x : Bool). choice b2 c2 x k n r) s

pub answer_new : {V : Type 0} (M : Machine V) (v : V) (e : Numbered) → e.number ≡ M.last v (device_of e.event) + 1 → M.count v < 2 ^ 36
    → answer M v e ≡ Stepped.New (M.rule v e.event)
unfolding answer
answer_new M v e number room =
    let last = M.last v (device_of e.event) in
    chosen (not (last == 0) && (e.number == last)) (not (e.number == last + 1)) (is_full M v) false false false (M.kept v (device_of e.event)) (M.rule v e.event) (last + 1)
    (grind (arith, nat_tests, number)) (grind (arith, nat_tests, number)) (grind (arith, nat_tests, room))

pub answer_full : {V : Type 0} (M : Machine V) (v : V) (e : Numbered) → e.number ≡ M.last v (device_of e.event) + 1 → 2 ^ 36 ≤ M.count v
    → answer M v e ≡ Stepped.HistoryFull
unfolding answer
answer_full M v e number full =
    let last = M.last v (device_of e.event) in
    chosen (not (last == 0) && (e.number == last)) (not (e.number == last + 1)) (is_full M v) false false true (M.kept v (device_of e.event)) (M.rule v e.event) (last + 1)
    (grind (arith, nat_tests, number)) (grind (arith, nat_tests, number)) (grind (arith, nat_tests, full))

pub answer_again : {V : Type 0} (M : Machine V) (v : V) (e : Numbered) → e.number ≡ M.last v (device_of e.event) → 1 ≤ M.last v (device_of e.event)
    → answer M v e ≡ Stepped.Again (M.kept v (device_of e.event))
unfolding answer
answer_again M v e number some =
    let last = M.last v (device_of e.event) in
    chosen (not (last == 0) && (e.number == last)) (not (e.number == last + 1)) (is_full M v) true (not (e.number == last + 1)) (is_full M v) (M.kept v (device_of e.event)) (M.rule v e.event) (last + 1)
    (grind (arith, nat_tests, number, some)) refl refl

-- ================ the start of the product's machine

-- a start is taken, and draws nothing
pub start_taken : (setup : Setup) (v : View) → rule setup v Event.Start ≡ Reply.Taken
start_taken setup v = refl

pub start_undrawn : (setup : Setup) (v : View) → is_drawn setup v Event.Start ≡ false
start_undrawn setup v = refl
