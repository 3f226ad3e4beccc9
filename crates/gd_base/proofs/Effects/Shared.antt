-- For callers: the view after an entry, what a refused entry makes of it, and the fields that most events leave.
use Rattle.std.specs.Prelude.{◌≡◌, ℕ, ◌+◌, ◌-◌, Bool, true, false, nat_lt, if◌then◌else◌, List, [], map, take, slice_index, Option, Some, None}
use Rattle.std.proofs.Common.{ap, ◌∙◌, arith}
use Rattle.std.proofs.lemmas.Bool.Decides.{nat_tests}
use Rattle.gd_base.specs.declared.event.Event.{Event}
use Rattle.gd_base.specs.declared.records.TheConstants.{EVENTS_KEPT}
use Rattle.gd_base.specs.declared.refusal.Refusal.{Refusal}
use Rattle.gd_base.specs.declared.refusal.Reply.{Reply}
use Rattle.gd_base.specs.declared.setup.Setup.{Setup}
use Rattle.gd_base.specs.Histories.Credit.{credited_win}
use Rattle.gd_base.specs.Histories.Devices.{with_reply}
use Rattle.gd_base.specs.Histories.Entry.{Entry, device_of}
use Rattle.gd_base.specs.Histories.History.{with_note}
use Rattle.gd_base.specs.Histories.Meters.{meters, with_additions, additions, handpay_of_win}
use Rattle.gd_base.specs.Histories.Numbers.{meter_place}
use Rattle.gd_base.specs.Histories.Recall.{handpay_event}
use Rattle.gd_base.specs.Histories.Rounds.{posted_win}
use Rattle.gd_base.specs.Histories.View.{View}
use Rattle.gd_base.specs.Histories.ViewOf.{from_view, with_entry, IsItself}
use Rattle.gd_base.proofs.HistoryLemmas.Totals.{totals-taken}

abbrev pub entry : ℕ → Option (ℕ × List ℕ) → Event → Reply → Entry
entry number draw event reply = record { number = number; event = event; draw = draw; reply = reply }

-- the view after an entry of this number and draw
abbrev pub after : Setup → View → ℕ → Option (ℕ × List ℕ) → Event → Reply → View
after setup v number draw event reply = with_entry setup v (entry number draw event reply)

-- ================ numbers that nothing is added to

pub none_more : (n : ℕ) → n + 0 ≡ n
none_more n = omega arith

no_win_credited : (b : Bool) (n : ℕ) → n + (if b then 0 else 0) - 0 ≡ n
no_win_credited true n = omega arith
no_win_credited false n = omega arith

less_paid : (b : Bool) (n m : ℕ) → n + 0 + (if b then 0 else 0) - m ≡ n - m
less_paid true n m = omega arith
less_paid false n m = omega arith

-- the balance where no win is posted: with an amount more, as it was, and with an amount less
pub with_credit : (setup : Setup) (n : ℕ) → n + credited_win setup 0 - 0 ≡ n
with_credit setup n = no_win_credited (nat_lt 0 setup.handpay_limit) n

pub same_balance : (setup : Setup) (n : ℕ) → n + 0 + credited_win setup 0 - 0 ≡ n
same_balance setup n = with_credit setup (n + 0) ∙ none_more n

pub with_debit : (setup : Setup) (n m : ℕ) → n + 0 + credited_win setup 0 - m ≡ n - m
with_debit setup n m = less_paid (nat_lt 0 setup.handpay_limit) n m

-- ================ totals and events

module _ (setup : Setup) (v : View) (is : IsItself setup v) (number : ℕ) (draw : Option (ℕ × List ℕ)) where
  same_totals : (event : Event) (why : Refusal) → (after setup v number draw event (Reply.Refused why)).totals ≡ v.totals
  same_totals event why = (λ x. map (λ m. none_more (slice_index v.totals (meter_place m)) x) meters) ∙ ap (λ (w : View). w.totals) is

  -- a taken entry adds its additions to the totals
  pub more_totals : (event : Event)
      → (after setup v number draw event Reply.Taken).totals
      ≡ with_additions (additions (from_view setup v) [] (posted_win (from_view setup v) (entry number draw event Reply.Taken) []) event) v.totals
  more_totals event =
      let o = from_view setup v in
      totals-taken o number event draw [] ∙ ap (λ (w : View). with_additions (additions o [] (posted_win o (entry number draw event Reply.Taken) []) event) w.totals) is

  -- where no win is posted, no handpay is held and no event tells of one
  no_event : handpay_event (from_view setup v) [] (handpay_of_win setup 0) ≡ None
  no_event =
      let none : nat_lt 0 setup.handpay_limit ≡ true = grind (arith, nat_tests, setup.has_handpay_limit) in
      λ x. handpay_event (from_view setup v) [] (if none x then None else Some (Some (record { win = true; amount = 0 })))

  pub same_events : take EVENTS_KEPT (with_note (handpay_event (from_view setup v) [] (handpay_of_win setup 0)) v.events) ≡ v.events
  same_events = (λ x. take EVENTS_KEPT (with_note (no_event x) v.events)) ∙ ap (λ (w : View). w.events) is

  -- ================ a refused entry

  pub effect_refused : (event : Event) (why : Refusal)
      → after setup v number draw event (Reply.Refused why)
      ≡ record v { count = v.count + 1; kept = with_reply (device_of event) (Reply.Refused why) v.kept }
  effect_refused event why =
      let totals = same_totals event why in
      λ x. record (is x) { count = v.count + 1; totals = totals x; kept = with_reply (device_of event) (Reply.Refused why) v.kept }
