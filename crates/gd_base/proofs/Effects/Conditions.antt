-- For callers: what a taken alarm, door, clearing or start makes of a view.
use Rattle.std.specs.Prelude.{◌≡◌, ℕ, ◌+◌, Bool, List, ◌∷◌, map, take, Option}
use Rattle.gd_base.specs.declared.condition.Door.{Door}
use Rattle.gd_base.specs.declared.condition.Tilt.{Tilt}
use Rattle.gd_base.specs.declared.device.Device.{Device}
use Rattle.gd_base.specs.declared.event.Event.{Event}
use Rattle.gd_base.specs.declared.meter.Meter.{Meter}
use Rattle.gd_base.specs.declared.payout.Handpay.{Handpay}
use Rattle.gd_base.specs.declared.records.TheConstants.{EVENTS_KEPT}
use Rattle.gd_base.specs.declared.refusal.Reply.{Reply}
use Rattle.gd_base.specs.declared.setup.Setup.{Setup}
use Rattle.gd_base.specs.Histories.Conditions.{doors, tilts, flag_at, says_door, says_tilt}
use Rattle.gd_base.specs.Histories.Devices.{with_reply}
use Rattle.gd_base.specs.Histories.Entry.{device_of}
use Rattle.gd_base.specs.Histories.History.{or_else}
use Rattle.gd_base.specs.Histories.Meters.{door_meter, with_one}
use Rattle.gd_base.specs.Histories.Numbers.{door_place, tilt_place}
use Rattle.gd_base.specs.Histories.Recall.{event_record}
use Rattle.gd_base.specs.Histories.View.{View}
use Rattle.gd_base.specs.Histories.ViewOf.{IsItself}
use Rattle.gd_base.proofs.Effects.Shared.{after, none_more, same_balance, more_totals}
use Rattle.gd_base.proofs.PreservedLemmas.OnlyOneOpen.{no_win}

-- the flags of doors and tilts after an event about one
abbrev pub doors_after : Event → List Bool → List Bool
doors_after event flags = map (λ d. or_else (says_door d event) (flag_at flags (door_place d))) doors

abbrev pub tilts_after : Event → List Bool → List Bool
tilts_after event flags = map (λ t. or_else (says_tilt t event) (flag_at flags (tilt_place t))) tilts

module _ (setup : Setup) (v : View) (is : IsItself setup v) (number : ℕ) (draw : Option (ℕ × List ℕ)) where
  -- balance, orders and handpay stay, and a significant event is noted
  abbrev noted : View → ℕ → List ℕ → ℕ → Option Handpay → List Bool → List Bool → Event → ℕ → ℕ → View
  noted w balance totals orders handpay doors tilts event code detail = record w {
    count = v.count + 1;
    balance = balance;
    totals = totals;
    doors = doors;
    tilts = tilts;
    orders = orders;
    handpay = handpay;
    kept = with_reply (device_of event) Reply.Taken v.kept;
    events = take EVENTS_KEPT (event_record (v.count + 1) code detail ∷ v.events);
  }

  -- ================ alarms

  abbrev pub alarmed : Event → Tilt → View
  alarmed event tilt = record v {
    count = v.count + 1;
    tilts = tilts_after event v.tilts;
    kept = with_reply (device_of event) Reply.Taken v.kept;
    events = take EVENTS_KEPT (event_record (v.count + 1) 4 (tilt_place tilt + 5) ∷ v.events);
  }

  pub effect_bill_jam : after setup v number draw Event.BillJam Reply.Taken ≡ alarmed Event.BillJam Tilt.BillJam
  effect_bill_jam =
      let balance = same_balance setup v.balance in
      let totals = more_totals setup v is number draw Event.BillJam in
      let orders = none_more v.orders in
      let handpay = no_win setup v.handpay in
      λ x. noted (is x) (balance x) (totals x) (orders x) (handpay x) (is x).doors (tilts_after Event.BillJam v.tilts) Event.BillJam 4 5

  pub effect_coin_jam : after setup v number draw Event.CoinJam Reply.Taken ≡ alarmed Event.CoinJam Tilt.CoinJam
  effect_coin_jam =
      let balance = same_balance setup v.balance in
      let totals = more_totals setup v is number draw Event.CoinJam in
      let orders = none_more v.orders in
      let handpay = no_win setup v.handpay in
      λ x. noted (is x) (balance x) (totals x) (orders x) (handpay x) (is x).doors (tilts_after Event.CoinJam v.tilts) Event.CoinJam 4 6

  pub effect_stacker_full : after setup v number draw Event.StackerFull Reply.Taken ≡ alarmed Event.StackerFull Tilt.StackerFull
  effect_stacker_full =
      let balance = same_balance setup v.balance in
      let totals = more_totals setup v is number draw Event.StackerFull in
      let orders = none_more v.orders in
      let handpay = no_win setup v.handpay in
      λ x. noted (is x) (balance x) (totals x) (orders x) (handpay x) (is x).doors (tilts_after Event.StackerFull v.tilts) Event.StackerFull 4 7

  pub effect_paper_out : after setup v number draw Event.PaperOut Reply.Taken ≡ alarmed Event.PaperOut Tilt.PaperOut
  effect_paper_out =
      let balance = same_balance setup v.balance in
      let totals = more_totals setup v is number draw Event.PaperOut in
      let orders = none_more v.orders in
      let handpay = no_win setup v.handpay in
      λ x. noted (is x) (balance x) (totals x) (orders x) (handpay x) (is x).doors (tilts_after Event.PaperOut v.tilts) Event.PaperOut 4 8

  pub effect_clear_tilt : (tilt : Tilt)
      → after setup v number draw (Event.ClearTilt tilt) Reply.Taken
      ≡ record v {
        count = v.count + 1;
        tilts = tilts_after (Event.ClearTilt tilt) v.tilts;
        kept = with_reply Device.Attendant Reply.Taken v.kept;
        events = take EVENTS_KEPT (event_record (v.count + 1) 5 (tilt_place tilt + 5) ∷ v.events);
      }
  effect_clear_tilt tilt =
      let balance = same_balance setup v.balance in
      let totals = more_totals setup v is number draw (Event.ClearTilt tilt) in
      let orders = none_more v.orders in
      let handpay = no_win setup v.handpay in
      λ x. noted (is x) (balance x) (totals x) (orders x) (handpay x) (is x).doors (tilts_after (Event.ClearTilt tilt) v.tilts) (Event.ClearTilt tilt) 5 (tilt_place tilt + 5)

  -- ================ doors

  pub effect_door_open : (door : Door)
      → after setup v number draw (Event.DoorOpen door) Reply.Taken
      ≡ record v {
        count = v.count + 1;
        totals = with_one (door_meter door) 1 v.totals;
        doors = doors_after (Event.DoorOpen door) v.doors;
        kept = with_reply Device.Doors Reply.Taken v.kept;
        events = take EVENTS_KEPT (event_record (v.count + 1) 2 (door_place door + 1) ∷ v.events);
      }
  effect_door_open door =
      let balance = same_balance setup v.balance in
      let totals = more_totals setup v is number draw (Event.DoorOpen door) in
      let orders = none_more v.orders in
      let handpay = no_win setup v.handpay in
      λ x. noted (is x) (balance x) (totals x) (orders x) (handpay x) (doors_after (Event.DoorOpen door) v.doors) (is x).tilts (Event.DoorOpen door) 2 (door_place door + 1)

  pub effect_door_shut : (door : Door)
      → after setup v number draw (Event.DoorShut door) Reply.Taken
      ≡ record v {
        count = v.count + 1;
        doors = doors_after (Event.DoorShut door) v.doors;
        kept = with_reply Device.Doors Reply.Taken v.kept;
        events = take EVENTS_KEPT (event_record (v.count + 1) 3 (door_place door + 1) ∷ v.events);
      }
  effect_door_shut door =
      let balance = same_balance setup v.balance in
      let totals = more_totals setup v is number draw (Event.DoorShut door) in
      let orders = none_more v.orders in
      let handpay = no_win setup v.handpay in
      λ x. noted (is x) (balance x) (totals x) (orders x) (handpay x) (doors_after (Event.DoorShut door) v.doors) (is x).tilts (Event.DoorShut door) 3 (door_place door + 1)

  -- ================ the start

  pub effect_start : after setup v number draw Event.Start Reply.Taken
      ≡ record v {
        count = v.count + 1;
        totals = with_one Meter.PowerUps 1 v.totals;
        kept = with_reply Device.Power Reply.Taken v.kept;
        events = take EVENTS_KEPT (event_record (v.count + 1) 1 0 ∷ v.events);
      }
  effect_start =
      let balance = same_balance setup v.balance in
      let totals = more_totals setup v is number draw Event.Start in
      let orders = none_more v.orders in
      let handpay = no_win setup v.handpay in
      λ x. noted (is x) (balance x) (totals x) (orders x) (handpay x) (is x).doors (is x).tilts Event.Start 1 0
