-- For callers: what a taken play makes of a view, and a taken choice, which moves the open play on.
use Rattle.std.specs.Prelude.{◌≡◌, ℕ, ◌+◌, ◌-◌, ◌≤◌, List, [], take, slice_index, Option, option_map}
use Rattle.std.proofs.Common.{arith}
use Rattle.gd_base.specs.declared.device.Device.{Device}
use Rattle.gd_base.specs.declared.event.Event.{Event}
use Rattle.gd_base.specs.declared.game.Colour.{Colour}
use Rattle.gd_base.specs.declared.game.Game.{Game}
use Rattle.gd_base.specs.declared.meter.Meter.{Meter}
use Rattle.gd_base.specs.declared.records.TheConstants.{PLAYS_KEPT, EVENTS_KEPT}
use Rattle.gd_base.specs.declared.refusal.Reply.{Reply}
use Rattle.gd_base.specs.declared.setup.Setup.{Setup}
use Rattle.gd_base.specs.Histories.Credit.{credited_win, wager}
use Rattle.gd_base.specs.Histories.Devices.{with_reply}
use Rattle.gd_base.specs.Histories.Entry.{device_of}
use Rattle.gd_base.specs.Histories.History.{or_else, with_note}
use Rattle.gd_base.specs.Histories.Meters.{with_one, with_additions, handpay_of_win, win_additions}
use Rattle.gd_base.specs.Histories.Recall.{handpay_event, play_record, play_start_of}
use Rattle.gd_base.specs.Histories.Rounds.{Round, round_of, moved_round, left_open, ended_by, win_of}
use Rattle.gd_base.specs.Histories.View.{View}
use Rattle.gd_base.specs.Histories.ViewOf.{from_view, IsItself}
use Rattle.gd_base.proofs.Effects.Shared.{after, none_more, more_totals}

after_win : (n more : ℕ) → n + 0 + more - 0 ≡ n + more
after_win n more = omega arith

after_wager : (n more paid : ℕ) → paid ≤ n → n + 0 + more - paid ≡ n - paid + more
after_wager n more paid le = omega (arith, le)

module _ (setup : Setup) (v : View) (is : IsItself setup v) (number : ℕ) (draw : Option (ℕ × List ℕ)) where
  -- the round that is begun or moved on, and the win that is posted with it
  abbrev pub onto : Event → Option Round
  onto event = moved_round (v.count + 1) draw (option_map round_of v.play) event

  abbrev pub win_by : Event → ℕ
  win_by event = win_of setup (ended_by setup event (onto event))

  abbrev played : View → ℕ → List ℕ → ℕ → ℕ × ℕ → Event → View
  played w balance totals orders start event = record w {
    count = v.count + 1;
    balance = balance;
    totals = totals;
    play = option_map (play_record setup start 0) (left_open setup event (option_map round_of v.play) (onto event));
    orders = orders;
    handpay = or_else (handpay_of_win setup (win_by event)) v.handpay;
    kept = with_reply (device_of event) Reply.Taken v.kept;
    plays = take PLAYS_KEPT (with_note (option_map (play_record setup start balance) (ended_by setup event (onto event))) v.plays);
    events = take EVENTS_KEPT (with_note (handpay_event (from_view setup v) [] (handpay_of_win setup (win_by event))) v.events);
  }

  -- ================ a play that begins

  pub effect_play : (game : Game) (bet : ℕ) → wager setup bet ≤ v.balance
      → after setup v number draw (Event.Play game bet) Reply.Taken
      ≡ (let event = Event.Play game bet in
      let win = win_by event in
      let balance = v.balance - wager setup bet + credited_win setup win in
      let start : ℕ × ℕ = (slice_index v.totals 9 + 1, v.balance) in
      record v {
        count = v.count + 1;
        balance = balance;
        totals = with_additions (win_additions win) (with_one Meter.GamesPlayed 1 (with_one Meter.Wagered (wager setup bet) v.totals));
        play = option_map (play_record setup start 0) (left_open setup event (option_map round_of v.play) (onto event));
        handpay = or_else (handpay_of_win setup win) v.handpay;
        kept = with_reply Device.Player Reply.Taken v.kept;
        plays = take PLAYS_KEPT (with_note (option_map (play_record setup start balance) (ended_by setup event (onto event))) v.plays);
        events = take EVENTS_KEPT (with_note (handpay_event (from_view setup v) [] (handpay_of_win setup win)) v.events);
      })
  effect_play game bet covered =
      let event = Event.Play game bet in
      let balance = after_wager v.balance (credited_win setup (win_by event)) (wager setup bet) covered in
      let totals = more_totals setup v is number draw event in
      let orders = none_more v.orders in
      λ x. played (is x) (balance x) (totals x) (orders x) (slice_index v.totals 9 + 1, v.balance) event

  -- ================ an open play that is moved on

  abbrev pub moved_on : Event → View
  moved_on event = record v {
    count = v.count + 1;
    balance = v.balance + credited_win setup (win_by event);
    totals = with_additions (win_additions (win_by event)) v.totals;
    play = option_map (play_record setup (play_start_of v.play) 0) (left_open setup event (option_map round_of v.play) (onto event));
    handpay = or_else (handpay_of_win setup (win_by event)) v.handpay;
    kept = with_reply (device_of event) Reply.Taken v.kept;
    plays = take PLAYS_KEPT
        (with_note (option_map (play_record setup (play_start_of v.play) (v.balance + credited_win setup (win_by event))) (ended_by setup event (onto event))) v.plays);
    events = take EVENTS_KEPT (with_note (handpay_event (from_view setup v) [] (handpay_of_win setup (win_by event))) v.events);
  }

  pub effect_pick : (door : ℕ) → after setup v number draw (Event.Pick door) Reply.Taken ≡ moved_on (Event.Pick door)
  effect_pick door =
      let event = Event.Pick door in
      let balance = after_win v.balance (credited_win setup (win_by event)) in
      let totals = more_totals setup v is number draw event in
      let orders = none_more v.orders in
      λ x. played (is x) (balance x) (totals x) (orders x) (play_start_of v.play) event

  pub effect_hold : (mask : ℕ) → after setup v number draw (Event.Hold mask) Reply.Taken ≡ moved_on (Event.Hold mask)
  effect_hold mask =
      let event = Event.Hold mask in
      let balance = after_win v.balance (credited_win setup (win_by event)) in
      let totals = more_totals setup v is number draw event in
      let orders = none_more v.orders in
      λ x. played (is x) (balance x) (totals x) (orders x) (play_start_of v.play) event

  pub effect_gamble : (colour : Colour) → after setup v number draw (Event.Gamble colour) Reply.Taken ≡ moved_on (Event.Gamble colour)
  effect_gamble colour =
      let event = Event.Gamble colour in
      let balance = after_win v.balance (credited_win setup (win_by event)) in
      let totals = more_totals setup v is number draw event in
      let orders = none_more v.orders in
      λ x. played (is x) (balance x) (totals x) (orders x) (play_start_of v.play) event

  pub effect_take : after setup v number draw Event.Take Reply.Taken ≡ moved_on Event.Take
  effect_take =
      let event = Event.Take in
      let balance = after_win v.balance (credited_win setup (win_by event)) in
      let totals = more_totals setup v is number draw event in
      let orders = none_more v.orders in
      λ x. played (is x) (balance x) (totals x) (orders x) (play_start_of v.play) event
