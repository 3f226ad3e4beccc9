-- What is made of a machine's parts where its play was begun or moved on: nothing while a stage of it is open; else its win
-- is posted, or held for the attendant, and the play is handed out.
use Rattle.std.specs.Prelude.{ℕ, ◌∷◌, nat_lt, if◌then◌else◌, List, take, Option, Some, None}
use Rattle.gd_base.specs.declared.play.PlayRecord.{PlayRecord}
use Rattle.gd_base.specs.declared.play.StageOpen.{StageOpen}
use Rattle.gd_base.specs.declared.records.EventRecord.{EventRecord}
use Rattle.gd_base.specs.declared.records.TheConstants.{PLAYS_KEPT, EVENTS_KEPT}
use Rattle.gd_base.specs.declared.setup.Setup.{Setup}
use Rattle.gd_base.specs.Histories.Recall.{event_record}
use Rattle.gd_base.specs.Payloads.Lists.{Lists}
use Rattle.gd_account.specs.Money.{Money, with_win}
use Rattle.gd_payout.specs.Payouts.{Payouts, with_held_win}
use Rattle.gd_play.specs.Moving.{play_with_after}

-- the play that has ended, by the stage that is open in it, and the one that is left open
abbrev pub ended_at : StageOpen → Option PlayRecord → Option PlayRecord
ended_at StageOpen.Ended play = play
ended_at _ play = None

abbrev pub left_at : StageOpen → Option PlayRecord → Option PlayRecord
left_at StageOpen.Ended play = None
left_at _ play = play

-- ================ a win

-- below the handpay limit nothing is held
abbrev pub payout_with : Setup → ℕ → Payouts → Payouts
payout_with setup win p = if nat_lt win setup.handpay_limit then p else with_held_win win p

-- and nothing is noted
abbrev pub events_with : Setup → ℕ → ℕ → List EventRecord → List EventRecord
events_with setup place win events = if nat_lt win setup.handpay_limit then events else take EVENTS_KEPT (event_record place 6 win ∷ events)

-- ================ a play that has ended, or none

abbrev pub account_after : Setup → Option PlayRecord → Money → Money
account_after setup None a = a
account_after setup (Some p) a = with_win setup p.win a

abbrev pub payout_after : Setup → Option PlayRecord → Payouts → Payouts
payout_after setup None q = q
payout_after setup (Some p) q = payout_with setup p.win q

-- at a place, and with the balance after it
abbrev pub lists_after : Setup → ℕ → ℕ → Option PlayRecord → Lists → Lists
lists_after setup place balance None l = l
lists_after setup place balance (Some p) l = record l {
  plays = take PLAYS_KEPT (play_with_after balance p ∷ l.plays);
  events = events_with setup place p.win l.events;
}
