-- The view of a history, and the empty view.
use Rattle.std.specs.Prelude.{◌≡◌, ℕ, false, List, [], ◌∷◌, map, replicate, Option, None}
use Rattle.gd_base.specs.declared.refusal.Reply.{Reply}
use Rattle.gd_base.specs.declared.setup.Setup.{Setup}
use Rattle.gd_base.specs.Histories.Conditions.{doors, tilts, is_open, has_tilt}
use Rattle.gd_base.specs.Histories.Credit.{balance, orders, open_order}
use Rattle.gd_base.specs.Histories.Devices.{devices, last_number, kept_reply}
use Rattle.gd_base.specs.Histories.Entry.{Entry}
use Rattle.gd_base.specs.Histories.History.{Origin, count, past_of}
use Rattle.gd_base.specs.Histories.Meters.{meters, meter, open_handpay}
use Rattle.gd_base.specs.Histories.Recall.{open_play, plays, events, bills, vouchers}
use Rattle.gd_base.specs.Histories.View.{View}

-- what is seen after these entries, the newest first
abbrev pub view_after : Origin → List Entry → View
view_after o past = record {
  digest = o.opening.digest;
  count = count o past;
  balance = balance o past;
  totals = map (λ m. meter o m past) meters;
  doors = map (λ d. is_open o d past) doors;
  tilts = map (λ t. has_tilt o t past) tilts;
  play = open_play o past;
  orders = orders o past;
  order = open_order o past;
  handpay = open_handpay o past;
  kept = map (λ d. (last_number o d past, kept_reply o d past)) devices;
  plays = plays o past;
  events = events o past;
  bills = bills o past;
  vouchers = vouchers o past;
}

abbrev pub nothing_kept : ℕ × Option Reply
nothing_kept = (0, None)

-- the view of the empty history, under a setup of this digest
abbrev pub empty_view : List ℕ → View
empty_view digest = record {
  digest = digest;
  count = 0;
  balance = 0;
  totals = replicate 16 0;
  doors = replicate 4 false;
  tilts = replicate 6 false;
  play = None;
  orders = 0;
  order = None;
  handpay = None;
  kept = replicate 9 nothing_kept;
  plays = [];
  events = [];
  bills = [];
  vouchers = [];
}

abbrev pub from_empty : Setup → List ℕ → Origin
from_empty setup digest = record { setup = setup; opening = empty_view digest }

-- a history that begins at a view
abbrev pub from_view : Setup → View → Origin
from_view setup v = record { setup = setup; opening = v }

-- the view with one entry more: what a step of the machine makes of a view
abbrev pub with_entry : Setup → View → Entry → View
with_entry setup v e = view_after (from_view setup v) (e ∷ [])

-- the view of a history that is written from its first entry on, over an opening view
abbrev pub view_of : Setup → View → List Entry → View
view_of setup opening entries = view_after (from_view setup opening) (past_of entries)

-- A view is itself where it is the view of a history of no entry over it: its lists have their lengths, and its open play
-- has the wager and the win of its stage. Each view that keeps the rules of a view is.
abbrev pub IsItself : Setup → View → Type 0
IsItself setup v = view_after (from_view setup v) [] ≡ v
