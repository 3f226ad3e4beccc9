-- Whole reports over the machine of the product, to be computed.
use Rattle.std.specs.Prelude.{◌≡◌, ℕ, ◌==◌, if◌then◌else◌, List, [], ◌∷◌, ◌++◌, replicate, codes, None, Some}
use Rattle.std.specs.declared.option.Option.{Option}
use Rattle.gd_base.specs.declared.device.Device.{Device}
use Rattle.gd_base.specs.declared.event.Event.{Event}
use Rattle.gd_base.specs.declared.game.Game.TheVariants as Game
use Rattle.gd_base.specs.declared.step.What.{What}
use Rattle.gd_base.specs.Setups.BuiltIn.{built_in_setup}
use Rattle.gd_base.specs.Games.Chance.{word_for}
use Rattle.gd_base.specs.Judging.Legal.{after_events, view_over}
use Rattle.gd_base.specs.Judging.Machine.{Machine, Blocks}
use Rattle.gd_base.specs.Payloads.Spelled.{Shows, Unreadable}
use Rattle.gd_base.specs.Judging.Product.{machine}
use Rattle.gd_base.specs.Histories.View.{View}
use Rattle.gd_disk.specs.declared.disk.CutUnit.{CutUnit}
use Rattle.gd_script.specs.declared.item.Item.{Item}
use Rattle.gd_disk.specs.declared.side.Side.{Side}
use Rattle.gd_store.specs.declared.copy.states.CopyState.{CopyState}
use Rattle.gd_store.specs.declared.copy.states.Why.{Why}
use Rattle.gd_top.specs.Run.Life.{trial_meaning, report_of}
use Rattle.gd_top.specs.Run.State.{Start}

-- the whole machine, with a digest of zeros
abbrev pub M : Machine View
M = machine built_in_setup (replicate 32 0) (λ payload. Unreadable)

-- blocks of zeros, and block 1 of other words
abbrev pub zeros : Blocks
zeros lap n = replicate 16 0

abbrev pub block_1 : List ℕ → Blocks
block_1 words lap n = if n == 1 then words else replicate 16 0

abbrev pub sound : ℕ → CopyState
sound n = CopyState.Sound n

-- what a power-on finds, where no gate is shut
abbrev pub found : CopyState → CopyState → ℕ → View → Start View
found a b n v = record { found = record { a = a; b = b }; behind = record { a = a; b = b }; boots = Some (n, Shows v) }

-- both copies sound at the count of the view
abbrev pub settled : View → Start View
settled v = found (sound v.count) (sound v.count) v.count v

abbrev pub shut : CopyState
shut = CopyState.Bad Why.Shut

-- copy a has a shut gate before a body that stands, and copy b is sound
abbrev pub a_shut : View → Start View
a_shut v = record { found = record { a = shut; b = sound v.count }; behind = record { a = sound v.count; b = sound v.count }; boots = Some (v.count, Shows v) }

-- a memory that was just made
abbrev pub made : Start View
made = settled M.empty

-- the view after these events
abbrev pub after : Blocks → List Event → View
after blocks es = view_over M M.empty (after_events M blocks 0 M.empty [] es)

abbrev pub line : Event → Option Item
line event = Some (Item.Event event)

-- a cut at a sync, which leaves bytes by this number: 0 the old ones, 1 the new ones
abbrev pub cut_sync : ℕ → ℕ → Option Item
cut_sync n torn = Some (Item.Cut CutUnit.Sync n torn)

abbrev pub report : Blocks → List (Start View) → List (Option Item) → List ℕ
report blocks starts lines = report_of M (trial_meaning M blocks lines [] starts None)

abbrev pub started : List Event
started = Event.Start ∷ []

abbrev pub bill_started : List Event
bill_started = Event.Start ∷ Event.Bill 500 ∷ []

-- how each report begins
abbrev pub begins : List ℕ
begins = codes "power 1: a sound 0, b sound 0\nstart at 1\n"

abbrev pub meters_of_a_bill : List ℕ
meters_of_a_bill =
    codes "BillIn 0000000500\nCoinIn 0000000000\nVoucherIn 0000000000\nWagered 0000000000\nWon 0000000000\nVoucherOut 0000000000\nCoinOut 0000000000\nHandWin 0000000000\nHandCancel 0000000000\n"
    ++ codes "GamesPlayed 0000000000\nGamesWon 0000000000\nPowerUps 0000000001\nLogicOpen 0000000000\nMainOpen 0000000000\nCashboxOpen 0000000000\nDropOpen 0000000000\n"

abbrev pub meters_after_two_starts : List ℕ
meters_after_two_starts =
    codes "BillIn 0000000500\nCoinIn 0000000000\nVoucherIn 0000000000\nWagered 0000000000\nWon 0000000000\nVoucherOut 0000000000\nCoinOut 0000000000\nHandWin 0000000000\nHandCancel 0000000000\n"
    ++ codes "GamesPlayed 0000000000\nGamesWon 0000000000\nPowerUps 0000000002\nLogicOpen 0000000000\nMainOpen 0000000000\nCashboxOpen 0000000000\nDropOpen 0000000000\n"

-- three scatters, and the prizes turned by two
abbrev pub pick_words : List ℕ
pick_words = word_for 7 32 ∷ 0 ∷ word_for 13 32 ∷ 0 ∷ 0 ∷ 0 ∷ 0 ∷ 0 ∷ 0 ∷ 0 ∷ word_for 2 5 ∷ 0 ∷ 0 ∷ 0 ∷ 0 ∷ 0 ∷ []

abbrev pub alter_a : Option Item
alter_a = Some (Item.Alter Side.A 2000 1)

-- what the lines below make of both copies
abbrev pub lost : Start View
lost = record { found = record { a = shut; b = CopyState.Bad (Why.BadPage 15) }; behind = record { a = sound 1; b = CopyState.Bad (Why.BadPage 15) }; boots = None }

abbrev pub both_altered_lines : List (Option Item)
both_altered_lines = Some Item.Off ∷ Some (Item.Alter Side.A 0 255) ∷ Some (Item.Alter Side.B 9000 1) ∷ Some Item.On ∷ line (Event.Bill 500) ∷ []

-- a bill and its meters, an empty script, repeats and numbers out of step, and script faults
pub record ProductReports : Type 0 where
  pub one_bill_and_meters : report zeros (made ∷ []) (line (Event.Bill 500) ∷ Some (Item.Show What.Meters) ∷ [])
      ≡ begins ++ codes "ack bill 1 taken at 2\n" ++ meters_of_a_bill ++ codes "end at 2 credit 500\n"
  pub empty_script : report zeros (made ∷ []) [] ≡ begins ++ codes "end at 1 credit 0\n"
  pub repeats_and_steps : report zeros (made ∷ [])
      (line (Event.Bill 500) ∷ Some (Item.Again Device.Bill) ∷ Some (Item.Again Device.Reader) ∷ Some (Item.As 5 (Event.Bill 500)) ∷ Some (Item.As 1 (Event.Bill 100)) ∷ [])
      ≡ begins ++ codes "ack bill 1 taken at 2\nagain bill 1 taken at 2\nnone reader\nstep bill expected 2\nagain bill 1 taken at 2\nend at 2 credit 500\n"
  pub bad_line : report zeros (made ∷ []) (None ∷ []) ≡ begins ++ codes "line 1\n"
  pub alter_while_on : report zeros (made ∷ []) (line (Event.Bill 500) ∷ Some (Item.Alter Side.A 0 1) ∷ []) ≡ begins ++ codes "ack bill 1 taken at 2\nline 2\n"

-- power cuts at rest, in an event, in a start, and in a play, whose block is passed over
pub record ProductPowerCuts : Type 0 where
  pub power_cut_at_rest : report zeros (made ∷ settled (after zeros bill_started) ∷ []) (line (Event.Bill 500) ∷ Some Item.Off ∷ Some Item.On ∷ Some (Item.Show What.Meters) ∷ [])
      ≡ begins ++ codes "ack bill 1 taken at 2\noff\npower 2: a sound 2, b sound 2\nstart at 3\n" ++ meters_after_two_starts ++ codes "end at 3 credit 500\n"
  pub pick_survives_power_cut : report (block_1 pick_words) (made ∷ settled (after (block_1 pick_words) (Event.Start ∷ Event.Bill 500 ∷ Event.Play Game.Reels 9 ∷ [])) ∷ [])
      (line (Event.Bill 500) ∷ line (Event.Play Game.Reels 9) ∷ Some Item.Off ∷ Some Item.On ∷ line (Event.Pick 2) ∷ line Event.Take ∷ Some (Item.Show What.Recall) ∷ [])
      ≡ begins ++ codes "ack bill 1 taken at 2\nack player 1 taken at 3\noff\npower 2: a sound 3, b sound 3\nstart at 4\nack player 2 taken at 5\nack player 3 taken at 6\n"
      ++ codes "recall 1\nplay 1 block 1 reels bet 9 wager 45\nwindow SSSFC AFACF BEDEB\npick 2 prize 90\nwin 450 before 500 after 905\nend at 6 credit 905\n"
  pub cut_before_first_copy : report zeros (made ∷ settled (after zeros started) ∷ []) (cut_sync 1 0 ∷ line (Event.Bill 500) ∷ [])
      ≡ begins ++ codes "armed\npower 2: a sound 1, b sound 1\nstart at 2\nack bill 1 taken at 3\nend at 3 credit 500\n"
  pub cut_between_copies : report zeros (made ∷ found (sound 2) (sound 1) 2 (after zeros bill_started) ∷ []) (cut_sync 3 1 ∷ line (Event.Bill 500) ∷ [])
      ≡ begins ++ codes "armed\npower 2: a sound 2, b sound 1\nstart at 3 repaired b\nagain bill 1 taken at 3\nend at 3 credit 500\n"
  pub cut_in_the_start : report zeros (made ∷ settled (after zeros started) ∷ a_shut (after zeros started) ∷ [])
      (cut_sync 1 0 ∷ cut_sync 2 0 ∷ line (Event.Bill 500) ∷ [])
      ≡ begins ++ codes "armed\narmed\npower 2: a sound 1, b sound 1\npower 3: a shut, b sound 1\nstart at 2 repaired a\nack bill 1 taken at 3\nend at 3 credit 500\n"
  pub cut_in_a_play : report zeros (made ∷ a_shut (after zeros bill_started) ∷ [])
      (line (Event.Bill 500) ∷ cut_sync 2 0 ∷ line (Event.Play Game.Reels 1) ∷ Some (Item.Show What.Recall) ∷ [])
      ≡ begins ++ codes "ack bill 1 taken at 2\narmed\npower 2: a shut, b sound 2\nstart at 3 repaired a\nack player 1 taken at 4\n"
      ++ codes "recall 1\nplay 1 block 2 reels bet 1 wager 5\nwindow WSAFC AFDCF BEBEB\nwin 0 before 500 after 495\nend at 4 credit 495\n"

-- alterations at rest, of one copy and of both, and a clearing
pub record ProductAlterations : Type 0 where
  pub one_page_altered : report zeros (made ∷ found (CopyState.Bad (Why.BadPage 1)) (sound 1) 1 (after zeros started) ∷ []) (Some Item.Off ∷ alter_a ∷ Some Item.On ∷ [])
      ≡ begins ++ codes "off\naltered a 2000\npower 2: a page 1, b sound 1\nstart at 2 repaired a\nend at 2 credit 0\n"
  pub alterations_cancel : report zeros (made ∷ settled (after zeros started) ∷ []) (Some Item.Off ∷ alter_a ∷ alter_a ∷ Some Item.On ∷ [])
      ≡ begins ++ codes "off\naltered a 2000\naltered a 2000\npower 2: a sound 1, b sound 1\nstart at 2\nend at 2 credit 0\n"
  pub both_copies_altered : report zeros (made ∷ lost ∷ []) both_altered_lines
      ≡ begins ++ codes "off\naltered a 0\naltered b 9000\npower 2: a shut, b page 15\nlocked\nlocked\nend locked\n"
  pub both_copies_altered_and_cleared : report zeros (made ∷ lost ∷ made ∷ []) (both_altered_lines ++ Some Item.Clear ∷ line (Event.Bill 500) ∷ [])
      ≡ begins ++ codes "off\naltered a 0\naltered b 9000\npower 2: a shut, b page 15\nlocked\nlocked\ncleared\npower 3: a sound 0, b sound 0\nstart at 1\nack bill 1 taken at 2\nend at 2 credit 500\n"
