-- Runs in which the power is cut, to be computed over the toy machine.
use Rattle.std.specs.Prelude.{ℕ, ◌≡◌, [], ◌∷◌, ◌++◌, length, replicate, codes, None}
use Rattle.gd_base.specs.declared.event.Event.{Event}
use Rattle.gd_base.specs.declared.refusal.Reply.{Reply}
use Rattle.gd_disk.specs.declared.disk.ArmedCut.{ArmedCut}
use Rattle.gd_disk.specs.declared.disk.CutUnit.{CutUnit}
use Rattle.gd_store.specs.declared.copy.states.CopyState.{CopyState}
use Rattle.gd_top.specs.declared.status.Status.{Status}
use Rattle.gd_top.specs.Run.State.{Flight, Nothing, Recording, Making, Off, Part, Stops}
use Rattle.gd_top.specs.Examples.Toy.{View}
use Rattle.gd_top.specs.Examples.ToyRuns.{bill, off, on, clear, cut_sync, cut_after, cut_call, alter_a, lock_lines, view, start, both, a_shut, b_shut, page, made, once, lost, run, broken_run, begins, plain, Gives}

-- Cuts that count syncs. An event that is found undone is offered again, and one that is found done is a repeat.
pub record CutsAtSyncs : Type 0 where
  pub before_first_copy : Gives (run (cut_sync 1 ∷ bill 500 ∷ []) [] (made ∷ both 1 once ∷ []))
      (begins ++ codes "armed\npower 2: a sound 1, b sound 1\nstart at 2\nack bill 1 taken at 3\nend at 3 credit 500\n") Status.Done (plain 4 1)
  pub in_first_body : Gives (run (cut_sync 2 ∷ bill 500 ∷ []) [] (made ∷ a_shut 1 once ∷ []))
      (begins ++ codes "armed\npower 2: a shut, b sound 1\nstart at 2 repaired a\nack bill 1 taken at 3\nend at 3 credit 500\n") Status.Done (plain 4 1)
  pub between_copies : Gives (run (cut_after 3 ∷ bill 500 ∷ []) [] (made ∷ start (CopyState.Sound 2) (CopyState.Sound 1) 2 (view 2 500 1 1) ∷ []))
      (begins ++ codes "armed\npower 2: a sound 2, b sound 1\nstart at 3 repaired b\nagain bill 1 taken at 3\nend at 3 credit 500\n") Status.Done (plain 3 1)
  pub at_last_gate : Gives (run (cut_sync 6 ∷ bill 500 ∷ []) [] (made ∷ b_shut 2 (view 2 500 1 1) ∷ []))
      (begins ++ codes "armed\npower 2: a sound 2, b shut\nstart at 3 repaired b\nagain bill 1 taken at 3\nend at 3 credit 500\n") Status.Done (plain 3 1)
  pub in_next_event : Gives (run (cut_sync 7 ∷ bill 500 ∷ bill 500 ∷ []) [] (made ∷ both 2 (view 2 500 1 1) ∷ []))
      (begins ++ codes "armed\nack bill 1 taken at 2\npower 2: a sound 2, b sound 2\nstart at 3\nack bill 2 taken at 4\nend at 4 credit 1000\n") Status.Done (plain 5 1)
  pub in_the_start : Gives (run (cut_sync 1 ∷ cut_sync 2 ∷ bill 500 ∷ []) [] (made ∷ both 1 once ∷ a_shut 1 once ∷ []))
      (begins ++ codes "armed\narmed\npower 2: a sound 1, b sound 1\npower 3: a shut, b sound 1\nstart at 2 repaired a\nack bill 1 taken at 3\nend at 3 credit 500\n") Status.Done (plain 5 2)
  pub start_found_done : Gives (run (off ∷ cut_after 3 ∷ on ∷ []) [] (made ∷ both 1 once ∷ start (CopyState.Sound 2) (CopyState.Sound 1) 2 (view 2 0 0 2) ∷ []))
      (begins ++ codes "off\narmed\npower 2: a sound 1, b sound 1\npower 3: a sound 2, b sound 1\nstart at 3 repaired b\nend at 3 credit 0\n") Status.Done (plain 3 1)

-- cuts that count calls come in the offers that are told, and each that comes uses its number up
pub record CutsAtCalls : Type 0 where
  pub in_an_event : Gives (run (cut_call 1 ∷ bill 500 ∷ []) (2 ∷ []) (made ∷ both 1 once ∷ []))
      (begins ++ codes "armed\npower 2: a sound 1, b sound 1\nstart at 2\nack bill 1 taken at 3\nend at 3 credit 500\n") Status.Done (plain 4 1)
  pub in_event_and_start : Gives (run (cut_call 1 ∷ cut_call 8 ∷ bill 500 ∷ []) (2 ∷ 3 ∷ []) (made ∷ both 1 once ∷ both 1 once ∷ []))
      (begins ++ codes "armed\narmed\npower 2: a sound 1, b sound 1\npower 3: a sound 1, b sound 1\nstart at 2\nack bill 1 taken at 3\nend at 3 credit 500\n") Status.Done (plain 5 2)
  pub used_up : (run (cut_call 1 ∷ cut_call 8 ∷ bill 500 ∷ []) (2 ∷ 3 ∷ []) (made ∷ both 1 once ∷ both 1 once ∷ [])).state.falls ≡ []
  pub not_reached : Gives (run (cut_call 50 ∷ bill 500 ∷ []) [] (made ∷ [])) (begins ++ codes "armed\nack bill 1 taken at 2\nend at 2 credit 500\n") Status.Done (plain 2 0)

abbrev pub cut_of : CutUnit → ℕ → ArmedCut
cut_of unit n = record { unit = unit; count = n; torn = 0 }

-- What stays armed. The first cut alone counts: one of syncs has as many less to count, and one of calls is told as it was armed.
pub record ArmedCuts : Type 0 where
  pub calls : (run (cut_call 50 ∷ bill 500 ∷ bill 500 ∷ []) [] (made ∷ [])).state.armed ≡ cut_of CutUnit.Call 50 ∷ []
  pub syncs : (run (cut_sync 50 ∷ cut_sync 3 ∷ bill 500 ∷ bill 500 ∷ []) [] (made ∷ [])).state.armed ≡ cut_of CutUnit.Sync 38 ∷ cut_of CutUnit.Sync 3 ∷ []
  pub used_up : (run (cut_sync 1 ∷ cut_sync 50 ∷ bill 500 ∷ []) [] (made ∷ both 1 once ∷ [])).state.armed ≡ cut_of CutUnit.Sync 38 ∷ []

-- the syncs of all offers: a start and two bills of six each, and then a start after a repair of three
pub record Synced : Type 0 where
  pub with_repair : (run (bill 500 ∷ bill 500 ∷ off ∷ alter_a 2000 1 ∷ on ∷ []) [] (made ∷ start (page 1) (CopyState.Sound 3) 3 (view 3 1000 2 1) ∷ [])).state.syncs ≡ 27
  pub locked : (run lock_lines [] (made ∷ lost ∷ [])).state.syncs ≡ 6
  pub cleared : (run (lock_lines ++ clear ∷ []) [] (made ∷ lost ∷ made ∷ [])).state.syncs ≡ 17

-- Power-ons and armed cuts are 256 at most. The first power-on leaves room for 255 cuts, and then none for an `on`.
pub record Limits : Type 0 where
  pub cuts : (run (replicate 256 (cut_sync 1)) [] (made ∷ [])).state.lines ≡ 255
  pub cuts_stop : (run (replicate 256 (cut_sync 1)) [] (made ∷ [])).outcome ≡ Stops
  pub last_cut : length (run (replicate 255 (cut_sync 1)) [] (made ∷ [])).state.armed ≡ 255
  pub power : (run (replicate 255 (cut_sync 1) ++ off ∷ on ∷ []) [] (made ∷ both 1 once ∷ [])).state.lines ≡ 256

-- a view that no order of writing explains: the bill is gone, and a history begins over what was found
pub record OtherViews : Type 0 where
  pub counted : Gives (run (bill 500 ∷ off ∷ on ∷ bill 500 ∷ []) [] (made ∷ both 1 once ∷ []))
      (begins ++ codes "ack bill 1 taken at 2\noff\npower 2: a sound 1, b sound 1\nstart at 2\nack bill 1 taken at 3\nend at 3 credit 500\n") Status.Done (record (plain 4 0) { other_views = 1 })
  pub begins : length (run (bill 500 ∷ off ∷ on ∷ bill 500 ∷ []) [] (made ∷ both 1 once ∷ [])).state.history ≡ 2

-- ================ where a run is broken off

abbrev pub flight : Part View → Flight
flight t = t.state.flight

abbrev pub recording : ℕ → Event → Flight
recording n event = Recording (record { number = n; event = event; draw = None; reply = Reply.Taken })

abbrev pub cut_and_broken : Part View
cut_and_broken = run (cut_sync 1 ∷ cut_sync 1 ∷ bill 500 ∷ []) [] (made ∷ both 1 once ∷ [])

abbrev pub cut_unread : Part View
cut_unread = run (cut_sync 1 ∷ bill 500 ∷ []) [] (made ∷ [])

abbrev pub broken_making : Part View
broken_making = broken_run 3 (lock_lines ++ clear ∷ []) (made ∷ lost ∷ [])

abbrev pub made_unread : Part View
made_unread = run (lock_lines ++ clear ∷ []) [] (made ∷ lost ∷ [])

-- what was being done: an event, a start, the event or the start before the copies are read again, a making, and nothing
pub record Flights : Type 0 where
  pub event : Gives (broken_run 3 (bill 500 ∷ bill 500 ∷ []) (made ∷ [])) (begins ++ codes "ack bill 1 taken at 2\ndisk fault\n") Status.DiskFault (plain 3 0)
  pub of_event : flight (broken_run 3 (bill 500 ∷ bill 500 ∷ []) (made ∷ [])) ≡ recording 2 (Event.Bill 500)
  pub first_start : Gives (broken_run 1 (bill 500 ∷ []) (made ∷ [])) (codes "power 1: a sound 0, b sound 0\ndisk fault\n") Status.DiskFault (plain 1 0)
  pub of_first_start : flight (broken_run 1 (bill 500 ∷ []) (made ∷ [])) ≡ recording 1 Event.Start
  pub unread : Gives cut_unread (begins ++ codes "armed\ndisk fault\n") Status.DiskFault (plain 2 1)
  pub of_unread : flight cut_unread ≡ recording 1 (Event.Bill 500)
  pub cut_start : Gives cut_and_broken (begins ++ codes "armed\narmed\npower 2: a sound 1, b sound 1\ndisk fault\n") Status.DiskFault (plain 3 2)
  pub of_cut_start : flight cut_and_broken ≡ recording 2 Event.Start
  pub making : Gives broken_making (begins ++ codes "off\naltered a 0\naltered b 9000\npower 2: a shut, b page 15\nlocked\ndisk fault\n") Status.DiskFault (plain 3 0)
  pub of_making : flight broken_making ≡ Making
  pub at_rest : Gives (run (off ∷ on ∷ []) [] (made ∷ [])) (begins ++ codes "off\ndisk fault\n") Status.DiskFault (plain 1 0)
  pub of_rest : flight (run (off ∷ on ∷ []) [] (made ∷ [])) ≡ Nothing
  pub after_making : Gives made_unread (begins ++ codes "off\naltered a 0\naltered b 9000\npower 2: a shut, b page 15\nlocked\ncleared\ndisk fault\n") Status.DiskFault (record (plain 3 0) { laps = 1 })
  pub of_made : flight made_unread ≡ Nothing
  pub off_after_making : made_unread.state.phase ≡ Off
