-- Runs in which a locked memory is cleared, to be computed over the toy machine.
use Rattle.std.specs.Prelude.{ℕ, List, [], ◌∷◌, ◌++◌, codes, None, Some}
use Rattle.gd_base.specs.declared.device.Device.{Device}
use Rattle.gd_base.specs.declared.event.Event.{Event}
use Rattle.gd_base.specs.declared.step.What.{What}
use Rattle.gd_base.specs.Payloads.Spelled.{Shows}
use Rattle.gd_script.specs.declared.item.Item.{Item}
use Rattle.gd_store.specs.declared.copy.states.CopyState.{CopyState}
use Rattle.gd_top.specs.declared.status.Status.{Status}
use Rattle.gd_top.specs.Run.State.{Start}
use Rattle.gd_top.specs.Examples.Toy.{View}
use Rattle.gd_top.specs.Examples.ToyRuns.{bill, clear, cut_sync, cut_call, lock_lines, view, both, shut, page, made, once, lost, run, begins, plain, Gives}

-- how a report begins by the lines that lock
abbrev pub locked_report : List ℕ
locked_report = begins ++ codes "off\naltered a 0\naltered b 9000\npower 2: a shut, b page 15\nlocked\n"

-- Under a lock each line about the machine prints it. A cut is armed, and a comment prints nothing.
pub record UnderLock : Type 0 where
  pub lines : Gives (run (lock_lines ++ bill 500 ∷ Some (Item.Again Device.Bill) ∷ Some (Item.Again Device.Reader) ∷ Some (Item.As 9 (Event.Bill 500)) ∷ Some (Item.Show What.Meters) ∷ Some Item.Skip ∷ cut_sync 1 ∷ []) [] (made ∷ lost ∷ []))
      (locked_report ++ codes "locked\nlocked\nlocked\nlocked\nlocked\narmed\nend locked\n") Status.Locked (plain 2 0)

-- a making that is whole
pub record Cleared : Type 0 where
  pub whole : Gives (run (lock_lines ++ bill 500 ∷ clear ∷ bill 500 ∷ []) [] (made ∷ lost ∷ made ∷ []))
      (locked_report ++ codes "locked\ncleared\npower 3: a sound 0, b sound 0\nstart at 1\nack bill 1 taken at 2\nend at 2 credit 500\n") Status.Done (record (plain 5 0) { laps = 1 })
  pub cut_in_the_start : Gives (run (lock_lines ++ cut_sync 6 ∷ clear ∷ bill 500 ∷ []) [] (made ∷ lost ∷ made ∷ made ∷ []))
      (locked_report ++ codes "armed\ncleared\npower 3: a sound 0, b sound 0\npower 4: a sound 0, b sound 0\nstart at 1\nack bill 1 taken at 2\nend at 2 credit 500\n") Status.Done (record (plain 6 1) { laps = 1 })

-- copy a is sealed behind a shut gate, and copy b isn't written yet
abbrev pub half_made : Start View
half_made = record { found = record { a = shut; b = shut }; behind = record { a = CopyState.Sound 0; b = page 15 }; boots = None }

-- copy a is whole, and copy b isn't written yet
abbrev pub made_in_a : Start View
made_in_a = record { found = record { a = CopyState.Sound 0; b = shut }; behind = record { a = CopyState.Sound 0; b = page 15 }; boots = Some (0, Shows (view 0 0 0 0)) }

-- A making that was cut is tried again while the memory is locked, and no image of it is forged. Where the empty view is found
-- the memory is cleared; any other view is the old memory. In neither case `cleared` is printed.
pub record ClearingsCut : Type 0 where
  pub still_locked : Gives (run (lock_lines ++ cut_sync 1 ∷ clear ∷ []) [] (made ∷ lost ∷ lost ∷ made ∷ []))
      (locked_report ++ codes "armed\npower 3: a shut, b page 15\nlocked\ncleared\npower 4: a sound 0, b sound 0\nstart at 1\nend at 1 credit 0\n") Status.Done (record (plain 6 1) { laps = 1 })
  pub at_first_gate : Gives (run (lock_lines ++ cut_sync 3 ∷ clear ∷ []) [] (made ∷ lost ∷ half_made ∷ made ∷ []))
      (locked_report ++ codes "armed\npower 3: a shut, b shut\nlocked\ncleared\npower 4: a sound 0, b sound 0\nstart at 1\nend at 1 credit 0\n") Status.Done (record (plain 6 1) { laps = 1 })
  pub found_empty : Gives (run (lock_lines ++ cut_sync 4 ∷ clear ∷ bill 500 ∷ []) [] (made ∷ lost ∷ made_in_a ∷ []))
      (locked_report ++ codes "armed\npower 3: a sound 0, b shut\nstart at 1 repaired b\nack bill 1 taken at 2\nend at 2 credit 500\n") Status.Done (record (plain 5 1) { laps = 1 })
  pub found_old : Gives (run (lock_lines ++ cut_sync 1 ∷ clear ∷ bill 500 ∷ []) [] (made ∷ lost ∷ both 1 once ∷ []))
      (locked_report ++ codes "armed\npower 3: a sound 1, b sound 1\nstart at 2\nack bill 1 taken at 3\nend at 3 credit 500\n") Status.Done (plain 5 1)
  pub cut_twice : Gives (run (lock_lines ++ cut_sync 1 ∷ cut_sync 4 ∷ clear ∷ []) [] (made ∷ lost ∷ lost ∷ made_in_a ∷ []))
      (locked_report ++ codes "armed\narmed\npower 3: a shut, b page 15\nlocked\npower 4: a sound 0, b shut\nstart at 1 repaired b\nend at 1 credit 0\n") Status.Done (record (plain 6 2) { laps = 1 })
  pub by_calls : Gives (run (lock_lines ++ cut_call 1 ∷ clear ∷ []) (3 ∷ []) (made ∷ lost ∷ lost ∷ made ∷ []))
      (locked_report ++ codes "armed\npower 3: a shut, b page 15\nlocked\ncleared\npower 4: a sound 0, b sound 0\nstart at 1\nend at 1 credit 0\n") Status.Done (record (plain 6 1) { laps = 1 })
