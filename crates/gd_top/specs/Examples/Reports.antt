-- Runs without a cut and without an alteration, to be computed over the toy machine.
use Rattle.std.specs.Prelude.{◌≡◌, [], ◌∷◌, ◌++◌, codes, None, Some}
use Rattle.gd_base.specs.declared.device.Device.{Device}
use Rattle.gd_base.specs.declared.event.Event.{Event}
use Rattle.gd_base.specs.declared.step.What.{What}
use Rattle.gd_base.specs.Payloads.Spelled.{Foreign}
use Rattle.gd_script.specs.declared.item.Item.{Item}
use Rattle.gd_store.specs.declared.copy.states.CopyState.{CopyState}
use Rattle.gd_top.specs.declared.status.Status.{Status}
use Rattle.gd_top.specs.Run.Life.{report_at_read_fault, soak_line}
use Rattle.gd_top.specs.Run.State.{Start}
use Rattle.gd_top.specs.Examples.Toy.{View, toy}
use Rattle.gd_top.specs.Examples.ToyRuns.{bill, off, on, clear, cut_sync, alter_a, view, start, both, made, once, lost, run, over_image, begins, plain, from_image, Gives}

-- the lines of a report
pub record PlainReports : Type 0 where
  pub empty_script : Gives (run [] [] (made ∷ [])) (begins ++ codes "end at 1 credit 0\n") Status.Done (plain 1 0)
  pub one_bill : Gives (run (bill 500 ∷ Some (Item.Show What.Meters) ∷ []) [] (made ∷ [])) (begins ++ codes "ack bill 1 taken at 2\nBillIn 500\nend at 2 credit 500\n") Status.Done (plain 2 0)
  pub refused_bill : Gives (run (bill 100 ∷ []) [] (made ∷ [])) (begins ++ codes "ack bill 1 refused 3 value-not-enabled at 2\nend at 2 credit 0\n") Status.Done (plain 2 0)
  pub off_and_on : Gives (run (bill 500 ∷ off ∷ on ∷ []) [] (made ∷ both 2 (view 2 500 1 1) ∷ []))
      (begins ++ codes "ack bill 1 taken at 2\noff\npower 2: a sound 2, b sound 2\nstart at 3\nend at 3 credit 500\n") Status.Done (plain 3 0)
  pub off_at_the_end : Gives (run (bill 500 ∷ off ∷ []) [] (made ∷ [])) (begins ++ codes "ack bill 1 taken at 2\noff\nend off\n") Status.Done (plain 2 0)
  pub read_fault : report_at_read_fault (run (bill 500 ∷ []) [] (made ∷ [])) ≡ begins ++ codes "ack bill 1 taken at 2\nread fault\n"
  pub soak : soak_line toy 2 (run (bill 500 ∷ bill 500 ∷ []) [] (made ∷ [])).state ≡ codes "soak 2 entries 3 power 1 credit 1000\nBillIn 1000\n"

-- A repeat gets the kept reply whatever it holds, and a number that is neither the last nor the next is out of step. None
-- of them is offered.
pub record RepeatsAndSteps : Type 0 where
  pub repeats : Gives (run (bill 500 ∷ Some (Item.Again Device.Bill) ∷ Some (Item.Again Device.Reader) ∷ Some (Item.As 5 (Event.Bill 500)) ∷ Some (Item.As 1 (Event.Bill 100)) ∷ []) [] (made ∷ []))
      (begins ++ codes "ack bill 1 taken at 2\nagain bill 1 taken at 2\nnone reader\nstep bill expected 2\nagain bill 1 taken at 2\nend at 2 credit 500\n") Status.Done (plain 2 0)
  pub next_number : Gives (run (bill 500 ∷ Some (Item.As 2 (Event.Bill 500)) ∷ Some (Item.As 0 (Event.Bill 500)) ∷ []) [] (made ∷ []))
      (begins ++ codes "ack bill 1 taken at 2\nack bill 2 taken at 3\nstep bill expected 3\nend at 3 credit 1000\n") Status.Done (plain 3 0)
  pub after_a_power_cut : Gives (run (bill 500 ∷ off ∷ on ∷ Some (Item.Again Device.Bill) ∷ bill 500 ∷ []) [] (made ∷ both 2 (view 2 500 1 1) ∷ []))
      (begins ++ codes "ack bill 1 taken at 2\noff\npower 2: a sound 2, b sound 2\nstart at 3\nagain bill 1 taken at 3\nack bill 2 taken at 4\nend at 4 credit 1000\n") Status.Done (plain 4 0)

-- A script fault ends the run and changes nothing. A comment prints nothing, but is a line.
pub record ScriptFaults : Type 0 where
  pub no_item : Gives (run (bill 500 ∷ None ∷ bill 500 ∷ []) [] (made ∷ [])) (begins ++ codes "ack bill 1 taken at 2\nline 2\n") Status.ScriptFault (plain 2 0)
  pub alter_while_on : Gives (run (bill 500 ∷ Some Item.Skip ∷ alter_a 0 1 ∷ bill 500 ∷ []) [] (made ∷ [])) (begins ++ codes "ack bill 1 taken at 2\nline 3\n") Status.ScriptFault (plain 2 0)
  pub on_while_on : Gives (run (on ∷ []) [] (made ∷ [])) (begins ++ codes "line 1\n") Status.ScriptFault (plain 1 0)
  pub off_while_off : Gives (run (off ∷ off ∷ []) [] (made ∷ [])) (begins ++ codes "off\nline 2\n") Status.ScriptFault (plain 1 0)
  pub bill_while_off : Gives (run (off ∷ bill 500 ∷ []) [] (made ∷ [])) (begins ++ codes "off\nline 2\n") Status.ScriptFault (plain 1 0)
  pub clear_while_open : Gives (run (clear ∷ []) [] (made ∷ [])) (begins ++ codes "line 1\n") Status.ScriptFault (plain 1 0)
  pub clear_while_off : Gives (run (off ∷ clear ∷ []) [] (made ∷ [])) (begins ++ codes "off\nline 2\n") Status.ScriptFault (plain 1 0)

-- both copies sound, with what another setup wrote
abbrev pub foreign : Start View
foreign = record { found = record { a = CopyState.Sound 2; b = CopyState.Sound 2 }; behind = record { a = CopyState.Sound 2; b = CopyState.Sound 2 }; boots = Some (2, Foreign (0 ∷ 171 ∷ [])) }

-- Over an image the history begins with the view that is found. A view of another setup ends the run, and one whose count
-- isn't its sequence is locked. A full history has no start.
pub record ImageReports : Type 0 where
  pub opened : Gives (over_image (bill 500 ∷ []) (both 2 (view 2 500 1 1)))
      (codes "power 1: a sound 2, b sound 2\nstart at 3\nack bill 2 taken at 4\nend at 4 credit 1000\n") Status.Done (from_image 2)
  pub repaired : Gives (over_image [] (start (CopyState.Sound 1) (CopyState.Sound 2) 2 (view 2 500 1 1)))
      (codes "power 1: a sound 1, b sound 2\nstart at 3 repaired a\nend at 3 credit 500\n") Status.Done (from_image 1)
  pub cleared : Gives (over_image (bill 500 ∷ clear ∷ bill 500 ∷ []) lost)
      (codes "power 1: a shut, b page 15\nlocked\nlocked\ncleared\npower 2: a sound 0, b sound 0\nstart at 1\nack bill 1 taken at 2\nend at 2 credit 500\n") Status.Done (record (from_image 4) { other_locks = 1; laps = 1 })
  pub off_under_lock : Gives (over_image (off ∷ []) lost) (codes "power 1: a shut, b page 15\nlocked\nline 1\n") Status.ScriptFault (record (from_image 1) { other_locks = 1 })
  pub cut_refused : Gives (over_image (cut_sync 1 ∷ []) (both 2 (view 2 500 1 1))) (codes "power 1: a sound 2, b sound 2\nstart at 3\nline 1\n") Status.ScriptFault (from_image 1)
  pub off_refused : Gives (over_image (off ∷ []) (both 2 (view 2 500 1 1))) (codes "power 1: a sound 2, b sound 2\nstart at 3\nline 1\n") Status.ScriptFault (from_image 1)
  pub other_count : Gives (over_image [] (both 2 once)) (codes "power 1: a sound 2, b sound 2\nlocked\nend locked\n") Status.Locked (record (from_image 1) { other_locks = 1 })
  pub other_setup : Gives (over_image (bill 500 ∷ []) foreign)
      (codes "power 1: a sound 2, b sound 2\ndiffers kept 00ab given 0000000000000000000000000000000000000000000000000000000000000000\n") Status.SetupDiffers (record (from_image 1) { other_views = 1 })
  pub full : Gives (over_image (bill 500 ∷ Some (Item.As 7 (Event.Bill 500)) ∷ []) (both 68719476736 (view 68719476736 500 7 1)))
      (codes "power 1: a sound 68719476736, b sound 68719476736\nfull bill\nagain bill 7 taken at 68719476736\nend at 68719476736 credit 500\n") Status.Done (from_image 1)
