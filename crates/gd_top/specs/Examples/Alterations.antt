-- Runs in which the copies are altered at rest, to be computed over the toy machine.
use Rattle.std.specs.Prelude.{◌≡◌, [], ◌∷◌, ◌++◌, codes, None, Some}
use Rattle.gd_disk.specs.declared.side.Side.{Side}
use Rattle.gd_base.specs.Payloads.Spelled.{Shows}
use Rattle.gd_store.specs.declared.copy.states.CopyState.{CopyState}
use Rattle.gd_top.specs.declared.status.Status.{Status}
use Rattle.gd_top.specs.Run.State.{Start}
use Rattle.gd_top.specs.Examples.Toy.{View}
use Rattle.gd_top.specs.Examples.ToyRuns.{bill, off, on, cut_sync, alter_a, alter_b, lock_lines, view, start, both, shut, page, made, once, lost, run, begins, plain, Gives}

-- copy a has a bad page, and copy b is sound
abbrev pub page_bad : Start View
page_bad = start (page 1) (CopyState.Sound 1) 1 once

-- One altered copy is written anew. Masks on one byte that cancel alter nothing.
pub record AlteredCopies : Type 0 where
  pub one_page : Gives (run (off ∷ alter_a 2000 1 ∷ on ∷ []) [] (made ∷ page_bad ∷ []))
      (begins ++ codes "off\naltered a 2000\npower 2: a page 1, b sound 1\nstart at 2 repaired a\nend at 2 credit 0\n") Status.Done (plain 2 0)
  pub other_copy : Gives (run (off ∷ alter_b 9000 1 ∷ on ∷ []) [] (made ∷ start (CopyState.Sound 1) (page 15) 1 once ∷ []))
      (begins ++ codes "off\naltered b 9000\npower 2: a sound 1, b page 15\nstart at 2 repaired b\nend at 2 credit 0\n") Status.Done (plain 2 0)
  pub cancel : Gives (run (off ∷ alter_a 2000 1 ∷ alter_a 2000 1 ∷ on ∷ []) [] (made ∷ both 1 once ∷ []))
      (begins ++ codes "off\naltered a 2000\naltered a 2000\npower 2: a sound 1, b sound 1\nstart at 2\nend at 2 credit 0\n") Status.Done (plain 2 0)
  pub cancel_together : Gives (run (off ∷ alter_a 2000 1 ∷ alter_a 2000 2 ∷ alter_a 2000 3 ∷ on ∷ []) [] (made ∷ both 1 once ∷ []))
      (begins ++ codes "off\naltered a 2000\naltered a 2000\naltered a 2000\npower 2: a sound 1, b sound 1\nstart at 2\nend at 2 credit 0\n") Status.Done (plain 2 0)
  pub at_the_end : (run (off ∷ alter_a 2000 1 ∷ alter_b 9000 2 ∷ []) [] (made ∷ [])).state.masks ≡ record { side = Side.B; place = 9000; mask = 2 } ∷ record { side = Side.A; place = 2000; mask = 1 } ∷ []

-- both copies have a bad page
abbrev pub lost_pages : Start View
lost_pages = record { found = record { a = page 1; b = page 1 }; behind = record { a = page 1; b = page 1 }; boots = None }

-- Both copies altered in one off-period are the reason for a lock. A lock without it is counted.
pub record Locks : Type 0 where
  pub both_copies : Gives (run (lock_lines ++ bill 500 ∷ []) [] (made ∷ lost ∷ []))
      (begins ++ codes "off\naltered a 0\naltered b 9000\npower 2: a shut, b page 15\nlocked\nlocked\nend locked\n") Status.Locked (plain 2 0)
  pub one_place : Gives (run (off ∷ alter_a 2000 1 ∷ alter_b 2000 1 ∷ on ∷ []) [] (made ∷ lost_pages ∷ []))
      (begins ++ codes "off\naltered a 2000\naltered b 2000\npower 2: a page 1, b page 1\nlocked\nend locked\n") Status.Locked (plain 2 0)
  pub one_copy : Gives (run (off ∷ alter_a 0 255 ∷ on ∷ []) [] (made ∷ lost ∷ []))
      (begins ++ codes "off\naltered a 0\npower 2: a shut, b page 15\nlocked\nend locked\n") Status.Locked (record (plain 2 0) { other_locks = 1 })
  pub one_cancelled : Gives (run (off ∷ alter_a 0 255 ∷ alter_b 9000 1 ∷ alter_b 9000 1 ∷ on ∷ []) [] (made ∷ lost ∷ []))
      (begins ++ codes "off\naltered a 0\naltered b 9000\naltered b 9000\npower 2: a shut, b page 15\nlocked\nend locked\n") Status.Locked (record (plain 2 0) { other_locks = 1 })
  pub mask_of_nothing : Gives (run (off ∷ alter_a 0 255 ∷ alter_b 9000 0 ∷ on ∷ []) [] (made ∷ lost ∷ []))
      (begins ++ codes "off\naltered a 0\naltered b 9000\npower 2: a shut, b page 15\nlocked\nend locked\n") Status.Locked (record (plain 2 0) { other_locks = 1 })
  pub off_under_lock : Gives (run (lock_lines ++ off ∷ []) [] (made ∷ lost ∷ []))
      (begins ++ codes "off\naltered a 0\naltered b 9000\npower 2: a shut, b page 15\nlocked\nline 5\n") Status.ScriptFault (plain 2 0)
  pub on_under_lock : Gives (run (lock_lines ++ on ∷ []) [] (made ∷ lost ∷ []))
      (begins ++ codes "off\naltered a 0\naltered b 9000\npower 2: a shut, b page 15\nlocked\nline 5\n") Status.ScriptFault (plain 2 0)
  pub alter_under_lock : Gives (run (lock_lines ++ alter_a 0 1 ∷ []) [] (made ∷ lost ∷ []))
      (begins ++ codes "off\naltered a 0\naltered b 9000\npower 2: a shut, b page 15\nlocked\nline 5\n") Status.ScriptFault (plain 2 0)

-- What was altered ends where the copies are read: an opening after a cut knows nothing of it. The last of these runs finds
-- what no disk leaves, to show that its lock has no reason.
pub record AlteredBefore : Type 0 where
  pub cut_after_repair : Gives (run (off ∷ alter_a 2000 1 ∷ cut_sync 4 ∷ on ∷ []) [] (made ∷ page_bad ∷ both 1 once ∷ []))
      (begins ++ codes "off\naltered a 2000\narmed\npower 2: a page 1, b sound 1\npower 3: a sound 1, b sound 1\nstart at 2\nend at 2 credit 0\n") Status.Done (plain 3 1)
  pub next_off_period : Gives (run (off ∷ alter_a 2000 1 ∷ on ∷ off ∷ on ∷ []) [] (made ∷ page_bad ∷ both 2 (view 2 0 0 2) ∷ []))
      (begins ++ codes "off\naltered a 2000\npower 2: a page 1, b sound 1\nstart at 2 repaired a\noff\npower 3: a sound 2, b sound 2\nstart at 3\nend at 3 credit 0\n") Status.Done (plain 3 0)
  pub lock_after_a_cut : Gives (run (off ∷ alter_a 2000 1 ∷ alter_b 0 1 ∷ cut_sync 1 ∷ on ∷ []) [] (made ∷ page_bad ∷ lost ∷ []))
      (begins ++ codes "off\naltered a 2000\naltered b 0\narmed\npower 2: a page 1, b sound 1\npower 3: a shut, b page 15\nlocked\nend locked\n") Status.Locked (record (plain 3 1) { other_locks = 1 })

-- ================ forged images

-- an altered copy whose seal matches again, at a later sequence
abbrev pub forgery : Start View
forgery = start (CopyState.Sound 7) (CopyState.Sound 1) 7 (view 7 900 3 1)

-- the gate alone was altered, and what stands behind it is as it was
abbrev pub gate_shut : Start View
gate_shut = record { found = record { a = shut; b = CopyState.Sound 1 }; behind = record { a = CopyState.Sound 1; b = CopyState.Sound 1 }; boots = Some (1, Shows once) }

-- an altered copy that matches behind its gate, which is shut
abbrev pub forged_behind : Start View
forged_behind = record { found = record { a = shut; b = CopyState.Sound 1 }; behind = record { a = CopyState.Sound 7; b = CopyState.Sound 1 }; boots = Some (1, Shows once) }

-- An image is forged where a copy that was altered behind its gate is sound behind it. The count stays at what is found later.
pub record ForgedImages : Type 0 where
  pub another_view : Gives (run (off ∷ alter_a 2000 1 ∷ alter_a 1041 7 ∷ on ∷ []) [] (made ∷ forgery ∷ []))
      (begins ++ codes "off\naltered a 2000\naltered a 1041\npower 2: a sound 7, b sound 1\nstart at 8 repaired b\nend at 8 credit 900\n") Status.Done (record (plain 2 0) { forged = 1; other_views = 1 })
  pub behind_shut_gate : Gives (run (off ∷ alter_a 0 255 ∷ alter_a 2000 1 ∷ on ∷ []) [] (made ∷ forged_behind ∷ []))
      (begins ++ codes "off\naltered a 0\naltered a 2000\npower 2: a shut, b sound 1\nstart at 2 repaired a\nend at 2 credit 0\n") Status.Done (record (plain 2 0) { forged = 1 })
  pub gate_alone : Gives (run (off ∷ alter_a 0 255 ∷ on ∷ []) [] (made ∷ gate_shut ∷ []))
      (begins ++ codes "off\naltered a 0\npower 2: a shut, b sound 1\nstart at 2 repaired a\nend at 2 credit 0\n") Status.Done (plain 2 0)
  pub other_copy_altered : Gives (run (off ∷ alter_b 9000 1 ∷ on ∷ []) [] (made ∷ start (CopyState.Sound 7) (page 15) 7 (view 7 900 3 1) ∷ []))
      (begins ++ codes "off\naltered b 9000\npower 2: a sound 7, b page 15\nstart at 8 repaired b\nend at 8 credit 900\n") Status.Done (record (plain 2 0) { other_views = 1 })
  pub found_again : Gives (run (off ∷ alter_a 2000 1 ∷ alter_a 1041 7 ∷ on ∷ cut_sync 1 ∷ bill 500 ∷ []) [] (made ∷ forgery ∷ both 8 (view 8 900 3 2) ∷ []))
      (begins ++ codes "off\naltered a 2000\naltered a 1041\npower 2: a sound 7, b sound 1\nstart at 8 repaired b\narmed\npower 3: a sound 8, b sound 8\nstart at 9\nack bill 4 taken at 10\nend at 10 credit 1400\n") Status.Done (record (plain 5 1) { forged = 1; other_views = 1 })
