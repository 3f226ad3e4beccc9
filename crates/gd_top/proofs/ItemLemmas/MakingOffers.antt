-- What the making of an empty memory over a locked one tells, where its offer was whole, where a cut came in it, and where the
-- disk failed in it. An opening comes behind a whole making, and behind a cut.
use Rattle.std.proofs.Common.{◌≡◌, ap, ◌+◌, [], codes, arith, true}
use Rattle.gd_base.specs.Judging.Machine.{Machine}
use Rattle.gd_disk.specs.CutRuns.{IsCompleteRun, IsCutOff}
use Rattle.gd_disk.specs.Disk.{DiskState}
use Rattle.gd_top.specs.Code.Falls.{AreWaiting, fall_of}
use Rattle.gd_top.specs.Code.Standing.{Standing, Later, EndsInNone, at, finds}
use Rattle.gd_top.specs.Run.Offers.{Offer, is_broken, syncs_of_making, Rise, AreArmed}
use Rattle.gd_top.specs.Run.Openings.{Reopening, Done, Cleared, make, made}
use Rattle.gd_top.specs.Run.State.{Nothing, Making, Off, before, breaks}
use Rattle.gd_top.proofs.RunLemmas.OffersAt.{after_offer, after_whole, after_fall, offer_whole, offer_fell, offer_broke}

module _ {V : Type 0} (M : Machine V) (again : Reopening V) (s : Standing V) where
  -- after a whole making: an empty memory under the next lap, with the power off
  abbrev pub making_cleared : Standing V
  making_cleared = record (after_whole syncs_of_making s) { view = M.empty; opening = M.empty; history = []; lap = s.lap + 1; phase = Off; masks = [] }

  pub making_whole : (old new : DiskState) → AreArmed s.armed old.armed → AreWaiting old.armed → IsCompleteRun syncs_of_making old new
      → (x : Later V) → EndsInNone x.broken_at (s.offers + 1) → Rise (s.offers + 1) x.falls
      → make M again (at s x) ≡ before (codes "cleared\n") (again Nothing Done (at making_cleared x))
  making_whole old new told waits run x whole rise =
      ap (λ (o : Offer V). made M again o.fate o.state) (offer_whole syncs_of_making s x old new (whole (s.offers + 1) (omega arith)) told waits run rise)

  -- with a cut in it: the making is in flight, and a cleared memory is still wanted
  pub making_fell : (old new : DiskState) → AreArmed s.armed old.armed → IsCutOff syncs_of_making old new → (x : Later V) → EndsInNone x.broken_at (s.offers + 1)
      → make M again (at s (finds [] (fall_of s.armed (s.offers + 1)) x)) ≡ again Making Cleared (at (after_fall syncs_of_making s) x)
  making_fell old new told cut x whole =
      ap (λ (o : Offer V). made M again o.fate o.state) (offer_fell syncs_of_making s x old new (whole (s.offers + 1) (omega arith)) told cut)

  -- with a failure of the disk in it: the run ends with the making in flight
  pub making_broke : (x : Later V) → is_broken x.broken_at (s.offers + 1) ≡ true → make M again (at s x) ≡ breaks Making (at (after_offer syncs_of_making s) x)
  making_broke x broken = ap (λ (o : Offer V). made M again o.fate o.state) (offer_broke syncs_of_making s x broken)
