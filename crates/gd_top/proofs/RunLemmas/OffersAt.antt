-- An offer of a standing, whatever comes later: whole, with a cut in it, or with the run ending in it.
use Rattle.std.proofs.Common.{◌≡◌, ◌∙◌, ap, ℕ, ◌+◌, Bool, true, false, List, [], ◌∷◌, ◌++◌, arith}
use Rattle.gd_disk.specs.CutRuns.{IsCompleteRun, IsCutOff}
use Rattle.gd_disk.specs.Disk.{DiskState, later_cuts}
use Rattle.gd_disk.specs.declared.disk.ArmedCut.{ArmedCut}
use Rattle.gd_disk.specs.declared.disk.CutUnit.{CutUnit}
use Rattle.gd_disk.specs.declared.disk.CutUnit.TheVariants.{Call, Sync}
use Rattle.gd_top.specs.Code.Falls.{AreWaiting, spent, fall_by, fall_of}
use Rattle.gd_top.specs.Code.Parts.{Outside, Moves}
use Rattle.gd_top.specs.Code.Standing.{Standing, Later, at, finds}
use Rattle.gd_top.specs.Run.Offers.{Whole, Fell, Broke, offer, counted, unless_broken, is_broken, Rise, AreArmed}
use Rattle.gd_top.proofs.RunLemmas.Cuts.{under_whole, under_fell}

rise_on : (m n : ℕ) (later : List ℕ) → n ≡ m + 1 → Rise n later → Rise m later
rise_on m n [] is rise = tt
rise_on m n (k ∷ ks) is rise = (omega (arith, is, rise.0), rise.1)

rise_at : (m n : ℕ) (later : List ℕ) → m ≡ n → Rise m later → Rise n later
rise_at m n [] is rise = tt
rise_at m n (k ∷ ks) is rise = (omega (arith, is, rise.0), rise.1)

rise_unit : (unit : CutUnit) (m n : ℕ) (later : List ℕ) → n ≡ m + 1 → Rise n later → Rise m (fall_by unit (m + 1) ++ later)
rise_unit Sync m n later is rise = rise_on m n later is rise
rise_unit Call m n later is rise = (omega arith, rise_at n (m + 1) later is rise)

-- one fall more, in the next offer
pub rise_fall : (cuts : List ArmedCut) (m n : ℕ) (later : List ℕ) → n ≡ m + 1 → Rise n later → Rise m (fall_of cuts (m + 1) ++ later)
rise_fall [] m n later is rise = rise_on m n later is rise
rise_fall (cut ∷ cuts) m n later is rise = rise_unit cut.unit m n later is rise

module _ {V : Type 0} where
  -- one offer more, of so many syncs
  abbrev pub after_offer : ℕ → Standing V → Standing V
  after_offer n s = record s { offers = s.offers + 1; syncs = s.syncs + n }

  -- and the armed cuts after it, where it was whole, and where a cut came in it
  abbrev pub after_whole : ℕ → Standing V → Standing V
  after_whole n s = record (after_offer n s) { armed = spent n s.armed }

  abbrev pub after_fall : ℕ → Standing V → Standing V
  after_fall n s = record (after_offer n s) { armed = later_cuts s.armed; fell = s.fell + 1 }

  pub offer_whole : (n : ℕ) (s : Standing V) (x : Later V) (old new : DiskState) → is_broken x.broken_at (s.offers + 1) ≡ false → AreArmed s.armed old.armed → AreWaiting old.armed → IsCompleteRun n old new → Rise (s.offers + 1) x.falls
      → offer n (at s x) ≡ record { fate = Whole; state = at (after_whole n s) x }
  offer_whole n s x old new unbroken told waits run rise =
      ap (λ (b : Bool). unless_broken b n (counted n (at s x))) unbroken ∙ under_whole n (counted n (at s x)) old new told waits run rise

  pub offer_fell : (n : ℕ) (s : Standing V) (x : Later V) (old new : DiskState) → is_broken x.broken_at (s.offers + 1) ≡ false → AreArmed s.armed old.armed → IsCutOff n old new
      → offer n (at s (finds [] (fall_of s.armed (s.offers + 1)) x)) ≡ record { fate = Fell; state = at (after_fall n s) x }
  offer_fell n s x old new unbroken told cut =
      ap (λ (b : Bool). unless_broken b n (counted n (at s (finds [] (fall_of s.armed (s.offers + 1)) x)))) unbroken
      ∙ under_fell n x.falls (counted n (at s x)) old new told cut

  pub offer_broke : (n : ℕ) (s : Standing V) (x : Later V) → is_broken x.broken_at (s.offers + 1) ≡ true → offer n (at s x) ≡ record { fate = Broke; state = at (after_offer n s) x }
  offer_broke n s x broken = ap (λ (b : Bool). unless_broken b n (counted n (at s x))) broken

  -- of a part in which the first of these cuts came, in its one offer
  pub fall_moves : (cuts : List ArmedCut) (a b : Standing V) (u v : Outside) → b.offers ≡ a.offers + 1 → b.fell ≡ a.fell + 1 → Moves a b u v (fall_of cuts (a.offers + 1))
  fall_moves cuts a b u v offers fell = record {
    offers = omega (arith, offers);
    falls = omega (arith, fell);
    rising = λ later rise. rise_fall cuts a.offers b.offers later offers rise;
    synced = λ same. absurd (omega (arith, fell, same));
  }
