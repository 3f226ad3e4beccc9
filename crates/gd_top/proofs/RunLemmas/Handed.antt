-- The reopening that an opening hands down is the one with the starts that are still to come.
use Rattle.std.proofs.Common.{◌≡◌, ◌∙◌, ap, sym, refl, ℕ, ◌+◌, nat_le, Bool, true, false, if◌then◌else◌, List, [], ◌∷◌, codes}
use Rattle.gd_base.specs.declared.step.Numbered.{Numbered}
use Rattle.gd_base.specs.declared.step.Stepped.{Stepped}
use Rattle.gd_base.specs.Histories.Entry.{Entry}
use Rattle.gd_base.specs.Judging.Answer.{answer, entry_of}
use Rattle.gd_base.specs.Judging.Machine.{Machine, Blocks}
use Rattle.gd_disk.specs.declared.disk.ArmedCut.{ArmedCut}
use Rattle.gd_disk.specs.declared.disk.CutUnit.{CutUnit}
use Rattle.gd_disk.specs.declared.disk.CutUnit.TheVariants.{Call, Sync}
use Rattle.gd_top.specs.Run.Offers.{Fate, Whole, Fell, Broke, Offer, is_head, under_unit, under_cuts, unless_broken, is_broken, counted, offer, syncs_of_event, syncs_of_making}
use Rattle.gd_top.specs.Run.Openings.{Wanted, Done, Answer, Cleared, cleared, turned_off, recorded, answered, answered_by, resumed, made, make, locked_with, reopen, power_on}
use Rattle.gd_top.specs.Run.State.{Start, State, before, Flight, Nothing, Recording, Making}
use Rattle.gd_top.proofs.RunLemmas.Equations.{answered_so}

module _ {V : Type 0} where
  starts_by : (b : Bool) (o p : Offer V) (s : State V) → o.state.starts ≡ s.starts → p.state.starts ≡ s.starts → (if b then o else p).state.starts ≡ s.starts
  starts_by true o p s first second = first
  starts_by false o p s first second = second

  unit_starts : (unit : CutUnit) (cut : ArmedCut) (cuts : List ArmedCut) (n : ℕ) (s : State V) → (under_unit unit cut cuts n s).state.starts ≡ s.starts
  unit_starts Sync cut cuts n s = starts_by (nat_le cut.count n) _ _ s refl refl
  unit_starts Call cut cuts n s = starts_by (is_head s.falls s.offers) _ _ s refl refl

  cuts_starts : (cuts : List ArmedCut) (n : ℕ) (s : State V) → (under_cuts cuts n s).state.starts ≡ s.starts
  cuts_starts [] n s = refl
  cuts_starts (cut ∷ cuts) n s = unit_starts cut.unit cut cuts n s

  unless_starts : (b : Bool) (n : ℕ) (s : State V) → (unless_broken b n s).state.starts ≡ s.starts
  unless_starts true n s = refl
  unless_starts false n s = cuts_starts s.armed n s

  -- an offer uses up no start
  pub offer_starts : (n : ℕ) (s : State V) → (offer n s).state.starts ≡ s.starts
  offer_starts n s = unless_starts (is_broken s.broken_at (s.offers + 1)) n (counted n s)

module _ {V : Type 0} (M : Machine V) (B : Blocks) (xs : List (Start V)) where
  reopen_alike : (flight : Flight) (wanted : Wanted) (s : State V) → s.starts ≡ xs → reopen M B xs flight wanted s ≡ power_on M B flight wanted s
  reopen_alike flight wanted s is = ap (λ (starts : List (Start V)). reopen M B starts flight wanted s) (sym is)

  recorded_alike : (e : Entry) (fate : Fate) (s : State V) → s.starts ≡ xs → recorded M (reopen M B xs) e fate s ≡ recorded M (power_on M B) e fate s
  recorded_alike e Whole s is = refl
  recorded_alike e Fell s is = reopen_alike (Recording e) (Answer (record { number = e.number; event = e.event })) s is
  recorded_alike e Broke s is = refl

  answered_by_alike : (e : Numbered) (a : Stepped) (s : State V) → s.starts ≡ xs → answered_by M B (reopen M B xs) e a s ≡ answered_by M B (power_on M B) e a s
  answered_by_alike e (Stepped.New reply) s is =
      let o = offer syncs_of_event s in recorded_alike (entry_of M B s.lap s.view e) o.fate o.state (offer_starts syncs_of_event s ∙ is)
  answered_by_alike e (Stepped.Again reply) s is = refl
  answered_by_alike e (Stepped.OutOfStep expected) s is = refl
  answered_by_alike e Stepped.HistoryFull s is = refl

  pub answered_alike : (e : Numbered) (s : State V) → s.starts ≡ xs → answered M B (reopen M B xs) e s ≡ answered M B (power_on M B) e s
  answered_alike e s is =
      answered_so M B (reopen M B xs) e s ∙ answered_by_alike e (answer M s.view e) s is ∙ sym (answered_so M B (power_on M B) e s)

  pub resumed_alike : (wanted : Wanted) (s : State V) → s.starts ≡ xs → resumed M B (reopen M B xs) wanted s ≡ resumed M B (power_on M B) wanted s
  resumed_alike Done s is = refl
  resumed_alike (Answer e) s is = answered_alike e s is
  resumed_alike Cleared s is = refl

  made_alike : (fate : Fate) (s : State V) → s.starts ≡ xs → made M (reopen M B xs) fate s ≡ made M (power_on M B) fate s
  made_alike Whole s is = ap (before (codes "cleared\n")) (reopen_alike Nothing Done (turned_off (cleared M s)) is)
  made_alike Fell s is = reopen_alike Making Cleared s is
  made_alike Broke s is = refl

  pub make_alike : (s : State V) → s.starts ≡ xs → make M (reopen M B xs) s ≡ make M (power_on M B) s
  make_alike s is = let o = offer syncs_of_making s in made_alike o.fate o.state (offer_starts syncs_of_making s ∙ is)

  pub locked_alike : (wanted : Wanted) (s : State V) → s.starts ≡ xs → locked_with M (reopen M B xs) wanted s ≡ locked_with M (power_on M B) wanted s
  locked_alike Done s is = refl
  locked_alike (Answer e) s is = refl
  locked_alike Cleared s is = make_alike s is
