-- Standings that fit a moment.
use Rattle.std.proofs.Common.{◌≡◌, sym, subst, ℕ, List, [], Result}
use Rattle.gd_base.specs.Judging.Machine.{Machine, Blocks}
use Rattle.gd_disk.specs.Disk.{DiskState}
use Rattle.gd_store.specs.Masks.{Mask}
use Rattle.gd_top.specs.Claims.MemoryLeft.{IsLeftIn}
use Rattle.gd_top.specs.Code.Memory.{Moment, Fits, IsKnownIn, Serves, CarriesOut, Does, outside}
use Rattle.gd_top.specs.Code.Parts.{CarriesBy}
use Rattle.gd_top.specs.Code.Standing.{Standing, Later, at}
use Rattle.gd_top.specs.Run.State.{State, Part, Phase, On, Off, Locked}
use Rattle.gd_top.specs.declared.halt.Halt.{Halt}
use Rattle.gd_top.proofs.RunLemmas.Said.{as_at}

module _ {V : Type 0} where
  -- what is known of a standing that fits, in its place
  abbrev stand_in : Phase → Standing V → Moment V → Standing V
  stand_in On s m = record s { view = m.view; phase = On; lines = m.counts.lines; power_ons = m.counts.power_ons; lap = m.counts.lap; offers = m.counts.offers; masks = []; is_trial = m.is_trial }
  stand_in Off s m = record s { phase = Off; lines = m.counts.lines; power_ons = m.counts.power_ons; lap = m.counts.lap; offers = m.counts.offers; is_trial = m.is_trial }
  stand_in Locked s m = record s { phase = Locked; lines = m.counts.lines; power_ons = m.counts.power_ons; lap = m.counts.lap; offers = m.counts.offers; masks = []; is_trial = m.is_trial }

  abbrev pub stand : Standing V → Moment V → Standing V
  stand s m = stand_in m.phase s m

  -- by the phase
  abbrev pub open_stand : V → ℕ → Standing V → Standing V
  open_stand v lap s = record s { view = v; phase = On; lap = lap; masks = [] }

  abbrev pub closed_stand : ℕ → Standing V → Standing V
  closed_stand lap s = record s { phase = Off; lap = lap }

  abbrev pub locked_stand : ℕ → Standing V → Standing V
  locked_stand lap s = record s { phase = Locked; lap = lap; masks = [] }

  pub stand_is : (s : Standing V) (m : Moment V) → Fits s m → s ≡ stand s m
  stand_is s m f = by_phase m.phase f.phase f.known
    where
      by_phase : (phase : Phase) → s.phase ≡ phase → IsKnownIn phase s.view s.masks m.view → s ≡ stand_in phase s m
      by_phase On e known = λ i. record s { view = known.0 i; phase = e i; lines = f.lines i; power_ons = f.power_ons i; lap = f.lap i; offers = f.offers i; masks = known.1 i; is_trial = f.trial i }
      by_phase Off e known = λ i. record s { phase = e i; lines = f.lines i; power_ons = f.power_ons i; lap = f.lap i; offers = f.offers i; is_trial = f.trial i }
      by_phase Locked e known = λ i. record s { phase = e i; lines = f.lines i; power_ons = f.power_ons i; lap = f.lap i; offers = f.offers i; masks = known i; is_trial = f.trial i }

  abbrev pub IsClear : Standing V → Type 0
  IsClear s = s.forged ≡ 0 → (s.other_views ≡ 0) × (s.other_locks ≡ 0)

  abbrev pub CarriesFrom : (Machine V → Blocks → State V → Part V) → Result (Unit {0}) Halt → Moment V → Moment V → Standing V → Type 0
  CarriesFrom tell ended was now s =
      (t : Standing V) × (Serves ended → Fits t now) × CarriesBy ended was.machine (tell was.machine was.blocks) s t (outside was) (outside now) now.disk

  -- it is enough to look at standings of which all is known that the code knows
  pub from_stand : (tell : Machine V → Blocks → State V → Part V) (ended : Result (Unit {0}) Halt) (was now : Moment V)
      → ((s : Standing V) → Fits (stand s was) was → CarriesFrom tell ended was now (stand s was)) → CarriesOut tell ended was now
  from_stand tell ended was now each s fits =
      let is = stand_is s was fits in
      subst (CarriesFrom tell ended was now) (sym is) (each s (subst (λ (z : Standing V). Fits z was) is fits))

  -- told alike
  pub out_as : (f g : Machine V → Blocks → State V → Part V) (ended : Result (Unit {0}) Halt) (was now : Moment V)
      → ((s : Standing V) (x : Later V) → g was.machine was.blocks (at (stand s was) x) ≡ f was.machine was.blocks (at (stand s was) x))
      → CarriesOut f ended was now → CarriesOut g ended was now
  out_as f g ended was now same h =
      from_stand g ended was now
      (λ s fits.
      let k = h (stand s was) fits in
      (k.0, k.1, as_at was.machine ended (f was.machine was.blocks) (g was.machine was.blocks) (stand s was) k.0 (outside was) (outside now) now.disk (same s) k.2))

  pub does_as : (f g : Machine V → Blocks → State V → Part V) (ended : Result (Unit {0}) Halt) (was now : Moment V)
      → ((s : Standing V) (x : Later V) → g was.machine was.blocks (at (stand s was) x) ≡ f was.machine was.blocks (at (stand s was) x))
      → Does f ended was now → Does g ended was now
  does_as f g ended was now same h = record { carried = out_as f g ended was now same h.carried; leaves = h.leaves; reads_nothing = h.reads_nothing }

  -- what the images hold, by another name of the machine
  pub holds_alike : (M N : Machine V) (phase : Phase) (v : V) (masks : List Mask) (disk : DiskState) → N ≡ M → IsLeftIn M phase v masks disk → IsLeftIn N phase v masks disk
  holds_alike M N phase v masks disk e h = subst (λ (O : Machine V). IsLeftIn O phase v masks disk) (sym e) h
