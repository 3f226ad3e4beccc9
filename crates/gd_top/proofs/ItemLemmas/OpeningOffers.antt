-- What an opening of a memory tells behind the reading of its copies, where its offer was whole, where a cut came in it, and where
-- the disk failed in it: the repair together with the start, or the repair alone over a full history.
use Rattle.std.proofs.Common.{◌≡◌, ◌∙◌, ap, refl, ◌+◌, ◌≤◌, ◌<◌, ◌^◌, if◌then◌else◌, Bool, true, false, [], ◌∷◌, arith}
use Rattle.std.proofs.lemmas.Bool.Decides.{nat_tests}
use Rattle.gd_base.specs.declared.event.Event.{Event}
use Rattle.gd_base.specs.declared.step.Stepped.{Stepped}
use Rattle.gd_base.specs.Judging.Answer.{after_answer, is_full}
use Rattle.gd_base.specs.Judging.Legal.{draw_of, next_entry}
use Rattle.gd_base.specs.Judging.Machine.{Machine, Blocks}
use Rattle.gd_base.proofs.AnswerLemmas.Answer.{answer_new, answer_full}
use Rattle.gd_cabinet.specs.OpenMoments.{start_of, view_started}
use Rattle.gd_disk.specs.CutRuns.{IsCompleteRun, IsCutOff}
use Rattle.gd_disk.specs.Disk.{DiskState}
use Rattle.gd_store.specs.Repair.{Repair, syncs_of_repair}
use Rattle.gd_top.specs.Code.Falls.{AreWaiting, fall_of}
use Rattle.gd_top.specs.Code.Standing.{Standing, Later, EndsInNone, at, finds}
use Rattle.gd_top.specs.Report.Lines.{start_text}
use Rattle.gd_top.specs.Run.Offers.{Offer, offer, is_broken, syncs_of_event, Rise, AreArmed}
use Rattle.gd_top.specs.Run.Openings.{Wanted, Reopening, opened, opened_full, resumed, started, still_wanted}
use Rattle.gd_top.specs.Run.State.{State, Part, Flight, Nothing, Recording, before, breaks}
use Rattle.gd_top.proofs.ItemLemmas.Opening.{syncs_by}
use Rattle.gd_top.proofs.RunLemmas.Equations.{opened_is}
use Rattle.gd_top.proofs.RunLemmas.OffersAt.{after_offer, after_whole, after_fall, offer_whole, offer_fell, offer_broke}

module _ {V : Type 0} (M : Machine V) (B : Blocks) where
  room_left : (v : V) → is_full M v ≡ false → M.count v < 2 ^ 36
  room_left v e = grind (arith, nat_tests, e)

  no_room : (v : V) → is_full M v ≡ true → 2 ^ 36 ≤ M.count v
  no_room v e = grind (arith, nat_tests, e)

  -- after a whole offer, by whether the history was full: the start is recorded, or nothing
  abbrev pub opening_recorded : Bool → Repair → Standing V → Standing V
  opening_recorded true repair s = after_whole (syncs_of_repair repair) s
  opening_recorded false repair s =
      let entry = next_entry M B s.lap s.view Event.Start in
      record (after_whole (syncs_of_repair repair + syncs_of_event) s) { view = M.effect s.view entry; history = entry ∷ s.history }

  -- what is in flight where a cut came or the disk failed
  abbrev pub opening_flight : Bool → Standing V → Flight
  opening_flight true s = Nothing
  opening_flight false s = Recording (next_entry M B s.lap s.view Event.Start)

  -- the view is then the one that the cabinet has
  pub opened_view : (full : Bool) (repair : Repair) (s : Standing V) → is_full M s.view ≡ full → view_started M B s.lap s.view ≡ (opening_recorded full repair s).view
  opened_view true repair s e =
      let start = start_of M s.view in
      ap (λ (a : Stepped). after_answer M s.view start (draw_of M B s.lap s.view start.event) a) (answer_full M s.view start refl (no_room s.view e))
  opened_view false repair s e =
      let start = start_of M s.view in
      ap (λ (a : Stepped). after_answer M s.view start (draw_of M B s.lap s.view start.event) a) (answer_new M s.view start refl (room_left s.view e))

  module _ (again : Reopening V) (repair : Repair) (wanted : Wanted) where
    -- the opening, by whether the history was full
    abbrev opened_by : Bool → State V → Part V
    opened_by full s =
        if full then (let o = offer (syncs_of_repair repair) s in opened_full M B again wanted o.fate o.state)
        else (let o = offer (syncs_of_repair repair + syncs_of_event) s in started M B again repair wanted o.fate o.state)

    module _ (s : Standing V) where
      whole_by : (full : Bool) (old new : DiskState) → AreArmed s.armed old.armed → AreWaiting old.armed → IsCompleteRun (syncs_by M B s.lap full repair) old new
          → (x : Later V) → is_broken x.broken_at (s.offers + 1) ≡ false → Rise (s.offers + 1) x.falls
          → (let t = opening_recorded full repair s in opened_by full (at s x) ≡ before (start_text full (M.count t.view) repair) (resumed M B again wanted (at t x)))
      whole_by true old new told waits run x whole rise =
          ap (λ (o : Offer V). opened_full M B again wanted o.fate o.state) (offer_whole (syncs_of_repair repair) s x old new whole told waits run rise)
      whole_by false old new told waits run x whole rise =
          ap (λ (o : Offer V). started M B again repair wanted o.fate o.state) (offer_whole (syncs_of_repair repair + syncs_of_event) s x old new whole told waits run rise)

      fell_by : (full : Bool) (old new : DiskState) → AreArmed s.armed old.armed → IsCutOff (syncs_by M B s.lap full repair) old new → (x : Later V) → is_broken x.broken_at (s.offers + 1) ≡ false
          → opened_by full (at s (finds [] (fall_of s.armed (s.offers + 1)) x)) ≡ again (opening_flight full s) (still_wanted wanted) (at (after_fall (syncs_by M B s.lap full repair) s) x)
      fell_by true old new told cut x whole =
          ap (λ (o : Offer V). opened_full M B again wanted o.fate o.state) (offer_fell (syncs_of_repair repair) s x old new whole told cut)
      fell_by false old new told cut x whole =
          ap (λ (o : Offer V). started M B again repair wanted o.fate o.state) (offer_fell (syncs_of_repair repair + syncs_of_event) s x old new whole told cut)

      broke_by : (full : Bool) (x : Later V) → is_broken x.broken_at (s.offers + 1) ≡ true
          → opened_by full (at s x) ≡ breaks (opening_flight full s) (at (after_offer (syncs_by M B s.lap full repair) s) x)
      broke_by true x broken = ap (λ (o : Offer V). opened_full M B again wanted o.fate o.state) (offer_broke (syncs_of_repair repair) s x broken)
      broke_by false x broken = ap (λ (o : Offer V). started M B again repair wanted o.fate o.state) (offer_broke (syncs_of_repair repair + syncs_of_event) s x broken)

      module _ (full : Bool) (e : is_full M s.view ≡ full) where
        pub opening_whole : (old new : DiskState) → AreArmed s.armed old.armed → AreWaiting old.armed → IsCompleteRun (syncs_by M B s.lap full repair) old new
            → (x : Later V) → EndsInNone x.broken_at (s.offers + 1) → Rise (s.offers + 1) x.falls
            → (let t = opening_recorded full repair s in opened M B again repair wanted (at s x) ≡ before (start_text full (M.count t.view) repair) (resumed M B again wanted (at t x)))
        opening_whole old new told waits run x whole rise =
            opened_is M B again repair wanted (at s x) full e ∙ whole_by full old new told waits run x (whole (s.offers + 1) (omega arith)) rise

        -- with a cut in it the start is in flight, or nothing, and an opening follows
        pub opening_fell : (old new : DiskState) → AreArmed s.armed old.armed → IsCutOff (syncs_by M B s.lap full repair) old new → (x : Later V) → EndsInNone x.broken_at (s.offers + 1)
            → opened M B again repair wanted (at s (finds [] (fall_of s.armed (s.offers + 1)) x)) ≡ again (opening_flight full s) (still_wanted wanted) (at (after_fall (syncs_by M B s.lap full repair) s) x)
        opening_fell old new told cut x whole =
            opened_is M B again repair wanted (at s (finds [] (fall_of s.armed (s.offers + 1)) x)) full e
            ∙ fell_by full old new told cut x (whole (s.offers + 1) (omega arith))

        -- with a failure of the disk in it the run ends
        pub opening_broke : (x : Later V) → is_broken x.broken_at (s.offers + 1) ≡ true
            → opened M B again repair wanted (at s x) ≡ breaks (opening_flight full s) (at (after_offer (syncs_by M B s.lap full repair) s) x)
        opening_broke x broken = opened_is M B again repair wanted (at s x) full e ∙ broke_by full x broken
