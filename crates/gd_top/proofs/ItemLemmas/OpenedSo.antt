-- What one opening did, from a memory with the power off, with anything in flight.
use Rattle.std.proofs.Common.{◌≡◌, ◌∙◌, append-nil, ◌⊎◌, inl, inr, ap, sym, subst, refl, ℕ, ◌+◌, Bool, true, false, List, [], ◌∷◌, ◌++◌, length, arith, Option, None, Some, Result, Ok, Err, OnErr}
use Rattle.std.specs.Io.KnownBytes.{Appends}
use Rattle.gd_base.specs.Judging.Answer.{is_full}
use Rattle.gd_base.specs.Judging.Machine.{Machine, Blocks}
use Rattle.gd_base.specs.Laws.TellsViews.{HasPayload, TellsViews}
use Rattle.gd_base.specs.Outside.Causes.{AppendsFront, Rose}
use Rattle.gd_base.specs.Payloads.Spelled.{Shows, Foreign, Unreadable}
use Rattle.gd_cabinet.specs.OpenMoments.{opening_syncs, view_started}
use Rattle.gd_cabinet.specs.Shown.{shows, IsInBoth, ShowsEither}
use Rattle.gd_disk.specs.CutRuns.{IsCompleteRun, IsCutOff, IsFaulted}
use Rattle.gd_disk.specs.Disk.{DiskState, IsSynced}
use Rattle.gd_disk.specs.declared.lengths.TheConstants.{DISK_LEN}
use Rattle.gd_store.specs.Copy.{AreBad, found_in}
use Rattle.gd_store.specs.Masks.{found_behind, is_forged}
use Rattle.gd_store.specs.Repair.{Repair, repair_needed}
use Rattle.gd_store.specs.declared.copy.layout.TheConstants.{LAYOUT}
use Rattle.gd_top.specs.Claims.MemoryLeft.{IsLeftIn, IsNear, IsOfAnother, IsShut}
use Rattle.gd_top.specs.Code.Falls.{AreCalls, AreWaiting, fall_of, falls_by}
use Rattle.gd_top.specs.Code.Memory.{Agrees, Moment, Fits, FitsDown, IsFallen, IsKnownIn, IsLapFound, IsWantedIn, OpensTo, is_of_making, outside, stands_with, unless_failed}
use Rattle.gd_top.specs.Code.Parts.{GivesText, Pending}
use Rattle.gd_top.specs.Code.Standing.{Standing, Later, EndsInNone, at, finds, only}
use Rattle.gd_top.specs.Report.Lines.{differs_line, locked_line, power_line, start_text}
use Rattle.gd_top.specs.Run.Offers.{AreArmed, Rise}
use Rattle.gd_top.specs.Run.Openings.{Wanted, Done, Cleared, locked_with, power_on, resumed, still_wanted}
use Rattle.gd_top.specs.Run.Starts.{start_in}
use Rattle.gd_top.specs.Run.State.{State, Part, Flight, Nothing, Recording, Making, Phase, On, Locked, Differs, before, breaks, ends}
use Rattle.gd_top.specs.declared.halt.Halt.{Halt}
use Rattle.gd_top.specs.declared.item.opening.Opened.{Opened}
use Rattle.gd_top.specs.declared.memory.counts.Counts.{Counts}
use Rattle.gd_top.proofs.ItemLemmas.Images.{one_view, shown_boots}
use Rattle.gd_top.proofs.ItemLemmas.Opening.{opening_syncs_are, syncs_by}
use Rattle.gd_top.proofs.ItemLemmas.OpeningEnds.{broken_end, broken_so, fell_pending, fell_unwritten, near_next, resumed_ends, locked_ends, differs_ends, differs_tells, shut_tells, told_so, unbroken_so, unread_so, unwritten_so, whole_tells}
use Rattle.gd_top.proofs.ItemLemmas.OpeningOffers.{opened_view, opening_flight, opening_recorded}
use Rattle.gd_top.proofs.ItemLemmas.Readings.{IsRead, IsShutBy, differ_by, differ_clear, found_shut, lock_by, read_by, read_making, read_nothing, read_recording}
use Rattle.gd_top.proofs.RunLemmas.Cuts.{armed_length, armed_used, armed_whole, falls_are}
use Rattle.gd_top.proofs.RunLemmas.OffersAt.{after_fall}
use Rattle.gd_top.proofs.RunLemmas.Standings.{IsClear}

pub by_given : (given : Result (Unit {0}) Halt) (next : Result Opened Halt) (P : Result Opened Halt → Type 0) (u v : Option (List ℕ)) (text : List ℕ) → GivesText given u v text
    → (Appends u v text → P next) → (AppendsFront u v text → P (Err Halt.WriteFault)) → P (unless_failed given next)
by_given (Ok done) next P u v text gives whole front = whole gives
by_given (Err Halt.ScriptFault) next P u v text gives whole front = absurd gives
by_given (Err Halt.ReadFault) next P u v text gives whole front = absurd gives
by_given (Err Halt.DiskFault) next P u v text gives whole front = absurd gives
by_given (Err Halt.WriteFault) next P u v text gives whole front = front gives
by_given (Err Halt.SetupDiffers) next P u v text gives whole front = absurd gives

module _ (given : Result (Unit {0}) Halt) (u v : Option (List ℕ)) (text : List ℕ) (gives : GivesText given u v text) where
  -- it went on so, and not otherwise
  pub only_so : (kind other : Opened) → (kind ≡ other → ⊥) → unless_failed given (Ok kind) ≡ Ok other → ⊥
  only_so kind other differ = by_given given (Ok kind) (λ r. r ≡ Ok other → ⊥) u v text gives (λ all is. differ (cc is)) (λ front is. cc is)

  pub no_kind : (halt : Halt) (kind : Opened) → unless_failed given (Err halt) ≡ Ok kind → ⊥
  no_kind halt kind = by_given given (Err halt) (λ r. r ≡ Ok kind → ⊥) u v text gives (λ all is. cc is) (λ front is. cc is)

  pub no_disk_fault : (kind : Opened) → unless_failed given (Ok kind) ≡ Err Halt.DiskFault → ⊥
  no_disk_fault kind = by_given given (Ok kind) (λ r. r ≡ Err Halt.DiskFault → ⊥) u v text gives (λ all is. cc is) (λ front is. cc is)

  -- no other fault
  pub no_other : (next : Result Opened Halt) (halt : Halt) → (next ≡ Err halt → ⊥) → (Halt.WriteFault ≡ halt → ⊥) → unless_failed given next ≡ Err halt → ⊥
  no_other next halt never differ = by_given given next (λ r. r ≡ Err halt → ⊥) u v text gives (λ all is. never is) (λ front is. differ (which halt is))
    where
      which : (h : Halt) → (let r : Result Opened Halt = Err Halt.WriteFault in r) ≡ Err h → Halt.WriteFault ≡ h
      which h is = cc is

  -- a write fault has its cause
  pub write_cause : (next : Result Opened Halt) (a b : ℕ) → (next ≡ Err Halt.WriteFault → ⊥) → OnErr given (Rose a b) → unless_failed given next ≡ Err Halt.WriteFault → Rose a b
  write_cause next a b never cause = by_cause given gives cause
    where
      by_cause : (r : Result (Unit {0}) Halt) → GivesText r u v text → OnErr r (Rose a b) → unless_failed r next ≡ Err Halt.WriteFault → Rose a b
      by_cause (Ok done) g rose is = absurd (never is)
      by_cause (Err halt) g rose is = rose

-- ================ what was read

-- an image was found, of its length, and the lap is the one that the reading of it says
pub record HasRead {V : Type 0} (making : Bool) (was : Moment V) (mid : DiskState) (lap : ℕ) (image : List ℕ) : Type 0 where
  pub long : length image ≡ DISK_LEN
  pub lap_found : IsLapFound making was.machine mid was.counts.lap lap
  pub seen : mid.seen ≡ Some image
  pub synced : IsSynced mid
  pub tells : TellsViews was.machine
  pub armed : mid.armed ≡ was.disk.armed
  pub waiting : AreWaiting mid.armed
  pub syncs : mid.syncs ≡ was.disk.syncs

pub agrees_of : {V : Type 0} (flight : Flight) (s : Standing V) (m : Moment V) → FitsDown flight s m → Agrees s m
agrees_of flight s m fits = record { trial = fits.trial; lines = fits.lines; power_ons = fits.power_ons; lap = fits.lap; offers = fits.offers; armed = fits.armed; spelled = fits.spelled }

-- one power-on and one offer more were counted, under this lap
pub record CountsOpened (was now : Counts) (lap : ℕ) : Type 0 where
  pub power_ons : now.power_ons ≡ was.power_ons + 1
  pub lines : now.lines ≡ was.lines
  pub lap_is : now.lap ≡ lap
  pub offers : now.offers ≡ was.offers + 1

module _ {V : Type 0} (making : Bool) (was : Moment V) where
  abbrev M : Machine V
  M = was.machine

  abbrev B : Blocks
  B = was.blocks

  -- what is near to a fallen image still is where one more was found
  near_more : (flight : Flight) (s : Standing V) (found : List (List ℕ)) (next c : List ℕ) → IsNear M flight (at s (only [] [] None)) found c → IsFallen M flight s found c → IsNear M flight (at s (only [] [] None)) (found ++ next ∷ []) c
  near_more Nothing s found next c near fallen = near
  near_more (Recording e) s found next c near fallen = near
  near_more Making s found next c near fallen = fallen.2 next

  -- the power could not be turned on
  pub unpowered_to : (now : Moment V) (flight : Flight) (wanted : Wanted) (s : Standing V) → FitsDown flight s was → now.disk.found ≡ was.disk.found → now.counts.falls.items ≡ was.counts.falls.items → now.disk.armed ≡ was.disk.armed
      → ((c : List ℕ) → now.disk.may_find c → was.disk.may_find c) → Appends was.taken now.taken [] → OpensTo (Err Halt.DiskFault) flight wanted s was now
  unpowered_to now flight wanted s fits found falls armed still gives =
      unread_so M B flight wanted s [] (outside was) (outside now) now.disk fits.explained (omega arith) (found ∙ sym (append-nil was.disk.found)) falls (subst (AreArmed s.armed) (sym armed) fits.armed)
      (λ c may. subst (λ (f : List (List ℕ)). IsNear M flight (at s (only [] [] None)) f c) (sym found) (fits.near c (still c may))) gives

  -- the copies could not be read
  pub unread_to : (now : Moment V) (image : List ℕ) (flight : Flight) (wanted : Wanted) (s : Standing V) → FitsDown flight s was → now.disk.found ≡ was.disk.found ++ image ∷ [] → now.counts.falls.items ≡ was.counts.falls.items → now.disk.armed ≡ was.disk.armed
      → ((c : List ℕ) → now.disk.may_find c → was.disk.may_find c) → Appends was.taken now.taken [] → OpensTo (Err Halt.DiskFault) flight wanted s was now
  unread_to now image flight wanted s fits found falls armed still gives =
      unread_so M B flight wanted s (image ∷ []) (outside was) (outside now) now.disk fits.explained (omega arith) found falls (subst (AreArmed s.armed) (sym armed) fits.armed)
      (λ c may. subst (λ (f : List (List ℕ)). IsNear M flight (at s (only [] [] None)) f c) (sym found) (near_more flight s was.disk.found image c (fits.near c (still c may)) (fits.fallen c (still c may)))) gives

  module _ (mid : DiskState) (lap : ℕ) (image : List ℕ) (h : HasRead making was mid lap image) where
    module _ (could_be : was.disk.may_find image) (s : Standing V) (wanted : Wanted) where
      empty_of : FitsDown Making s was → HasPayload M M.empty
      empty_of fits = let near = fits.near image could_be in (near.payload, near.empty)

      -- the empty view has a payload where a cleared memory is wanted
      pub empty_for : (kind : Bool) (flight : Flight) (w : Wanted) → IsWantedIn kind flight w → w ≡ Cleared → FitsDown flight s was → HasPayload M M.empty
      empty_for false flight w is wants fits = absurd (never (is.1 ∙ wants) (ap still_wanted wants))
        where
          never : still_wanted w ≡ Cleared → still_wanted w ≡ Done → ⊥
          never a b = cc (a, b)
      empty_for true Nothing w is wants fits = absurd (cc is.0)
      empty_for true (Recording e) w is wants fits = absurd (cc is.0)
      empty_for true Making w is wants fits = empty_of fits

      -- what the reading says, by what was in flight
      pub read_of : (kind : Bool) (flight : Flight) → IsWantedIn kind flight wanted → IsLapFound kind M mid was.counts.lap lap → FitsDown flight s was → (v : V) → (shown : shows M image ≡ Shows v) → IsRead M h.tells image h.long s flight v lap
      read_of false Nothing is found fits v shown =
          subst (IsRead M h.tells image h.long s Nothing v) (fits.lap ∙ sym found)
          (read_nothing M h.tells image h.long s fits.explained v shown fits.within (fits.near image could_be) fits.spelled)
      read_of false (Recording e) is found fits v shown =
          subst (IsRead M h.tells image h.long s (Recording e) v) (fits.lap ∙ sym found)
          (read_recording M h.tells image h.long s fits.explained v shown e (either (fits.near image could_be)) fits.spelled)
        where
          either : ShowsEither M s.view (M.effect s.view e) image → (v ≡ s.view) ⊎ (v ≡ M.effect s.view e)
          either (inl stood) = inl (one_view M image s.view v stood shown)
          either (inr done) = inr (one_view M image (M.effect s.view e) v done shown)
      read_of false Making is found fits v shown = absurd (cc is.0)
      read_of true Nothing is found fits v shown = absurd (cc is.0)
      read_of true (Recording e) is found fits v shown = absurd (cc is.0)
      read_of true Making is found fits v shown =
          read_making M h.tells image h.long s fits.explained v shown lap
          (subst (λ (n : ℕ). ((shows M image ≡ Shows M.empty) × (lap ≡ n + 1)) ⊎ ((shows M image ≡ Shows M.empty → ⊥) × (lap ≡ n))) (sym fits.lap) (found h.tells image h.seen))
          (empty_of fits) fits.spelled (fits.fallen image could_be).1

      -- where nothing is forged a lock has its reason, and no view is found of another setup
      pub shut_of : (flight : Flight) → FitsDown flight s was → shows M image ≡ Unreadable → IsShutBy M h.tells image h.long s flight
      shut_of flight fits shut = found_shut M h.tells image h.long s flight was.disk.found fits.explained fits.within shut (fits.near image could_be) (fits.fallen image could_be)

      pub clear_of : (flight : Flight) → FitsDown flight s was → (kept : List ℕ) → shows M image ≡ Foreign kept → IsClear (differ_by (is_forged s.masks (found_behind LAYOUT image)) s)
      clear_of flight fits kept shown = differ_clear M h.tells image h.long s kept shown flight was.disk.found fits.within (fits.near image could_be) (fits.fallen image could_be)

      -- a lock raises no lap
      pub locked_lap : (kind : Bool) → IsLapFound kind M mid was.counts.lap lap → shows M image ≡ Unreadable → lap ≡ was.counts.lap
      locked_lap false found shut = found
      locked_lap true found shut = by_view (found h.tells image h.seen)
        where
          never : Shows M.empty ≡ Unreadable → ⊥
          never clash = cc clash

          by_view : ((shows M image ≡ Shows M.empty) × (lap ≡ was.counts.lap + 1)) ⊎ ((shows M image ≡ Shows M.empty → ⊥) × (lap ≡ was.counts.lap)) → lap ≡ was.counts.lap
          by_view (inl empty) = absurd (never (sym empty.0 ∙ shut))
          by_view (inr other) = other.1

    module _ (now : Moment V) (listed : now.disk.found ≡ was.disk.found ++ image ∷ []) (same : now.machine ≡ was.machine) (kind : now.is_trial ≡ was.is_trial) (counts : CountsOpened was.counts now.counts lap)
        (flight : Flight) (wanted : Wanted) (s : Standing V) (fits : Agrees s was) where
      abbrev line : List ℕ
      line = power_line (was.counts.power_ons + 1) (found_in LAYOUT image)

      abbrev line_as : List ℕ
      line_as = power_line (s.power_ons + 1) (found_in LAYOUT image)

      line_is : line_as ≡ line
      line_is = ap (λ (n : ℕ). power_line (n + 1) (found_in LAYOUT image)) fits.power_ons

      armed_mid : AreArmed s.armed mid.armed
      armed_mid = subst (AreArmed s.armed) (sym h.armed) fits.armed

      as_now : (v : V) → HasPayload M v → HasPayload now.machine v
      as_now v p = subst (λ (O : Machine V). HasPayload O v) (sym same) p

      -- ================ a view was found
      module _ (v : V) (shown : shows M image ≡ Shows v) (k : IsRead M h.tells image h.long s flight v lap) where
        abbrev read : Standing V
        read = read_by k.finding (is_forged s.masks (found_behind LAYOUT image)) v s

        abbrev full : Bool
        full = is_full M v

        abbrev repair : Repair
        repair = repair_needed (found_in LAYOUT image)

        abbrev syncs : ℕ
        syncs = syncs_by M B read.lap full repair

        syncs_are : opening_syncs M image ≡ syncs
        syncs_are = opening_syncs_are M B read.lap v image shown

        abbrev recorded : Standing V
        recorded = opening_recorded M B full repair read

        record IsPlain (t : Standing V) (n : ℕ) : Type 0 where
          pub phase : t.phase ≡ On
          pub masks : t.masks ≡ []
          pub lines : t.lines ≡ s.lines
          pub power_ons : t.power_ons ≡ s.power_ons + 1
          pub trial : t.is_trial ≡ s.is_trial
          pub lap_is : t.lap ≡ read.lap
          pub offers : t.offers ≡ s.offers + 1
          pub fell : t.fell ≡ s.fell
          pub syncs_is : t.syncs ≡ s.syncs + n
          pub clear : read.forged ≡ t.forged
          pub views : t.other_views ≡ read.other_views
          pub locks : t.other_locks ≡ read.other_locks

        plain : (b : Bool) → IsPlain (opening_recorded M B b repair read) (syncs_by M B read.lap b repair)
        plain true = record { phase = refl; masks = refl; lines = refl; power_ons = refl; trial = refl; lap_is = refl; offers = refl; fell = refl; syncs_is = refl; clear = refl; views = refl; locks = refl }
        plain false = record { phase = refl; masks = refl; lines = refl; power_ons = refl; trial = refl; lap_is = refl; offers = refl; fell = refl; syncs_is = refl; clear = refl; views = refl; locks = refl }

        armed_recorded : (b : Bool) (new : DiskState) → IsCompleteRun (syncs_by M B read.lap b repair) mid new → AreArmed (opening_recorded M B b repair read).armed new.armed
        armed_recorded true new run = armed_whole _ s.armed mid new armed_mid run
        armed_recorded false new run = armed_whole _ s.armed mid new armed_mid run

        abbrev facts : IsPlain recorded syncs
        facts = plain full

        pub viewed_to : (given : Result (Unit {0}) Halt) → now.phase ≡ On → now.view ≡ view_started M B lap v → HasPayload now.machine now.view → IsCompleteRun (opening_syncs M image) mid now.disk → now.counts.falls.items ≡ was.counts.falls.items
            → ((c : List ℕ) → now.disk.may_find c → IsInBoth M now.view c)
            → GivesText given was.taken now.taken (line ++ start_text full (M.count now.view) repair)
            → OpensTo (unless_failed given (Ok Opened.Stands)) flight wanted s was now
        viewed_to given on view payload ran falls both gives =
            by_given given (Ok Opened.Stands) (λ r. OpensTo r flight wanted s was now) was.taken now.taken (line ++ start_text full (M.count now.view) repair) gives
            (λ all. (
              recorded,
              fit,
              subst (λ (p : Phase). Pending M (power_on M B flight wanted) (stands_with M B p wanted) s recorded (outside was) (outside now)) (sym on)
                  (told_so M B h.tells image s (outside was) (outside now) listed (power_on M B flight wanted) (resumed M B (power_on M B) wanted) recorded now.disk text falls facts.offers facts.fell made
                  tells (subst (Appends was.taken now.taken) (sym text_is) all)),
            ))
            (λ front. unwritten_so M B h.tells image s (outside was) (outside now) listed (power_on M B flight wanted) (resumed M B (power_on M B) wanted) recorded now.disk text falls facts.offers clear (armed_length recorded.armed now.disk.armed armed_now)
            (resumed_ends M B recorded now.disk wanted facts.phase holds) tells (subst (AppendsFront was.taken now.taken) (sym text_is) front))
          where
            run : IsCompleteRun syncs mid now.disk
            run = subst (λ (n : ℕ). IsCompleteRun n mid now.disk) syncs_are ran

            text : List ℕ
            text = line_as ++ start_text full (M.count recorded.view) repair

            view_is : now.view ≡ recorded.view
            view_is = view ∙ ap (λ (n : ℕ). view_started M B n v) (sym k.lap_is) ∙ opened_view M B full repair read refl

            text_is : text ≡ line ++ start_text full (M.count now.view) repair
            text_is = ap (λ (w : V). line_as ++ start_text full (M.count w) repair) (sym view_is) ∙ ap (λ (l : List ℕ). l ++ start_text full (M.count now.view) repair) line_is

            armed_now : AreArmed recorded.armed now.disk.armed
            armed_now = armed_recorded full now.disk run

            holds : (c : List ℕ) → now.disk.may_find c → IsInBoth M recorded.view c
            holds c may = subst (λ (w : V). IsInBoth M w c) view_is (both c may)

            clear : recorded.forged ≡ 0 → (recorded.other_views ≡ 0) × (recorded.other_locks ≡ 0)
            clear none = let so_far = k.clear (facts.clear ∙ none) in (facts.views ∙ so_far.0, facts.locks ∙ so_far.1)

            made : now.disk.syncs + s.syncs ≡ was.disk.syncs + recorded.syncs
            made = omega (arith, run.made, h.syncs, facts.syncs_is)

            tells : (x : Later V) → EndsInNone x.broken_at recorded.offers → Rise recorded.offers x.falls
                → power_on M B flight wanted (at s (finds (start_in M image ∷ []) [] x)) ≡ before text (resumed M B (power_on M B) wanted (at recorded x))
            tells x whole rise =
                whole_tells M B h.tells image s (outside was) (outside now) listed flight wanted v lap shown h.long k mid armed_mid now.disk h.waiting run x
                (subst (EndsInNone x.broken_at) facts.offers whole) (subst (λ (n : ℕ). Rise n x.falls) facts.offers rise)

            fit : Fits recorded now
            fit = record {
              phase = facts.phase ∙ sym on;
              trial = facts.trial ∙ fits.trial ∙ sym kind;
              known = subst (λ (p : Phase). IsKnownIn p recorded.view recorded.masks now.view) (sym on) (sym view_is, facts.masks);
              lines = facts.lines ∙ fits.lines ∙ sym counts.lines;
              power_ons = facts.power_ons ∙ ap (λ (n : ℕ). n + 1) fits.power_ons ∙ sym counts.power_ons;
              lap = facts.lap_is ∙ k.lap_is ∙ sym counts.lap_is;
              offers = facts.offers ∙ ap (λ (n : ℕ). n + 1) fits.offers ∙ sym counts.offers;
              armed = armed_now;
              spelled = subst (HasPayload now.machine) view_is payload;
              holds = subst (λ (p : Phase). IsLeftIn now.machine p recorded.view recorded.masks now.disk) (sym on) (λ c may. subst (λ (O : Machine V). IsInBoth O recorded.view c) (sym same) (holds c may));
              bad = λ shut. absurd (not_shut (sym on ∙ shut));
              explained = clear;
            }
              where
                not_shut : On ≡ Locked → ⊥
                not_shut is = cc is

        -- a cut came in it
        pub fell_to : (given : Result (Unit {0}) Halt) → IsCutOff (opening_syncs M image) mid now.disk → AreCalls was.counts.calls.items was.disk.armed → now.counts.falls.items ≡ was.counts.falls.items ++ falls_by was.counts.calls.items (was.counts.offers + 1)
            → ((c : List ℕ) → now.disk.may_find c → ShowsEither M v (view_started M B lap v) c)
            → GivesText given was.taken now.taken line → OpensTo (unless_failed given (Ok Opened.Fell)) flight wanted s was now
        fell_to given ran calls falls either gives =
            by_given given (Ok Opened.Fell) (λ r. OpensTo r flight wanted s was now) was.taken now.taken line gives
            (λ all. (next, no_making full, fallen, down, fell_pending M B h.tells image s (outside was) (outside now) listed flight wanted v lap shown h.long k mid armed_mid now.disk cut falls_now (subst (Appends was.taken now.taken) (sym line_is) all)))
            (λ front. fell_unwritten M B h.tells image s (outside was) (outside now) listed flight wanted v lap shown h.long k mid armed_mid now.disk k.clear cut falls_now (subst (AppendsFront was.taken now.taken) (sym line_is) front) near_end)
          where
            cut : IsCutOff syncs mid now.disk
            cut = subst (λ (n : ℕ). IsCutOff n mid now.disk) syncs_are ran

            next : Flight
            next = opening_flight M B full read

            fallen : Standing V
            fallen = after_fall syncs read

            no_making : (b : Bool) → is_of_making (opening_flight M B b read) ≡ false
            no_making true = refl
            no_making false = refl

            no_masks : (b : Bool) (found : List (List ℕ)) (c : List ℕ) → IsFallen now.machine (opening_flight M B b read) fallen found c
            no_masks true found c = tt
            no_masks false found c = refl

            falls_now : now.counts.falls.items ≡ was.counts.falls.items ++ fall_of s.armed (s.offers + 1)
            falls_now = falls ∙ ap (λ (fell : List ℕ). was.counts.falls.items ++ fell) (falls_are was.counts.calls.items s.armed was.disk.armed (was.counts.offers + 1) calls fits.armed ∙ ap (λ (n : ℕ). fall_of s.armed (n + 1)) (sym fits.offers))

            near : (c : List ℕ) → now.disk.may_find c → IsNear M next (at fallen (only [] [] None)) now.disk.found c
            near c may =
                near_next M B h.tells image s (outside was) (outside now) listed flight wanted v lap shown h.long k mid armed_mid (at fallen (only [] [] None)) now.disk.found c refl refl
                (subst (λ (n : ℕ). ShowsEither M v (view_started M B n v) c) (sym k.lap_is) (either c may))

            near_end : (c : List ℕ) → now.disk.may_find c → IsNear M next (breaks next (at fallen (only [] [] None))).state now.disk.found c
            near_end c may =
                near_next M B h.tells image s (outside was) (outside now) listed flight wanted v lap shown h.long k mid armed_mid (breaks next (at fallen (only [] [] None))).state now.disk.found c refl refl
                (subst (λ (n : ℕ). ShowsEither M v (view_started M B n v) c) (sym k.lap_is) (either c may))

            down : FitsDown next fallen now
            down = record {
              trial = fits.trial ∙ sym kind;
              lines = fits.lines ∙ sym counts.lines;
              power_ons = ap (λ (n : ℕ). n + 1) fits.power_ons ∙ sym counts.power_ons;
              lap = k.lap_is ∙ sym counts.lap_is;
              offers = ap (λ (n : ℕ). n + 1) fits.offers ∙ sym counts.offers;
              armed = armed_used syncs s.armed mid now.disk armed_mid cut;
              within = tt;
              spelled = let b = shown_boots M v image shown in as_now v (b.payload, b.spelled);
              near = λ c may. subst (λ (O : Machine V). IsNear O next (at fallen (only [] [] None)) now.disk.found c) (sym same) (near c may);
              fallen = λ c may. no_masks full now.disk.found c;
              explained = k.clear;
            }

        -- the disk failed in it
        pub failed_to : (given : Result (Unit {0}) Halt) → IsFaulted (opening_syncs M image) mid now.disk → now.counts.falls.items ≡ was.counts.falls.items
            → ((c : List ℕ) → now.disk.may_find c → ShowsEither M v (view_started M B lap v) c)
            → GivesText given was.taken now.taken line → OpensTo (unless_failed given (Err Halt.DiskFault)) flight wanted s was now
        failed_to given ran falls either gives =
            by_given given (Err Halt.DiskFault) (λ r. OpensTo r flight wanted s was now) was.taken now.taken line gives
            (λ all. broken_so M B h.tells image s (outside was) (outside now) listed flight wanted v lap shown h.long k mid armed_mid now.disk k.clear fault falls (subst (Appends was.taken now.taken) (sym line_is) all) near)
            (λ front. unbroken_so M B h.tells image s (outside was) (outside now) listed flight wanted v lap shown h.long k mid armed_mid now.disk k.clear fault falls (subst (AppendsFront was.taken now.taken) (sym line_is) front) near)
          where
            fault : IsFaulted syncs mid now.disk
            fault = subst (λ (n : ℕ). IsFaulted n mid now.disk) syncs_are ran

            near : (c : List ℕ) → now.disk.may_find c
                → IsNear M (opening_flight M B full read) (broken_end M B h.tells image s (outside was) (outside now) listed flight wanted v lap shown h.long k mid armed_mid).state now.disk.found c
            near c may =
                near_next M B h.tells image s (outside was) (outside now) listed flight wanted v lap shown h.long k mid armed_mid
                (broken_end M B h.tells image s (outside was) (outside now) listed flight wanted v lap shown h.long k mid armed_mid).state now.disk.found c refl refl
                (subst (λ (n : ℕ). ShowsEither M v (view_started M B n v) c) (sym k.lap_is) (either c may))

      -- ================ the memory is locked
      -- where nothing is forged it has its reason
      pub locked_to : IsShutBy M h.tells image h.long s flight → lap ≡ was.counts.lap → (wanted ≡ Cleared → HasPayload M M.empty) → (given : Result (Unit {0}) Halt) → now.phase ≡ Locked → shows M image ≡ Unreadable → now.disk.armed ≡ mid.armed → now.disk.syncs ≡ mid.syncs → now.counts.falls.items ≡ was.counts.falls.items
          → ((c : List ℕ) → now.disk.may_find c → c ≡ image)
          → GivesText given was.taken now.taken (line ++ locked_line) → OpensTo (unless_failed given (Ok Opened.Stands)) flight wanted s was now
      locked_to by same_lap empty given on shut armed syncs falls only_it gives =
          by_given given (Ok Opened.Stands) (λ r. OpensTo r flight wanted s was now) was.taken now.taken (line ++ locked_line) gives
          (λ all. (
            t,
            fit,
            subst (λ (p : Phase). Pending M (power_on M B flight wanted) (stands_with M B p wanted) s t (outside was) (outside now)) (sym on)
                (told_so M B h.tells image s (outside was) (outside now) listed (power_on M B flight wanted) (locked_with M (power_on M B) wanted) t now.disk text falls refl refl (omega (arith, syncs, h.syncs))
                (λ x whole rise. shut_tells M B h.tells image s (outside was) (outside now) listed flight wanted shut x) (subst (Appends was.taken now.taken) (sym text_is) all)),
          ))
          (λ front. unwritten_so M B h.tells image s (outside was) (outside now) listed (power_on M B flight wanted) (locked_with M (power_on M B) wanted) t now.disk text falls refl by.clear (armed_length s.armed now.disk.armed armed_now)
          (locked_ends M B t now.disk wanted empty refl left) (λ x whole rise. shut_tells M B h.tells image s (outside was) (outside now) listed flight wanted shut x)
          (subst (AppendsFront was.taken now.taken) (sym text_is) front))
        where
          forged : Bool
          forged = is_forged s.masks (found_behind LAYOUT image)

          t : Standing V
          t = lock_by flight forged s

          text : List ℕ
          text = line_as ++ locked_line

          text_is : text ≡ line ++ locked_line
          text_is = ap (λ (l : List ℕ). l ++ locked_line) line_is

          left : IsShut M now.disk
          left = record { image = image; earlier = was.disk.found; last = listed; only = only_it; shut = shut }

          armed_now : AreArmed s.armed now.disk.armed
          armed_now = subst (AreArmed s.armed) (sym armed) armed_mid

          fit : Fits t now
          fit = record {
            phase = sym on;
            trial = fits.trial ∙ sym kind;
            known = subst (λ (p : Phase). IsKnownIn p t.view t.masks now.view) (sym on) refl;
            lines = fits.lines ∙ sym counts.lines;
            power_ons = ap (λ (n : ℕ). n + 1) fits.power_ons ∙ sym counts.power_ons;
            lap = fits.lap ∙ sym same_lap ∙ sym counts.lap_is;
            offers = ap (λ (n : ℕ). n + 1) fits.offers ∙ sym counts.offers;
            armed = armed_now;
            spelled = as_now s.view fits.spelled;
            holds = subst (λ (p : Phase). IsLeftIn now.machine p t.view t.masks now.disk) (sym on) (subst (λ (O : Machine V). IsShut O now.disk) (sym same) left);
            bad = λ is none c may. subst (AreBad LAYOUT) (sym (only_it c may)) (by.bad none);
            explained = by.clear;
          }

      -- ================ the memory was made under another setup
      pub differs_to : IsClear (differ_by (is_forged s.masks (found_behind LAYOUT image)) s) → (given : Result (Unit {0}) Halt) (kept : List ℕ) → shows M image ≡ Foreign kept → now.disk.armed ≡ mid.armed → now.disk.syncs ≡ mid.syncs → now.counts.falls.items ≡ was.counts.falls.items
          → ((c : List ℕ) → now.disk.may_find c → c ≡ image) → now.disk.is_on ≡ true → IsSynced now.disk
          → GivesText given was.taken now.taken (line ++ differs_line kept M.digest) → OpensTo (unless_failed given (Err Halt.SetupDiffers)) flight wanted s was now
      differs_to clear given kept shown armed syncs falls only_it on synced gives =
          by_given given (Err Halt.SetupDiffers) (λ r. OpensTo r flight wanted s was now) was.taken now.taken (line ++ differs_line kept M.digest) gives
          (λ all. (
            t,
            record {
              carried = told_so M B h.tells image s (outside was) (outside now) listed (power_on M B flight wanted) rest t now.disk text falls refl refl (omega (arith, syncs, h.syncs)) told (subst (Appends was.taken now.taken) (sym text_is) all);
              armed = armed_now;
              explained = clear;
              left = left;
            },
          ))
          (λ front. unwritten_so M B h.tells image s (outside was) (outside now) listed (power_on M B flight wanted) rest t now.disk text falls refl clear (armed_length s.armed now.disk.armed armed_now)
          (differs_ends M B t now.disk left) told (subst (AppendsFront was.taken now.taken) (sym text_is) front))
        where
          forged : Bool
          forged = is_forged s.masks (found_behind LAYOUT image)

          t : Standing V
          t = differ_by forged s

          rest : State V → Part V
          rest u = ends Differs [] u

          text : List ℕ
          text = line_as ++ differs_line kept M.digest

          text_is : text ≡ line ++ differs_line kept M.digest
          text_is = ap (λ (l : List ℕ). l ++ differs_line kept M.digest) line_is

          told : (x : Later V) → EndsInNone x.broken_at t.offers → Rise t.offers x.falls → power_on M B flight wanted (at s (finds (start_in M image ∷ []) [] x)) ≡ before text (rest (at t x))
          told x whole rise = differs_tells M B h.tells image s (outside was) (outside now) listed flight wanted kept shown x

          left : IsOfAnother M now.disk
          left = record { kept = kept; shut = record { image = image; earlier = was.disk.found; last = listed; only = only_it; shut = shown }; is_on = on; synced = synced }

          armed_now : AreArmed s.armed now.disk.armed
          armed_now = subst (AreArmed s.armed) (sym armed) armed_mid
