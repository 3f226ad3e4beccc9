-- How an opening ends: the memory stands, open or locked, a cut came in it, or the disk or the sink failed.
use Rattle.std.proofs.Common.{◌≡◌, ◌∙◌, ap, sym, subst, refl, ℕ, ◌+◌, ◌<◌, ◌≤◌, ◌==◌, Bool, true, false, append-nil, List, [], ◌∷◌, ◌++◌, length, arith, inl, inr, None, Some}
use Rattle.std.proofs.lemmas.Bool.Decides.{nat_tests}
use Rattle.std.specs.Io.KnownBytes.{Appends}
use Rattle.gd_base.specs.Judging.Answer.{answer, entry_of, is_full}
use Rattle.gd_base.specs.Judging.Legal.{next_entry}
use Rattle.gd_base.specs.Judging.Machine.{Machine, Blocks}
use Rattle.gd_base.specs.Laws.TellsViews.{HasPayload, TellsViews}
use Rattle.gd_base.specs.Outside.Causes.{AppendsFront}
use Rattle.gd_base.specs.Payloads.Spelled.{Spelled, Shows, Foreign, Unreadable}
use Rattle.gd_base.specs.declared.event.Event.{Event}
use Rattle.gd_base.specs.declared.step.Numbered.{Numbered}
use Rattle.gd_base.specs.declared.step.Stepped.{Stepped}
use Rattle.gd_cabinet.specs.OpenMoments.{view_started}
use Rattle.gd_cabinet.specs.Shown.{shows, ShowsEither}
use Rattle.gd_disk.specs.CutRuns.{IsCompleteRun, IsCutOff, IsFaulted}
use Rattle.gd_disk.specs.Disk.{DiskState}
use Rattle.gd_store.specs.Copy.{found_in}
use Rattle.gd_store.specs.Making.{IsMaking}
use Rattle.gd_store.specs.Masks.{found_behind, is_forged}
use Rattle.gd_store.specs.Repair.{Repair, repair_needed}
use Rattle.gd_store.specs.declared.copy.layout.TheConstants.{LAYOUT}
use Rattle.gd_top.specs.Claims.MemoryLeft.{IsLeftIn, IsLeftAt, IsNear, IsOfAnother, IsOfMaking, IsShut}
use Rattle.gd_top.specs.Code.Falls.{AreWaiting, fall_of}
use Rattle.gd_top.specs.Code.Parts.{Outside, Pending, FoundSince, Ending, Broken, Unwritten}
use Rattle.gd_top.specs.Code.Standing.{Standing, Later, EndsInNone, at, finds, only}
use Rattle.gd_top.specs.Report.AnswerText.{answer_text}
use Rattle.gd_top.specs.Report.Lines.{differs_line, locked_line, power_line, start_text}
use Rattle.gd_top.specs.Run.Offers.{AreArmed, Rise, is_broken, syncs_of_event, syncs_of_making}
use Rattle.gd_top.specs.Run.Openings.{Wanted, Done, Answer, Cleared, answered, found_open, locked_with, opened, power_on, powered, reopen, resumed, still_wanted}
use Rattle.gd_top.specs.Run.Starts.{start_in, starts_in}
use Rattle.gd_top.specs.Run.State.{Start, State, Part, Flight, Nothing, Recording, Making, On, Locked, Differs, before, breaks, ends, prints}
use Rattle.gd_top.proofs.ItemLemmas.EventOffers.{event_broke}
use Rattle.gd_top.proofs.ItemLemmas.Images.{holds_shows}
use Rattle.gd_top.proofs.ItemLemmas.MakingOffers.{making_broke}
use Rattle.gd_top.proofs.ItemLemmas.Opening.{syncs_by}
use Rattle.gd_top.proofs.ItemLemmas.OpeningOffers.{opened_view, opening_broke, opening_fell, opening_flight, opening_recorded, opening_whole}
use Rattle.gd_top.proofs.ItemLemmas.Readings.{IsRead, differ_by, lock_by, read_by}
use Rattle.gd_top.proofs.LineLemmas.Counted.{front_longer}
use Rattle.gd_top.proofs.RunLemmas.Cuts.{armed_faulted, armed_length, armed_used}
use Rattle.gd_top.proofs.RunLemmas.Equations.{answered_again, answered_full, answered_step, next_start, no_start}
use Rattle.gd_top.proofs.RunLemmas.Handed.{locked_alike, resumed_alike}
use Rattle.gd_top.proofs.RunLemmas.Joins.{before_before}
use Rattle.gd_top.proofs.RunLemmas.OffersAt.{after_fall, after_offer, fall_moves}
use Rattle.gd_top.proofs.RunLemmas.Said.{ends_nowhere, moves_on, nothing_behind}
use Rattle.gd_top.proofs.RunLemmas.Standings.{IsClear}

-- a run that ends in a later offer doesn't end before
ends_later : (n k : ℕ) → n < k → EndsInNone (Some k) n
ends_later n k lt m le = not_it k m (omega (arith, le, lt))
  where
    not_it : (k m : ℕ) → m < k → (let b : Bool = k == m in b) ≡ false
    not_it k m less = grind (arith, nat_tests, less)

same_number : (n : ℕ) → (n == n) ≡ true
same_number n = grind (arith, nat_tests)

-- the run ends in the next offer, and not before
ends_next : (n : ℕ) → EndsInNone (Some (n + 1)) n
ends_next n = ends_later n (n + 1) (omega arith)

is_next : (n : ℕ) → is_broken (Some (n + 1)) (n + 1) ≡ true
is_next n = same_number (n + 1)

module _ {V : Type 0} (M : Machine V) (B : Blocks) where
  -- ================ what follows where the sink failed: the run ends in the next offer, or without one

  pub record EndsWith (rest : State V → Part V) (t : Standing V) (disk : DiskState) : Type 0 where
    pub end : Part V
    pub is : rest (at t (only [] [] (Some (t.offers + 1)))) ≡ end
    pub used_up : (end.state.starts ≡ []) × (end.state.falls ≡ [])
    pub armed : end.state.armed ≡ t.armed
    pub clear : IsClear t → end.state.forged ≡ 0 → (end.state.other_views ≡ 0) × (end.state.other_locks ≡ 0)
    pub left : IsLeftAt M end disk

  module _ (t : Standing V) (disk : DiskState) where
    abbrev x : Later V
    x = only [] [] (Some (t.offers + 1))

    ends_here : (text : List ℕ) → IsLeftIn M t.phase t.view t.masks disk → EndsWith (λ s. prints text s) t disk
    ends_here text left = record { end = prints text (at t x); is = refl; used_up = (refl, refl); armed = refl; clear = λ clear. clear; left = left }

    as_ends : (f g : State V → Part V) → g (at t x) ≡ f (at t x) → EndsWith f t disk → EndsWith g t disk
    as_ends f g same k = record { end = k.end; is = same ∙ k.is; used_up = k.used_up; armed = k.armed; clear = k.clear; left = k.left }

    answered_by_ends : (e : Numbered) (a : Stepped) → answer M t.view e ≡ a → t.phase ≡ On → IsLeftIn M On t.view t.masks disk → EndsWith (answered M B (power_on M B) e) t disk
    answered_by_ends e (Stepped.New reply) is on both =
        let entry = entry_of M B t.lap t.view e in
        record {
          end = breaks (Recording entry) (at (after_offer syncs_of_event t) x);
          is = event_broke M B (power_on M B) e reply t is x (is_next t.offers);
          used_up = (refl, refl);
          armed = refl;
          clear = λ clear. clear;
          left = λ image may. inl (holds_shows M t.view image (both image may));
        }
    answered_by_ends e (Stepped.Again reply) is on both =
        as_ends (λ s. prints (answer_text e (Stepped.Again reply) (M.count t.view)) s) (answered M B (power_on M B) e) (answered_again M B (power_on M B) e (at t x) reply is)
        (ends_here (answer_text e (Stepped.Again reply) (M.count t.view)) (subst (λ p. IsLeftIn M p t.view t.masks disk) (sym on) both))
    answered_by_ends e (Stepped.OutOfStep expected) is on both =
        as_ends (λ s. prints (answer_text e (Stepped.OutOfStep expected) (M.count t.view)) s) (answered M B (power_on M B) e) (answered_step M B (power_on M B) e (at t x) expected is)
        (ends_here (answer_text e (Stepped.OutOfStep expected) (M.count t.view)) (subst (λ p. IsLeftIn M p t.view t.masks disk) (sym on) both))
    answered_by_ends e Stepped.HistoryFull is on both =
        as_ends (λ s. prints (answer_text e Stepped.HistoryFull (M.count t.view)) s) (answered M B (power_on M B) e) (answered_full M B (power_on M B) e (at t x) is)
        (ends_here (answer_text e Stepped.HistoryFull (M.count t.view)) (subst (λ p. IsLeftIn M p t.view t.masks disk) (sym on) both))

    pub resumed_ends : (wanted : Wanted) → t.phase ≡ On → IsLeftIn M On t.view t.masks disk → EndsWith (resumed M B (power_on M B) wanted) t disk
    resumed_ends Done on both = as_ends (λ s. prints [] s) (resumed M B (power_on M B) Done) refl (ends_here [] (subst (λ p. IsLeftIn M p t.view t.masks disk) (sym on) both))
    resumed_ends (Answer e) on both = as_ends (answered M B (power_on M B) e) (resumed M B (power_on M B) (Answer e)) refl (answered_by_ends e (answer M t.view e) refl on both)
    resumed_ends Cleared on both = as_ends (λ s. prints [] s) (resumed M B (power_on M B) Cleared) refl (ends_here [] (subst (λ p. IsLeftIn M p t.view t.masks disk) (sym on) both))

    -- a making that wasn't begun leaves the locked image
    unbegun : HasPayload M M.empty → (shut : IsShut M disk) → (image : List ℕ) → disk.may_find image → IsOfMaking M disk.found image
    unbegun empty shut image may = record {
      old = shut.image;
      earlier = shut.earlier;
      later = [];
      listed = shut.last;
      few = omega arith;
      shut = shut.shut;
      payload = empty.0;
      empty = empty.1;
      making = subst (λ (c : List ℕ). IsMaking LAYOUT empty.0 shut.image c) (sym (shut.only image may)) (inl (record { a = inr refl; b = inr refl }));
    }

    pub locked_ends : (wanted : Wanted) → (wanted ≡ Cleared → HasPayload M M.empty) → t.phase ≡ Locked → IsShut M disk → EndsWith (locked_with M (power_on M B) wanted) t disk
    locked_ends Done empty on shut = as_ends (λ s. prints [] s) (locked_with M (power_on M B) Done) refl (ends_here [] (subst (λ p. IsLeftIn M p t.view t.masks disk) (sym on) shut))
    locked_ends (Answer e) empty on shut = as_ends (λ s. prints locked_line s) (locked_with M (power_on M B) (Answer e)) refl (ends_here locked_line (subst (λ p. IsLeftIn M p t.view t.masks disk) (sym on) shut))
    locked_ends Cleared empty on shut = record {
      end = breaks Making (at (after_offer syncs_of_making t) x);
      is = making_broke M (power_on M B) t x (is_next t.offers);
      used_up = (refl, refl);
      armed = refl;
      clear = λ clear. clear;
      left = unbegun (empty refl) shut;
    }

    -- the run ends over a memory of another setup
    pub differs_ends : IsOfAnother M disk → EndsWith (λ s. ends Differs [] s) t disk
    differs_ends left = record { end = ends Differs [] (at t x); is = refl; used_up = (refl, refl); armed = refl; clear = λ clear. clear; left = left }

  -- ================ one power-on

  module _ (tells : TellsViews M) (image : List ℕ) (s : Standing V) (u o : Outside) (listed : o.found ≡ u.found ++ image ∷ []) where
    abbrev start : Start V
    start = start_in M image

    abbrev line : List ℕ
    line = power_line (s.power_ons + 1) (found_in LAYOUT image)

    abbrev repair : Repair
    repair = repair_needed (found_in LAYOUT image)

    abbrev forged : Bool
    forged = is_forged s.masks (found_behind LAYOUT image)

    abbrev found_one : FoundSince M u.found o.found
    found_one = record { since = image ∷ []; listed = listed; used = start ∷ []; unread = []; read = refl; few = omega arith }

    -- a text was given, or a front of it, and this is still to be told
    pub told_so : (tell rest : State V → Part V) (t : Standing V) (disk : DiskState) (text : List ℕ) → o.falls ≡ u.falls → t.offers ≡ s.offers + 1 → t.fell ≡ s.fell → o.syncs + s.syncs ≡ u.syncs + t.syncs
        → ((x : Later V) → EndsInNone x.broken_at t.offers → Rise t.offers x.falls → tell (at s (finds (start ∷ []) [] x)) ≡ before text (rest (at t x)))
        → Appends u.taken o.taken text → Pending M tell rest s t u o
    told_so tell rest t disk text falls offers fell syncs told gives = record {
      since = image ∷ [];
      listed = listed;
      fell = [];
      fallen = falls ∙ sym (append-nil u.falls);
      report = text;
      printed = gives;
      moves = moves_on s t u o (omega (arith, offers)) (omega (arith, fell)) syncs;
      tells = told;
    }

    pub unwritten_so : (tell rest : State V → Part V) (t : Standing V) (disk : DiskState) (text : List ℕ) → o.falls ≡ u.falls → t.offers ≡ s.offers + 1 → IsClear t → length disk.armed ≡ length t.armed → EndsWith rest t disk
        → ((x : Later V) → EndsInNone x.broken_at t.offers → Rise t.offers x.falls → tell (at s (finds (start ∷ []) [] x)) ≡ before text (rest (at t x)))
        → AppendsFront u.taken o.taken text → Unwritten M tell s u o disk
    unwritten_so tell rest t disk text falls offers clear armed k told gives = record {
      ending = record {
        found = found_one;
        fell = [];
        fallen = falls ∙ sym (append-nil u.falls);
        rising = tt;
        broken_at = Some (t.offers + 1);
        late = ends_later s.offers (t.offers + 1) (omega (arith, offers));
        end = before text k.end;
        tells = told (only [] [] (Some (t.offers + 1))) (ends_next t.offers) tt ∙ ap (before text) k.is;
        used_up = k.used_up;
        explained = k.clear clear;
      };
      printed = front_longer u.taken o.taken text k.end.report gives;
      armed = armed ∙ ap length (sym k.armed);
      left = k.left;
    }

    -- ================ a view was found

    module _ (flight : Flight) (wanted : Wanted) (v : V) (now_lap : ℕ) (shown : shows M image ≡ Shows v) (long : _) (k : IsRead M tells image long s flight v now_lap) where
      abbrev read : Standing V
      read = read_by k.finding forged v s

      abbrev full : Bool
      full = is_full M v

      abbrev syncs : ℕ
      syncs = syncs_by M B read.lap full repair

      view_tells : (fell : List ℕ) (x : Later V) → power_on M B flight wanted (at s (finds (start ∷ []) fell x)) ≡ before line (opened M B (reopen M B x.starts) repair wanted (at read (finds [] fell x)))
      view_tells fell x =
          let again = reopen M B x.starts in
          let y = finds (start ∷ []) fell x in
          next_start M B start x.starts flight wanted (at s y)
          ∙ ap (λ (r : Spelled V). before line (found_open M B again r start.found flight wanted (powered start x.starts (at s y)))) shown
          ∙ ap (λ (z : State V). before line (opened M B again repair wanted z)) (k.is x.starts y)

      module _ (on : DiskState) (told : AreArmed s.armed on.armed) where
        abbrev recorded : Standing V
        recorded = opening_recorded M B full repair read

        pub whole_tells : (now : DiskState) → AreWaiting on.armed → IsCompleteRun syncs on now → (x : Later V) → EndsInNone x.broken_at (s.offers + 1) → Rise (s.offers + 1) x.falls
            → power_on M B flight wanted (at s (finds (start ∷ []) [] x)) ≡ before (line ++ start_text full (M.count recorded.view) repair) (resumed M B (power_on M B) wanted (at recorded x))
        whole_tells now waits run x whole rise =
            view_tells [] x
            ∙ ap (before line) (opening_whole M B (reopen M B x.starts) repair wanted read full refl on now told waits run x whole rise)
            ∙ before_before line (start_text full (M.count recorded.view) repair) (resumed M B (reopen M B x.starts) wanted (at recorded x))
            ∙ ap (before (line ++ start_text full (M.count recorded.view) repair)) (resumed_alike M B x.starts wanted (at recorded x) refl)

        abbrev fallen : Standing V
        fallen = after_fall syncs read

        abbrev next : Flight
        next = opening_flight M B full read

        pub fell_tells : (now : DiskState) → IsCutOff syncs on now → (x : Later V) → EndsInNone x.broken_at (s.offers + 1)
            → power_on M B flight wanted (at s (finds (start ∷ []) (fall_of s.armed (s.offers + 1)) x)) ≡ before line (power_on M B next (still_wanted wanted) (at fallen x))
        fell_tells now cut x whole =
            view_tells (fall_of s.armed (s.offers + 1)) x
            ∙ ap (before line) (opening_fell M B (reopen M B x.starts) repair wanted read full refl on now told cut x whole)

        abbrev pub broken_end : Part V
        broken_end = before line (breaks next (at (after_offer syncs read) (only [] [] (Some (s.offers + 1)))))

        pub broke_tells : power_on M B flight wanted (at s (only (start ∷ []) [] (Some (s.offers + 1)))) ≡ broken_end
        broke_tells =
            let x = only [] [] (Some (s.offers + 1)) in
            view_tells [] x ∙ ap (before line) (opening_broke M B (reopen M B []) repair wanted read full refl x (is_next s.offers))

        -- what the images show where it ended behind the reading
        pub near_next : (t : State V) (found : List (List ℕ)) (c : List ℕ) → t.view ≡ v → t.masks ≡ [] → ShowsEither M v (view_started M B read.lap v) c → IsNear M next t found c
        near_next t found c view masks either = by_full full refl
          where
            by_full : (b : Bool) → is_full M v ≡ b → IsNear M (opening_flight M B b read) t found c
            by_full true e = inr (masks, stands either ∙ ap Shows (sym view))
              where
                stands : ShowsEither M v (view_started M B read.lap v) c → shows M c ≡ Shows v
                stands (inl is) = is
                stands (inr is) = is ∙ ap Shows (opened_view M B true repair read e)
            by_full false e = subst (λ (w : V). ShowsEither M w (M.effect w (next_entry M B read.lap v Event.Start)) c) (sym view) (subst (λ (w : V). ShowsEither M v w c) (opened_view M B false repair read e) either)

        -- a cut came in it, and the power line was given, or a front of it
        pub fell_pending : (now : DiskState) → IsCutOff syncs on now → o.falls ≡ u.falls ++ fall_of s.armed (s.offers + 1) → Appends u.taken o.taken line
            → Pending M (power_on M B flight wanted) (power_on M B next (still_wanted wanted)) s fallen u o
        fell_pending now cut falls gives = record {
          since = image ∷ [];
          listed = listed;
          fell = fall_of s.armed (s.offers + 1);
          fallen = falls;
          report = line;
          printed = gives;
          moves = fall_moves s.armed s fallen u o refl refl;
          tells = λ x whole rise. fell_tells now cut x whole;
        }

        pub fell_unwritten : (now : DiskState) → IsClear read → IsCutOff syncs on now → o.falls ≡ u.falls ++ fall_of s.armed (s.offers + 1) → AppendsFront u.taken o.taken line
            → ((c : List ℕ) → now.may_find c → IsNear M next (breaks next (at fallen (only [] [] None))).state now.found c) → Unwritten M (power_on M B flight wanted) s u o now
        fell_unwritten now clear cut falls gives near =
            let end = breaks next (at fallen (only [] [] None)) in
            record {
              ending = record {
                found = found_one;
                fell = fall_of s.armed (s.offers + 1);
                fallen = falls;
                rising = rises s.armed;
                broken_at = None;
                late = ends_nowhere s.offers;
                end = before line end;
                tells = ap (λ (fs : List ℕ). power_on M B flight wanted (at s (only (start ∷ []) fs None))) (sym (append-nil (fall_of s.armed (s.offers + 1))))
                    ∙ fell_tells now cut (only [] [] None) (ends_nowhere (s.offers + 1))
                    ∙ ap (before line) (no_start M B next (still_wanted wanted) (at fallen (only [] [] None)));
                used_up = (refl, refl);
                explained = clear;
              };
              printed = front_longer u.taken o.taken line [] gives;
              armed = armed_length fallen.armed now.armed (armed_used syncs s.armed on now told cut);
              left = near;
            }
          where
            rises : (cuts : _) → Rise s.offers (fall_of cuts (s.offers + 1))
            rises cuts = subst (Rise s.offers) (append-nil (fall_of cuts (s.offers + 1))) ((fall_moves cuts s fallen u o refl refl).rising [] tt)

        -- the disk failed in it
        abbrev broken_ending : IsClear read → o.falls ≡ u.falls → Ending M (power_on M B flight wanted) s u o
        broken_ending clear falls = record {
          found = found_one;
          fell = [];
          fallen = falls ∙ sym (append-nil u.falls);
          rising = tt;
          broken_at = Some (s.offers + 1);
          late = ends_next s.offers;
          end = broken_end;
          tells = broke_tells;
          used_up = (refl, refl);
          explained = clear;
        }

        pub broken_so : (now : DiskState) → IsClear read → IsFaulted syncs on now → o.falls ≡ u.falls → Appends u.taken o.taken line
            → ((c : List ℕ) → now.may_find c → IsNear M next broken_end.state now.found c) → Broken M (power_on M B flight wanted) s u o now
        broken_so now clear fault falls gives near = record {
          ending = broken_ending clear falls;
          breaks = refl;
          printed = subst (Appends u.taken o.taken) (sym (append-nil line)) gives;
          armed = armed_faulted syncs s.armed on now told fault;
          left = near;
        }

        pub unbroken_so : (now : DiskState) → IsClear read → IsFaulted syncs on now → o.falls ≡ u.falls → AppendsFront u.taken o.taken line
            → ((c : List ℕ) → now.may_find c → IsNear M next broken_end.state now.found c) → Unwritten M (power_on M B flight wanted) s u o now
        unbroken_so now clear fault falls gives near = record {
          ending = broken_ending clear falls;
          printed = front_longer u.taken o.taken line [] gives;
          armed = armed_faulted syncs s.armed on now told fault;
          left = near;
        }

    -- ================ the memory is locked

    pub shut_tells : (flight : Flight) (wanted : Wanted) → shows M image ≡ Unreadable → (x : Later V)
        → power_on M B flight wanted (at s (finds (start ∷ []) [] x)) ≡ before (line ++ locked_line) (locked_with M (power_on M B) wanted (at (lock_by flight forged s) x))
    shut_tells flight wanted shut x =
        let again = reopen M B x.starts in
        let y = finds (start ∷ []) [] x in
        let t = at (lock_by flight forged s) x in
        next_start M B start x.starts flight wanted (at s y)
        ∙ ap (λ (r : Spelled V). before line (found_open M B again r start.found flight wanted (powered start x.starts (at s y)))) shut
        ∙ before_before line locked_line (locked_with M again wanted t)
        ∙ ap (before (line ++ locked_line)) (locked_alike M B x.starts wanted t refl)

    -- ================ the memory was made under another setup

    pub differs_tells : (flight : Flight) (wanted : Wanted) (kept : List ℕ) → shows M image ≡ Foreign kept → (x : Later V)
        → power_on M B flight wanted (at s (finds (start ∷ []) [] x)) ≡ before (line ++ differs_line kept M.digest) (ends Differs [] (at (differ_by forged s) x))
    differs_tells flight wanted kept shown x =
        let again = reopen M B x.starts in
        let y = finds (start ∷ []) [] x in
        next_start M B start x.starts flight wanted (at s y)
        ∙ ap (λ (r : Spelled V). before line (found_open M B again r start.found flight wanted (powered start x.starts (at s y)))) shown
        ∙ nothing_behind (line ++ differs_line kept M.digest) (at (differ_by forged s) x) Differs

  -- ================ the copies could not be read

  -- what is in flight doesn't change what an image is near to
  near_still : (flight : Flight) (s : Standing V) (found : List (List ℕ)) (c : List ℕ) → IsNear M flight (at s (only [] [] None)) found c → IsNear M flight (breaks flight (at s (only [] [] None))).state found c
  near_still Nothing s found c near = near
  near_still (Recording e) s found c near = near
  near_still Making s found c near = near

  pub unread_so : (flight : Flight) (wanted : Wanted) (s : Standing V) (since : List (List ℕ)) (u o : Outside) (disk : DiskState) → IsClear s → length since ≤ 1 → o.found ≡ u.found ++ since → o.falls ≡ u.falls → AreArmed s.armed disk.armed
      → ((c : List ℕ) → disk.may_find c → IsNear M flight (at s (only [] [] None)) disk.found c) → Appends u.taken o.taken [] → Broken M (power_on M B flight wanted) s u o disk
  unread_so flight wanted s since u o disk clear few listed falls told near gives = record {
    ending = record {
      found = record { since = since; listed = listed; used = []; unread = starts_in M since; read = refl; few = few_starts since few };
      fell = [];
      fallen = falls ∙ sym (append-nil u.falls);
      rising = tt;
      broken_at = None;
      late = ends_nowhere s.offers;
      end = breaks flight (at s (only [] [] None));
      tells = no_start M B flight wanted (at s (only [] [] None));
      used_up = (refl, refl);
      explained = clear;
    };
    breaks = refl;
    printed = gives;
    armed = armed_length s.armed disk.armed told;
    left = λ c may. near_still flight s disk.found c (near c may);
  }
    where
      few_starts : (images : List (List ℕ)) → length images ≤ 1 → length (starts_in M images) ≤ 1
      few_starts [] le = omega arith
      few_starts (c ∷ []) le = omega arith
      few_starts (c ∷ d ∷ cs) le = absurd (omega (arith, le))
