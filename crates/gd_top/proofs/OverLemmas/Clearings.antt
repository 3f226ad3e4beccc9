-- The clearing of a locked image.
use Rattle.std.proofs.Common.{◌≡◌, ◌∙◌, ◌⊎◌, inl, inr, ap, sym, subst, refl, ℕ, ◌+◌, ◌≤◌, ◌&&◌, nat_le, Bool, true, append-nil, List, [], ◌∷◌, ◌++◌, length, arith, codes, Option, Some, Result, Ok, Err}
use Rattle.std.proofs.KnownBytes.{Appends-nil}
use Rattle.std.specs.Io.KnownBytes.{Appends}
use Rattle.std.proofs.lemmas.List.{length-append}
use Rattle.gd_base.specs.Judging.Machine.{Machine}
use Rattle.gd_base.specs.Laws.TellsViews.{TellsViews}
use Rattle.gd_base.specs.Payloads.Spelled.{Shows, Unreadable}
use Rattle.gd_cabinet.specs.Shown.{IsInBoth, shows}
use Rattle.gd_disk.specs.Disk.{DiskState, IfTold, next_count}
use Rattle.gd_top.specs.Claims.ImageRuns.{WasOpened, as_lab}
use Rattle.gd_top.specs.Claims.MemoryLeft.{IsLeftIn, IsMasked}
use Rattle.gd_top.specs.Code.Memory.{Agrees, Moment, Does, Fits, IsMade, IsMakingOver, IsUnmade, Leaves, OpensTo, Serves, Sits, as_opened, begun, outside}
use Rattle.gd_top.specs.Code.OverImage.{AreOpenedIn, Awaits, Ends, IsUnopened, IsUnread, OpensOver, Stands, over}
use Rattle.gd_top.specs.Code.Standing.{Standing}
use Rattle.gd_top.specs.Run.Offers.{syncs_of_making}
use Rattle.gd_top.specs.Run.Openings.{Done}
use Rattle.gd_top.specs.Run.State.{Phase, Nothing, On, Off, Locked, is_powered}
use Rattle.gd_top.specs.declared.halt.Halt.{Halt}
use Rattle.gd_top.specs.declared.memory.TheConstants.{MOST_POWER_ONS}
use Rattle.gd_top.specs.declared.memory.counts.Counts.{Counts}
use Rattle.gd_top.proofs.ItemLemmas.Clearing.{ComesTo, IsCleared, clear_begins, clear_line, cleared_goes, cleared_rest, comes_as, comes_broke, comes_does, comes_ends, comes_made, making_rest, opened_carries, told_cleared}
use Rattle.gd_top.proofs.ItemLemmas.Images.{holds_shows, one_view, told_at}
use Rattle.gd_top.proofs.ItemLemmas.OpeningEnds.{unread_so}
use Rattle.gd_top.proofs.OverLemmas.Disks.{faulted_as, whole_as}

module _ {V : Type 0} (was : Moment V) (image : List ℕ) (images : List (List ℕ)) (locked : was.phase ≡ Locked) (stands : Stands image images was) where
  abbrev M : Machine V
  M = was.machine

  -- a run over an image has no limit
  begins : ComesTo clear_line making_rest (λ t. Fits t (over images was)) (over images was) (over images was)
  begins = clear_begins (over images was) locked (λ s fits x. ap (λ (trial : Bool). trial && nat_le MOST_POWER_ONS (s.power_ons + length s.armed)) fits.trial)

  alone : images ≡ image ∷ []
  alone = subst (λ (p : Phase). AreOpenedIn M image p images) locked stands.opened

  pub opened_one : WasOpened M image images
  opened_one = inr (inl alone)

  module _ (N : Machine V) (v : V) (same : N ≡ M) (empty : v ≡ M.empty) where
    making_as : (disk : DiskState) (c : List ℕ) → IsMakingOver N v disk c → IsMakingOver N v (as_lab images disk) c
    making_as disk c m = record { payload = m.payload; spelled = m.spelled; before = m.before; was_there = m.was_there; making = m.making; other = m.other; also_there = m.also_there; boots = m.boots }

    -- the disk failed in the making
    pub clear_broke : (now : Moment V) → IsUnmade N v was.disk now.disk → now.disk.stops ≡ next_count was.disk.stops → now.machine ≡ M → ((lap index : ℕ) → now.blocks lap index ≡ was.blocks lap index)
        → now.taken ≡ was.taken → now.faults ≡ was.faults → now.counts.falls.items ≡ was.counts.falls.items → Does clear_line (Err Halt.DiskFault) (over images was) (over images now)
    clear_broke now un stop machine blocks taken faults falls =
        comes_broke (over images was) (over images was) locked begins N v same empty (over images now) (faulted_as images images was.disk now.disk syncs_of_making un.failed stop)
        (λ c may. making_as was.disk c (un.near (stands.sits.synced locked) c may)) refl machine blocks taken faults falls

    module _ (made : Moment V) (off : made.phase ≡ Off) (h : IsMade N v was.disk made.disk) (no_stop : made.disk.stops ≡ was.disk.stops) (machine : made.machine ≡ M) (blocks : (lap index : ℕ) → made.blocks lap index ≡ was.blocks lap index)
        (taken : made.taken ≡ was.taken) (faults : made.faults ≡ was.faults) (counts : made.counts ≡ record was.counts { lap = was.counts.lap + 1; offers = was.counts.offers + 1 }) where
      made_as : IsMade N v (as_lab images was.disk) (as_lab images made.disk)
      made_as = record { size = h.size; spelled = h.spelled; both = h.both; run = whole_as images images was.disk made.disk syncs_of_making h.run no_stop; found = refl }

      cleared : ComesTo clear_line cleared_rest (IsCleared (over images made)) (over images was) (over images made)
      cleared = comes_made (over images was) (over images was) locked begins N v same empty (over images made) refl stands.sits off made_as machine blocks taken faults counts

      -- and then this was done
      pub clear_then : (r : Result (Unit {0}) Halt) (next : List (List ℕ)) (now : Moment V) → Does cleared_rest r (over images made) (over next now) → Does clear_line r (over images was) (over next now)
      clear_then r next now does =
          comes_does clear_line cleared_rest r (over images was) (over images made) (over next now)
          (comes_as clear_line cleared_rest (IsCleared (over images made)) (λ t. Fits t (over images made)) (over images was) (over images made) (λ t p. p.0) cleared) does

      -- the memory is opened behind it
      module _ (said : Option (List ℕ)) (said_faults : ℕ) (gives : Appends made.taken said (codes "cleared\n")) (later : made.faults ≤ said_faults) where
        abbrev told : Moment V
        told = record made { taken = said; faults = said_faults }

        known : (t : Standing V) → IsCleared (over images made) t → Agrees t (over images told)
        known t f = record { trial = f.0.trial; lines = f.0.lines; power_ons = f.0.power_ons; lap = f.0.lap; offers = f.0.offers; armed = f.0.armed; spelled = f.0.spelled }

        is_unopened : IsUnopened images told
        is_unopened = record {
          tells = subst TellsViews (sym machine) stands.sits.tells;
          given = ap (λ (k : Counts). k.given) counts ∙ stands.sits.given ∙ ap (λ (O : Machine V). O.digest) (sym machine);
          laps = omega (arith, ap (λ (k : Counts). k.lap) counts, ap (λ (k : Counts). k.power_ons) counts, laps was.phase locked stands.sits.laps);
          as_many = ap (λ (k : Counts). k.power_ons) counts ∙ stands.as_many;
          few = omega (arith, ap length alone);
          calls = ap (λ (k : Counts). k.calls.items) counts ∙ stands.sits.counted.calls;
          falls = ap (λ (k : Counts). k.falls.items) counts ∙ stands.falls;
        }
          where
            laps : (p : Phase) → p ≡ Locked → begun p was.counts.lap ≤ was.counts.power_ons → was.counts.lap + 1 ≤ was.counts.power_ons
            laps p is le = subst (λ (q : Phase). begun q was.counts.lap ≤ was.counts.power_ons) is le

        module _ (new : List ℕ) (seen : made.disk.seen ≡ Some new) (shown : IfTold made.disk.seen (IsInBoth N v)) where
          both : IsInBoth M M.empty new
          both = subst (λ (w : V). IsInBoth M w new) empty (subst (λ (O : Machine V). IsInBoth O v new) same (told_at made.disk.seen new (IsInBoth N v) seen shown))

          shows_empty : shows M new ≡ Shows M.empty
          shows_empty = holds_shows M M.empty new both

          shows_made : shows made.machine new ≡ Shows made.machine.empty
          shows_made = subst (λ (O : Machine V). shows O new ≡ Shows O.empty) (sym machine) shows_empty

          awaits : (t : Standing V) → IsCleared (over images made) t → Awaits new images t told
          awaits t f = record {
            agrees = known t f;
            masks = f.1.0;
            view = λ w is. one_view made.machine new made.machine.empty w shows_made is ∙ sym f.1.1;
            known = λ none. shows_made ∙ ap Shows (sym f.1.1);
            explained = f.0.explained;
          }

          opened_both : WasOpened M image (images ++ new ∷ [])
          opened_both = inr (inr (record { made = new; is = ap (λ (cs : List (List ℕ)). cs ++ new ∷ []) alone; both = both }))

          module _ (T : Type 0) (tells : T) (r : Result (Unit {0}) Halt) (now : Moment V) (opens : OpensOver T r told now) where
            ends : Ends r told now
            ends = opens.ends

            not_locked : r ≡ Ok tt → now.phase ≡ Locked → ⊥
            not_locked is shut = never (sym shows_made ∙ opens.locked tells new seen is shut)
              where
                never : Shows made.machine.empty ≡ Unreadable → ⊥
                never clash = cc clash

            -- what the opening leaves, with these images opened
            leaves_in : (next : List (List ℕ)) → (Serves r → Sits (over next now)) → Leaves r (over images made) (over next now)
            leaves_in next sits = record {
              sits = sits;
              no_fault = ends.no_stop;
              disk_fault = ends.disk_fault;
              later = omega (arith, later, ends.later);
              write_fault = λ is. omega (arith, later, ends.write_fault is);
              machine = ends.machine;
              blocks = ends.blocks;
            }

            -- an opening that serves ended well
            served : Serves r → r ≡ Ok tt
            served serves = by_result r opens.no_stop opens.no_read serves
              where
                by_result : (q : Result (Unit {0}) Halt) → (q ≡ Err Halt.ScriptFault → ⊥) → (q ≡ Err Halt.ReadFault → ⊥) → Serves q → q ≡ Ok tt
                by_result (Ok done) stop read s = refl
                by_result (Err Halt.ScriptFault) stop read s = absurd (stop refl)
                by_result (Err Halt.ReadFault) stop read s = absurd (read refl)
                by_result (Err Halt.DiskFault) stop read s = absurd s
                by_result (Err Halt.WriteFault) stop read s = absurd s
                by_result (Err Halt.SetupDiffers) stop read s = absurd s

            powered : r ≡ Ok tt → is_powered now.phase ≡ true
            powered is = (ends.rests (subst Serves (sym is) tt)).powered

            open_then : (next : List (List ℕ)) → (Serves r → Sits (over next now)) → ((t : Standing V) → IsCleared (over images made) t → OpensTo (as_opened r) Nothing Done t (over images told) (over next now)) → Does clear_line r (over images was) (over next now)
            open_then next sits each =
                comes_ends clear_line cleared_rest (IsCleared (over images made)) r (over images was) (over images made) (over next now) cleared
                (λ t f.
                opened_carries (over images made) (over images told) r (over next now) Nothing (told_cleared made.machine made.blocks t) t t opens.no_stop opens.no_read powered
                (cleared_goes made.machine made.blocks t (outside (over images made)) (outside (over images told)) refl refl refl gives) (each t f))
                (leaves_in next sits) opens.no_read

            -- the images of a memory that was made, where its copies could not be read
            unread_then : IsUnread r told now → (t : Standing V) → IsCleared (over images made) t → OpensTo (as_opened r) Nothing Done t (over images told) (over images now)
            unread_then un t f =
                subst (λ (q : Result (Unit {0}) Halt). OpensTo (as_opened q) Nothing Done t (over images told) (over images now)) (sym un.fault)
                (unread_so made.machine made.blocks Nothing Done t [] (outside (over images told)) (outside (over images now)) (as_lab images now.disk) f.0.explained (omega arith) (sym (append-nil images)) un.falls f.0.armed
                (λ c may. inl (masked_by made.phase off t f.0.holds c (un.still c may))) (subst (λ (bytes : Option (List ℕ)). Appends said bytes []) (sym un.taken) (Appends-nil said)))
              where
                masked_by : (p : Phase) → p ≡ Off → (t : Standing V) → IsLeftIn made.machine p t.view t.masks (as_lab images made.disk) → (c : List ℕ) → made.disk.may_find c → IsMasked made.machine t.view t.masks c
                masked_by p is t holds = subst (λ (q : Phase). IsLeftIn made.machine q t.view t.masks (as_lab images made.disk)) is holds

            -- the whole
            pub clear_opened : now.counts.power_ons ≡ made.counts.power_ons + 1
                → (next : List (List ℕ)) × WasOpened M image next × (Serves r → Stands image next now) × Does clear_line r (over images was) (over next now)
            clear_opened more = by_reading (opens.carried tells new images is_unopened seen)
              where
                not_served : IsUnread r told now → Serves r → ⊥
                not_served un serves = subst Serves un.fault serves

                phase_is : (p : Phase) → now.phase ≡ p → is_powered p ≡ true → (p ≡ Locked → ⊥) → now.phase ≡ On
                phase_is On is on none = is
                phase_is Off is on none = absurd (cc on)
                phase_is Locked is on none = absurd (none refl)

                now_on : r ≡ Ok tt → now.phase ≡ On
                now_on is = phase_is now.phase refl (powered is) (not_locked is)

                stands_next : r ≡ Ok tt → Stands image (images ++ new ∷ []) now
                stands_next is = record {
                  opened = subst (λ (p : Phase). AreOpenedIn now.machine image p (images ++ new ∷ [])) (sym (now_on is)) (subst (λ (O : Machine V). WasOpened O image (images ++ new ∷ [])) (sym (ends.machine ∙ machine)) opened_both);
                  as_many = more ∙ ap (λ (n : ℕ). n + 1) is_unopened.as_many ∙ sym (length-append images (new ∷ []));
                  falls = ends.falls ∙ is_unopened.falls;
                  sits = opens.sits tells new images is_unopened seen is;
                }

                by_reading : IsUnread r told now ⊎ ((s : Standing V) → Awaits new images s told → OpensTo (as_opened r) Nothing Done s (over images told) (over (images ++ new ∷ []) now))
                    → (next : List (List ℕ)) × WasOpened M image next × (Serves r → Stands image next now) × Does clear_line r (over images was) (over next now)
                by_reading (inl un) = (images, opened_one, (λ serves. absurd (not_served un serves)), open_then images (λ serves. absurd (not_served un serves)) (unread_then un))
                by_reading (inr each) = (
                  images ++ new ∷ [],
                  opened_both,
                  (λ serves. stands_next (served serves)),
                  open_then (images ++ new ∷ []) (λ serves. opens.sits tells new images is_unopened seen (served serves)) (λ t f. each t (awaits t f)),
                )
