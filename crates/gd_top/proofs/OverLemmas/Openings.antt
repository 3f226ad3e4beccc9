-- The opening of an image.
use Rattle.std.proofs.Common.{◌≡◌, ◌∙◌, ◌⊎◌, inl, inr, ap, sym, subst, refl, ℕ, ◌+◌, ◌≤◌, Bool, true, false, if◌then◌else◌, List, [], ◌∷◌, ◌++◌, length, arith, Some, Result, Ok, Err}
use Rattle.gd_base.specs.Judging.Machine.{Machine}
use Rattle.gd_base.specs.Laws.TellsViews.{TellsViews}
use Rattle.gd_base.specs.Payloads.Spelled.{Spelled, Shows, Unreadable}
use Rattle.gd_cabinet.specs.Shown.{shows}
use Rattle.gd_disk.specs.Disk.{DiskState, IsSynced}
use Rattle.gd_disk.specs.declared.lengths.TheConstants.{DISK_LEN}
use Rattle.gd_store.specs.OpenAnswer.{IsOpenable}
use Rattle.gd_store.specs.Masks.{AreWithin, found_behind, is_forged}
use Rattle.gd_store.specs.declared.copy.layout.TheConstants.{LAYOUT}
use Rattle.gd_top.specs.Code.Memory.{Moment, Sits, begun, as_opened, unless_failed}
use Rattle.gd_top.specs.Code.OverImage.{Awaits, IsUnopened, over, unless_given}
use Rattle.gd_top.specs.Code.Standing.{Standing}
use Rattle.gd_top.specs.Run.State.{Nothing, Phase, On, Locked, is_powered}
use Rattle.gd_top.specs.declared.halt.Halt.{Halt}
use Rattle.gd_top.specs.declared.item.opening.Opened.{Opened}
use Rattle.gd_top.proofs.ItemLemmas.OpenedSo.{HasRead}
use Rattle.gd_top.proofs.ItemLemmas.Readings.{IsRead, IsShutBy, differ_by, read_nothing}
use Rattle.gd_top.proofs.RunLemmas.Standings.{IsClear}

-- how an opening ended, by what was given
pub given_stands : (given : Result (Unit {0}) Halt) → as_opened given ≡ unless_failed given (Ok Opened.Stands)
given_stands (Ok done) = refl
given_stands (Err halt) = refl

pub given_ends : (given : Result (Unit {0}) Halt) (halt : Halt) → as_opened (unless_given given halt) ≡ unless_failed given (Err halt)
given_ends (Ok done) halt = refl
given_ends (Err failed) halt = refl

-- a disk that was read had its power on, and nothing waited for a sync
pub was_synced : (disk : DiskState) → IsOpenable disk → disk.is_on ≡ true → IsSynced disk
was_synced disk (inl off) on = absurd (cc (off, on))
was_synced disk (inr synced) on = synced

module _ {V : Type 0} (was : Moment V) (image : List ℕ) (images : List (List ℕ)) (k : IsUnopened images was) where
  abbrev M : Machine V
  M = was.machine

  -- the image was read
  pub read_over : was.disk.size ≡ DISK_LEN → IsSynced was.disk → was.disk.seen ≡ Some image → HasRead false (over images was) (over images was).disk was.counts.lap image
  read_over size synced seen = record {
    long = was.disk.whole image seen ∙ size;
    lap_found = refl;
    seen = seen;
    synced = synced;
    tells = k.tells;
    armed = refl;
    waiting = tt;
    syncs = refl;
  }

  module _ (read : HasRead false (over images was) (over images was).disk was.counts.lap image) (s : Standing V) (h : Awaits image images s was) where
    abbrev forged : Bool
    forged = is_forged s.masks (found_behind LAYOUT image)

    never : (b : Bool) (n : ℕ) → (if b then n + 1 else n) ≡ 0 → n ≡ 0
    never true n none = absurd (omega (arith, none))
    never false n none = none

    -- a view is the one that the standing has
    pub read_view : (v : V) → shows M image ≡ Shows v → IsRead M read.tells image read.long s Nothing v was.counts.lap
    read_view v shown =
        subst (IsRead M read.tells image read.long s Nothing v) h.agrees.lap
        (read_nothing M read.tells image read.long s h.explained v shown (subst AreWithin (sym h.masks) tt) (inr (h.masks, shown ∙ ap Shows (h.view v shown))) h.agrees.spelled)

    -- a locked image, or one of another setup, is told where something is forged
    not_shown : (shown : Spelled V) → shows M image ≡ shown → ((v : V) → shown ≡ Shows v → ⊥) → s.forged ≡ 0 → ⊥
    not_shown shown is other none = other s.view (sym is ∙ h.known none)

    pub shut_over : shows M image ≡ Unreadable → IsShutBy M read.tells image read.long s Nothing
    shut_over shut = record {
      clear = λ none. absurd (not_shown Unreadable shut (λ v is. cc is) (never forged s.forged none));
      bad = λ none. absurd (not_shown Unreadable shut (λ v is. cc is) (never forged s.forged none));
    }

    pub differ_over : (shown : Spelled V) → shows M image ≡ shown → ((v : V) → shown ≡ Shows v → ⊥) → IsClear (differ_by forged s)
    differ_over shown is other none = absurd (not_shown shown is other (never forged s.forged none))

  -- what the next part relies on, once the memory stands
  pub sits_over : (now : Moment V) → now.machine ≡ was.machine → now.counts.given ≡ was.counts.given → now.disk.size ≡ DISK_LEN → now.disk.is_on ≡ true → now.is_stopped ≡ false → now.counts.lap ≡ was.counts.lap
      → now.counts.power_ons ≡ was.counts.power_ons + 1 → now.counts.calls.items ≡ was.counts.calls.items → now.counts.falls.items ≡ was.counts.falls.items
      → ((now.phase ≡ On) × (now.lap ≡ was.counts.lap)) ⊎ ((now.phase ≡ Locked) × IsSynced now.disk) → Sits (over (images ++ image ∷ []) now)
  sits_over now machine given size on runs lap power_ons calls falls (inl stood) = record {
    tells = subst TellsViews (sym machine) k.tells;
    given = given ∙ k.given ∙ ap (λ (O : Machine V). O.digest) (sym machine);
    size = size;
    power = on ∙ sym (ap is_powered stood.0);
    runs = runs;
    same_lap = λ is. stood.1 ∙ sym lap;
    laps = subst (λ (p : Phase). begun p now.counts.lap ≤ now.counts.power_ons) (sym stood.0) (omega (arith, lap, power_ons, k.laps));
    falls = subst (λ (p : Phase). begun p (length now.counts.falls.items) ≤ now.counts.power_ons) (sym stood.0) (omega (arith, ap length falls, ap length k.falls, power_ons));
    counted = record { calls = calls ∙ k.calls; waiting = tt; room = omega (arith, power_ons, k.as_many, k.few) };
    settled = λ is. absurd (cc (sym stood.0 ∙ is));
    synced = λ is. absurd (cc (sym stood.0 ∙ is));
  }
  sits_over now machine given size on runs lap power_ons calls falls (inr shut) = record {
    tells = subst TellsViews (sym machine) k.tells;
    given = given ∙ k.given ∙ ap (λ (O : Machine V). O.digest) (sym machine);
    size = size;
    power = on ∙ sym (ap is_powered shut.0);
    runs = runs;
    same_lap = λ is. absurd (cc (sym shut.0 ∙ is));
    laps = subst (λ (p : Phase). begun p now.counts.lap ≤ now.counts.power_ons) (sym shut.0) (omega (arith, lap, power_ons, k.laps));
    falls = subst (λ (p : Phase). begun p (length now.counts.falls.items) ≤ now.counts.power_ons) (sym shut.0) (omega (arith, ap length falls, ap length k.falls, power_ons));
    counted = record { calls = calls ∙ k.calls; waiting = tt; room = omega (arith, power_ons, k.as_many, k.few) };
    settled = λ is. absurd (cc (sym shut.0 ∙ is));
    synced = λ is. shut.1;
  }
