-- A whole run over an image: its opening, and its lines.
use Rattle.std.proofs.Common.{◌≡◌, ◌∙◌, ◌⊎◌, inl, inr, ap, sym, subst, refl, ℕ, ◌+◌, true, List, [], ◌∷◌, arith, Option, Some, Result, Ok, is_err}
use Rattle.gd_base.specs.Judging.Machine.{Machine, Blocks}
use Rattle.gd_base.specs.Laws.TellsViews.{HasPayload, TellsViews}
use Rattle.gd_base.specs.Payloads.LoadedView.{view_loaded}
use Rattle.gd_base.specs.Payloads.Spelled.{Spelled, Shows, Foreign, Unreadable}
use Rattle.gd_cabinet.specs.Shown.{shows}
use Rattle.gd_top.specs.Claims.ImageRuns.{WasOpened}
use Rattle.gd_top.specs.Code.LinesDone.{DoneBy, EndedBefore, RunBy}
use Rattle.gd_top.specs.Code.Memory.{Fits, IsFresh, Moment, OpensTo, Serves, as_opened, outside}
use Rattle.gd_top.specs.Code.OverImage.{AreOpenedIn, Awaits, IsUnopened, IsUnread, LinesOver, OpensOver, Stands, first_over, over}
use Rattle.gd_top.specs.Code.Standing.{Standing}
use Rattle.gd_top.specs.Run.Items.{lines_meaning}
use Rattle.gd_top.specs.Run.Openings.{Done}
use Rattle.gd_top.specs.Run.State.{Phase, Nothing, On, Off, Locked, is_powered}
use Rattle.gd_top.specs.declared.halt.Halt.{Halt}
use Rattle.gd_top.proofs.ItemLemmas.Images.{shown_boots}
use Rattle.gd_top.proofs.LineLemmas.Alike.{blocks_are}
use Rattle.gd_top.proofs.TrialLemmas.FromMaking.{any_script, ends_by, lines_run, opening_ends, stands_as, stands_in_none}

module _ {V : Type 0} (T : Type 0) (was : Moment V) (tells : TellsViews was.machine) (fresh : IsFresh was.counts) (given : was.counts.given ≡ was.machine.digest) (empty : HasPayload was.machine was.machine.empty) where
  abbrev M : Machine V
  M = was.machine

  unopened : IsUnopened [] was
  unopened = record {
    tells = tells;
    given = given;
    laps = omega (arith, fresh.lap);
    as_many = fresh.power_ons;
    few = omega arith;
    calls = fresh.calls;
    falls = fresh.falls;
  }

  module _ (image : List ℕ) (seen : was.disk.seen ≡ Some image) where
    abbrev first : Standing V
    first = first_over M image

    spelled_by : (s : Spelled V) → shows M image ≡ s → HasPayload M (view_loaded M s)
    spelled_by (Shows v) is = let b = shown_boots M v image is in (b.payload, b.spelled)
    spelled_by (Foreign kept) is = empty
    spelled_by Unreadable is = empty

    never : {A : Type 0} (n : ℕ) → n ≡ 1 → n ≡ 0 → A
    never n one none = absurd (omega (arith, one, none))

    awaits : Awaits image [] first was
    awaits = record {
      agrees = record { trial = refl; lines = sym fresh.lines; power_ons = sym fresh.power_ons; lap = sym fresh.lap; offers = sym fresh.offers; armed = refl; spelled = spelled_by (shows M image) refl };
      masks = refl;
      view = λ v is. sym (ap (view_loaded M) is);
      known = λ none. never first.forged refl none;
      explained = λ none. never first.forged refl none;
    }

    module _ (r : Result (Unit {0}) Halt) (mid : Moment V) (opens : OpensOver T r was mid) where
      -- the opening ended the run
      pub opening_over : (told : T) (left rest : Option (List ℕ)) → is_err r ≡ true
          → (later : List (List ℕ)) × WasOpened M image later × (Serves r → Stands image later mid)
          × (EndedBefore ((c : List ℕ) → mid.disk.may_find c → was.disk.may_find c) r (over [] was) (over later mid)
          ⊎ ((t : Standing V) × (Serves r → Fits t (over later mid)) × RunBy M was.blocks r first t (outside (over [] was)) (outside (over later mid)) (over later mid).disk left rest))
      opening_over told left rest err = by_reading (opens.carried told image [] unopened seen)
        where
          not_served : IsUnread r was mid → Serves r → ⊥
          not_served un serves = subst Serves un.fault serves

          by_reading : IsUnread r was mid ⊎ ((s : Standing V) → Awaits image [] s was → OpensTo (as_opened r) Nothing Done s (over [] was) (over (image ∷ []) mid))
              → (later : List (List ℕ)) × WasOpened M image later × (Serves r → Stands image later mid)
              × (EndedBefore ((c : List ℕ) → mid.disk.may_find c → was.disk.may_find c) r (over [] was) (over later mid)
              ⊎ ((t : Standing V) × (Serves r → Fits t (over later mid)) × RunBy M was.blocks r first t (outside (over [] was)) (outside (over later mid)) (over later mid).disk left rest))
          by_reading (inl un) =
              ([], inl refl, (λ serves. absurd (not_served un serves)), inl (record { fault = un.fault; found = refl; left = un.still; armed = refl; falls = un.falls ∙ fresh.falls; printed = un.taken }))
          by_reading (inr each) =
              let q = each first awaits in
              let k = ends_by r first (over [] was) (over (image ∷ []) mid) err q in
              let none = stands_in_none r first (over [] was) (over (image ∷ []) mid) err q in (
                image ∷ [],
                inr (inl refl),
                (λ serves. absurd (none serves)),
                inr (k.0, (λ serves. absurd (none serves)), opening_ends M was.blocks r first k.0 (outside (over [] was)) (outside (over (image ∷ []) mid)) (over (image ∷ []) mid).disk left rest (any_script left) err opens.no_stop k.1),
              )

      module _ (went : r ≡ Ok tt) (one : mid.counts.power_ons ≡ was.counts.power_ons + 1) where
        powered : is_powered mid.phase ≡ true
        powered = (opens.ends.rests (subst Serves (sym went) tt)).powered

        stands : T → Stands image (image ∷ []) mid
        stands told = record {
          opened = opened_in mid.phase powered;
          as_many = omega (arith, one, fresh.power_ons);
          falls = opens.ends.falls ∙ fresh.falls;
          sits = opens.sits told image [] unopened seen went;
        }
          where
            opened_in : (p : Phase) → is_powered p ≡ true → AreOpenedIn mid.machine image p (image ∷ [])
            opened_in On on = inr (inl refl)
            opened_in Off on = absurd (cc on)
            opened_in Locked on = refl

        read : (told : T) → (s : Standing V) → Awaits image [] s was → OpensTo (as_opened r) Nothing Done s (over [] was) (over (image ∷ []) mid)
        read told = by_reading (opens.carried told image [] unopened seen)
          where
            by_reading : IsUnread r was mid ⊎ ((s : Standing V) → Awaits image [] s was → OpensTo (as_opened r) Nothing Done s (over [] was) (over (image ∷ []) mid))
                → (s : Standing V) → Awaits image [] s was → OpensTo (as_opened r) Nothing Done s (over [] was) (over (image ∷ []) mid)
            by_reading (inl un) = absurd (cc (went, un.fault))
            by_reading (inr each) = each

        -- and the lines
        pub lines_over : (told : T) (q : Result (Unit {0}) Halt) (now : Moment V) (left rest : Option (List ℕ)) → LinesOver T q mid now left rest
            → (later : List (List ℕ)) × WasOpened M image later × (Serves q → Stands image later now)
            × (EndedBefore ((c : List ℕ) → now.disk.may_find c → was.disk.may_find c) q (over [] was) (over later now)
            ⊎ ((t : Standing V) × (Serves q → Fits t (over later now)) × RunBy M was.blocks q first t (outside (over [] was)) (outside (over later now)) (over later now).disk left rest))
        lines_over told q now left rest lines =
            let o = subst (λ (z : Result (Unit {0}) Halt). OpensTo (as_opened z) Nothing Done first (over [] was) (over (image ∷ []) mid)) went (read told first awaits) in
            let opened_as = stands_as M was.blocks mid.phase powered first o.0 (outside (over [] was)) (outside (over (image ∷ []) mid)) o.2 in
            let l = lines told image (image ∷ []) (stands told) in
            let k = l.3 o.0 o.1 in
            let out = outside (over l.0 now) in
            let disk = (over l.0 now).disk in
            let same = subst (λ (D : Blocks). DoneBy M D (lines_meaning M D) q o.0 k.0 (outside (over (image ∷ []) mid)) out disk left rest) (blocks_are mid.blocks was.blocks opens.ends.blocks)
            (subst (λ (O : Machine V). DoneBy O mid.blocks (lines_meaning O mid.blocks) q o.0 k.0 (outside (over (image ∷ []) mid)) out disk left rest) opens.ends.machine k.2) in (
              l.0,
              subst (λ (O : Machine V). WasOpened O image l.0) opens.ends.machine l.1,
              l.2,
              inr (k.0, k.1, lines_run M was.blocks first o.0 (outside (over [] was)) (outside (over (image ∷ []) mid)) opened_as q k.0 out disk left rest same),
            )
