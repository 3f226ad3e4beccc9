-- What the copies that a power-on read say of the history, with anything in flight.
use Rattle.std.proofs.Common.{◌≡◌, ◌∙◌, ◌⊎◌, inl, inr, ⊎_elim, ap, sym, subst, refl, ℕ, ◌+◌, Bool, true, false, if◌then◌else◌, List, [], ◌∷◌, length, arith, None}
use Rattle.gd_base.specs.Histories.Entry.{Entry}
use Rattle.gd_base.specs.Judging.Machine.{Machine}
use Rattle.gd_base.specs.Laws.TellsViews.{HasPayload, TellsViews}
use Rattle.gd_base.specs.Payloads.Spelled.{Spelled, Shows, Foreign, Unreadable}
use Rattle.gd_cabinet.specs.Shown.{shows}
use Rattle.gd_disk.specs.declared.lengths.TheConstants.{DISK_LEN}
use Rattle.gd_store.specs.Copy.{AreBad}
use Rattle.gd_store.specs.Masks.{AreWithin, found_behind, is_forged}
use Rattle.gd_store.specs.declared.copy.layout.TheConstants.{LAYOUT}
use Rattle.gd_top.specs.Claims.MemoryLeft.{IsNear}
use Rattle.gd_top.specs.Code.Memory.{IsFallen}
use Rattle.gd_top.specs.Code.Standing.{Standing, Later, at, only}
use Rattle.gd_top.specs.Run.Openings.{may_lock, powered, resolved, turned_on, unexplained}
use Rattle.gd_top.specs.Run.Starts.{start_in}
use Rattle.gd_top.specs.Run.State.{Start, Flight, Nothing, Recording, Making, On, Locked}
use Rattle.gd_top.proofs.ItemLemmas.Images.{bad_shows, masked_bad, masked_known, masked_lock, masked_view, one_view, shown_boots}
use Rattle.gd_top.proofs.RunLemmas.Equations.{resolved_nothing}
use Rattle.gd_top.proofs.RunLemmas.Resolved.{found_done, found_empty, found_nonempty, found_undone}
use Rattle.gd_top.proofs.RunLemmas.Standings.{IsClear}

-- what a view that was found says: the history stands, what was in flight was recorded, the memory was cleared, or nothing
-- explains it
pub data Finding : Type 0 where
  Stood : Finding
  Done : (entry : Entry) → Finding
  Emptied : Finding
  Other : Finding

abbrev pub opening_by : {V : Type 0} → Finding → V → V → V
opening_by Stood opening v = opening
opening_by (Done e) opening v = opening
opening_by Emptied opening v = v
opening_by Other opening v = v

abbrev pub history_by : Finding → List Entry → List Entry
history_by Stood history = history
history_by (Done e) history = e ∷ history
history_by Emptied history = []
history_by Other history = []

abbrev pub lap_by : Finding → ℕ → ℕ
lap_by Stood lap = lap
lap_by (Done e) lap = lap
lap_by Emptied lap = lap + 1
lap_by Other lap = lap

abbrev pub others_by : Finding → ℕ → ℕ
others_by Stood n = n
others_by (Done e) n = n
others_by Emptied n = n
others_by Other n = n + 1

-- the power is on, and the copies were read
abbrev pub read_by : {V : Type 0} → Finding → (forged : Bool) → V → Standing V → Standing V
read_by finding forged v s = record s {
  view = v;
  opening = opening_by finding s.opening v;
  history = history_by finding s.history;
  lap = lap_by finding s.lap;
  phase = On;
  power_ons = s.power_ons + 1;
  masks = [];
  forged = if forged then s.forged + 1 else s.forged;
  other_views = others_by finding s.other_views;
}

-- the memory is locked: an offer more, without a sync
abbrev pub lock_by : {V : Type 0} → Flight → (forged : Bool) → Standing V → Standing V
lock_by flight forged s = record s {
  phase = Locked;
  power_ons = s.power_ons + 1;
  offers = s.offers + 1;
  syncs = s.syncs + 0;
  masks = [];
  forged = if forged then s.forged + 1 else s.forged;
  other_locks = if may_lock flight s.masks then s.other_locks else s.other_locks + 1;
}

unforged : (forged : Bool) (n : ℕ) → (if forged then n + 1 else n) ≡ 0 → (forged ≡ false) × (n ≡ 0)
unforged false n none = (refl, none)
unforged true n none = absurd (omega (arith, none))

-- the memory was made under another setup: an offer more, without a sync, and a view more that nothing explains
abbrev pub differ_by : {V : Type 0} → (forged : Bool) → Standing V → Standing V
differ_by forged s = record s {
  power_ons = s.power_ons + 1;
  offers = s.offers + 1;
  syncs = s.syncs + 0;
  forged = if forged then s.forged + 1 else s.forged;
  other_views = s.other_views + 1;
}

module _ {V : Type 0} (M : Machine V) (tells : TellsViews M) (image : List ℕ) (long : length image ≡ DISK_LEN) (s : Standing V) where
  abbrev start : Start V
  start = start_in M image

  abbrev forged : Bool
  forged = is_forged s.masks (found_behind LAYOUT image)

  pub record IsRead (flight : Flight) (v : V) (lap : ℕ) : Type 0 where
    pub finding : Finding
    pub is : (starts : List (Start V)) (x : Later V) → resolved M flight v (turned_on (powered start starts (at s x))) ≡ at (read_by finding forged v s) (record x { starts = starts })
    pub lap_is : lap_by finding s.lap ≡ lap
    pub clear : IsClear (read_by finding forged v s)

  module _ (clear : IsClear s) (v : V) (shown : shows M image ≡ Shows v) where
    payload : HasPayload M v
    payload = let b = shown_boots M v image shown in (b.payload, b.spelled)

    -- the count of views that nothing explains stands
    still_clear : (finding : Finding) → others_by finding s.other_views ≡ s.other_views → IsClear (read_by finding forged v s)
    still_clear finding same none =
        let first = unforged forged s.forged none in
        let so_far = clear first.1 in
        (same ∙ so_far.0, so_far.1)

    -- ================ nothing was in flight

    nothing_by : (same : Bool) → M.same v s.view ≡ same → (same ≡ true → s.view ≡ v) → (forged ≡ false → v ≡ s.view) → IsRead Nothing v s.lap
    nothing_by true e is found = record {
      finding = Stood;
      is = λ starts x.
          let u = turned_on (powered start starts (at s x)) in
          resolved_nothing M v u ∙ ap (λ (b : Bool). if b then u else unexplained v u) e
          ∙ (λ i. record (at (read_by Stood forged v s) (record x { starts = starts })) { view = is refl i });
      lap_is = refl;
      clear = still_clear Stood refl;
    }
    nothing_by false e is found = record {
      finding = Other;
      is = λ starts x. let u = turned_on (powered start starts (at s x)) in resolved_nothing M v u ∙ ap (λ (b : Bool). if b then u else unexplained v u) e;
      lap_is = refl;
      clear = λ none. let first = unforged forged s.forged none in absurd (never (sym (ap (λ (u : V). M.same u s.view) (found first.0) ∙ M.same_itself s.view) ∙ e));
    }
      where
        never : true ≡ false → ⊥
        never clash = cc clash

    pub read_nothing : AreWithin s.masks → IsNear M Nothing (at s (only [] [] None)) [] image → HasPayload M s.view → IsRead Nothing v s.lap
    read_nothing within near spelled = nothing_by (M.same v s.view) refl (λ same. sym (tells.same_is v s.view payload spelled same)) (λ none. explained none near)
      where
        explained : forged ≡ false → IsNear M Nothing (at s (only [] [] None)) [] image → v ≡ s.view
        explained none (inl masked) = masked_view M s.view v s.masks image masked within long shown none
        explained none (inr still) = one_view M image s.view v still.1 shown

    -- ================ an entry was in flight

    pub read_recording : (e : Entry) → (v ≡ s.view) ⊎ (v ≡ M.effect s.view e) → HasPayload M s.view → IsRead (Recording e) v s.lap
    read_recording e (inl is) spelled = record {
      finding = Stood;
      is = λ starts x.
          let u = turned_on (powered start starts (at s x)) in
          found_undone M e v u is ∙ (λ i. record (at (read_by Stood forged v s) (record x { starts = starts })) { view = sym is i });
      lap_is = refl;
      clear = still_clear Stood refl;
    }
    read_recording e (inr is) spelled = record {
      finding = Done e;
      is = λ starts x.
          let u = turned_on (powered start starts (at s x)) in
          found_done M tells e v u is payload spelled ∙ (λ i. record (at (read_by (Done e) forged v s) (record x { starts = starts })) { view = sym is i });
      lap_is = refl;
      clear = still_clear (Done e) refl;
    }

    -- ================ a making was in flight

    making_empty : v ≡ M.empty → IsRead Making v (s.lap + 1)
    making_empty is = record {
      finding = Emptied;
      is = λ starts x.
          let u = turned_on (powered start starts (at s x)) in
          found_empty M v u is ∙ (λ i. record (at (read_by Emptied forged v s) (record x { starts = starts })) { view = sym is i; opening = sym is i });
      lap_is = refl;
      clear = still_clear Emptied refl;
    }

    making_by : (same : Bool) → M.same v s.view ≡ same → (same ≡ true → s.view ≡ v) → (v ≡ M.empty → ⊥) → HasPayload M M.empty → (s.forged ≡ 0 → ⊥) → IsRead Making v s.lap
    making_by true e is other empty never = record {
      finding = Stood;
      is = λ starts x.
          let u = turned_on (powered start starts (at s x)) in
          found_nonempty M tells v u other payload empty ∙ ap (λ (b : Bool). if b then u else unexplained v u) e
          ∙ (λ i. record (at (read_by Stood forged v s) (record x { starts = starts })) { view = is refl i });
      lap_is = refl;
      clear = λ none. absurd (never (unforged forged s.forged none).1);
    }
    making_by false e is other empty never = record {
      finding = Other;
      is = λ starts x. let u = turned_on (powered start starts (at s x)) in found_nonempty M tells v u other payload empty ∙ ap (λ (b : Bool). if b then u else unexplained v u) e;
      lap_is = refl;
      clear = λ none. absurd (never (unforged forged s.forged none).1);
    }

    pub read_making : (lap : ℕ) → ((shows M image ≡ Shows M.empty) × (lap ≡ s.lap + 1)) ⊎ ((shows M image ≡ Shows M.empty → ⊥) × (lap ≡ s.lap)) → HasPayload M M.empty → HasPayload M s.view
        → (s.forged ≡ 0 → AreBad LAYOUT image ⊎ (shows M image ≡ Shows M.empty)) → IsRead Making v lap
    read_making lap (inl found) empty spelled fallen =
        subst (IsRead Making v) (sym found.1) (making_empty (one_view M image M.empty v found.0 shown))
    read_making lap (inr found) empty spelled fallen =
        subst (IsRead Making v) (sym found.1)
        (making_by (M.same v s.view) refl (λ same. sym (tells.same_is v s.view payload spelled same)) (λ is. found.0 (shown ∙ ap Shows is)) empty
        (λ none. ⊎_elim (λ bad. never (sym shown ∙ bad_shows M image bad)) (λ is. found.0 is) (fallen none)))
      where
        never : Shows v ≡ Unreadable → ⊥
        never clash = cc clash

  -- ================ a lock

  not_shown : (v : V) → shows M image ≡ Shows v → shows M image ≡ Unreadable → ⊥
  not_shown v is shut = never (sym is ∙ shut)
    where
      never : Shows v ≡ Unreadable → ⊥
      never clash = cc clash

  -- where nothing is forged a lock has its reason, and no copy is sound
  pub record IsShutBy (flight : Flight) : Type 0 where
    pub clear : IsClear (lock_by flight forged s)
    pub bad : (if forged then s.forged + 1 else s.forged) ≡ 0 → AreBad LAYOUT image

  shut_by : (flight : Flight) → IsClear s → (forged ≡ false → s.forged ≡ 0 → (may_lock flight s.masks ≡ true) × AreBad LAYOUT image) → IsShutBy flight
  shut_by flight clear why = record {
    clear = λ none.
        let first = unforged forged s.forged none in
        let so_far = clear first.1 in
        (so_far.0, ap (λ (b : Bool). if b then s.other_locks else s.other_locks + 1) (why first.0 first.1).0 ∙ so_far.1);
    bad = λ none. let first = unforged forged s.forged none in (why first.0 first.1).1;
  }

  pub found_shut : (flight : Flight) (found : List (List ℕ)) → IsClear s → AreWithin s.masks → shows M image ≡ Unreadable → IsNear M flight (at s (only [] [] None)) found image → IsFallen M flight s found image → IsShutBy flight
  found_shut Nothing found clear within shut (inl masked) fallen =
      shut_by Nothing clear (λ none so_far. (masked_lock M s.view s.masks image masked within long shut none, masked_bad M s.view s.masks image masked within long shut none))
  found_shut Nothing found clear within shut (inr still) fallen = absurd (not_shown s.view still.1 shut)
  found_shut (Recording e) found clear within shut (inl is) fallen = absurd (not_shown s.view is shut)
  found_shut (Recording e) found clear within shut (inr is) fallen = absurd (not_shown (M.effect s.view e) is shut)
  found_shut Making found clear within shut near fallen =
      shut_by Making clear (λ none so_far. (refl, ⊎_elim (λ bad. bad) (λ is. absurd (not_shown M.empty is shut)) (fallen.1 so_far)))

  -- ================ another setup

  module _ (kept : List ℕ) (foreign : shows M image ≡ Foreign kept) where
    not_of_view : (v : V) → shows M image ≡ Shows v → ⊥
    not_of_view v is = never (shows M image) is foreign
      where
        never : (s : Spelled V) → s ≡ Shows v → s ≡ Foreign kept → ⊥
        never s is also = cc (is, also)

    not_bad : AreBad LAYOUT image → ⊥
    not_bad bad = never (shows M image) (bad_shows M image bad) foreign
      where
        never : (s : Spelled V) → s ≡ Unreadable → s ≡ Foreign kept → ⊥
        never s is also = cc (is, also)

    -- where nothing is forged an image is near to a view, so that it shows none of another setup
    forged_by : (flight : Flight) (found : List (List ℕ)) → AreWithin s.masks → IsNear M flight (at s (only [] [] None)) found image → IsFallen M flight s found image → forged ≡ false → s.forged ≡ 0 → ⊥
    forged_by Nothing found within (inl masked) fallen none so_far = masked_known M s.view s.masks image masked within long none kept foreign
    forged_by Nothing found within (inr still) fallen none so_far = not_of_view s.view still.1
    forged_by (Recording e) found within (inl is) fallen none so_far = not_of_view s.view is
    forged_by (Recording e) found within (inr is) fallen none so_far = not_of_view (M.effect s.view e) is
    forged_by Making found within near fallen none so_far = ⊎_elim not_bad (not_of_view M.empty) (fallen.1 so_far)

    -- so each view and each lock has its reason
    pub differ_clear : (flight : Flight) (found : List (List ℕ)) → AreWithin s.masks → IsNear M flight (at s (only [] [] None)) found image → IsFallen M flight s found image → IsClear (differ_by forged s)
    differ_clear flight found within near fallen none = let first = unforged forged s.forged none in absurd (forged_by flight found within near fallen first.0 first.1)
