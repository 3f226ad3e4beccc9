-- What an image shows: one that has a view in both copies, one that was altered since, and one that nothing was written to.
use Rattle.std.proofs.Common.{◌≡◌, ◌∙◌, ap, sym, subst, refl, ◌⊎◌, inl, inr, ⊎_elim, ℕ, ◌+◌, ◌==◌, nat_le, nat_lt, Bool, true, false, ◌&&◌, ◌||◌, if◌then◌else◌, List, length, arith, Option, None, Some, IfSome, [], ◌∷◌}
use Rattle.std.proofs.lemmas.Bool.Decides.{nat_tests}
use Rattle.gd_base.specs.declared.limits.TheConstants.{MOST_ENTRIES}
use Rattle.gd_base.specs.Judging.Answer.{is_full}
use Rattle.gd_base.specs.Judging.Machine.{Machine, Blocks}
use Rattle.gd_base.specs.Payloads.LoadedView.{at_sequence, opens}
use Rattle.gd_base.specs.Payloads.Spelled.{Spelled, Shows, Foreign, Unreadable}
use Rattle.gd_cabinet.specs.CoreLeft.{LeavesCore}
use Rattle.gd_cabinet.specs.OpenAnswer.{IsLocked}
use Rattle.gd_cabinet.specs.OpenMoments.{IsOpening, view_started}
use Rattle.gd_cabinet.specs.Shown.{shows, spelled_boot, IsInBoth, ShowsEither}
use Rattle.gd_cabinet.specs.declared.cabinet.Parts.{Parts}
use Rattle.gd_cabinet.specs.declared.opening.CabinetOpened.{CabinetOpened}
use Rattle.gd_cabinet.specs.declared.opening.Locked.{Locked}
use Rattle.gd_cabinet.proofs.Showing.{settled_shows}
use Rattle.gd_disk.specs.Disk.{DiskState, Altered, IfTold, IsSynced, Loses, Unchanged, with_mask}
use Rattle.gd_disk.specs.Runs.{LeavesOnly}
use Rattle.gd_disk.specs.declared.lengths.TheConstants.{DISK_LEN}
use Rattle.gd_disk.specs.declared.side.Side.{Side}
use Rattle.gd_disk.proofs.Runs.{at_end}
use Rattle.gd_store.specs.Booting.{later_sequence}
use Rattle.gd_store.specs.Copy.{AreBad, boots, found_in, latest_copy, copy_a, copy_b, gate_at, state_of, stored_payload}
use Rattle.gd_store.specs.Masks.{Mask, AreWithin, found_behind, is_altered, is_forged, masked}
use Rattle.gd_store.specs.Writing.{From}
use Rattle.gd_store.specs.declared.copy.states.CopyState.{CopyState}
use Rattle.gd_store.specs.declared.copy.states.Found.{Found}
use Rattle.gd_store.specs.declared.copy.layout.TheConstants.{LAYOUT}
use Rattle.gd_store.proofs.MaskedBoots.{bad_boots, latest_is, length_masked, masked_boots}
use Rattle.gd_store.proofs.Sealed.{same_bytes}
use Rattle.gd_top.specs.Claims.MemoryLeft.{IsMasked, IsSettled}
use Rattle.gd_top.specs.Report.Lines.{is_copy_full, is_found_full}
use Rattle.gd_top.specs.Run.Openings.{may_lock}
use Rattle.gd_top.specs.Run.State.{Nothing}

both_boot : (m : ℕ) (p : List ℕ) (s t : CopyState) (q r : List ℕ) → s ≡ CopyState.Sound m → t ≡ CopyState.Sound m → q ≡ p → r ≡ p → latest_copy s t q r ≡ Some (m, p)
both_boot m p s t q r is_s is_t is_q is_r =
    let same = same_bytes p p refl in
    let plain : latest_copy (CopyState.Sound m) (CopyState.Sound m) p p ≡ Some (m, p) = grind (arith, nat_tests, same) in
    cc (plain, is_s, is_t, is_q, is_r)

-- an image that has a view in both copies shows it
pub holds_shows : {V : Type 0} (M : Machine V) (v : V) (image : List ℕ) → IsInBoth M v image → shows M image ≡ Shows v
holds_shows M v image h =
    settled_shows M (M.count v) h.payload v image
    (both_boot (M.count v) h.payload (state_of LAYOUT (copy_a LAYOUT image)) (state_of LAYOUT (copy_b LAYOUT image)) (stored_payload LAYOUT (copy_a LAYOUT image)) (stored_payload LAYOUT (copy_b LAYOUT image)) h.both.0.0 h.both.1.0 h.both.0.1 h.both.1.1)
    h.spelled refl

-- a fact of what a read gives, where it is told
pub told_at : (seen : Option (List ℕ)) (image : List ℕ) (P : List ℕ → Type 0) → seen ≡ Some image → IfTold seen P → P image
told_at seen image P is h = subst (λ (s : Option (List ℕ)). IfTold s P) is h

-- nothing waits for a sync
one_image : (c d : List ℕ) (seen : Option (List ℕ)) → seen ≡ Some c → seen ≡ Some d → c ≡ d
one_image c d seen is also = cc (is, also)

pub settled : (disk : DiskState) → IsSynced disk → IsSettled disk
settled disk synced c d may also = one_image c d disk.seen (synced c may) (synced d also)

pub settled_after : (old new : DiskState) → IsSettled old → Loses Unchanged old new → IsSettled new
settled_after old new h loss c d may also =
    let a = loss.now c may in
    let b = loss.now d also in
    a.2 ∙ h a.0 b.0 a.1 b.1 ∙ sym b.2

-- nothing was written, and a read gives what it gave
pub shut_synced : (on disk : DiskState) (image : List ℕ) → on.seen ≡ Some image → IsSynced on → LeavesOnly on disk (From on Unchanged) → disk.seen ≡ Some image → IsSynced disk
shut_synced on disk image seen synced unwritten still c may =
    let was = at_end on disk (From on Unchanged) unwritten c may in
    still ∙ sym seen ∙ synced was.0 was.1 ∙ ap (λ (d : List ℕ). let o : Option (List ℕ) = Some d in o) (sym was.2)

-- a fact of an option that is some
pub some_at : (found : Option Found) (f g : Found) → IfSome found (λ x. x ≡ g) → found ≡ Some f → f ≡ g
some_at found f g p is = subst (λ (o : Option Found). IfSome o (λ x. x ≡ g)) is p

-- nor where a byte was altered in each image
pub settled_altered : (place mask : ℕ) (old new : DiskState) → IsSettled old → Loses (Altered place mask) old new → IsSettled new
settled_altered place mask old new h loss c d may also =
    let a = loss.now c may in
    let b = loss.now d also in
    a.2 ∙ ap (with_mask place mask) (h a.0 b.0 a.1 b.1) ∙ sym b.2

one_shown : {V : Type 0} (v w : V) → Shows v ≡ Shows w → v ≡ w
one_shown v w e = cc e

-- an image shows one view
pub one_view : {V : Type 0} (M : Machine V) (image : List ℕ) (v w : V) → shows M image ≡ Shows v → shows M image ≡ Shows w → w ≡ v
one_view M image v w is also = one_shown w v (sym also ∙ is)

module _ {V : Type 0} (M : Machine V) where
  -- with nothing altered
  abbrev pub unmasked : (v : V) (image : List ℕ) → IsInBoth M v image → IsMasked M v [] image
  unmasked v image both = record { whole = image; both = both; altered = refl }

  -- the same machine, by another name
  pub both_alike : (N : Machine V) (v w : V) (disk : DiskState) → N ≡ M → w ≡ v → ((image : List ℕ) → disk.may_find image → IsInBoth N w image) → (image : List ℕ) → disk.may_find image → IsInBoth M v image
  both_alike N v w disk m e both image may = subst (λ (u : V). IsInBoth M u image) e (subst (λ (O : Machine V). IsInBoth O w image) m (both image may))

  -- ================ what is booted

  at_shows : (n : ℕ) (s : Spelled V) (v : V) → at_sequence M n s ≡ Shows v → (s ≡ Shows v) × (M.count v ≡ n)
  at_shows n (Shows u) v is = by_count (M.count u == n) refl is
    where
      counted : (b : Bool) → (M.count u == n) ≡ b → b ≡ true → M.count u ≡ n
      counted b e t = grind (arith, nat_tests, e, t)

      by_count : (b : Bool) → (M.count u == n) ≡ b → (if b then Shows u else Unreadable) ≡ Shows v → (Shows u ≡ Shows v) × (M.count v ≡ n)
      by_count true e is = (is, ap M.count (sym (one_shown u v is)) ∙ counted true e refl)
      by_count false e is = absurd (cc is)
  at_shows n (Foreign kept) v is = absurd (cc is)
  at_shows n Unreadable v is = absurd (cc is)

  -- what an image boots to that shows a view
  pub record BootsTo (v : V) (image : List ℕ) : Type 0 where
    pub payload : List ℕ
    pub boots : boots LAYOUT image ≡ Some (M.count v, payload)
    pub spelled : M.spelled payload ≡ Shows v

  booted_by : (b : Option (ℕ × List ℕ)) (v : V) → opens M (spelled_boot M b) ≡ Shows v → (payload : List ℕ) × (b ≡ Some (M.count v, payload)) × (M.spelled payload ≡ Shows v)
  booted_by None v is = absurd (cc is)
  booted_by (Some booted) v is =
      let at = at_shows booted.0 (M.spelled booted.1) v is in
      (booted.1, (λ i. Some (sym at.1 i, booted.1)), at.0)

  pub shown_boots : (v : V) (image : List ℕ) → shows M image ≡ Shows v → BootsTo v image
  shown_boots v image is =
      let b = booted_by (boots LAYOUT image) v is in
      record { payload = b.0; boots = b.1; spelled = b.2 }

  full_by : (s t : CopyState) (n : ℕ) → later_sequence s t ≡ Some n → (is_copy_full s || is_copy_full t) ≡ nat_le MOST_ENTRIES n
  full_by (CopyState.Sound m) (CopyState.Sound k) n is = later m k n (some_is (if nat_lt m k then k else m) n is)
    where
      some_is : (x y : ℕ) → Some x ≡ Some y → x ≡ y
      some_is x y e = cc e

      later : (m k n : ℕ) → (if nat_lt m k then k else m) ≡ n → (nat_le MOST_ENTRIES m || nat_le MOST_ENTRIES k) ≡ nat_le MOST_ENTRIES n
      later m k n e = grind (arith, nat_tests, e)
  full_by (CopyState.Sound m) (CopyState.Bad why) n is = or_false (nat_le MOST_ENTRIES m) ∙ ap (nat_le MOST_ENTRIES) (some_is m n is)
    where
      some_is : (x y : ℕ) → Some x ≡ Some y → x ≡ y
      some_is x y e = cc e

      or_false : (b : Bool) → (b || false) ≡ b
      or_false true = refl
      or_false false = refl
  full_by (CopyState.Bad why) (CopyState.Sound k) n is = ap (nat_le MOST_ENTRIES) (some_is k n is)
    where
      some_is : (x y : ℕ) → Some x ≡ Some y → x ≡ y
      some_is x y e = cc e
  full_by (CopyState.Bad why) (CopyState.Bad other) n is = absurd (cc is)

  -- the history is full where a copy that was found says so
  pub full_is : (v : V) (image : List ℕ) → shows M image ≡ Shows v → is_found_full (found_in LAYOUT image) ≡ is_full M v
  full_is v image is =
      let b = shown_boots v image is in
      full_by (state_of LAYOUT (copy_a LAYOUT image)) (state_of LAYOUT (copy_b LAYOUT image)) (M.count v) (latest_is LAYOUT image (M.count v) b.payload b.boots)

  -- ================ what was altered

  -- What a view that both copies had is found as, where the image isn't forged: as it was, or neither copy is sound.
  masked_found : (v : V) (masks : List Mask) (image : List ℕ) → IsMasked M v masks image → AreWithin masks → length image ≡ DISK_LEN → is_forged masks (found_behind LAYOUT image) ≡ false
      → (shows M image ≡ Shows v) ⊎ ((is_altered Side.A masks ≡ true) × (is_altered Side.B masks ≡ true) × (shows M image ≡ Unreadable))
  masked_found v masks image h within long unforged =
      subst (λ (c : List ℕ). (shows M c ≡ Shows v) ⊎ ((is_altered Side.A masks ≡ true) × (is_altered Side.B masks ≡ true) × (shows M c ≡ Unreadable))) (sym h.altered)
      (by_boot (masked_boots masks h.whole (M.count v) h.both.payload h.both.both within (sym (length_masked LAYOUT masks h.whole) ∙ ap length (sym h.altered) ∙ long)
      (subst (λ (c : List ℕ). is_forged masks (found_behind LAYOUT c) ≡ false) h.altered unforged)))
    where
      new : List ℕ
      new = masked LAYOUT masks h.whole

      by_boot : (boots LAYOUT new ≡ Some (M.count v, h.both.payload)) ⊎ ((is_altered Side.A masks ≡ true) × (is_altered Side.B masks ≡ true) × AreBad LAYOUT new)
          → (shows M new ≡ Shows v) ⊎ ((is_altered Side.A masks ≡ true) × (is_altered Side.B masks ≡ true) × (shows M new ≡ Unreadable))
      by_boot (inl boot) = inl (settled_shows M (M.count v) h.both.payload v new boot h.both.spelled refl)
      by_boot (inr bad) = inr (bad.0, bad.1, ap (λ (b : Option (ℕ × List ℕ)). opens M (spelled_boot M b)) (bad_boots LAYOUT new bad.2))

  -- one alteration more
  pub masked_more : (v : V) (masks : List Mask) (m : Mask) (place : ℕ) (old new : DiskState) → place ≡ gate_at LAYOUT m.side + m.place → ((image : List ℕ) → old.may_find image → IsMasked M v masks image)
      → Loses (Altered place m.mask) old new → (image : List ℕ) → new.may_find image → IsMasked M v (m ∷ masks) image
  masked_more v masks m place old new is each loss image may =
      let was = loss.now image may in
      let h = each was.0 was.1 in
      record { whole = h.whole; both = h.both; altered = was.2 ∙ ap (with_mask place m.mask) h.altered ∙ ap (λ (k : ℕ). with_mask k m.mask (masked LAYOUT masks h.whole)) is }

  -- so a view that is found is the one of the history
  pub masked_view : (v w : V) (masks : List Mask) (image : List ℕ) → IsMasked M v masks image → AreWithin masks → length image ≡ DISK_LEN → shows M image ≡ Shows w → is_forged masks (found_behind LAYOUT image) ≡ false → w ≡ v
  masked_view v w masks image h within long shown unforged = ⊎_elim (λ is. one_view M image v w is shown) (λ bad. absurd (never (sym shown ∙ bad.2))) (masked_found v masks image h within long unforged)
    where
      never : Shows w ≡ Unreadable → ⊥
      never e = cc e

  -- and none of another setup is found
  pub masked_known : (v : V) (masks : List Mask) (image : List ℕ) → IsMasked M v masks image → AreWithin masks → length image ≡ DISK_LEN → is_forged masks (found_behind LAYOUT image) ≡ false → (kept : List ℕ) → shows M image ≡ Foreign kept → ⊥
  masked_known v masks image h within long unforged kept foreign = ⊎_elim (λ is. other (shows M image) is foreign) (λ bad. never (shows M image) bad.2 foreign) (masked_found v masks image h within long unforged)
    where
      other : (s : Spelled V) → s ≡ Shows v → s ≡ Foreign kept → ⊥
      other s is also = cc (is, also)

      never : (s : Spelled V) → s ≡ Unreadable → s ≡ Foreign kept → ⊥
      never s is also = cc (is, also)

  -- and a lock has its reason
  pub masked_lock : (v : V) (masks : List Mask) (image : List ℕ) → IsMasked M v masks image → AreWithin masks → length image ≡ DISK_LEN → shows M image ≡ Unreadable → is_forged masks (found_behind LAYOUT image) ≡ false → may_lock Nothing masks ≡ true
  masked_lock v masks image h within long shut unforged = ⊎_elim (λ is. absurd (never (sym is ∙ shut))) (λ bad. both_are (is_altered Side.A masks) (is_altered Side.B masks) bad.0 bad.1) (masked_found v masks image h within long unforged)
    where
      never : Shows v ≡ Unreadable → ⊥
      never e = cc e

      both_are : (a b : Bool) → a ≡ true → b ≡ true → (a && b) ≡ true
      both_are true true e f = refl
      both_are true false e f = absurd (cc f)
      both_are false b e f = absurd (cc e)

  -- and no copy is sound then
  pub masked_bad : (v : V) (masks : List Mask) (image : List ℕ) → IsMasked M v masks image → AreWithin masks → length image ≡ DISK_LEN → shows M image ≡ Unreadable → is_forged masks (found_behind LAYOUT image) ≡ false → AreBad LAYOUT image
  masked_bad v masks image h within long shut unforged =
      subst (AreBad LAYOUT) (sym h.altered)
      (⊎_elim
      (λ boot. absurd (never (sym (settled_shows M (M.count v) h.both.payload v (masked LAYOUT masks h.whole) boot h.both.spelled refl) ∙ ap (shows M) (sym h.altered) ∙ shut)))
      (λ bad. bad.2)
      (masked_boots masks h.whole (M.count v) h.both.payload h.both.both within (sym (length_masked LAYOUT masks h.whole) ∙ ap length (sym h.altered) ∙ long)
      (subst (λ (c : List ℕ). is_forged masks (found_behind LAYOUT c) ≡ false) h.altered unforged)))
    where
      never : Shows v ≡ Unreadable → ⊥
      never e = cc e

  -- two copies of which none is sound show nothing
  pub bad_shows : (image : List ℕ) → AreBad LAYOUT image → shows M image ≡ Unreadable
  bad_shows image bad = ap (λ (b : Option (ℕ × List ℕ)). opens M (spelled_boot M b)) (bad_boots LAYOUT image bad)

  -- ================ what was not written

  -- nothing was written
  pub still : (P : List ℕ → Type 0) (old new : DiskState) → ((image : List ℕ) → old.may_find image → P image) → Loses Unchanged old new → (image : List ℕ) → new.may_find image → P image
  still P old new each loss image may =
      let was = loss.now image may in
      subst P (sym was.2) (each was.0 was.1)

  -- what the core shows after a failed opening that read the copies
  pub core_shows : {C D W : Type 0} (g h i : _) (view : C → V) (core : C) (found : Option Found) (parts : Parts C D W) (seen : Option (List ℕ)) (f : Found)
      → LeavesCore {C = C} {D = D} {W = W} {g = g} {h = h} {i = i} M view core (CabinetOpened.Off found parts) seen → found ≡ Some f → IfTold seen (λ image. shows M image ≡ Shows (view parts.core))
  core_shows g h i view core found parts seen f left is = subst (λ (o : Option Found). LeavesCore {g = g} {h = h} {i = i} M view core (CabinetOpened.Off o parts) seen) is left

  -- a locked image shows nothing
  pub lost_shows : (why : Locked) (image : List ℕ) → IsLocked M why image → shows M image ≡ Unreadable
  lost_shows Locked.Lost image is = ap (λ (b : Option (ℕ × List ℕ)). opens M (spelled_boot M b)) is
  lost_shows Locked.Unreadable image is = ap (λ (b : Option (ℕ × List ℕ)). opens M (spelled_boot M b)) is.1 ∙ is.2

module _ {V : Type 0} (M : Machine V) (B : Blocks) (lap : ℕ) where
  -- what may be found after an opening of one image in which the disk failed: what it shows, or that with the start
  pub opening_near : (mid now : DiskState) (image : List ℕ) (v : V) → mid.seen ≡ Some image → IsSynced mid → shows M image ≡ Shows v → LeavesOnly mid now (IsOpening M B lap mid)
      → (c : List ℕ) → now.may_find c → ShowsEither M v (view_started M B lap v) c
  opening_near mid now image v seen synced shown leaves c may = by_moment (leaves.each c (now.counts_now mid.moment c leaves.later may))
    where
      was : (d : List ℕ) → mid.may_find d → shows M d ≡ Shows v
      was d found = ap (shows M) (one_image d image mid.seen (synced d found) seen) ∙ shown

      shown_is : (u : V) → IfTold mid.seen (λ seen. shows M seen ≡ Shows u) → u ≡ v
      shown_is u told = one_view M image v u shown (told_at mid.seen image (λ seen. shows M seen ≡ Shows u) seen told)

      by_moment : IsOpening M B lap mid c → ShowsEither M v (view_started M B lap v) c
      by_moment (inl kept) = inl (kept.2 ∙ was kept.0 kept.1)
      by_moment (inr other) = subst (λ (u : V). ShowsEither M u (view_started M B lap u) c) (shown_is other.0 other.1) other.2
