-- A machine that is put together from what a payload spells, and one whose payload is written.
use Rattle.std.proofs.Common.{◌∷◌, [], ◌+◌, suc, zero, ◌≡◌, ◌∙◌, ap, sym, refl, subst, ℕ, List, true, false, not, ◌&&◌, ◌==◌, ◌≤◌, nat_le, map, sum, arith, Option, Some, None, is_some}
use Rattle.std.specs.List.{list_all}
use Rattle.std.proofs.lemmas.List.Sums.{sum_by-cons}
use Rattle.gd_base.specs.declared.limits.TheConstants.{MOST_ENTRIES}
use Rattle.gd_base.specs.declared.play.PlayRecord.{PlayRecord}
use Rattle.gd_base.specs.declared.play.StageOpen.{StageOpen}
use Rattle.gd_base.specs.declared.refusal.Reply.{Reply}
use Rattle.gd_base.specs.declared.setup.Setup.{Setup}
use Rattle.gd_base.specs.declared.step.Loaded.{Loaded}
use Rattle.gd_base.specs.Histories.Devices.{kept_at}
use Rattle.gd_base.specs.Histories.View.{View}
use Rattle.gd_base.specs.Judging.Machine.{Machine}
use Rattle.gd_base.specs.Judging.Product.{both_hold}
use Rattle.gd_base.specs.Payloads.Lists.{Lists, lists_of}
use Rattle.gd_base.specs.Payloads.LoadedView.{view_loaded}
use Rattle.gd_base.specs.Payloads.Loading.{spelled}
use Rattle.gd_base.specs.Payloads.Spelled.{Spelled, Foreign, Shows, Unreadable, load_answer}
use Rattle.gd_base.specs.Payloads.Spelling.{SpelledAs}
use Rattle.gd_base.specs.Payloads.ViewRules.{is_flagged_last, is_in, is_open_as, is_open_record, is_play_record, is_played}
use Rattle.gd_base.proofs.BoolTests.{both, is_so}
use Rattle.gd_base.proofs.PayloadLemmas.Telling.{is_spelling}
use Rattle.gd_base.proofs.ViewFacts.{fitting_of, rules_of}
use Rattle.gd_machine.specs.declared.parts.MachineParts.{MachineParts}
use Rattle.gd_machine.specs.Restoring.{restored}
use Rattle.gd_machine.specs.Words.{IsWhole}
use Rattle.gd_play.specs.Rules.{is_open_play}
use Rattle.gd_image.specs.declared.read_fields.ReadFields.{ReadFields}
use Rattle.gd_image.specs.Read.{is_read, read_view}

-- ================ by the answer

pub read_if : (r : Loaded) → is_read r ≡ true → r ≡ Loaded.Read
read_if Loaded.Read h = refl
read_if Loaded.Unreadable h = absurd (cc h)
read_if (Loaded.Differs kept) h = absurd (cc h)

by_answer : (M : Machine View) (s : Spelled View) → is_read (load_answer s) ≡ false → M.empty ≡ view_loaded M s
by_answer M (Shows v) h = absurd (cc h)
by_answer M (Foreign kept) h = refl
by_answer M Unreadable h = refl

pub not_read : (M : Machine View) (s : Spelled View) (r : Loaded) → r ≡ load_answer s → is_read r ≡ false → M.empty ≡ view_loaded M s
not_read M s r is h = by_answer M s (ap is_read (sym is) ∙ h)

-- ================ by what is shown

pub restored_lists : (digest : List ℕ) (parts : MachineParts) (o : Option Lists) → is_some o ≡ true → o ≡ Some (lists_of (restored digest parts o))
restored_lists digest parts None h = absurd (cc h)
restored_lists digest parts (Some l) h = refl

module _ (setup : Setup) (digest payload : List ℕ) (v : View) (shows : spelled setup digest payload ≡ Shows v) where
  spells : SpelledAs setup digest payload (Shows v)
  spells = subst (SpelledAs setup digest payload) shows (is_spelling setup digest payload)

  pub is_whole : IsWhole setup v
  is_whole = record { possible = spells.0.0; under = spells.2 }

  pub has_digest : v.digest ≡ digest
  has_digest = spells.1

pub sum_is_count : (setup : Setup) (v : View) → IsWhole setup v → sum (map (λ k. k.0) v.kept) ≡ v.count
sum_is_count setup v w = is_so (sum (map (λ k. k.0) v.kept)) v.count (both (sum (map (λ k. k.0) v.kept) == v.count) (list_all is_flagged_last v.kept) (rules_of v w.possible).numbered).0

pub few_numbers : (setup : Setup) (v : View) → IsWhole setup v → sum (map (λ k. k.0) v.kept) ≤ MOST_ENTRIES
few_numbers setup v w = omega (arith, sum_is_count setup v w, (rules_of v w.possible).count)

open_rules : (setup : Setup) (v : View) (play : Option PlayRecord) → is_open_as is_play_record play ≡ true → is_open_as (is_open_record v) play ≡ true → is_open_as (is_played setup) play ≡ true
    → is_open_as (λ p. not (is_in setup p StageOpen.Ended)) play ≡ true → is_open_as (is_open_play setup) play ≡ true
open_rules setup v None r placed played going = refl
open_rules setup v (Some p) r placed played going =
    let after = both (nat_le 1 p.place && nat_le p.place v.count) (p.after == 0) placed in
    both_hold (is_play_record p && is_played setup p && not (is_in setup p StageOpen.Ended)) (p.after == 0)
    (both_hold (is_play_record p && is_played setup p) (not (is_in setup p StageOpen.Ended)) (both_hold (is_play_record p) (is_played setup p) r played) going) after.1

pub open_play_rules : (setup : Setup) (v : View) → IsWhole setup v → is_open_as (is_open_play setup) v.play ≡ true
open_play_rules setup v w =
    let r = rules_of v w.possible in
    let f = fitting_of setup v w.under in
    open_rules setup v v.play r.play r.play_placed f.play f.going

-- the machine of what was read is that of its view
pub restored_is : (f : ReadFields) (l : Lists) (digest : List ℕ) → f.digest ≡ digest → sum (map (λ k. k.0) f.parts.kept) ≡ f.count → restored digest f.parts (Some l) ≡ read_view f l
restored_is f l digest own counted = λ i. record (read_view f l) { digest = sym own i; count = counted i }

-- ================ last numbers

first_more : (k : ℕ × Option Reply) (ks : List (ℕ × Option Reply)) → sum (map (λ j. j.0) (k ∷ ks)) ≡ k.0 + sum (map (λ j. j.0) ks)
first_more k ks = sum_by-cons (λ (m : ℕ). m) k.0 (map (λ (j : ℕ × Option Reply). j.0) ks)

below_sum : (ks : List (ℕ × Option Reply)) (n : ℕ) → (kept_at ks n).0 ≤ sum (map (λ k. k.0) ks)
below_sum [] n = omega arith
below_sum (k ∷ ks) zero = omega (arith, first_more k ks)
below_sum (k ∷ ks) (suc n) = omega (arith, first_more k ks, below_sum ks n)

pub last_within : (setup : Setup) (v : View) → IsWhole setup v → (place : ℕ) → (kept_at v.kept place).0 ≤ v.count
last_within setup v w place = omega (arith, sum_is_count setup v w, below_sum v.kept place)
