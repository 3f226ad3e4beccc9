-- What a payload spells, by tests on the view that was read of it.
use Rattle.std.proofs.Common.{◌≡◌, ◌∙◌, ap, sym, refl, ℕ, List, [], ◌∷◌, ◌++◌, ◌==◌, ◌&&◌, Bool, true, false, if◌then◌else◌, length, arith, Option, Some, None, unwrap_or, is_some}
use Rattle.gd_base.specs.declared.play.PlayRecord.{PlayRecord}
use Rattle.gd_base.specs.declared.setup.Setup.{Setup}
use Rattle.gd_base.specs.declared.step.Loaded.{Loaded}
use Rattle.gd_base.specs.Histories.View.{View}
use Rattle.gd_base.specs.Judging.Product.{numbers_themselves, same_numbers}
use Rattle.gd_base.specs.Payloads.Bytes.{payload_of}
use Rattle.gd_base.specs.Payloads.Lists.{Lists, lists_of}
use Rattle.gd_base.specs.Payloads.ListsIn.{lists_in, lists_read, outside, stand_in}
use Rattle.gd_base.specs.Payloads.Loading.{found_in, spelled, told, told_under, view_read}
use Rattle.gd_base.specs.Payloads.Recorded.{are_recorded}
use Rattle.gd_base.specs.Payloads.Spelled.{Foreign, Shows, Unreadable, load_answer}
use Rattle.gd_base.specs.Payloads.ViewRules.{is_open_as, is_play_record, is_possible, is_possible_under, record_rules}
use Rattle.gd_base.proofs.BoolTests.{all_told}
use Rattle.gd_base.proofs.PayloadLemmas.ListsHad.{had, has_them}
use Rattle.gd_base.proofs.PayloadLemmas.ListsOfViews.{has_its_lists}
use Rattle.gd_base.proofs.PayloadLemmas.OneOfParts.{one_payload}
use Rattle.gd_base.proofs.PayloadLemmas.Same.{numbers_one}
use Rattle.gd_image.specs.Outside.{has_choice, outside_bytes}
use Rattle.gd_image.proofs.OfViews.{outside_of_view}

-- ================ rows of bytes

both_first : (a b c : Bool) → (a && b && c) ≡ (a && (b && c))
both_first true b c = refl
both_first false b c = refl

-- two rows are the same where their fronts and their backs are
pub same_joined : (a b c d : List ℕ) → length a ≡ length b → (same_numbers a b && same_numbers c d) ≡ same_numbers (a ++ c) (b ++ d)
same_joined [] [] c d e = refl
same_joined [] (y ∷ ys) c d e = absurd (omega (arith, e))
same_joined (x ∷ xs) [] c d e = absurd (omega (arith, e))
same_joined (x ∷ xs) (y ∷ ys) c d e =
    both_first (x == y) (same_numbers xs ys) (same_numbers c d) ∙ ap (λ (b : Bool). (x == y) && b) (same_joined xs ys c d (omega (arith, e)))

the_same : (a b : List ℕ) → a ≡ b → same_numbers a b ≡ true
the_same a b e = ap (λ (x : List ℕ). same_numbers x b) e ∙ numbers_themselves b

-- ================ lists that a payload has

had_if : (b : Bool) (l m : Lists) → (if b then Some l else None) ≡ Some m → m ≡ l
had_if true l m h = sym (ap (λ (o : Option Lists). unwrap_or o l) h)
had_if false l m h = absurd (cc h)

-- are those that are read of it
pub had_read : (payload : List ℕ) (l : Lists) → lists_in payload ≡ Some l → l ≡ lists_read payload
unfolding lists_in
had_read payload l h = had_if (are_recorded (lists_read payload) && stand_in payload (lists_read payload)) (lists_read payload) l h

-- ================ choices

pub choice_of_record : (play : Option PlayRecord) → is_open_as is_play_record play ≡ true → is_open_as has_choice play ≡ true
choice_of_record None h = refl
choice_of_record (Some p) h = (all_told (record_rules p) h).1.0

-- ================ what is told of a view that keeps the other rules

module _ (setup : Setup) (digest : List ℕ) (v : View) where
  shows_by : (own under : Bool) → load_answer (if own then (if under then Shows v else Unreadable) else Foreign v.digest) ≡ Loaded.Read
      → (if own then (if under then Shows v else Unreadable) else Foreign v.digest) ≡ Shows v
  shows_by true true h = refl
  shows_by true false h = absurd (cc h)
  shows_by false under h = absurd (cc h)

  pub shows_if_read : load_answer (told_under setup digest v) ≡ Loaded.Read → told_under setup digest v ≡ Shows v
  shows_if_read h = shows_by (same_numbers v.digest digest) (is_possible_under setup v) h

-- ================ what is told

module _ (setup : Setup) (digest payload : List ℕ) (v : View) (is : v ≡ view_read payload) where
  by_read : told setup digest (if same_numbers (payload_of v) payload then Some v else None) ≡ spelled setup digest payload
  unfolding spelled found_in
  by_read = ap (λ (w : View). told setup digest (if same_numbers (payload_of w) payload then Some w else None)) is

  by_same : (b : Bool) → is_possible v ≡ false → Unreadable ≡ told setup digest (if b then Some v else None)
  by_same true h = ap (λ (x : Bool). if x then told_under setup digest v else Unreadable) (sym h)
  by_same false h = refl

  pub not_possible : is_possible v ≡ false → Unreadable ≡ spelled setup digest payload
  not_possible h = by_same (same_numbers (payload_of v) payload) h ∙ by_read

  by_lists : is_some (lists_in payload) ≡ false → (a b : Bool) → is_possible v ≡ a → same_numbers (payload_of v) payload ≡ b → Unreadable ≡ spelled setup digest payload
  by_lists none false b p q = not_possible p
  by_lists none true false p q = ap (λ (x : Bool). told setup digest (if x then Some v else None)) (sym q) ∙ by_read
  by_lists none true true p q =
      let has = ap lists_in (sym (numbers_one (payload_of v) payload q)) ∙ has_them (payload_of v) (lists_of v) (has_its_lists v p) in
      absurd (cc (sym none ∙ ap is_some has))

  pub without_lists : is_some (lists_in payload) ≡ false → Unreadable ≡ spelled setup digest payload
  without_lists none = by_lists none (is_possible v) (same_numbers (payload_of v) payload) refl refl

  module _ (has : lists_in payload ≡ Some (lists_of v)) (possible : is_possible v ≡ true) where
    other : same_numbers (outside payload) (outside_bytes v) ≡ false → same_numbers (payload_of v) payload ≡ true → ⊥
    other differ same =
        let one = numbers_one (payload_of v) payload same in
        let outsides = ap outside (sym one) ∙ outside_of_view v possible in
        absurd (cc (sym differ ∙ the_same (outside payload) (outside_bytes v) outsides))

    decides : (b c : Bool) → same_numbers (outside payload) (outside_bytes v) ≡ b → same_numbers (payload_of v) payload ≡ c → c ≡ b
    decides true true p q = refl
    decides true false p q =
        let outsides = numbers_one (outside payload) (outside_bytes v) p ∙ sym (outside_of_view v possible) in
        let one = one_payload payload (payload_of v) (lists_of v) outsides (had payload (lists_of v) has).stand (has_its_lists v possible).stand in
        sym q ∙ the_same (payload_of v) payload (sym one)
    decides false true p q = absurd (other p q)
    decides false false p q = refl

    by_outside : (b : Bool) → same_numbers (outside payload) (outside_bytes v) ≡ b → told setup digest (if b then Some v else None) ≡ spelled setup digest payload
    by_outside b p = ap (λ (x : Bool). told setup digest (if x then Some v else None)) (sym (decides b (same_numbers (payload_of v) payload) p refl)) ∙ by_read

    pub not_outside : same_numbers (outside payload) (outside_bytes v) ≡ false → Unreadable ≡ spelled setup digest payload
    not_outside p = by_outside false p

    module _ (same : same_numbers (outside payload) (outside_bytes v) ≡ true) where
      pub by_rules : told_under setup digest v ≡ spelled setup digest payload
      by_rules = ap (λ (x : Bool). if x then told_under setup digest v else Unreadable) (sym possible) ∙ by_outside true same
