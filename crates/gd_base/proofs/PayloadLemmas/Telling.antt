-- What is told of the view that was found is what is spelled.
use Rattle.std.proofs.Common.{◌≡◌, ◌∙◌, ap, sym, refl, ℕ, Bool, true, false, if◌then◌else◌, List, Option, Some, None, unwrap_or}
use Rattle.gd_base.specs.declared.setup.Setup.{Setup}
use Rattle.gd_base.specs.Histories.View.{View}
use Rattle.gd_base.specs.Judging.Product.{same_numbers, numbers_themselves}
use Rattle.gd_base.specs.Laws.Spelling.{IsSpelling, ShowsByParts}
use Rattle.gd_base.specs.Payloads.Bytes.{payload_of}
use Rattle.gd_base.specs.Payloads.Lists.{lists_of}
use Rattle.gd_base.specs.Payloads.Loading.{view_read, found_in_row, found_in, told, spelled}
use Rattle.gd_base.specs.Payloads.Spelled.{Shows, Foreign, Unreadable}
use Rattle.gd_base.specs.Payloads.Spelling.{Spells, SpelledBy}
use Rattle.gd_base.specs.Payloads.ViewRules.{is_possible, is_possible_under}
use Rattle.gd_base.proofs.PayloadLemmas.ListsHad.{had}
use Rattle.gd_base.proofs.PayloadLemmas.ListsOfViews.{has_its_lists}
use Rattle.gd_base.proofs.PayloadLemmas.OneOfParts.{one_payload}
use Rattle.gd_base.proofs.PayloadLemmas.OneSpelled.{spelled_once}
use Rattle.gd_base.proofs.PayloadLemmas.OneView.{spells_one}
use Rattle.gd_base.proofs.PayloadLemmas.Same.{numbers_one}
use Rattle.gd_base.proofs.PayloadLemmas.ViewBack.{view_back}

-- the view is found exactly where it is spelled, but for the rules
pub record IsFound (S : View → Type 0) (found : Option View) : Type 0 where
  pub sound : (v : View) → found ≡ Some v → is_possible v ≡ true → S v
  pub whole : (v : View) → S v → (found ≡ Some v) × (is_possible v ≡ true)

none_some : (v : View) → (let n : Option View = None in n) ≡ Some v → ⊥
none_some v e = absurd (cc e)

some_one : (v w : View) → (let s : Option View = Some v in s) ≡ Some w → v ≡ w
some_one v w e = ap (λ (o : Option View). unwrap_or o v) e

other_digest : (a b : List ℕ) → same_numbers a b ≡ false → a ≡ b → ⊥
other_digest a b h is = let same : same_numbers a b ≡ true = ap (λ (x : List ℕ). same_numbers x b) is ∙ numbers_themselves b in absurd (cc (sym h ∙ same))

-- ================ by the rules

module _ (S : View → Type 0) (setup : Setup) (digest : List ℕ) where
  pub tells : (found : Option View) → IsFound S found → SpelledBy S setup digest (told setup digest found)
  tells None f = λ v s. absurd (none_some v (f.whole v s).0)
  tells (Some v) f = by_rules (is_possible v) (same_numbers v.digest digest) (is_possible_under setup v) refl refl refl
    where
      one : (w : View) → S w → v ≡ w
      one w s = some_one v w (f.whole w s).0

      by_rules : (a b c : Bool) → is_possible v ≡ a → same_numbers v.digest digest ≡ b → is_possible_under setup v ≡ c
          → SpelledBy S setup digest (if a then (if b then (if c then Shows v else Unreadable) else Foreign v.digest) else Unreadable)
      by_rules true true true p q r = (f.sound v refl p, numbers_one v.digest digest q, r)
      by_rules true true false p q r = λ w s. (
        λ under. absurd (cc (sym r ∙ ap (is_possible_under setup) (one w s) ∙ under.1)),
        λ foreign. foreign (sym (ap (λ (x : View). x.digest) (one w s)) ∙ numbers_one v.digest digest q),
      )
      by_rules true false c p q r = (v, f.sound v refl p, other_digest v.digest digest q, refl)
      by_rules false b c p q r = λ w s. absurd (cc (sym p ∙ ap is_possible (one w s) ∙ (f.whole w s).1))

-- ================ by what is read

module _ (read : List ℕ → View) (back : (v : View) → is_possible v ≡ true → read (payload_of v) ≡ v) where
  pub in_row : (row : List ℕ) → IsFound (Spells row) (found_in_row read row)
  in_row row = by_test (same_numbers (payload_of (read row)) row) refl
    where
      by_test : (b : Bool) → same_numbers (payload_of (read row)) row ≡ b → IsFound (Spells row) (if b then Some (read row) else None)
      by_test true q = record {
        sound = λ v e p. let is = some_one (read row) v e in (p, sym (numbers_one (payload_of (read row)) row q) ∙ ap payload_of is);
        whole = λ v s. (ap (λ (x : View). let o : Option View = Some x in o) (ap read s.1 ∙ back v s.0), s.0);
      }
      by_test false q = record {
        sound = λ v e p. absurd (none_some v e);
        whole = λ v s.
            let is = ap read s.1 ∙ back v s.0 in
            let same : same_numbers (payload_of (read row)) row ≡ true = ap (λ (x : View). same_numbers (payload_of x) row) is ∙ ap (λ (x : List ℕ). same_numbers x row) (sym s.1) ∙ numbers_themselves row in
            absurd (cc (sym q ∙ same));
      }

-- ================ the laws

found : (payload : List ℕ) → IsFound (Spells payload) (found_in payload)
unfolding found_in
found payload = in_row view_read view_back payload

pub is_spelling : IsSpelling
unfolding spelled
is_spelling setup digest payload = tells (Spells payload) setup digest (found_in payload) (found payload)

pub by_parts : ShowsByParts
by_parts setup digest payload v possible under own same lists =
    let is = one_payload payload (payload_of v) (lists_of v) same (had payload (lists_of v) lists).stand (has_its_lists v possible).stand in
    spelled_once (Spells payload) (spells_one payload) setup digest (spelled setup digest payload) (Shows v) (is_spelling setup digest payload) ((possible, is), own, under)
