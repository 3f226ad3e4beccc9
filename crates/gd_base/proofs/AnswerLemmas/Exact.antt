-- When each answer comes, exactly.
use Rattle.std.proofs.Common.{◌≡◌, ℕ, ◌+◌, ◌≤◌, ◌^◌, ◌==◌, nat_le, not, ◌&&◌, Bool, true, false, refl, arith, subst}
use Rattle.std.proofs.lemmas.Bool.Decides.{nat_tests}
use Rattle.gd_base.specs.declared.refusal.Reply.{Reply}
use Rattle.gd_base.specs.declared.step.Numbered.{Numbered}
use Rattle.gd_base.specs.declared.step.Stepped.{Stepped}
use Rattle.gd_base.specs.Judging.Answer.{answer, is_full}
use Rattle.gd_base.specs.Histories.Entry.{device_of}
use Rattle.gd_base.specs.Laws.Exact.{AnswersExactly}
use Rattle.gd_base.specs.Judging.Machine.{Machine}
use Rattle.gd_base.proofs.AnswerLemmas.Answer.{choice, chosen, new_event, new_entry, answer_new, answer_full, answer_again, is_number}
use Rattle.gd_base.proofs.BoolTests.{both}

-- ================ the tests of an answer

full_by : (b c d : Bool) (k r : Reply) (n : ℕ) → choice b c d k n r ≡ Stepped.HistoryFull → (c ≡ false) × (d ≡ true)
full_by true c d k r n h = absurd (cc h)
full_by false true d k r n h = absurd (cc h)
full_by false false true k r n h = (refl, refl)
full_by false false false k r n h = absurd (cc h)

again_by : (b c d : Bool) (k r : Reply) (n : ℕ) (reply : Reply) → choice b c d k n r ≡ Stepped.Again reply → (b ≡ true) × (k ≡ reply)
again_by true c d k r n reply h = (refl, cc h)
again_by false true d k r n reply h = absurd (cc h)
again_by false false true k r n reply h = absurd (cc h)
again_by false false false k r n reply h = absurd (cc h)

other_by : (b c d : Bool) (k r : Reply) (n expected : ℕ) → choice b c d k n r ≡ Stepped.OutOfStep expected → (b ≡ false) × (c ≡ true) × (n ≡ expected)
other_by true c d k r n expected h = absurd (cc h)
other_by false true d k r n expected h = (refl, refl, cc h)
other_by false false true k r n expected h = absurd (cc h)
other_by false false false k r n expected h = absurd (cc h)

-- ================ what the tests say of numbers

no_room : (n : ℕ) → nat_le (2 ^ 36) n ≡ true → 2 ^ 36 ≤ n
no_room n h = grind (arith, nat_tests, h)

some : (n : ℕ) → not (n == 0) ≡ true → 1 ≤ n
some n h = grind (arith, nat_tests, h)

same : (m n : ℕ) → (m == n) ≡ true → m ≡ n
same m n h = grind (arith, nat_tests, h)

not_last : (m n : ℕ) → not (n == 0) && (m == n) ≡ false → m ≡ n → n ≡ 0
not_last m n h e = grind (arith, nat_tests, h, e)

not_next : (m n : ℕ) → not (m == n) ≡ true → m ≡ n → ⊥
not_next m n h e = grind (arith, nat_tests, h, e)

differs_by : (m n : ℕ) (t : Bool) → (m == n) ≡ t → (m ≡ n → ⊥) → not t ≡ true
differs_by m n true h f = absurd (f (same m n h))
differs_by m n false h f = refl

differs : (m n : ℕ) → (m ≡ n → ⊥) → not (m == n) ≡ true
differs m n f = differs_by m n (m == n) refl f

other_last : (m n : ℕ) (t : Bool) → (m == n) ≡ t → (m ≡ n → n ≡ 0) → not (n == 0) && t ≡ false
other_last m n true h f = (let e = f (same m n h) in grind (arith, nat_tests, e))
other_last m n false h f = grind (arith, nat_tests)

-- ================ the four answers

out_of_step : {V : Type 0} (M : Machine V) (v : V) (e : Numbered) → (e.number ≡ M.last v (device_of e.event) + 1 → ⊥)
    → (e.number ≡ M.last v (device_of e.event) → M.last v (device_of e.event) ≡ 0) → answer M v e ≡ Stepped.OutOfStep (M.last v (device_of e.event) + 1)
unfolding answer
out_of_step M v e not_new not_kept =
    let last = M.last v (device_of e.event) in
    chosen (not (last == 0) && (e.number == last)) (not (e.number == last + 1)) (is_full M v) false true (is_full M v) (M.kept v (device_of e.event)) (M.rule v e.event) (last + 1)
    (other_last e.number last (e.number == last) refl not_kept) (differs e.number (last + 1) not_new) refl

full_event : {V : Type 0} (M : Machine V) (v : V) (e : Numbered) → answer M v e ≡ Stepped.HistoryFull
    → (e.number ≡ M.last v (device_of e.event) + 1) × (2 ^ 36 ≤ M.count v)
unfolding answer
full_event M v e h =
    let last = M.last v (device_of e.event) in
    let t = full_by (not (last == 0) && (e.number == last)) (not (e.number == last + 1)) (is_full M v) (M.kept v (device_of e.event)) (M.rule v e.event) (last + 1) h in
    (is_number e.number (last + 1) t.0, no_room (M.count v) t.1)

again_event : {V : Type 0} (M : Machine V) (v : V) (e : Numbered) (reply : Reply) → answer M v e ≡ Stepped.Again reply
    → (e.number ≡ M.last v (device_of e.event)) × (1 ≤ M.last v (device_of e.event)) × (M.kept v (device_of e.event) ≡ reply)
unfolding answer
again_event M v e reply h =
    let last = M.last v (device_of e.event) in
    let t = again_by (not (last == 0) && (e.number == last)) (not (e.number == last + 1)) (is_full M v) (M.kept v (device_of e.event)) (M.rule v e.event) (last + 1) reply h in
    let u = both (not (last == 0)) (e.number == last) t.0 in
    (same e.number last u.1, some last u.0, t.1)

other_event : {V : Type 0} (M : Machine V) (v : V) (e : Numbered) (expected : ℕ) → answer M v e ≡ Stepped.OutOfStep expected
    → (e.number ≡ M.last v (device_of e.event) + 1 → ⊥) × (e.number ≡ M.last v (device_of e.event) → M.last v (device_of e.event) ≡ 0)
    × (M.last v (device_of e.event) + 1 ≡ expected)
unfolding answer
other_event M v e expected h =
    let last = M.last v (device_of e.event) in
    let t = other_by (not (last == 0) && (e.number == last)) (not (e.number == last + 1)) (is_full M v) (M.kept v (device_of e.event)) (M.rule v e.event) (last + 1) expected h in
    (not_next e.number (last + 1) t.1, not_last e.number last t.0, t.2)

pub exactly : {V : Type 0} (M : Machine V) (v : V) (e : Numbered) → AnswersExactly M v e
exactly M v e = record {
  new = λ reply. (
    λ h. (let known = new_event M v e reply h in (known.number, known.room, known.judged)),
    λ t. subst (λ (r : Reply). answer M v e ≡ Stepped.New r) t.2 (answer_new M v e t.0 t.1),
  );
  full = (full_event M v e, λ t. answer_full M v e t.0 t.1);
  again = λ reply. (again_event M v e reply, λ t. subst (λ (r : Reply). answer M v e ≡ Stepped.Again r) t.2 (answer_again M v e t.0 t.1));
  out_of_step = λ expected. (other_event M v e expected, λ t. subst (λ (n : ℕ). answer M v e ≡ Stepped.OutOfStep n) t.2 (out_of_step M v e t.0 t.1));
  entry = λ blocks lap reply h. new_entry M blocks lap v e reply h;
}
