-- One record more of a row that is written, or read.
use Rattle.std.proofs.Common.{◌≡◌, ◌∙◌, ap, sym, ℕ, suc, ◌+◌, ◌-◌, ◌*◌, ◌<◌, ◌≤◌, true, List, [], ◌∷◌, ◌++◌, Bool, length, take, drop, arith, append_assoc, length-append, length-drop}
use Rattle.std.specs.List.{flat_map, list_all}
use Rattle.std.proofs.Math.Nat.{mul-suc}
use Rattle.std.proofs.lemmas.List.{length-take-le}
use Rattle.std.proofs.lemmas.List.Concat.{flat_map-cons}
use Rattle.std.proofs.lemmas.Slice.{take-put_mid}
use borrow.Rule.Slice.PartMut.{put_mid}
use Rattle.gd_base.proofs.BoolTests.{both}
use Rattle.gd_base.specs.Payloads.Reading.{records_in}

-- ================ written

module _ {A : Type 0} (x : A) (t xs : List A) (e : xs ≡ x ∷ t) where
  pub room_step : (size place len : ℕ) → place + size * length xs ≤ len → place + size + size * length t ≤ len
  room_step size place len room =
      let one : length xs ≡ suc (length t) = ap length e in
      let more : size * length xs ≡ size * suc (length t) = ap (λ (n : ℕ). size * n) one in
      omega (arith, room, more, mul-suc size (length t))

  pub recorded_step : (test : A → Bool) → list_all test xs ≡ true → list_all test t ≡ true
  recorded_step test h = (both (test x) (list_all test t) (ap (list_all test) (sym e) ∙ h)).1

  pub first_recorded : (test : A → Bool) → list_all test xs ≡ true → test x ≡ true
  first_recorded test h = (both (test x) (list_all test t) (ap (list_all test) (sym e) ∙ h)).0

  pub written_step : (f : A → List ℕ) (size place k : ℕ) (row new whole : List ℕ) → place ≤ length row → new ≡ f x → length new ≡ size
      → take place row ++ flat_map f xs ≡ whole → take (place + size) (put_mid place k row new) ++ flat_map f t ≡ whole
  written_step f size place k row new whole le is long h =
      let taken : take (place + size) (put_mid place k row new) ≡ take place row ++ new = take-put_mid place k row new (place + size) (omega (arith, long)) le in
      ap (λ (u : List ℕ). u ++ flat_map f t) taken
      ∙ append_assoc (take place row) new (flat_map f t)
      ∙ (λ i. take place row ++ (is i ++ flat_map f t))
      ∙ (λ i. take place row ++ sym (flat_map-cons f x t) i)
      ∙ (λ i. take place row ++ flat_map f (sym e i))
      ∙ h

  pub same_length : (place k : ℕ) (row new : List ℕ) → place + k ≤ length row → length new ≡ k → length (put_mid place k row new) ≡ length row
  same_length place k row new fits long =
      let rest : length (drop k (drop place row)) ≡ length row - place - k = length-drop k (drop place row) ∙ ap (λ (n : ℕ). n - k) (length-drop place row) in
      let first : length (take place row) ≡ place = length-take-le place row (omega (arith, fits)) in
      omega (arith, fits, long, rest, first, length-append (take place row) (new ++ drop k (drop place row)), length-append new (drop k (drop place row)))

-- ================ read

module _ {A : Type 0} (read : List ℕ → A) (size : ℕ) where
  one_left : (count i : ℕ) → i < count → count - i ≡ suc (count - (i + 1))
  one_left count i lt = omega (arith, lt)

  pub read_step : (count i : ℕ) (items whole : List A) (rest one more : List ℕ) → i < count → one ≡ take size rest → more ≡ drop size rest
      → items ++ records_in read size (count - i) rest ≡ whole → (items ++ (read one ∷ [])) ++ records_in read size (count - (i + 1)) more ≡ whole
  read_step count i items whole rest one more lt first others h =
      append_assoc items (read one ∷ []) (records_in read size (count - (i + 1)) more)
      ∙ (λ j. items ++ (read (first j) ∷ records_in read size (count - (i + 1)) (others j)))
      ∙ (λ j. items ++ records_in read size (sym (one_left count i lt) j) rest)
      ∙ h

  pub kept_all : (capacity : ℕ) (items : List A) (x : A) → length items < capacity → drop (length (items ++ (x ∷ [])) - capacity) (items ++ (x ∷ [])) ≡ items ++ (x ∷ [])
  kept_all capacity items x room =
      let none : length (items ++ (x ∷ [])) - capacity ≡ 0 = omega (arith, length-append items (x ∷ []), room) in
      ap (λ (n : ℕ). drop n (items ++ (x ∷ []))) none

  pub room_left : (count i len : ℕ) → i < count → size * (count - i) ≤ len → size * (count - (i + 1)) ≤ len - size
  room_left count i len lt room =
      let more : size * (count - i) ≡ size * suc (count - (i + 1)) = ap (λ (n : ℕ). size * n) (one_left count i lt) in
      omega (arith, room, more, mul-suc size (count - (i + 1)))
