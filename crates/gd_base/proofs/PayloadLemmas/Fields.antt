-- Fields in a row: two rows of bytes that are one begin with one field.
use Rattle.std.specs.Prelude.{◌≡◌, ℕ, ◌+◌, ◌*◌, ◌<◌, ◌≤◌, ◌^◌, ◌-◌, Bool, true, false, ◌&&◌, nat_le, nat_lt, if◌then◌else◌, List, [], ◌∷◌, ◌++◌, length, map, flat_map, replicate, Option, Some, None, refl}
use Rattle.std.specs.Int.{w16, w32, w64, from_be_bytes}
use Rattle.std.specs.List.{list_all}
use Rattle.std.proofs.Common.{ap, sym, ◌∙◌, arith, append_assoc}
use Rattle.std.proofs.lemmas.Bool.Decides.{nat_tests}
use Rattle.std.proofs.lemmas.List.Concat.{flat_map-cons}
use Rattle.std.proofs.lemmas.Nat.{from_be_bytes-to_be_bytes_2, from_be_bytes-to_be_bytes_4, from_be_bytes-to_be_bytes_8}
use Rattle.gd_base.specs.declared.refusal.Refusal.{Refusal}
use Rattle.gd_base.specs.declared.refusal.Reply.{Reply}
use Rattle.gd_base.specs.Payloads.Bytes.{two, four, eight, filled_part, flags, reply_bytes}
use Rattle.gd_base.specs.Payloads.Reading.{reply_of}
use Rattle.gd_base.specs.Payloads.ViewCode.{reply_back}
use Rattle.gd_base.specs.Payloads.ViewRules.{fall_from}
use Rattle.gd_base.proofs.BoolTests.{both}

-- whatever stands behind it, the bytes of a field tell the field
abbrev pub Reads : {A : Type 0} → (A → List ℕ) → (A → Type 0) → Type 0
Reads {A} f ok = (x y : A) (c d : List ℕ) → ok x → ok y → f x ++ c ≡ f y ++ d → (x ≡ y) × (c ≡ d)

abbrev pub first : List ℕ → ℕ
first [] = 0
first (x ∷ xs) = x

abbrev pub rest : List ℕ → List ℕ
rest [] = []
rest (x ∷ xs) = xs

-- a byte
pub cons_reads : (x y : ℕ) (c d : List ℕ) → x ∷ c ≡ y ∷ d → (x ≡ y) × (c ≡ d)
cons_reads x y c d e = (ap first e, ap rest e)

pub split : (a b c d : List ℕ) → length a ≡ length b → a ++ c ≡ b ++ d → (a ≡ b) × (c ≡ d)
split [] [] c d l e = (refl, e)
split [] (y ∷ b) c d l e = absurd (omega (arith, l))
split (x ∷ a) [] c d l e = absurd (omega (arith, l))
split (x ∷ a) (y ∷ b) c d l e =
    let one = cons_reads x y (a ++ c) (b ++ d) e in
    let more = split a b c d (omega (arith, l)) one.1 in
    ((λ i. one.0 i ∷ more.0 i), more.1)

pub cancel : (a c d : List ℕ) → a ++ c ≡ a ++ d → c ≡ d
cancel [] c d e = e
cancel (x ∷ a) c d e = cancel a c d (ap rest e)

-- ================ numbers

pub eight_reads : Reads eight (λ n. n < 2 ^ 64)
eight_reads x y c d p q e =
    let t = split (eight x) (eight y) c d refl e in
    (sym (from_be_bytes-to_be_bytes_8 x p) ∙ ap (from_be_bytes w64) t.0 ∙ from_be_bytes-to_be_bytes_8 y q, t.1)

pub four_reads : Reads four (λ n. n < 2 ^ 32)
four_reads x y c d p q e =
    let t = split (four x) (four y) c d refl e in
    (sym (from_be_bytes-to_be_bytes_4 x p) ∙ ap (from_be_bytes w32) t.0 ∙ from_be_bytes-to_be_bytes_4 y q, t.1)

pub two_reads : Reads two (λ n. n < 2 ^ 16)
two_reads x y c d p q e =
    let t = split (two x) (two y) c d refl e in
    (sym (from_be_bytes-to_be_bytes_2 x p) ∙ ap (from_be_bytes w16) t.0 ∙ from_be_bytes-to_be_bytes_2 y q, t.1)

-- ================ lists of a known length

abbrev pub Each : {A : Type 0} → (A → Type 0) → List A → Type 0
Each ok [] = Unit {0}
Each ok (x ∷ xs) = ok x × Each ok xs

pub list_reads : {A : Type 0} (f : A → List ℕ) (ok : A → Type 0) → Reads f ok → (xs ys : List A) (c d : List ℕ) → Each ok xs → Each ok ys → length xs ≡ length ys
    → flat_map f xs ++ c ≡ flat_map f ys ++ d → (xs ≡ ys) × (c ≡ d)
list_reads f ok reads [] [] c d p q l e = (refl, e)
list_reads f ok reads [] (y ∷ ys) c d p q l e = absurd (omega (arith, l))
list_reads f ok reads (x ∷ xs) [] c d p q l e = absurd (omega (arith, l))
list_reads {A} f ok reads (x ∷ xs) (y ∷ ys) c d p q l e =
    let from = sym (append_assoc (f x) (flat_map f xs) c) ∙ ap (λ (t : List ℕ). t ++ c) (sym (flat_map-cons f x xs)) in
    let to = ap (λ (t : List ℕ). t ++ d) (flat_map-cons f y ys) ∙ append_assoc (f y) (flat_map f ys) d in
    let one = reads x y (flat_map f xs ++ c) (flat_map f ys ++ d) p.0 q.0 (from ∙ e ∙ to) in
    let more = list_reads f ok reads xs ys c d p.1 q.1 (omega (arith, l)) one.1 in
    ((λ i. one.0 i ∷ more.0 i), more.1)

-- and then zeros up to a size
pub zeros_after : (size : ℕ) (a b c d : List ℕ) → a ≡ b → replicate (size - length a) 0 ++ c ≡ replicate (size - length b) 0 ++ d → c ≡ d
zeros_after size a b c d same e =
    cancel (replicate (size - length b) 0) c d (ap (λ (x : List ℕ). replicate (size - length x) 0 ++ c) (sym same) ∙ e)

pub filled_list_reads : {A : Type 0} (size : ℕ) (f : A → List ℕ) (ok : A → Type 0) → Reads f ok → (xs ys : List A) (c d : List ℕ) → Each ok xs → Each ok ys → length xs ≡ length ys
    → filled_part size (flat_map f xs) ++ c ≡ filled_part size (flat_map f ys) ++ d → (xs ≡ ys) × (c ≡ d)
filled_list_reads {A} size f ok reads xs ys c d p q l e =
    let x = flat_map f xs in
    let y = flat_map f ys in
    let zx = replicate (size - length x) 0 in
    let zy = replicate (size - length y) 0 in
    let t = list_reads f ok reads xs ys (zx ++ c) (zy ++ d) p q l (sym (append_assoc x zx c) ∙ e ∙ append_assoc y zy d) in
    (t.0, zeros_after size x y c d (ap (flat_map f) t.0) t.1)

-- records that pass a test and have falling places
pub each_placed : {A : Type 0} (place : A → ℕ) (test : A → Bool) (limit : ℕ) (xs : List A) → list_all test xs ≡ true → fall_from limit (map place xs) ≡ true → limit ≤ 2 ^ 64
    → Each (λ x. (test x ≡ true) × (place x < 2 ^ 64)) xs
each_placed place test limit [] h k l = tt
each_placed place test limit (x ∷ xs) h k l =
    let passed = both (test x) (list_all test xs) h in
    let falls = both (nat_le 1 (place x) && nat_lt (place x) limit) (fall_from (place x) (map place xs)) k in
    let below : place x < limit = grind (arith, nat_tests, (both (nat_le 1 (place x)) (nat_lt (place x) limit) falls.0).1) in
    ((passed.0, omega (arith, below, l)), each_placed place test (place x) xs passed.1 falls.1 (omega (arith, below, l)))

pub each_passed : (test : ℕ → Bool) (ok : ℕ → Type 0) → ((x : ℕ) → test x ≡ true → ok x) → (xs : List ℕ) → list_all test xs ≡ true → Each ok xs
each_passed test ok from [] h = tt
each_passed test ok from (x ∷ xs) h = let t = both (test x) (list_all test xs) h in (from x t.0, each_passed test ok from xs t.1)

-- ================ flags

bit_one : (b c : Bool) (m n : ℕ) → (if b then 1 else 0) + 2 * m ≡ (if c then 1 else 0) + 2 * n → (b ≡ c) × (m ≡ n)
bit_one true true m n e = (refl, omega (arith, e))
bit_one true false m n e = absurd (omega (arith, e))
bit_one false true m n e = absurd (omega (arith, e))
bit_one false false m n e = (refl, omega (arith, e))

pub flags_one : (xs ys : List Bool) → length xs ≡ length ys → flags xs ≡ flags ys → xs ≡ ys
flags_one [] [] l e = refl
flags_one [] (y ∷ ys) l e = absurd (omega (arith, l))
flags_one (x ∷ xs) [] l e = absurd (omega (arith, l))
flags_one (x ∷ xs) (y ∷ ys) l e =
    let t = bit_one x y (flags xs) (flags ys) e in
    let more = flags_one xs ys (omega (arith, l)) t.1 in
    λ i. t.0 i ∷ more i

-- ================ replies

abbrev reply_from : List ℕ → Option Reply
reply_from bytes = reply_of (first bytes) (first (rest bytes)) (first (rest (rest bytes)))

three_bytes : (r : Option Reply) → length (reply_bytes r) ≡ 3
three_bytes None = refl
three_bytes (Some Reply.Taken) = refl
three_bytes (Some (Reply.Refused (Refusal.LockedUp _))) = refl
three_bytes (Some (Reply.Refused _)) = refl

pub reply_reads : Reads reply_bytes (λ r. Unit {0})
reply_reads x y c d p q e =
    let t = split (reply_bytes x) (reply_bytes y) c d (three_bytes x ∙ sym (three_bytes y)) e in
    (sym (reply_back x) ∙ ap reply_from t.0 ∙ reply_back y, t.1)
