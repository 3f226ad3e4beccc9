-- Lines of a list, one record after another.
use Rattle.std.proofs.Common.{◌≡◌, ◌∙◌, ap, sym, ℕ, zero, suc, ◌+◌, ◌<◌, length, ◌++◌, List, [], ◌∷◌, append_assoc, append-nil, take, arith, Some, None, Bool, true}
use Rattle.std.specs.Prelude.{flat_map, slice_get}
use Rattle.std.specs.List.{list_all}
use Rattle.gd_base.proofs.BoolTests.{both}

record_more : {A : Type 0} (f : A → List ℕ) (xs : List A) (i : ℕ) (x : A) → slice_get xs i ≡ Some x → flat_map f (take (suc i) xs) ≡ flat_map f (take i xs) ++ f x
record_more f [] i x h = absurd (cc h)
record_more f (y ∷ ys) zero x h = append-nil (f y) ∙ ap f (cc h)
record_more f (y ∷ ys) (suc i) x h =
    ap (λ (lines : List ℕ). f y ++ lines) (record_more f ys i x h) ∙ sym (append_assoc (f y) (flat_map f (take i ys)) (f x))

grown : (before lines line after more : List ℕ) → after ≡ before ++ lines → more ≡ lines ++ line → after ++ line ≡ before ++ more
grown before lines line after more h k = ap (λ (xs : List ℕ). xs ++ line) h ∙ append_assoc before lines line ∙ sym (ap (λ (xs : List ℕ). before ++ xs) k)

one_more : (i : ℕ) → i + 1 ≡ suc i
one_more i = omega arith

-- the lines of one record more
pub next_record : {A : Type 0} (f : A → List ℕ) (xs : List A) (i : ℕ) (x : A) (old mid new : List ℕ) → mid ≡ old ++ flat_map f (take i xs) → slice_get xs i ≡ Some x → new ≡ mid ++ f x
    → new ≡ old ++ flat_map f (take (i + 1) xs)
next_record f xs i x old mid new so_far at said =
    said ∙ grown old (flat_map f (take i xs)) (f x) mid (flat_map f (take (i + 1) xs)) so_far (ap (λ (n : ℕ). flat_map f (take n xs)) (one_more i) ∙ record_more f xs i x at)

-- below the number of records there is one
pub one_there : {A : Type 0} (xs : List A) (i : ℕ) → i < length xs → slice_get xs i ≡ None → ⊥
one_there [] i small h = omega (arith, small)
one_there (y ∷ ys) zero small h = cc h
one_there (y ∷ ys) (suc i) small h = one_there ys i (omega (arith, small)) h

-- a record of a list of which each keeps a rule keeps it
pub kept_at : {A : Type 0} (rule : A → Bool) (xs : List A) (i : ℕ) (x : A) → slice_get xs i ≡ Some x → list_all rule xs ≡ true → rule x ≡ true
kept_at rule [] i x at all = absurd (cc at)
kept_at rule (y ∷ ys) zero x at all = ap rule (sym (cc at)) ∙ (both (rule y) (list_all rule ys) all).0
kept_at rule (y ∷ ys) (suc i) x at all = kept_at rule ys i x at (both (rule y) (list_all rule ys) all).1

-- ================ pieces in a row

pub seven_behind : (old body a b c d e f g : List ℕ) → old ++ body ++ (a ++ b ++ c ++ d ++ e ++ f ++ g) ≡ old ++ (body ++ a ++ b ++ c ++ d ++ e ++ f ++ g)
seven_behind old body a b c d e f g = simp append_assoc

-- seven pieces, one behind another
pub seven_in_row : (old t1 t2 t3 t4 t5 t6 t7 a b c d e f g : List ℕ) → t1 ≡ old ++ a → t2 ≡ t1 ++ b → t3 ≡ t2 ++ c → t4 ≡ t3 ++ d → t5 ≡ t4 ++ e → t6 ≡ t5 ++ f → t7 ≡ t6 ++ g
    → t7 ≡ old ++ (a ++ b ++ c ++ d ++ e ++ f ++ g)
seven_in_row old t1 t2 t3 t4 t5 t6 t7 a b c d e f g p q r s t u v =
    v
    ∙ ap (λ (x : List ℕ). x ++ g)
    (u ∙ ap (λ (x : List ℕ). x ++ f) (t ∙ ap (λ (x : List ℕ). x ++ e) (s ∙ ap (λ (x : List ℕ). x ++ d) (r ∙ ap (λ (x : List ℕ). x ++ c) (q ∙ ap (λ (x : List ℕ). x ++ b) p)))))
    ∙ simp append_assoc

-- the lines of three lists, each behind its count
pub three_lists : (old t1 t2 t3 t4 t5 t6 w1 d1 n1 l1 w2 d2 n2 l2 w3 d3 n3 l3 : List ℕ) → t1 ≡ old ++ w1 ++ d1 ++ n1 → t2 ≡ t1 ++ l1 → t3 ≡ t2 ++ w2 ++ d2 ++ n2 → t4 ≡ t3 ++ l2
    → t5 ≡ t4 ++ w3 ++ d3 ++ n3 → t6 ≡ t5 ++ l3 → t6 ≡ old ++ (w1 ++ d1 ++ n1 ++ l1 ++ w2 ++ d2 ++ n2 ++ l2 ++ w3 ++ d3 ++ n3 ++ l3)
three_lists old t1 t2 t3 t4 t5 t6 w1 d1 n1 l1 w2 d2 n2 l2 w3 d3 n3 l3 p q r s t u =
    u
    ∙ ap (λ (x : List ℕ). x ++ l3)
    (t ∙ ap (λ (x : List ℕ). x ++ w3 ++ d3 ++ n3) (s ∙ ap (λ (x : List ℕ). x ++ l2) (r ∙ ap (λ (x : List ℕ). x ++ w2 ++ d2 ++ n2) (q ∙ ap (λ (x : List ℕ). x ++ l1) p))))
    ∙ simp append_assoc

-- a line of a count, and four pieces behind it
pub five_pieces : (old t1 t2 t3 t4 t5 w d n a1 a2 a3 b c1 c2 c3 l : List ℕ) → t1 ≡ old ++ w ++ d ++ n → t2 ≡ t1 ++ (a1 ++ a2 ++ a3) → t3 ≡ t2 ++ b → t4 ≡ t3 ++ (c1 ++ c2 ++ c3) → t5 ≡ t4 ++ l
    → t5 ≡ old ++ (w ++ d ++ n ++ a1 ++ a2 ++ a3 ++ b ++ c1 ++ c2 ++ c3 ++ l)
five_pieces old t1 t2 t3 t4 t5 w d n a1 a2 a3 b c1 c2 c3 l p q r s t =
    t ∙ ap (λ (x : List ℕ). x ++ l) (s ∙ ap (λ (x : List ℕ). x ++ (c1 ++ c2 ++ c3)) (r ∙ ap (λ (x : List ℕ). x ++ b) (q ∙ ap (λ (x : List ℕ). x ++ (a1 ++ a2 ++ a3)) p)))
    ∙ simp append_assoc
