-- Lines of one, two and more fields, whatever they say.
use Rattle.std.proofs.Common.{◌≡◌, ℕ, ◌≤◌, List, [], ◌∷◌, decimal, option_and_then, option_map, Option, None, Some, refl, subst, arith}
use Rattle.gd_base.specs.declared.limits.TheConstants.{MOST_AMOUNT}
use Rattle.gd_script.specs.declared.limits.TheConstants.{MOST_NUMBER}
use Rattle.gd_script.specs.Reading.{amount_in_word, option_map_both, number_in, number_of, only_word}
use Rattle.gd_script.proofs.Numbers.{decimal_of_number, number_in_decimal}

pub mapped : {A B : Type 0} (make : A → B) (o : Option A) (b : B) → option_map make o ≡ Some b → (a : A) × (o ≡ Some a) × (make a ≡ b)
mapped make None b h = absurd (cc)
mapped make (Some a) b h = (a, refl, cc)

pub combined : {A B C : Type 0} (make : A → B → C) (o : Option A) (p : Option B) (c : C) → option_map_both make o p ≡ Some c → (a : A) × (b : B) × (o ≡ Some a) × (p ≡ Some b) × (make a b ≡ c)
combined make (Some a) (Some b) c h = (a, b, refl, refl, cc)
combined make _ _ c h = absurd (cc)

pub combine : {A B C : Type 0} (make : A → B → C) (o : Option A) (p : Option B) (a : A) (b : B) → o ≡ Some a → p ≡ Some b → option_map_both make o p ≡ Some (make a b)
combine make o p a b e f = rw (e, f) refl

-- what a line of one field says, by what its field says
pub one_field : {A B : Type 0} (Says : List (List ℕ) → B → Type 0) (read : List ℕ → Option A) (make : A → B) (first : List ℕ) (fields : List (List ℕ)) (b : B)
    → ((word : List ℕ) (a : A) → read word ≡ Some a → Says (first ∷ word ∷ []) (make a)) → option_map make (option_and_then read (only_word fields)) ≡ Some b → Says (first ∷ fields) b
one_field Says read make first [] b f h = absurd (cc)
one_field Says read make first (word ∷ []) b f h = let m = mapped make (read word) b h in subst (Says (first ∷ word ∷ [])) m.2 (f word m.0 m.1)
one_field Says read make first (word ∷ other ∷ rest) b f h = absurd (cc)

-- ================ numbers

pub number_says : (least most : ℕ) (word : List ℕ) (n : ℕ) → number_in least most word ≡ Some n → (word ≡ decimal n) × (least ≤ n) × (n ≤ most)
number_says least most word n h = let w = decimal_of_number least most word n h in (w.2, w.0, w.1)

pub amount_read : (n : ℕ) → n ≤ MOST_AMOUNT → amount_in_word (decimal n) ≡ Some n
amount_read n h = number_in_decimal 0 MOST_AMOUNT n (omega arith) (omega arith) h

pub number_read : (n : ℕ) → n ≤ MOST_NUMBER → number_of (decimal n) ≡ Some n
number_read n h = number_in_decimal 0 MOST_NUMBER n (omega arith) (omega arith) h
