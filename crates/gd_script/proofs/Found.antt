-- The search for a name among values.
use Rattle.std.proofs.Common.{◌≡◌, ℕ, ◌+◌, ◌<◌, ◌≤◌, true, false, List, ◌∷◌, drop, get_or, length, None, Some, refl, sym, ap, ◌∙◌}
use Rattle.std.proofs.lemmas.List.{drop_all, drop_more}
use Rattle.std.specs.Str.{bytes_eq}
use Rattle.gd_script.specs.Reading.{value_named}

hit : {T : Type 0} (name : T → List ℕ) (one : T) (rest : List T) (word : List ℕ) → bytes_eq (name one) word ≡ true → value_named name (one ∷ rest) word ≡ Some one
unfolding value_named
hit name one rest word e = rw e refl

miss : {T : Type 0} (name : T → List ℕ) (one : T) (rest : List T) (word : List ℕ) → bytes_eq (name one) word ≡ false → value_named name (one ∷ rest) word ≡ value_named name rest word
unfolding value_named
miss name one rest word e = rw e refl

-- what is still to be searched decides
pub found_here : {T : Type 0} (name : T → List ℕ) (all : List T) (i : ℕ) (one : T) (word : List ℕ)
    → i < length all → one ≡ get_or all i one → value_named name (drop i all) word ≡ value_named name all word → bytes_eq (name one) word ≡ true → Some one ≡ value_named name all word
found_here name all i one word lt at left e =
    sym (hit name one (drop (i + 1) all) word e) ∙ ap (λ rest. value_named name rest word) (sym (drop_more all i one lt ∙ ap (λ x. x ∷ drop (i + 1) all) (sym at))) ∙ left

pub found_later : {T : Type 0} (name : T → List ℕ) (all : List T) (i : ℕ) (one : T) (word : List ℕ)
    → i < length all → one ≡ get_or all i one → value_named name (drop i all) word ≡ value_named name all word → bytes_eq (name one) word ≡ false → value_named name (drop (i + 1) all) word ≡ value_named name all word
found_later name all i one word lt at left e =
    sym (miss name one (drop (i + 1) all) word e) ∙ ap (λ rest. value_named name rest word) (sym (drop_more all i one lt ∙ ap (λ x. x ∷ drop (i + 1) all) (sym at))) ∙ left

pub found_nowhere : {T : Type 0} (name : T → List ℕ) (all : List T) (i : ℕ) (word : List ℕ) → length all ≤ i → value_named name (drop i all) word ≡ value_named name all word → None ≡ value_named name all word
unfolding value_named
found_nowhere name all i word h left = ap (λ rest. value_named name rest word) (sym (drop_all i all h)) ∙ left
