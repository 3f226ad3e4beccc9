-- A text cut at its first space.
use Rattle.std.proofs.Common.{◌≡◌, ℕ, suc, ◌+◌, ◌-◌, ◌<◌, ◌≤◌, ◌==◌, nat_lt, if◌then◌else◌, true, false, List, [], ◌∷◌, ◌++◌, All, drop, get_or, length, position, take, Option, None, Some, refl, sym, ap, ◌∙◌, arith, length-take, length-drop, take_all}
use Rattle.std.proofs.Math.Seq.{split_at}
use Rattle.std.proofs.lemmas.Bool.Decides.{nat_tests}
use Rattle.std.proofs.lemmas.List.{get_or-take}
use Rattle.std.proofs.lemmas.List.Elements.{All-from_get_or}
use Rattle.std.proofs.lemmas.List.Quantifiers.{position-Some}
use Rattle.std.proofs.lemmas.List.Sums.{fails_before_first}
use Rattle.std.proofs.lemmas.List.Splits.{length-slice_split, slice_split_none, slice_split_at}
use Rattle.std.specs.List.{position_or_len}
use Rattle.gd_script.specs.Reading.{only_word, words, words_behind}

none_below : (m n : ℕ) → (if nat_lt m n then Some m else None) ≡ None → n ≤ m
none_below m n e = grind (arith, nat_tests)

none_is_space : (text : List ℕ) → position (λ b. b == 32) text ≡ None → All (λ b. (b == 32) ≡ false) text
none_is_space text e =
    let all : length text ≤ position_or_len (λ b. b == 32) text = none_below _ _ e in
    All-from_get_or (λ b. (b == 32) ≡ false) text 0 (λ i lt. fails_before_first (λ b. b == 32) text i 0 (omega arith))

pub no_space : (text : List ℕ) → position (λ b. b == 32) text ≡ None → words text ≡ text ∷ []
no_space text e = slice_split_none (λ b. b == 32) text (none_is_space text e)

before : (text : List ℕ) (at : ℕ) → at < length text → ((k : ℕ) → k < at → (get_or text k 0 == 32) ≡ false) → All (λ b. (b == 32) ≡ false) (take at text)
before text at h f =
    All-from_get_or (λ b. (b == 32) ≡ false) (take at text) 0 (λ i lt. rw (get_or-take at text i 0 (omega (arith, length-take at text))) (f i (omega (arith, length-take at text))))

-- what a range to the end gives
to_end : (text : List ℕ) (from : ℕ) → take (length text - from) (drop from text) ≡ drop from text
to_end text from = take_all (length text - from) (drop from text) (omega (arith, length-drop from text))

space_byte : (b : ℕ) → (b == 32) ≡ true → b ≡ 32
space_byte b e = grind (arith, nat_tests)

pub at_space : (text : List ℕ) (at : ℕ) → position (λ b. b == 32) text ≡ Some at → words text ≡ take at text ∷ words (take (length text - (at + 1)) (drop (at + 1) text))
at_space text at e =
    let p = position-Some (λ b. b == 32) text at 0 e in
    let cut : text ≡ take at text ++ get_or text at 0 ∷ drop (suc at) text = split_at text at 0 p.0 in
    let split : words (take at text ++ get_or text at 0 ∷ drop (suc at) text) ≡ take at text ∷ words (drop (suc at) text) =
    slice_split_at (λ b. b == 32) (take at text) (get_or text at 0) (drop (suc at) text) (before text at p.0 p.2) p.1
    in
    let next : suc at ≡ at + 1 = omega arith in
    ap words cut ∙ split ∙ ap (λ (n : ℕ). take at text ∷ words (drop n text)) next ∙ ap (λ (rest : List ℕ). take at text ∷ words rest) (sym (to_end text (at + 1)))

-- ================ a text has a first word

pub one_at_least : (text : List ℕ) → 0 < length (words text)
one_at_least text = omega (arith, length-slice_split (λ b. b == 32) text)

more : (first : List ℕ) (rest : List (List ℕ)) → 0 < length rest → None ≡ only_word (first ∷ rest)
more first [] h = absurd (omega arith)
more first (second ∷ rest) h = refl

pub not_only : (text first rest : List ℕ) (behind : Option (List ℕ)) → words text ≡ first ∷ words_behind behind → behind ≡ Some rest → None ≡ only_word (words text)
not_only text first rest behind e f = more first (words rest) (one_at_least rest) ∙ ap only_word (sym (e ∙ ap (λ (o : Option (List ℕ)). first ∷ words_behind o) f))
