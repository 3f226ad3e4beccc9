-- One word of a block after another, as the generator tells them.
use Rattle.std.specs.Prelude.{◌≡◌, ℕ, zero, suc, ◌+◌, ◌*◌, ◌%◌, ◌^◌, List, [], ◌∷◌, ◌++◌, map, refl}
use Rattle.std.proofs.Common.{ap, ◌∙◌, arith, add-one}
use Rattle.std.proofs.lemmas.List.{map-append}
use Rattle.rand_core.specs.Steps.{u64_via_u32}
use Rattle.rand_chacha.specs.ChaCha.{ChaCha, next_word, key_of}
use Rattle.gd_base.specs.Outside.KeyStream.{key_bytes, stream_word}
use Rattle.gd_base.specs.Setups.Tables.{numbers}

-- the generator of a seed and a lap, before a word
abbrev pub placed : ℕ → ℕ → ℕ → ChaCha
placed seed lap at = record { key = key_of (key_bytes seed); stream = lap; word_pos = at % 2 ^ 68 }

pub placed-next : (seed lap at : ℕ) → u64_via_u32 (next_word 10) (placed seed lap at)
    ≡ (stream_word seed lap at + stream_word seed lap (at + 1) * 2 ^ 32, placed seed lap (at + 2))
placed-next seed lap at =
    let one : (at % 2 ^ 68 + 1) % 2 ^ 68 ≡ (at + 1) % 2 ^ 68 = omega arith in
    let two : ((at + 1) % 2 ^ 68 + 1) % 2 ^ 68 ≡ (at + 2) % 2 ^ 68 = omega arith in
    rw (one, two) refl

numbers-more : (from n : ℕ) → numbers from (suc n) ≡ numbers from n ++ (from + n) ∷ []
numbers-more from zero = let e : from ≡ from + 0 = omega arith in ap (λ (k : ℕ). k ∷ []) e
numbers-more from (suc n) =
    let e : from + 1 + n ≡ from + suc n = omega arith in
    ap (λ (ns : List ℕ). from ∷ ns) (numbers-more (from + 1) n ∙ ap (λ (k : ℕ). numbers (from + 1) n ++ k ∷ []) e)

-- a list of words with the next one
pub map-more : (word : ℕ → ℕ) (i : ℕ) → map word (numbers 0 (i + 1)) ≡ map word (numbers 0 i) ++ word i ∷ []
map-more word i =
    let e : 0 + i ≡ i = omega arith in
    ap (λ (n : ℕ). map word (numbers 0 n)) (add-one i) ∙ ap (map word) (numbers-more 0 i) ∙ map-append word (numbers 0 i) ((0 + i) ∷ [])
    ∙ ap (λ (n : ℕ). map word (numbers 0 i) ++ word n ∷ []) e
