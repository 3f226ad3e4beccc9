-- The blocks of random words: each has sixteen words of 64 bits.
use Rattle.std.specs.Prelude.{◌≡◌, ℕ, ◌+◌, ◌*◌, ◌<◌, ◌^◌, ◌==◌, nat_lt, Bool, true, false, if◌then◌else◌, IsTrue, List, [], ◌∷◌, length, map, replicate, get_or, refl}
use Rattle.std.specs.List.{list_all}
use Rattle.std.proofs.Common.{subst}
use Rattle.std.proofs.Math.Nat.{mod-lt, zero-lt-suc, add_comm}
use Rattle.std.proofs.lemmas.Bool.{lt-ltb}
use Rattle.std.proofs.lemmas.Nat.{mul-add-lt}
use Rattle.rand_chacha.specs.Block.{block_word}
use Rattle.gd_base.specs.Outside.KeyStream.{stream_word, seeded_word, seeded_block}
use Rattle.gd_base.specs.Judging.Machine.{Blocks}
use Rattle.gd_base.specs.Outside.InMemory.{listed_block}
use Rattle.gd_base.specs.Setups.Tables.{numbers}
use Rattle.gd_base.specs.Judging.Product.{both_hold}

-- sixteen words of 64 bits
abbrev pub IsBlock : List ℕ → Type 0
IsBlock words = (length words ≡ 16) × IsTrue (list_all (λ w. nat_lt w (2 ^ 64)) words)

-- so is each block of a source
abbrev pub AreBlocks : Blocks → Type 0
AreBlocks blocks = (lap index : ℕ) → IsBlock (blocks lap index)

-- ================ blocks of a list

-- each block of a list is one, and zeros stand behind them
abbrev pub AreListed : List (List ℕ) → Type 0
AreListed blocks = (i : ℕ) → IsBlock (get_or blocks i (replicate 16 0))

in_lap : (is_first : Bool) (blocks : List (List ℕ)) (i : ℕ) → AreListed blocks → IsBlock (if is_first then get_or blocks i (replicate 16 0) else replicate 16 0)
in_lap true blocks i are = are i
in_lap false blocks i are = (refl, refl)

pub listed_are : (blocks : List (List ℕ)) → AreListed blocks → AreBlocks (listed_block blocks)
listed_are blocks are lap index = in_lap (lap == 0) blocks index are

-- ================ blocks of a seed

stream_small : (seed lap place : ℕ) → stream_word seed lap place < 2 ^ 32
unfolding block_word
stream_small seed lap place = mod-lt _ (zero-lt-suc 4294967295)

word_small : (seed lap index i : ℕ) → seeded_word seed lap index i < 2 ^ 64
word_small seed lap index i =
    subst (λ (n : ℕ). n < 2 ^ 64) (add_comm (stream_word seed lap (32 * index + 2 * i + 1) * 2 ^ 32) (stream_word seed lap (32 * index + 2 * i)))
    (mul-add-lt (stream_word seed lap (32 * index + 2 * i + 1)) (2 ^ 32) (stream_word seed lap (32 * index + 2 * i)) (2 ^ 32)
    (stream_small seed lap (32 * index + 2 * i + 1)) (stream_small seed lap (32 * index + 2 * i)))

words_small : (word : ℕ → ℕ) → ((i : ℕ) → word i < 2 ^ 64) → (ns : List ℕ) → IsTrue (list_all (λ w. nat_lt w (2 ^ 64)) (map word ns))
words_small word small [] = refl
words_small word small (n ∷ ns) = both_hold (nat_lt (word n) (2 ^ 64)) (list_all (λ w. nat_lt w (2 ^ 64)) (map word ns)) (lt-ltb (word n) (2 ^ 64) (small n)) (words_small word small ns)

pub seeded_are : (seed : ℕ) → AreBlocks (seeded_block seed)
seeded_are seed lap index = (refl, words_small (seeded_word seed lap index) (word_small seed lap index) (numbers 0 16))
