-- The blocks of a seed: ChaCha20's key stream of a key, with the lap as the number of the stream.
use Rattle.std.specs.Prelude.{ℕ, ◌+◌, ◌*◌, ◌%◌, ◌^◌, List, ◌++◌, map, replicate}
use Rattle.std.specs.Int.{w64, to_be_bytes}
use Rattle.rand_chacha.specs.ChaCha.{word_at, key_of}
use Rattle.gd_base.specs.Setups.Tables.{numbers}

-- the seed's eight bytes, the highest first, and 24 zeros
abbrev pub key_bytes : ℕ → List ℕ
key_bytes seed = to_be_bytes w64 seed ++ replicate 24 0

-- the word of 32 bits at a place of a stream, after the ten double rounds of ChaCha20
abbrev pub stream_word : ℕ → ℕ → ℕ → ℕ
stream_word seed lap place = word_at 10 (key_of (key_bytes seed)) lap (place % 2 ^ 68)

-- word i of a block: two words of the stream, the low half first
abbrev pub seeded_word : ℕ → ℕ → ℕ → ℕ → ℕ
seeded_word seed lap index i = stream_word seed lap (32 * index + 2 * i) + stream_word seed lap (32 * index + 2 * i + 1) * 2 ^ 32

-- the sixteen words of a lap and an index
abbrev pub seeded_block : ℕ → ℕ → ℕ → List ℕ
seeded_block seed lap index = map (seeded_word seed lap index) (numbers 0 16)
