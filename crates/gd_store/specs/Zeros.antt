-- Bytes that are all zero.
use Rattle.std.specs.Prelude.{◌≡◌, ℕ, List, length, replicate}

-- as many zeros
unfoldable pub AreZeros : List ℕ → Type 0
AreZeros bytes = bytes ≡ replicate (length bytes) 0
