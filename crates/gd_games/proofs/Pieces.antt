-- A message that is fed in pieces.
use Rattle.std.proofs.Common.{◌≡◌, ℕ, List, ◌++◌, append_assoc}

pub four_pieces : (m a b c d : List ℕ) → m ++ a ++ b ++ c ++ d ≡ m ++ (a ++ b ++ c ++ d)
four_pieces m a b c d = simp append_assoc

pub six_pieces : (m a b c d e f : List ℕ) → m ++ a ++ b ++ c ++ d ++ e ++ f ≡ m ++ (a ++ b ++ c ++ d ++ e ++ f)
six_pieces m a b c d e f = simp append_assoc
