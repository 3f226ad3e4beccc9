use Rattle.std.proofs.Common.{ℕ, List, ◌++◌, take}
use Rattle.std.specs.Prelude.{flat_map}
use Rattle.sha2.specs.Sha256.{Holds, initial_hash_256}
use Rattle.gd_base.specs.Payloads.Bytes.{four}
use Rattle.gd_games.proofs.digest.hash_numbers.Given as goal

abbrev pub invariant-loop-number : goal.invariant-loop-number
invariant-loop-number l =
    (m : List ℕ) → Holds initial_hash_256 l.fn.hasher.core m → Holds initial_hash_256 l.hasher.core (m ++ flat_map four (take l.number-index l.numbers))
