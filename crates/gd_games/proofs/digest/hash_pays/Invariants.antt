use Rattle.std.proofs.Common.{ℕ, List, ◌++◌, take}
use Rattle.std.specs.Prelude.{flat_map}
use Rattle.sha2.specs.Sha256.{Holds, initial_hash_256}
use Rattle.gd_base.specs.Payloads.Bytes.{two}
use Rattle.gd_games.proofs.digest.hash_pays.Given as goal

abbrev pub invariant-loop-own : goal.invariant-loop-own
invariant-loop-own l =
    (m : List ℕ) → Holds initial_hash_256 l.fn.hasher.core m → Holds initial_hash_256 l.hasher.core (m ++ flat_map (flat_map two) (take l.own-index l.pays))
