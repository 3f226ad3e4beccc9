use Rattle.std.proofs.Common.{◌≡◌, ℕ, ◌<◌, get_or, false}
use Rattle.gd_store.specs.Changes.{differ}
use Rattle.gd_store.proofs.copy.changing.find_changes.Given as goal

abbrev pub invariant-loop-i : goal.invariant-loop-i
invariant-loop-i l = (k : ℕ) → k < l.i → get_or l.changed k false ≡ differ k l.kept l.payload
