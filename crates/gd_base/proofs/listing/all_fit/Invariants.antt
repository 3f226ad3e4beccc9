use Rattle.std.proofs.Common.{ℕ, ◌<◌, replicate, get_or}
use Rattle.gd_base.specs.Outside.Blocks.{IsBlock}
use Rattle.gd_base.proofs.listing.all_fit.Given as goal

abbrev pub invariant-loop-i : goal.invariant-loop-i
invariant-loop-i l = (k : ℕ) → k < l.i → IsBlock (get_or l.blocks k (replicate 16 0))
