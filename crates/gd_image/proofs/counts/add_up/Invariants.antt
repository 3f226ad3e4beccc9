use Rattle.std.proofs.Common.{◌≡◌, ◌+◌, take}
use Rattle.std.specs.List.{sum_by}
use Rattle.gd_image.proofs.counts.add_up.Given as goal

abbrev pub invariant-loop-k : goal.invariant-loop-k
invariant-loop-k l = l.left + sum_by (λ k. k.0) (take l.k-index l.kept) ≡ l.count
