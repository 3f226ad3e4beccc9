use Rattle.std.proofs.Common.{◌≡◌, ◌⊎◌, ℕ, ◌<◌, ◌≤◌, get_or}
use Rattle.gd_disk.specs.Laboratory.{left_of}
use Rattle.gd_disk.proofs.medium.tear.Given as goal

abbrev pub invariant-loop-i : goal.invariant-loop-i
invariant-loop-i l = record {
  torn : (k : ℕ) → l.fn.low ≤ k → k < l.i → get_or l.current k 0 ≡ left_of l.torn (get_or l.durable k 0) (get_or l.fn.current k 0) (get_or l.marks k 0);
  rest : (k : ℕ) → (k < l.fn.low) ⊎ (l.i ≤ k) → get_or l.current k 0 ≡ get_or l.fn.current k 0;
}
