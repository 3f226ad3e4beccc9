use Rattle.std.proofs.Common.{◌≡◌, ◌-◌}
use Rattle.gd_store.specs.Copy.{lowest_bad}
use Rattle.gd_store.proofs.booting.lowest_bad_page.Given as goal

abbrev pub invariant-loop-i : goal.invariant-loop-i
invariant-loop-i l = lowest_bad l.fn.layout l.copy 0 l.fn.layout.pages ≡ lowest_bad l.fn.layout l.copy l.i (l.pages - l.i)
