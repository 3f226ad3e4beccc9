use Rattle.std.proofs.Common.{arith, ◌∙◌}
use Rattle.gd_store.specs.Changes.{differ}
use Rattle.gd_store.proofs.PageMoments.{set_more, slices_differ}
use Rattle.gd_store.proofs.copy.changing.find_changes.Goals as goal

pub loop-i-preserved : goal.loop-i-preserved
loop-i-preserved c =
    set_more c.loop-i.changed c.loop-i.i c.ne.result (λ k. differ k c.args.kept.now c.args.payload.now) c.loop-i.invariant
    (c.ne.ensures ∙ slices_differ c.loop-i.i c.args.kept.now c.args.payload.now) (omega (arith, c.loop-i.auto.changed, c.loop-i-test.true))
