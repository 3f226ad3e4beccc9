use Rattle.std.proofs.Common.{arith, ◌∙◌}
use Rattle.gd_base.specs.Histories.Meters.{meters}
use Rattle.gd_base.proofs.TextLemmas.Lines.{next_line, grown}
use Rattle.gd_base.proofs.text.push_meters.Goals as goal

pub loop-place-preserved : goal.loop-place-preserved
loop-place-preserved c = record {
  bytes = c.push_meter.ensures.bytes
      ∙ grown _ _ _ _ _ c.loop-place.invariant.bytes
      (next_line meters c.args.totals.now c.loop-place.place _ c.loop-place-test.true (omega (arith, c.told-totals, c.loop-place-test.true)));
  room = omega arith;
}
