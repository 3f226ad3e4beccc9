use Rattle.std.proofs.Common.{arith}
use Rattle.gd_base.proofs.OutsideLemmas.Fronts.{front_of_take, given_more, given_none}
use Rattle.gd_base.proofs.sink.WritingSink.give.Goals as goal

pub returns-then-count-eq0-clause-bytes : goal.returns-then-count-eq0-clause-bytes
returns-then-count-eq0-clause-bytes g c =
    front_of_take _ _ _ _ (given_none _ (g.W.Write.contents c.loop-at.self.inner) _ _ _ c.loop-at.at c.write_some-count.result c.if-count-eq0.true c.loop-at.invariant.given c.write_some-count.ensures.bytes)

pub loop-at-preserved : goal.loop-at-preserved
loop-at-preserved g c = record {
  within = omega arith;
  given = given_more _ (g.W.Write.contents c.loop-at.self.inner) _ _ _ _ c.loop-at.invariant.given c.write_some-count.ensures.bytes;
  count = c.loop-at.invariant.count;
}
