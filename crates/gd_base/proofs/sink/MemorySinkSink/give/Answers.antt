use Rattle.std.proofs.Common.{Some, is_ok, subst}
use Rattle.gd_base.specs.Outside.Causes.{AppendsFront}
use Rattle.gd_base.specs.Outside.InMemory.{SinkState}
use Rattle.gd_base.proofs.OutsideLemmas.Fronts.{front_of_grown}
use Rattle.gd_base.proofs.sink.MemorySinkSink.give.Goals as goal

pub returns-clause-bytes : goal.returns-clause-bytes
returns-clause-bytes c =
    subst (λ (s : SinkState). AppendsFront (Some s.taken) (Some c.extend_from_slice.new.self.items) c.args.bytes.now) c.self.view_is
    (front_of_grown c.self.inside.bytes.items _ c.args.bytes.now _ (is_ok c.extend_from_slice.result) c.extend_from_slice.ensures.items)
