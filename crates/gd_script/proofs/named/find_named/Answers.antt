use Rattle.std.proofs.Common.{sym, ap, ◌∙◌}
use Rattle.std.specs.Str.{bytes_eq}
use Rattle.gd_script.proofs.Found.{found_here, found_later, found_nowhere}
use Rattle.gd_script.proofs.named.find_named.Goals as goal

pub returns-then-eq : goal.returns-then-eq
returns-then-eq g c =
    found_here g.T.Named.name_of c.args.all.now c.loop-one.one-index c.one-item.result c.args.word.now c.loop-one-test.true c.one-item.is c.loop-one.invariant
    (ap (λ text. bytes_eq text c.args.word.now) (sym (c.as_bytes.ensures.value ∙ c.word.ensures.value)) ∙ (sym c.eq.ensures ∙ c.if-eq.true))

pub loop-one-preserved : goal.loop-one-preserved
loop-one-preserved g c =
    found_later g.T.Named.name_of c.args.all.now c.loop-one.one-index c.one-item.result c.args.word.now c.loop-one-test.true c.one-item.is c.loop-one.invariant
    (ap (λ text. bytes_eq text c.args.word.now) (sym (c.as_bytes.ensures.value ∙ c.word.ensures.value)) ∙ (sym c.eq.ensures ∙ c.if-eq.false))

pub returns : goal.returns
returns g c = found_nowhere g.T.Named.name_of c.args.all.now c.loop-one.one-index c.args.word.now c.loop-one-test.false c.loop-one.invariant
