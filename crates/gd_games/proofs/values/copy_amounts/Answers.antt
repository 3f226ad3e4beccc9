use Rattle.std.proofs.Common.{◌∙◌, ap, subst, ◌<◌, List, length, get_or, arith}
use Rattle.toml.specs.View.{view}
use Rattle.toml.specs.declared.value.Value.{Value}
use Rattle.gd_games.specs.Values.{number_in}
use Rattle.gd_games.proofs.Copied.{written}
use Rattle.gd_games.proofs.values.copy_amounts.Goals as goal

pub loop-place-preserved : goal.loop-place-preserved
loop-place-preserved c =
    let same = c.deref-item-items.ensures.value in
    let here = subst (λ (vs : List Value). c.loop-place.place < length vs) same c.loop-place-test.true in
    let item = c.item-item.is ∙ ap (λ (vs : List Value). get_or vs c.loop-place.place c.item-item.result) same in
    written (λ v. number_in (view v)) c.args.items.now.items c.args.into.now c.loop-place.into c.loop-place.place c.item-item.result _
    c.loop-place.invariant here (omega arith) item c.number.ensures.value
