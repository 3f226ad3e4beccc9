use Rattle.std.proofs.Common.{◌≡◌, ◌∙◌, ap, sym, subst, refl, ℕ, Bool, List, [], ◌∷◌, ◌++◌, codes}
use Rattle.gd_disk.specs.declared.disk.ArmedCut.{ArmedCut}
use Rattle.gd_top.specs.Code.Memory.{moment}
use Rattle.gd_top.specs.Code.Parts.{GivesText}
use Rattle.gd_disk.specs.declared.disk.CutUnit.{CutUnit}
use Rattle.gd_disk.specs.declared.disk.CutUnit.TheVariants.{Call, Sync}
use Rattle.gd_disk.specs.contracts.disk.CutUnit.{the_type}
use denote.Enum.Bare.{sameb}
use Rattle.gd_top.specs.Code.Falls.{counts_calls}
use Rattle.gd_top.proofs.ItemLemmas.Arming.{arm_stops, arm_does}
use Rattle.gd_top.proofs.item.arming.arm.Goals as goal

calls_told : (unit : CutUnit) → sameb the_type unit Call ≡ counts_calls unit
calls_told Sync = refl
calls_told Call = refl

pub returns-then-is_at_limit-clause-does : goal.returns-then-is_at_limit-clause-does
returns-then-is_at_limit-clause-does g c =
    let cut : ArmedCut = record { unit = c.args.unit; count = c.args.count; torn = c.args.torn } in
    arm_stops cut (moment g.C.Core.meaning g.C.Core.view g.L.Disk.state g.W.Draws.block_of g.K.Sink.taken g.K.Sink.faults c.args.memory c.args.counts.now c.args.output.now)
    refl (sym c.is_at_limit.ensures ∙ c.if-is_at_limit.true) c.requires.sits

pub returns-clause-does : goal.returns-clause-does
returns-clause-does g c =
    let cut : ArmedCut = record { unit = c.args.unit; count = c.args.count; torn = c.args.torn } in
    let arms = c.arm_disk-armed.ensures in
    let r = c.give_text-given.result in
    let given = c.give_text-given.ensures in
    arm_does cut (moment g.C.Core.meaning g.C.Core.view g.L.Disk.state g.W.Draws.block_of g.K.Sink.taken g.K.Sink.faults c.args.memory c.args.counts.now c.args.output.now)
    (moment g.C.Core.meaning g.C.Core.view g.L.Disk.state g.W.Draws.block_of g.K.Sink.taken g.K.Sink.faults c.arm_disk-armed.result (record c.args.counts.now { calls = c.push.new.self }) c.give_text-given.new.output)
    (record {
      was_trial = refl;
      trial = refl;
      machine = ap g.C.Core.meaning arms.core;
      blocks = λ lap index. ap (λ w. g.W.Draws.block_of w lap index) arms.draws;
      view = ap g.C.Core.view arms.core;
      phase = arms.phase;
      armed = arms.armed;
      power = arms.power;
      seen = arms.seen;
      loss = arms.loss;
      kept = arms.counts;
      found = arms.found;
      no_fault = arms.faults;
      stopped = arms.stopped;
      lap = arms.lap;
      lines = refl;
      power_ons = refl;
      laps = refl;
      given = refl;
      offers = refl;
      falls = refl;
      calls = c.push.ensures.items ∙ ap (λ (call : Bool). c.args.counts.now.calls.items ++ call ∷ []) (c.eq.ensures ∙ calls_told c.args.unit);
    })
    r c.requires.sits c.requires.count (sym c.is_at_limit.ensures ∙ c.if-is_at_limit.false)
    (subst (GivesText r _ _) (c.push_str.ensures.bytes ∙ ap (λ (bytes : List ℕ). bytes ++ codes "armed\n") c.clear.ensures) given.given) given.later given.cause
