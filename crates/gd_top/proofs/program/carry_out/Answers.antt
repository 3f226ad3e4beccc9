use Rattle.std.proofs.Common.{inl, inr, ⊎_elim, subst}
use Rattle.gd_base.specs.Judging.Machine.{Blocks}
use Rattle.gd_disk.specs.Memory.{lab_state}
use Rattle.gd_top.specs.Claims.ImageRuns.{TellsImages}
use Rattle.gd_top.specs.Claims.Program.{world, IsCarriedOut}
use Rattle.gd_words.specs.CommandLine.{texts}
use Rattle.gd_words.specs.Meaning.{words_of}
use Rattle.gd_top.proofs.program.carry_out.Goals as goal

pub returns-clause-done : goal.returns-clause-done
returns-clause-done g c =
    let run = c.cabinet in
    let was = world g.C.Source.left g.C.Source.faults g.S.Source.left g.S.Source.faults g.K.Sink.taken g.K.Sink.faults lab_state g.D.Disk.state c.args.setup.now c.args.input.now c.args.output.now c.in_ok-lab.lab c.args.disk in
    let now = world g.C.Source.left g.C.Source.faults g.S.Source.left g.S.Source.faults g.K.Sink.taken g.K.Sink.faults lab_state g.D.Disk.state run.new.setup run.new.input run.new.output run.result.lab run.result.disk in (
      c.in_ok-lab.lab,
      ⊎_elim (λ refused. inl refused.0)
          (λ carried. inr (subst (λ (blocks : Blocks). IsCarriedOut (TellsImages g.D.Disk.state) (words_of (texts c.args.words.now)) blocks run.result.status run.result.falls.items was now) c.seeded_draws.ensures.blocks carried))
          run.ensures.done,
    )
