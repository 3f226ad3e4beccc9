use Rattle.gd_image.specs.Words.{platform_setup}
use Rattle.gd_machine.specs.Meaning.{the_machine}
use Rattle.gd_top.specs.Claims.Runs.{outer, trial_beginning}
use Rattle.gd_top.proofs.TrialLemmas.Ends.{carried_as_told}
use Rattle.gd_top.proofs.core_call.carry.Goals as goal

pub returns-clause-exact : goal.returns-clause-exact
returns-clause-exact g c = λ no_read no_write no_disk.
    let run = c.run_trial in
    let was = outer g.S.Source.left g.S.Source.faults g.K.Sink.taken g.K.Sink.faults g.L.Disk.state c.args.input.now c.args.output.now c.args.lab in
    let now = outer g.S.Source.left g.S.Source.faults g.K.Sink.taken g.K.Sink.faults g.L.Disk.state run.new.input run.new.output run.result.lab in
    let M = the_machine (platform_setup c.args.core) in
    carried_as_told (trial_beginning M) M (g.W.Draws.block_of c.args.draws) run.result.falls.items was now run.result.status run.ensures.done run.ensures.causes no_read no_write no_disk

pub returns-clause-blocks : goal.returns-clause-blocks
returns-clause-blocks g c = g.W.Draws.are_blocks c.args.draws
