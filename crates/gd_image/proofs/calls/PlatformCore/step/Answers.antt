use Rattle.std.proofs.Common.{ap}
use Rattle.gd_machine.specs.Meaning.{the_machine}
use Rattle.gd_image.proofs.calls.PlatformCore.step.Goals as goal

pub returns-clause-same : goal.returns-clause-same
returns-clause-same c = ap the_machine c.step.ensures.setup
