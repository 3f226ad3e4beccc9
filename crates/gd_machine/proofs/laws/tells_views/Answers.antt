use Rattle.gd_machine.proofs.Telling.{machine_tells}
use Rattle.gd_machine.proofs.laws.tells_views.Goals as goal

pub returns : goal.returns
returns c = machine_tells
