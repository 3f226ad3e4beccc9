use Rattle.std.proofs.Common.{◌≡◌, refl, subst, ℕ, List, Some}
use Rattle.gd_games.specs.File.{setup_fault, IsSetupOf}
use Rattle.gd_top.proofs.SetupLemmas.{given, refused}
use Rattle.gd_top.proofs.command.setup.read_file.Goals as goal

pub returns-in-Ok-clause-given : goal.returns-in-Ok-clause-given
returns-in-Ok-clause-given g c =
    given (g.C.Source.left c.args.file.now) (g.C.Source.left c.take_front.new.file) c.in_ok-bytes.bytes.items c.in_ok-bytes.ensures.taken c.in_ok-bytes.ensures.end c.in-Ok.setup
    (subst (λ (b : List ℕ). IsSetupOf b c.in-Ok.setup) c.deref.ensures.value c.in-Ok.ensures.setup)

pub returns-in-Err-Fault-clause-refused : goal.returns-in-Err-Fault-clause-refused
returns-in-Err-Fault-clause-refused g c =
    let read = refused (g.C.Source.left c.args.file.now) (g.C.Source.left c.take_front.new.file) c.in_ok-bytes.bytes.items c.in_ok-bytes.ensures.taken c.in_ok-bytes.ensures.end c.in-Err-Fault.fault
    (subst (λ (b : List ℕ). setup_fault b ≡ Some c.in-Err-Fault.fault) c.deref.ensures.value (c.in-Err-Fault.ensures.fault c.in-Err-Fault.fault c.in-Err-Fault.field-0-is)) in
    (refl, read.0, read.1, read.2)
