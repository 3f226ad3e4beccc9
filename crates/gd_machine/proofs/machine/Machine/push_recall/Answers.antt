use Rattle.std.proofs.Common.{sym, subst, Option, IsTrue}
use Rattle.gd_base.specs.declared.play.PlayRecord.{PlayRecord}
use Rattle.gd_base.specs.Payloads.ViewRules.{is_open_as, is_play_record}
use Rattle.gd_base.proofs.ViewFacts.{rules_of}
use Rattle.gd_machine.specs.Words.{machine_view}
use Rattle.gd_machine.proofs.machine.Machine.push_recall.Goals as goal

pub push_open_or-requires-clause-record : goal.push_open_or-requires-clause-record
push_open_or-requires-clause-record c =
    subst (λ (play : Option PlayRecord). IsTrue (is_open_as is_play_record play)) (sym c.open.ensures) (rules_of (machine_view c.args.self.now) c.requires.whole.possible).play

pub push_ended_plays-requires-clause-records : goal.push_ended_plays-requires-clause-records
push_ended_plays-requires-clause-records c = (rules_of (machine_view c.args.self.now) c.requires.whole.possible).plays
