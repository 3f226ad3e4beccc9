use Rattle.std.proofs.Common.{◌+◌, refl, ◌∙◌, ap, Err}
use Rattle.std.proofs.lemmas.Result.{err_from_is_err_and}
use Rattle.gd_base.specs.declared.event.Event.{Event}
use Rattle.gd_base.specs.Judging.Rule.{while_locked}
use Rattle.gd_machine.specs.Acts.{replied}
use Rattle.gd_machine.specs.Words.{machine_view}
use Rattle.gd_play.specs.PlayMachine.{play_machine_play, play_machine_stage, play_machine_table}
use Rattle.gd_machine.proofs.PlaysMoved.{locked_answer, moved_by, moved_settled, moved_small, none_of, refused_answer}
use Rattle.gd_machine.proofs.PlaysRoom.{has_room}
use Rattle.gd_machine.proofs.PlaysSettled.{parts_settled}
use Rattle.gd_machine.proofs.machine.Machine.gamble.Goals as goal

pub returns-in_err-check_unlocked-clause-answer : goal.returns-in_err-check_unlocked-clause-answer
returns-in_err-check_unlocked-clause-answer c =
    let m = c.args.self.now in
    let p = err_from_is_err_and c.from_residual.result c.from_residual.ensures.1 in
    ap replied (p.1 ∙ ap Err p.2) ∙ locked_answer m.setup (machine_view m) (Event.Gamble c.args.colour) c.in_err-check_unlocked.field-0.0 refl c.in_err-check_unlocked.ensures

pub returns-in_err-phase-clause-answer : goal.returns-in_err-phase-clause-answer
returns-in_err-phase-clause-answer c =
    let m = c.args.self.now in
    let v = machine_view m in
    let free = none_of (while_locked v) tt c.in_ok-check_unlocked.ensures in
    let p = err_from_is_err_and c.from_residual-in_err-phase.result c.from_residual-in_err-phase.ensures.1 in
    ap replied (p.1 ∙ ap Err p.2) ∙ refused_answer m.setup (play_machine_table m.plays).setup v (Event.Gamble c.args.colour) (play_machine_stage m.plays) c.in_err-phase.field-0.0
    refl free m.has_stage c.in_err-phase.ensures.answer

pub settle-requires-clause-win : goal.settle-requires-clause-win
settle-requires-clause-win c =
    let m = c.args.self.now in
    let v = machine_view m in
    let free = none_of (while_locked v) tt c.in_ok-check_unlocked.ensures in
    let mid = play_machine_play c.gamble.new.self in
    let k = moved_by m.setup (play_machine_table m.plays).setup v (Event.Gamble c.args.colour) (play_machine_stage m.plays) c.in_ok-phase.phase mid m.has_table c.requires.whole
    refl free m.has_stage c.in_ok-phase.ensures.answer c.in_ok-phase.ensures.play in
    moved_small m.setup v (Event.Gamble c.args.colour) (play_machine_stage m.plays) c.in_ok-phase.phase mid k

pub settle-requires-clause-balance : goal.settle-requires-clause-balance
settle-requires-clause-balance c = (has_room c.args.self.now.setup (machine_view c.args.self.now) c.requires.whole).balance

pub settle-requires-clause-won : goal.settle-requires-clause-won
settle-requires-clause-won c = (has_room c.args.self.now.setup (machine_view c.args.self.now) c.requires.whole).won

pub settle-requires-clause-games : goal.settle-requires-clause-games
settle-requires-clause-games c = (has_room c.args.self.now.setup (machine_view c.args.self.now) c.requires.whole).games

pub returns-clause-view : goal.returns-clause-view
returns-clause-view c =
    let m = c.args.self.now in
    let v = machine_view m in
    let free = none_of (while_locked v) tt c.in_ok-check_unlocked.ensures in
    let phase = c.in_ok-phase.phase in
    let mid = play_machine_play c.gamble.new.self in
    let k = moved_by m.setup (play_machine_table m.plays).setup v (Event.Gamble c.args.colour) (play_machine_stage m.plays) phase mid m.has_table c.requires.whole
    refl free m.has_stage c.in_ok-phase.ensures.answer c.in_ok-phase.ensures.play in
    parts_settled m.setup v phase mid (play_machine_play c.settle.new.plays) (v.count + 1) c.settle.new.account c.settle.new.payout c.settle.new.recall.lists
    c.settle.ensures.account c.settle.ensures.payout c.settle.ensures.lists c.settle.ensures.play refl
    ∙ moved_settled m.setup v (Event.Gamble c.args.colour) (play_machine_stage m.plays) phase mid k
