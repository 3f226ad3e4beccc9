use Rattle.std.proofs.Common.{◌+◌, refl, ◌≡◌, ◌∙◌, ap, sym, subst, [], ◌∷◌, ℕ, arith, Ok, Err}
use Rattle.std.proofs.lemmas.Result.{err_from_is_err_and}
use Rattle.gd_base.specs.declared.meter.Meter.{Meter}
use Rattle.gd_base.specs.Histories.Credit.{wager}
use Rattle.gd_account.specs.Judging.{wager_refusal}
use Rattle.gd_account.specs.Money.{with_wager}
use Rattle.gd_play.specs.PlayMachine.{play_machine_play, play_machine_table}
use Rattle.gd_machine.specs.Words.{machine_view}
use Rattle.gd_machine.proofs.PlaysBegun.{IsBegun, IsPosted, begun_by, begun_small, begun_view, first_five, wager_answer}
use Rattle.gd_machine.proofs.PlaysRoom.{room_after}
use Rattle.gd_machine.proofs.PlaysSettled.{money_of, parts_settled, settled, with_money}
use Rattle.gd_machine.proofs.Refusals.{refused_on}
use Rattle.gd_machine.proofs.Wholes.{facts_of}
use Rattle.gd_machine.proofs.machine.Machine.begin_play.Goals as goal

pub returns-in_err-check_new_play-clause-answer : goal.returns-in_err-check_new_play-clause-answer
returns-in_err-check_new_play-clause-answer c =
    let m = c.args.self.now in
    let v = machine_view m in
    refused_on (first_five m.setup v c.args.game c.args.bet) (wager_refusal v.balance (wager m.setup c.args.bet) ∷ []) c.from_residual.result c.in_err-check_new_play.field-0.0
    (err_from_is_err_and c.from_residual.result c.from_residual.ensures.1) c.in_err-check_new_play.ensures

pub overflow_add-number : goal.overflow_add-number
overflow_add-number c =
    let room = (facts_of c.args.self.now.setup (machine_view c.args.self.now) c.requires.whole).totals Meter.GamesPlayed in
    let is = c.meter-number.ensures in
    omega (arith, room, is)

pub wager-requires-clause-wagered : goal.wager-requires-clause-wagered
wager-requires-clause-wagered c = (facts_of c.args.self.now.setup (machine_view c.args.self.now) c.requires.whole).totals Meter.Wagered

pub wager-requires-clause-played : goal.wager-requires-clause-played
wager-requires-clause-played c = (facts_of c.args.self.now.setup (machine_view c.args.self.now) c.requires.whole).totals Meter.GamesPlayed

pub returns-in_err-wager-clause-answer : goal.returns-in_err-wager-clause-answer
returns-in_err-wager-clause-answer c =
    let m = c.args.self.now in
    let r = c.from_residual-in_err-wager.result in
    let p = err_from_is_err_and r c.from_residual-in_err-wager.ensures.1 in
    wager_answer m.setup (machine_view m) c.args.game c.args.bet c.wager-wager.result r (sym c.in_ok-check_new_play.ensures) c.wager-wager.ensures (p.1 ∙ ap Err p.2 ∙ c.in_err-wager.ensures.answer)

pub settle-requires-clause-balance : goal.settle-requires-clause-balance
settle-requires-clause-balance c =
    let m = c.args.self.now in
    (room_after m.setup (machine_view m) c.wager-wager.result c.wager.new.self c.requires.whole c.in_ok-wager.ensures.money).balance

pub settle-requires-clause-won : goal.settle-requires-clause-won
settle-requires-clause-won c =
    let m = c.args.self.now in
    (room_after m.setup (machine_view m) c.wager-wager.result c.wager.new.self c.requires.whole c.in_ok-wager.ensures.money).won

pub settle-requires-clause-games : goal.settle-requires-clause-games
settle-requires-clause-games c =
    let m = c.args.self.now in
    (room_after m.setup (machine_view m) c.wager-wager.result c.wager.new.self c.requires.whole c.in_ok-wager.ensures.money).games

pub settle-requires-clause-win : goal.settle-requires-clause-win
settle-requires-clause-win c =
    let m = c.args.self.now in
    let v = machine_view m in
    let draw = c.args.draw.now in
    let d = c.in-Some.drawn in
    let taken = wager_answer m.setup v c.args.game c.args.bet c.wager-wager.result (Ok tt) (sym c.in_ok-check_new_play.ensures) c.wager-wager.ensures c.in_ok-wager.ensures.answer in
    let k : IsBegun m.setup v c.args.game c.args.bet draw d = record { whole = c.requires.whole; taken = sym taken; drawn = c.requires.drawn; block = c.requires.block; some = c.in-Some.is } in
    let own = (play_machine_table m.plays).setup in
    let t = begun_by m.setup own v c.args.game c.args.bet d c.meter-number.result c.wager-wager.result c.balance-before.result (v.count + 1) (play_machine_play c.begin-phase.new.self) c.begin-phase.result
    m.has_table c.meter-number.ensures c.wager-wager.ensures c.balance-before.ensures refl c.begin-phase.ensures.play c.begin-phase.ensures.answer in
    subst IsPosted (sym t.0) (begun_small m.setup v c.args.game c.args.bet draw d k)

pub returns-clause-answer : goal.returns-clause-answer
returns-clause-answer c =
    let m = c.args.self.now in
    wager_answer m.setup (machine_view m) c.args.game c.args.bet c.wager-wager.result (Ok tt) (sym c.in_ok-check_new_play.ensures) c.wager-wager.ensures c.in_ok-wager.ensures.answer

pub returns-clause-view : goal.returns-clause-view
returns-clause-view c =
    let m = c.args.self.now in
    let v = machine_view m in
    let draw = c.args.draw.now in
    let d = c.in-Some.drawn in
    let taken = wager_answer m.setup v c.args.game c.args.bet c.wager-wager.result (Ok tt) (sym c.in_ok-check_new_play.ensures) c.wager-wager.ensures c.in_ok-wager.ensures.answer in
    let k : IsBegun m.setup v c.args.game c.args.bet draw d = record { whole = c.requires.whole; taken = sym taken; drawn = c.requires.drawn; block = c.requires.block; some = c.in-Some.is } in
    let own = (play_machine_table m.plays).setup in
    let t = begun_by m.setup own v c.args.game c.args.bet d c.meter-number.result c.wager-wager.result c.balance-before.result (v.count + 1) (play_machine_play c.begin-phase.new.self) c.begin-phase.result
    m.has_table c.meter-number.ensures c.wager-wager.ensures c.balance-before.ensures refl c.begin-phase.ensures.play c.begin-phase.ensures.answer in
    let paid : c.wager.new.self ≡ with_wager (wager m.setup c.args.bet) (money_of v) = c.in_ok-wager.ensures.money ∙ ap (λ (cost : ℕ). with_wager cost (money_of v)) c.wager-wager.ensures in
    parts_settled m.setup (with_money v c.wager.new.self) c.begin-phase.result (play_machine_play c.begin-phase.new.self) (play_machine_play c.settle.new.plays) (v.count + 1) c.settle.new.account c.settle.new.payout c.settle.new.recall.lists
    c.settle.ensures.account c.settle.ensures.payout c.settle.ensures.lists c.settle.ensures.play refl
    ∙ (λ x. settled m.setup (t.1 x) (t.0 x) (with_money v (paid x)))
    ∙ begun_view m.setup v c.args.game c.args.bet draw d k
