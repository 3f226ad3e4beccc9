use Rattle.std.proofs.Common.{◌≡◌, ◌∙◌, ap, sym, subst, ℕ, ◌+◌, ◌&&◌}
use Rattle.gd_base.specs.declared.setup.Setup.{Setup}
use Rattle.gd_base.specs.declared.step.Stepped.{Stepped}
use Rattle.gd_base.specs.Histories.Devices.{kept_at}
use Rattle.gd_base.specs.Histories.Entry.{device_of}
use Rattle.gd_base.specs.Histories.Numbers.{device_place}
use Rattle.gd_base.specs.Judging.Answer.{is_new, IsDraw}
use Rattle.gd_base.specs.Judging.Draws.{is_drawn, next_index}
use Rattle.gd_base.proofs.AnswerLemmas.Answer.{answer_new}
use Rattle.gd_machine.specs.Meaning.{the_machine}
use Rattle.gd_machine.specs.Words.{machine_setup, machine_view, IsWhole}
use Rattle.gd_machine.proofs.Entries.{entered, whole_after}
use Rattle.gd_machine.proofs.Kept.{LastKept}
use Rattle.gd_machine.proofs.machine.Machine.step.Goals as goal

pub returns-clause-view : goal.returns-clause-view
returns-clause-view c =
    let e = c.args.e.now in
    entered (machine_setup c.args.self.now) (machine_view c.args.self.now) c.requires.whole e.number e.event c.args.draw c.act-outcome.result c.reply_to-reply.result (machine_view c.act-outcome.new.self)
    (machine_view c.count_entry.new.self) c.act-outcome.ensures.view c.act-outcome.ensures.stays c.reply_to-reply.ensures c.act-outcome.ensures.answer c.count_entry.ensures.view

pub returns-clause-whole : goal.returns-clause-whole
returns-clause-whole c =
    let setup = machine_setup c.args.self.now in
    let v = machine_view c.args.self.now in
    let e = c.args.e.now in
    let last : c.last_of-last.result.0 ≡ (kept_at v.kept (device_place (device_of e.event))).0 = ap (λ (k : LastKept). k.0) c.last_of-last.ensures.value in
    let number = c.if-e-last-2.false ∙ ap (λ (n : ℕ). n + 1) last in
    let new = answer_new (the_machine setup) v e number c.if-self-ge-MOST_ENTRIES.false in
    let drawn = subst (λ (s : Stepped). IsDraw (is_new s && is_drawn setup v e.event) (next_index v) c.args.draw) new c.requires.draw in
    let is =
    entered setup v c.requires.whole e.number e.event c.args.draw c.act-outcome.result c.reply_to-reply.result (machine_view c.act-outcome.new.self) (machine_view c.count_entry.new.self)
    c.act-outcome.ensures.view c.act-outcome.ensures.stays c.reply_to-reply.ensures c.act-outcome.ensures.answer c.count_entry.ensures.view in
    let same = c.count_entry.ensures.setup ∙ c.act-outcome.ensures.setup in
    subst (λ (s : Setup). IsWhole s (machine_view c.count_entry.new.self)) (sym same)
    (whole_after setup v c.requires.whole e.number e.event c.args.draw (machine_view c.count_entry.new.self) c.if-self-ge-MOST_ENTRIES.false c.event_fits.ensures drawn c.draw_fits.ensures is)
