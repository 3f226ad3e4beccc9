use Rattle.std.proofs.Common.{◌∙◌, ap, sym, subst, refl, arith, ◌++◌, ℕ, Option, codes, decimal, is_some, IsTrue}
use Rattle.gd_base.specs.declared.condition.Condition.{Condition}
use Rattle.gd_base.specs.declared.payout.Handpay.{Handpay}
use Rattle.gd_base.specs.declared.payout.Order.{Order}
use Rattle.gd_base.specs.declared.play.PlayRecord.{PlayRecord}
use Rattle.gd_base.specs.Histories.Conditions.{lock}
use Rattle.gd_base.specs.Payloads.ViewRules.{is_open_as, is_play_record}
use Rattle.gd_base.specs.Texts.OfViews.{condition_text, handpay_text, lines_of_open, order_line}
use Rattle.gd_base.proofs.ViewFacts.{rules_of}
use Rattle.gd_machine.specs.Words.{machine_view}
use Rattle.gd_machine.proofs.Lists.{five_pieces}
use Rattle.gd_machine.proofs.machine.Machine.push_state.Goals as goal

pub push_open_or-requires-clause-record : goal.push_open_or-requires-clause-record
push_open_or-requires-clause-record c =
    subst (λ (play : Option PlayRecord). IsTrue (is_open_as is_play_record play)) (sym c.open.ensures) (rules_of (machine_view c.args.self.now) c.requires.whole.possible).play

pub push_open_or-requires-clause-room : goal.push_open_or-requires-clause-room
push_open_or-requires-clause-room c = omega (arith, c.requires.room, c.push_count_line.ensures.room, c.push_condition.ensures.room, c.push_order.ensures.room, c.push_handpay.ensures.room)

pub returns-clause-bytes : goal.returns-clause-bytes
returns-clause-bytes c =
    let setup = c.args.self.now.setup in
    let v = machine_view c.args.self.now in
    let old = c.args.text.now.bytes in
    let t1 = c.push_count_line.new.text.bytes in
    let t2 = c.push_condition.new.text.bytes in
    let t3 = c.push_order.new.text.bytes in
    let t4 = c.push_handpay.new.text.bytes in
    let locked = c.shown_condition.ensures v refl refl (sym (c.is_some.ensures ∙ ap is_some c.open_handpay-handpay.ensures)) in
    five_pieces old t1 t2 t3 t4 c.push_open_or.new.text.bytes (codes "credit ") (decimal v.balance) (codes "\n") (codes "condition ") (condition_text (lock v)) (codes "\n") (order_line setup v.order)
    (codes "handpay ") (handpay_text v.handpay) (codes "\n") (lines_of_open setup (codes "play none\n") v.play)
    (c.push_count_line.ensures.bytes ∙ ap (λ (n : ℕ). old ++ codes "credit " ++ decimal n ++ codes "\n") c.balance.ensures)
    (c.push_condition.ensures.bytes ∙ ap (λ (x : Option Condition). t1 ++ (codes "condition " ++ condition_text x ++ codes "\n")) locked)
    (c.push_order.ensures.bytes ∙ ap (λ (x : Option Order). t2 ++ order_line setup x) c.open_order.ensures)
    (c.push_handpay.ensures.bytes ∙ ap (λ (x : Option Handpay). t3 ++ (codes "handpay " ++ handpay_text x ++ codes "\n")) c.open_handpay-handpay.ensures)
    (c.push_open_or.ensures.bytes ∙ ap (λ (x : Option PlayRecord). t4 ++ lines_of_open setup (codes "play none\n") x) c.open.ensures)

pub returns-clause-room : goal.returns-clause-room
returns-clause-room c = omega (arith, c.push_open_or.ensures.room, c.push_count_line.ensures.room, c.push_condition.ensures.room, c.push_order.ensures.room, c.push_handpay.ensures.room)
