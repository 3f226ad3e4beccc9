use Rattle.std.proofs.Common.{◌∙◌, ap, ◌++◌, ℕ, codes, decimal, flat_map, length}
use Rattle.gd_base.specs.Texts.OfViews.{bill_line, event_line, voucher_line}
use Rattle.gd_machine.proofs.Lists.{three_lists}
use Rattle.gd_machine.proofs.machine.Machine.push_noted.Goals as goal

pub returns-clause-bytes : goal.returns-clause-bytes
returns-clause-bytes c =
    let lists = c.args.self.now.recall.lists in
    let old = c.args.text.now.bytes in
    let t2 = c.push_events.new.text.bytes in
    let t4 = c.push_bills.new.text.bytes in
    three_lists old c.push_count_line.new.text.bytes t2 c.push_count_line-2.new.text.bytes t4 c.push_count_line-3.new.text.bytes c.push_vouchers.new.text.bytes
    (codes "events ") (decimal (length lists.events)) (codes "\n") (flat_map event_line lists.events) (codes "bills ") (decimal (length lists.bills)) (codes "\n") (flat_map bill_line lists.bills)
    (codes "vouchers ") (decimal (length lists.vouchers)) (codes "\n") (flat_map voucher_line lists.vouchers)
    (c.push_count_line.ensures.bytes ∙ ap (λ (n : ℕ). old ++ codes "events " ++ decimal n ++ codes "\n") c.event_count.ensures.count)
    c.push_events.ensures.bytes
    (c.push_count_line-2.ensures.bytes ∙ ap (λ (n : ℕ). t2 ++ codes "bills " ++ decimal n ++ codes "\n") c.bill_count.ensures.count)
    c.push_bills.ensures.bytes
    (c.push_count_line-3.ensures.bytes ∙ ap (λ (n : ℕ). t4 ++ codes "vouchers " ++ decimal n ++ codes "\n") c.voucher_count.ensures.count)
    c.push_vouchers.ensures.bytes
