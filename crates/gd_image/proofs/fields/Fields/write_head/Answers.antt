use Rattle.std.proofs.Common.{rules, ◌≡◌, ◌∙◌, ap, ℕ, List, length}
use Rattle.std.specs.List.{flat_map}
use Rattle.gd_base.specs.declared.layout.TheConstants.{BALANCE_AT, COUNT_AT, DOORS_AT, HANDPAY_AT, KEPT_AT, ORDER_AT, TOTALS_AT}
use Rattle.gd_base.specs.Payloads.Bytes.{eight, handpay_bytes, kept_bytes, order_bytes}
use Rattle.gd_base.specs.Payloads.Lists.{no_lists}
use Rattle.gd_recall.specs.Pieces.{put_at}
use Rattle.gd_image.specs.Read.{view_by}
use Rattle.gd_image.proofs.Rows.{fields_written}
use Rattle.gd_image.proofs.fields.Fields.write_head.Goals as goal

pub returns : goal.returns
returns c =
    let head = c.args.head.now in
    let v = view_by c.args.self.now no_lists in
    let is_digest : length v.digest ≡ 32 = search rules in
    let are_totals : length v.totals ≡ 16 = search rules in
    let are_kept : length v.kept ≡ 9 = search rules in
    let count = c.put_number.ensures ∙ ap (λ (x : List ℕ). put_at COUNT_AT (eight v.count) x) c.put_bytes.ensures in
    let balance = c.put_number-2.ensures ∙ (λ i. put_at BALANCE_AT (eight (c.balance.ensures i)) (count i)) in
    let totals = c.put_numbers.ensures ∙ (λ i. put_at TOTALS_AT (flat_map eight (c.totals.ensures i)) (balance i)) in
    let flags = c.put_bytes-2.ensures ∙ (λ i. put_at DOORS_AT (c.flags_image.ensures i) (totals i)) in
    let is_handpay = c.handpay_image.ensures ∙ ap handpay_bytes c.open_handpay-handpay.ensures in
    let handpay = c.put_bytes-3.ensures ∙ (λ i. put_at HANDPAY_AT (is_handpay i) (flags i)) in
    let is_order = c.order_image.ensures ∙ (λ i. order_bytes (c.orders.ensures i) (c.open_order-order.ensures i)) in
    let order = c.put_bytes-4.ensures ∙ (λ i. put_at ORDER_AT (is_order i) (handpay i)) in
    c.put_kept.ensures ∙ ap (λ (x : List ℕ). put_at KEPT_AT (flat_map kept_bytes v.kept) x) order
    ∙ fields_written v is_digest are_totals are_kept head c.requires
