use Rattle.std.proofs.Common.{◌≡◌, ◌∙◌, ap, sym, ℕ, ◌&&◌, nat_le, List, [], ◌∷◌, length, drop, is_some, true}
use Rattle.std.specs.List.{list_all}
use Rattle.gd_base.specs.declared.limits.TheConstants.{MOST_ENTRIES}
use Rattle.gd_base.specs.Payloads.ViewRules.{all_true, are_short, has_number, is_small_order, is_some_handpay, not_both}
use Rattle.gd_base.proofs.BoolTests.{is_equal}
use Rattle.gd_image.specs.Read.{read_view}
use Rattle.gd_image.proofs.Testing.{all_short, all_true_is, falling}
use Rattle.gd_image.proofs.possible.is_possible.Goals as goal

pub returns : goal.returns
returns c =
    let l = c.args.recall.now.lists in
    let v = read_view c.args.fields.now l in
    let digest = is_equal (length v.digest) 32 c.fields_fit.ensures.digest in
    let bytes = c.fields_fit.ensures.bytes in
    let meters = is_equal (length v.totals) 16 c.fields_fit.ensures.totals in
    let doors = is_equal (length v.doors) 4 c.fields_fit.ensures.doors in
    let tilts = is_equal (length v.tilts) 6 c.fields_fit.ensures.tilts in
    let devices = is_equal (length v.kept) 9 c.fields_fit.ensures.kept in
    let counts = c.are_within.ensures ∙ ap (λ (ts : List ℕ). list_all (λ n. nat_le n v.count) (drop 9 ts)) c.totals.ensures in
    let short = c.are_short.ensures in
    let are_few : are_short v ≡ true = all_short l short.plays short.events short.bills short.vouchers in
    let small = c.is_small_order.ensures ∙ ap is_small_order c.open_order-order.ensures in
    let number = c.has_number.ensures ∙ (λ i. has_number (c.orders-2.ensures i) (c.open_order-order.ensures i)) in
    let some_handpay = c.is_some_handpay.ensures ∙ ap is_some_handpay c.open_handpay-handpay.ensures in
    let order = c.is_some.ensures ∙ ap is_some c.open_order-order.ensures in
    let handpay = c.is_some-2.ensures ∙ ap is_some c.open_handpay-handpay.ensures in
    let play = c.is_some-is_open.ensures in
    let one_open = c.is_one_open.ensures ∙ (λ i. not_both (order i) (handpay i) && not_both (order i) (play i) && not_both (handpay i) (play i)) in
    let f = falling l c.requires in
    let tests =
    nat_le v.count MOST_ENTRIES ∷ c.are_numbered.result ∷ c.are_balanced.result ∷ c.are_within.result ∷ nat_le c.orders.result v.count
    ∷ c.are_places.result ∷ c.is_small_order.result ∷ c.has_number.result ∷ c.is_some_handpay.result ∷ c.is_one_open.result
    ∷ c.are_events.result ∷ c.are_plays.result ∷ c.is_open_record.result ∷ c.is_open_placed.result ∷ [] in
    c.all_of.ensures ∙ all_true_is tests
    ∙ (λ i. all_true (
    sym digest i ∷ sym bytes i ∷ sym meters i ∷ sym doors i ∷ sym tilts i ∷ sym devices i
    ∷ nat_le v.count MOST_ENTRIES ∷ c.are_numbered.ensures i ∷ c.are_balanced.ensures l i ∷ counts i ∷ nat_le (c.orders.ensures i) v.count
    ∷ c.are_places.ensures i ∷ sym are_few i ∷ small i ∷ number i ∷ some_handpay i ∷ one_open i
    ∷ c.are_events.ensures i ∷ sym f.each_bill i ∷ sym f.each_voucher i ∷ c.are_plays.ensures i
    ∷ c.is_open_record.ensures i ∷ c.is_open_placed.ensures i ∷ []))
