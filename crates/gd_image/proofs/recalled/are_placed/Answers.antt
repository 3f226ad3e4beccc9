use Rattle.std.proofs.Common.{rules, ◌≡◌, ◌∙◌, ap, ◌&&◌, option_map}
use Rattle.std.specs.Prelude.{slice_get}
use Rattle.gd_base.specs.declared.play.PlayRecord.{PlayRecord}
use Rattle.gd_base.specs.declared.records.BillRecord.{BillRecord}
use Rattle.gd_base.specs.declared.records.EventRecord.{EventRecord}
use Rattle.gd_base.specs.declared.records.VoucherRecord.{VoucherRecord}
use Rattle.gd_image.specs.Places.{is_newest_below}
use Rattle.gd_image.proofs.Testing.{falling, four_hold, newest_decides}
use Rattle.gd_image.proofs.recalled.are_placed.Goals as goal

pub returns : goal.returns
returns c =
    let l = c.args.recall.now.lists in
    let limit = c.args.limit in
    let f = falling l c.requires in
    let play : c.map.result ≡ option_map (λ (p : PlayRecord). p.place) (slice_get l.plays 0) = search rules in
    let event : c.map-2.result ≡ option_map (λ (e : EventRecord). e.place) (slice_get l.events 0) = search rules in
    let bill : c.map-3.result ≡ option_map (λ (b : BillRecord). b.place) (slice_get l.bills 0) = search rules in
    let voucher : c.map-4.result ≡ option_map (λ (r : VoucherRecord). r.place) (slice_get l.vouchers 0) = search rules in
    let plays = c.is_below.ensures ∙ ap (is_newest_below c.args.play_limit) play ∙ newest_decides (λ p. p.place) c.args.play_limit l.plays f.plays in
    let events = c.is_below-2.ensures ∙ ap (is_newest_below limit) event ∙ newest_decides (λ e. e.place) limit l.events f.events in
    let bills = c.is_below-3.ensures ∙ ap (is_newest_below limit) bill ∙ newest_decides (λ b. b.place) limit l.bills f.bills in
    let vouchers = c.is_below-4.ensures ∙ ap (is_newest_below limit) voucher ∙ newest_decides (λ r. r.place) limit l.vouchers f.vouchers in
    c.all_of.ensures ∙ four_hold c.is_below.result c.is_below-2.result c.is_below-3.result c.is_below-4.result ∙ (λ i. plays i && events i && bills i && vouchers i)
