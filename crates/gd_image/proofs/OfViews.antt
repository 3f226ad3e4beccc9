-- What stands outside of the lists in the payload of a view that keeps the rules of a view.
use Rattle.std.proofs.Common.{◌≡◌, ◌∙◌, ap, refl, ℕ, ◌+◌, ◌-◌, ◌≤◌, List, ◌++◌, length, replicate, arith, append_assoc, length-append, Option, Some, None, true}
use Rattle.std.specs.List.{flat_map}
use Rattle.gd_base.specs.declared.layout.TheConstants.{BILLS_LEN, EVENTS_LEN, HEAD_LEN, LISTS_AT, LISTS_LEN, OPEN_PLAY_LEN, PLAYS_AT, PLAYS_LEN, PLAY_LEN, REST_LEN, VOUCHERS_LEN}
use Rattle.gd_base.specs.declared.play.PlayRecord.{PlayRecord}
use Rattle.gd_base.specs.Histories.View.{View}
use Rattle.gd_base.specs.Payloads.Bytes.{bill_bytes, event_bytes, filled_part, head_bytes, open_bytes, payload_of, play_bytes, two, voucher_bytes}
use Rattle.gd_base.specs.Payloads.Lists.{lists_of}
use Rattle.gd_base.specs.Payloads.ListsIn.{numbers_of, outside}
use Rattle.gd_base.specs.Payloads.ViewRules.{is_possible}
use Rattle.gd_base.proofs.PayloadLemmas.Lengths.{filled_long}
use Rattle.gd_base.proofs.PayloadLemmas.ListsOfViews.{head_bytes_long}
use Rattle.gd_base.proofs.PayloadLemmas.OneView.{Open, widths}
use Rattle.gd_base.proofs.PayloadLemmas.Parts.{outside_is}
use Rattle.gd_base.proofs.PayloadLemmas.RecordsBack.{play_kept, play_long}
use Rattle.gd_image.specs.Outside.{fields_bytes, open_part, outside_bytes}
use Rattle.gd_image.proofs.Rows.{fields_long}

numbers_grouped : (a b c d e y z : List ℕ) → (a ++ b ++ c ++ d ++ e) ++ (y ++ z) ≡ a ++ ((b ++ c ++ d ++ e ++ y) ++ z)
numbers_grouped a b c d e y z = simp append_assoc

abbrev zeros : ℕ → List ℕ
zeros n = replicate n 0

six : (a b c d e f : List ℕ) → a ++ b ++ c ++ d ++ e ++ f ≡ a ++ (b ++ (c ++ (d ++ (e ++ f))))
six a b c d e f = simp append_assoc

moved_open : (a n z f r : List ℕ) → (a ++ (n ++ z)) ++ (f ++ r) ≡ (a ++ (n ++ (z ++ f))) ++ r
moved_open a n z f r = simp append_assoc

open_few : (x : Option PlayRecord) → Open x → length (open_bytes x) ≤ OPEN_PLAY_LEN
open_few None ok = omega arith
open_few (Some p) ok = let long : length (play_bytes p) ≡ PLAY_LEN = play_long p (play_kept p ok.0, ok.1) in omega (arith, long)

pub outside_of_view : (v : View) → is_possible v ≡ true → outside (payload_of v) ≡ outside_bytes v
outside_of_view v h =
    let w = widths v h in
    let a = fields_bytes v in
    let n = numbers_of (lists_of v) in
    let f = filled_part OPEN_PLAY_LEN (open_bytes v.play) in
    let plays = filled_part PLAYS_LEN (flat_map play_bytes v.plays) in
    let events = filled_part EVENTS_LEN (flat_map event_bytes v.events) in
    let bills = filled_part BILLS_LEN (flat_map bill_bytes v.bills) in
    let vouchers = filled_part (VOUCHERS_LEN + REST_LEN) (flat_map voucher_bytes v.vouchers) in
    let rows = plays ++ (events ++ (bills ++ vouchers)) in
    let head : filled_part HEAD_LEN (head_bytes v) ≡ a ++ (n ++ zeros 168) =
    ap (λ (k : ℕ). head_bytes v ++ zeros (HEAD_LEN - k)) (head_bytes_long v w)
    ∙ numbers_grouped a (two (length v.plays)) (two (length v.events)) (two (length v.bills)) (two (length v.vouchers)) (zeros 20) (zeros 168) in
    let whole = six (filled_part HEAD_LEN (head_bytes v)) f plays events bills vouchers ∙ ap (λ (x : List ℕ). x ++ (f ++ rows)) head ∙ moved_open a n (zeros 168) f rows in
    let a_long = fields_long v w.digest w.totals_len w.kept_len in
    let f_long : length f ≡ OPEN_PLAY_LEN = filled_long OPEN_PLAY_LEN (open_bytes v.play) (open_few v.play w.play) in
    let o_long : length (open_part v) ≡ PLAYS_AT - LISTS_AT - LISTS_LEN = omega (arith, f_long, length-append (zeros 168) f) in
    ap outside whole ∙ outside_is a n (open_part v) rows a_long refl o_long
