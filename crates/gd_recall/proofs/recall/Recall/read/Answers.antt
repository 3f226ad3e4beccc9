use Rattle.std.proofs.Common.{◌∙◌, ap, ℕ}
use Rattle.circular_buffer.specs.Buffer.{Buffer}
use Rattle.gd_base.specs.declared.layout.TheConstants.{PLAY_LEN, EVENT_LEN, BILL_LEN, VOUCHER_LEN, PLAYS_AT, PLAYS_LEN, EVENTS_AT, EVENTS_LEN, BILLS_AT, BILLS_LEN}
use Rattle.gd_base.specs.declared.play.PlayRecord.{PlayRecord}
use Rattle.gd_base.specs.declared.records.BillRecord.{BillRecord}
use Rattle.gd_base.specs.declared.records.EventRecord.{EventRecord}
use Rattle.gd_base.specs.declared.records.VoucherRecord.{VoucherRecord}
use Rattle.gd_base.specs.Payloads.Reading.{part, play_read, records_in, event_read, bill_read, voucher_read}
use Rattle.gd_base.proofs.PayloadLemmas.Parts.{last_part}
use Rattle.gd_recall.proofs.recall.Recall.read.Goals as goal

pub invariant_of-self : goal.invariant_of-self
invariant_of-self c = (
  ap (λ (b : Buffer PlayRecord). b.capacity) c.read_row.ensures ∙ c.self.invariant.0,
  ap (λ (b : Buffer EventRecord). b.capacity) c.read_row-2.ensures ∙ c.self.invariant.1,
  ap (λ (b : Buffer BillRecord). b.capacity) c.read_row-3.ensures ∙ c.self.invariant.2,
  ap (λ (b : Buffer VoucherRecord). b.capacity) c.read_row-4.ensures ∙ c.self.invariant.3,
)

pub returns : goal.returns
returns c =
    let payload = c.args.payload.now in
    let rest = last_part payload c.requires in
    let plays = ap (λ (b : Buffer PlayRecord). b.items) c.read_row.ensures
    ∙ ap (λ (n : ℕ). records_in (play_read 0) PLAY_LEN n (part PLAYS_AT PLAYS_LEN payload)) c.count_at-plays.ensures in
    let events = ap (λ (b : Buffer EventRecord). b.items) c.read_row-2.ensures
    ∙ ap (λ (n : ℕ). records_in event_read EVENT_LEN n (part EVENTS_AT EVENTS_LEN payload)) c.count_at-events.ensures in
    let bills = ap (λ (b : Buffer BillRecord). b.items) c.read_row-3.ensures
    ∙ ap (λ (n : ℕ). records_in bill_read BILL_LEN n (part BILLS_AT BILLS_LEN payload)) c.count_at-bills.ensures in
    let vouchers = ap (λ (b : Buffer VoucherRecord). b.items) c.read_row-4.ensures
    ∙ (λ i. records_in voucher_read VOUCHER_LEN (c.count_at-vouchers.ensures i) (rest i)) in
    λ i. record { plays = plays i; events = events i; bills = bills i; vouchers = vouchers i }
