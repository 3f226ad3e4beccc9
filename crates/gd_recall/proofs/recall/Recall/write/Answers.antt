use Rattle.std.proofs.Common.{rules, ◌≡◌, ◌∙◌, ap, sym, ℕ, ◌+◌, ◌-◌, List, ◌++◌, length, take, drop, arith}
use Rattle.std.proofs.lemmas.List.{length-take-le, length-drop}
use Rattle.gd_base.specs.declared.layout.TheConstants.{LISTS_AT, LISTS_LEN, PLAYS_AT, PLAYS_LEN, EVENTS_LEN, BILLS_LEN, VOUCHERS_LEN, REST_LEN}
use Rattle.gd_base.specs.Payloads.Bytes.{play_bytes, event_bytes, bill_bytes, voucher_bytes}
use Rattle.gd_base.specs.Payloads.ListsIn.{row_of}
use Rattle.gd_base.proofs.PayloadLemmas.Parts.{head_long, numbers_part, outside_is, plays_part, events_part, bills_part, vouchers_part, taken_apart}
use Rattle.gd_recall.proofs.recall.Recall.write.Goals as goal

pub returns-clause-stand : goal.returns-clause-stand
returns-clause-stand c =
    let h = c.split_at_mut-head.result.0.now in
    let a = take LISTS_AT h in
    let n = c.copy_from_slice.new.self in
    let b = drop LISTS_LEN (drop LISTS_AT h) in
    let p = c.write_row.new.row in
    let e = c.write_row-2.new.row in
    let bs = c.write_row-3.new.row in
    let v = c.write_row-4.new.row in
    let lh : length h ≡ PLAYS_AT = omega (arith, c.split_at_mut-head.ensures.front_len) in
    let la : length a ≡ LISTS_AT = length-take-le LISTS_AT h (omega (arith, lh)) in
    let ln : length n ≡ LISTS_LEN = search rules in
    let lb : length b ≡ PLAYS_AT - LISTS_AT - LISTS_LEN = length-drop LISTS_LEN (drop LISTS_AT h) ∙ ap (λ (k : ℕ). k - LISTS_LEN) (length-drop LISTS_AT h ∙ ap (λ (k : ℕ). k - LISTS_AT) lh) in
    let lp : length p ≡ PLAYS_LEN = search rules in
    let le : length e ≡ EVENTS_LEN = search rules in
    let lbs : length bs ≡ BILLS_LEN = search rules in
    let lv : length v ≡ VOUCHERS_LEN + REST_LEN = search rules in
    let length_of_row : length v ≡ length c.split_at_mut-bills.result.1.now = search rules in
    let is_plays : c.self.inside.plays.items ≡ c.args.self.now.lists.plays = search rules in
    let is_events : c.self.inside.events.items ≡ c.args.self.now.lists.events = search rules in
    let is_bills : c.self.inside.bills.items ≡ c.args.self.now.lists.bills = search rules in
    let is_vouchers : c.self.inside.vouchers.items ≡ c.args.self.now.lists.vouchers = search rules in
    let plays_len : length c.split_at_mut-plays.result.0.now ≡ PLAYS_LEN = c.split_at_mut-plays.ensures.front_len in
    let events_len : length c.split_at_mut-events.result.0.now ≡ EVENTS_LEN = c.split_at_mut-events.ensures.front_len in
    let bills_len : length c.split_at_mut-bills.result.0.now ≡ BILLS_LEN = c.split_at_mut-bills.ensures.front_len in
    let vouchers_len : length c.split_at_mut-bills.result.1.now ≡ VOUCHERS_LEN + REST_LEN = sym length_of_row ∙ lv in
    let is_head = head_long a n b (p ++ (e ++ (bs ++ v))) la ln lb in
    record {
      numbers = numbers_part a n b (p ++ (e ++ (bs ++ v))) la ln lb ∙ c.copy_from_slice.ensures.after ∙ c.numbers_image.ensures;
      plays = plays_part (a ++ (n ++ b)) p e bs v is_head lp le lbs ∙ c.write_row.ensures ∙ (λ j. row_of play_bytes (plays_len j) (is_plays j));
      events = events_part (a ++ (n ++ b)) p e bs v is_head lp le lbs ∙ c.write_row-2.ensures ∙ (λ j. row_of event_bytes (events_len j) (is_events j));
      bills = bills_part (a ++ (n ++ b)) p e bs v is_head lp le lbs ∙ c.write_row-3.ensures ∙ (λ j. row_of bill_bytes (bills_len j) (is_bills j));
      vouchers = vouchers_part (a ++ (n ++ b)) p e bs v is_head lp le lbs ∙ c.write_row-4.ensures ∙ (λ j. row_of voucher_bytes (vouchers_len j) (is_vouchers j));
    }

pub returns-clause-others : goal.returns-clause-others
returns-clause-others c =
    let payload = c.args.payload.now in
    let h = c.split_at_mut-head.result.0.now in
    let n = c.copy_from_slice.new.self in
    let rows = c.write_row.new.row ++ (c.write_row-2.new.row ++ (c.write_row-3.new.row ++ c.write_row-4.new.row)) in
    let lh : length h ≡ PLAYS_AT = omega (arith, c.split_at_mut-head.ensures.front_len) in
    let la : length (take LISTS_AT h) ≡ LISTS_AT = length-take-le LISTS_AT h (omega (arith, lh)) in
    let ln : length n ≡ LISTS_LEN = search rules in
    let lb : length (drop LISTS_LEN (drop LISTS_AT h)) ≡ PLAYS_AT - LISTS_AT - LISTS_LEN =
    length-drop LISTS_LEN (drop LISTS_AT h) ∙ ap (λ (k : ℕ). k - LISTS_LEN) (length-drop LISTS_AT h ∙ ap (λ (k : ℕ). k - LISTS_AT) lh) in
    outside_is (take LISTS_AT h) n (drop LISTS_LEN (drop LISTS_AT h)) rows la ln lb
    ∙ ap (λ (x : List ℕ). take LISTS_AT x ++ drop LISTS_LEN (drop LISTS_AT x)) c.split_at_mut-head.ensures.front
    ∙ sym (taken_apart payload c.requires.size)
