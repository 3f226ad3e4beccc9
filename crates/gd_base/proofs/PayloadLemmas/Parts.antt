-- What stands in the parts of a payload that is put together from them.
use Rattle.std.proofs.Common.{◌≡◌, ◌∙◌, ap, sym, ℕ, ◌+◌, ◌-◌, List, ◌++◌, length, take, drop, arith, append_assoc, length-append}
use Rattle.std.proofs.lemmas.List.{take_all, take_at, drop_at, take-append-drop, length-take-le, length-drop}
use Rattle.gd_base.specs.declared.layout.TheConstants.{LISTS_AT, LISTS_LEN, PLAYS_AT, PLAYS_LEN, EVENTS_AT, EVENTS_LEN, BILLS_AT, BILLS_LEN, VOUCHERS_AT, VOUCHERS_LEN, REST_LEN, PAYLOAD_LEN}
use Rattle.gd_base.specs.Payloads.ListsIn.{outside}
use Rattle.gd_base.specs.Payloads.Reading.{part}

part_at : (before x after : List ℕ) (place size : ℕ) → length before ≡ place → length x ≡ size → part place size (before ++ (x ++ after)) ≡ x
part_at before x after place size p q = ap (take size) (drop_at before (x ++ after) place p) ∙ take_at x after size q

-- the head, with the numbers in it
module _ (a n b rows : List ℕ) (la : length a ≡ LISTS_AT) (ln : length n ≡ LISTS_LEN) (lb : length b ≡ PLAYS_AT - LISTS_AT - LISTS_LEN) where
  abbrev head : List ℕ
  head = a ++ (n ++ b)

  pub head_long : length head ≡ PLAYS_AT
  head_long = omega (arith, length-append a (n ++ b), length-append n b, la, ln, lb)

  pub numbers_part : part LISTS_AT LISTS_LEN (head ++ rows) ≡ n
  numbers_part =
      let whole : head ++ rows ≡ a ++ (n ++ (b ++ rows)) = append_assoc a (n ++ b) rows ∙ ap (λ (t : List ℕ). a ++ t) (append_assoc n b rows) in
      ap (part LISTS_AT LISTS_LEN) whole ∙ part_at a n (b ++ rows) LISTS_AT LISTS_LEN la ln

  pub outside_is : outside (head ++ rows) ≡ a ++ b
  outside_is =
      let whole : head ++ rows ≡ a ++ ((n ++ b) ++ rows) = append_assoc a (n ++ b) rows in
      let front : take LISTS_AT (head ++ rows) ≡ a = ap (take LISTS_AT) whole ∙ take_at a ((n ++ b) ++ rows) LISTS_AT la in
      let again : head ++ rows ≡ (a ++ n) ++ (b ++ rows) = ap (λ (t : List ℕ). t ++ rows) (sym (append_assoc a n b)) ∙ append_assoc (a ++ n) b rows in
      let first : length (a ++ n) ≡ LISTS_AT + LISTS_LEN = omega (arith, length-append a n, la, ln) in
      let back = ap (part (LISTS_AT + LISTS_LEN) (PLAYS_AT - LISTS_AT - LISTS_LEN)) again ∙ part_at (a ++ n) b rows (LISTS_AT + LISTS_LEN) (PLAYS_AT - LISTS_AT - LISTS_LEN) first lb in
      λ i. front i ++ back i

-- the rows, behind a head
module _ (h p e b v : List ℕ) (lh : length h ≡ PLAYS_AT) (lp : length p ≡ PLAYS_LEN) (le : length e ≡ EVENTS_LEN) (lb : length b ≡ BILLS_LEN) where
  abbrev rows_whole : List ℕ
  rows_whole = h ++ (p ++ (e ++ (b ++ v)))

  pub plays_part : part PLAYS_AT PLAYS_LEN rows_whole ≡ p
  plays_part = part_at h p (e ++ (b ++ v)) PLAYS_AT PLAYS_LEN lh lp

  behind_plays : rows_whole ≡ (h ++ p) ++ (e ++ (b ++ v))
  behind_plays = sym (append_assoc h p (e ++ (b ++ v)))

  plays_long : length (h ++ p) ≡ EVENTS_AT
  plays_long = omega (arith, length-append h p, lh, lp)

  pub events_part : part EVENTS_AT EVENTS_LEN rows_whole ≡ e
  events_part = ap (part EVENTS_AT EVENTS_LEN) behind_plays ∙ part_at (h ++ p) e (b ++ v) EVENTS_AT EVENTS_LEN plays_long le

  behind_events : rows_whole ≡ ((h ++ p) ++ e) ++ (b ++ v)
  behind_events = behind_plays ∙ sym (append_assoc (h ++ p) e (b ++ v))

  events_long : length ((h ++ p) ++ e) ≡ BILLS_AT
  events_long = omega (arith, length-append (h ++ p) e, plays_long, le)

  pub bills_part : part BILLS_AT BILLS_LEN rows_whole ≡ b
  bills_part = ap (part BILLS_AT BILLS_LEN) behind_events ∙ part_at ((h ++ p) ++ e) b v BILLS_AT BILLS_LEN events_long lb

  behind_bills : rows_whole ≡ (((h ++ p) ++ e) ++ b) ++ v
  behind_bills = behind_events ∙ sym (append_assoc ((h ++ p) ++ e) b v)

  bills_long : length (((h ++ p) ++ e) ++ b) ≡ VOUCHERS_AT
  bills_long = omega (arith, length-append ((h ++ p) ++ e) b, events_long, lb)

  pub vouchers_part : drop VOUCHERS_AT rows_whole ≡ v
  vouchers_part = ap (drop VOUCHERS_AT) behind_bills ∙ drop_at (((h ++ p) ++ e) ++ b) v VOUCHERS_AT bills_long

-- a payload, taken apart
pub taken_apart : (payload : List ℕ) → length payload ≡ PAYLOAD_LEN
    → outside payload ≡ take LISTS_AT (take PLAYS_AT payload) ++ drop LISTS_LEN (drop LISTS_AT (take PLAYS_AT payload))
taken_apart payload long =
    let h = take PLAYS_AT payload in
    let a = take LISTS_AT h in
    let m = drop LISTS_AT h in
    let n = take LISTS_LEN m in
    let b = drop LISTS_LEN m in
    let rows = drop PLAYS_AT payload in
    let whole : payload ≡ (a ++ (n ++ b)) ++ rows =
    sym (take-append-drop PLAYS_AT payload) ∙ ap (λ (t : List ℕ). t ++ rows) (sym (take-append-drop LISTS_AT h))
    ∙ ap (λ (t : List ℕ). (a ++ t) ++ rows) (sym (take-append-drop LISTS_LEN m)) in
    let lh : length h ≡ PLAYS_AT = length-take-le PLAYS_AT payload (omega (arith, long)) in
    let la : length a ≡ LISTS_AT = length-take-le LISTS_AT h (omega (arith, lh)) in
    let lm : length m ≡ PLAYS_AT - LISTS_AT = length-drop LISTS_AT h ∙ ap (λ (k : ℕ). k - LISTS_AT) lh in
    let ln : length n ≡ LISTS_LEN = length-take-le LISTS_LEN m (omega (arith, lm)) in
    let lb : length b ≡ PLAYS_AT - LISTS_AT - LISTS_LEN = length-drop LISTS_LEN m ∙ ap (λ (k : ℕ). k - LISTS_LEN) lm in
    ap outside whole ∙ outside_is a n b rows la ln lb

-- of a payload all from the first voucher on is as long as its part
pub last_part : (payload : List ℕ) → length payload ≡ PAYLOAD_LEN → part VOUCHERS_AT (VOUCHERS_LEN + REST_LEN) payload ≡ drop VOUCHERS_AT payload
last_part payload long = take_all (VOUCHERS_LEN + REST_LEN) (drop VOUCHERS_AT payload) (omega (arith, length-drop VOUCHERS_AT payload, long))
