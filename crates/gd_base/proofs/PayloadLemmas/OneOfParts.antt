-- A payload is told by its lists and by what stands outside of them.
use Rattle.std.proofs.Common.{◌≡◌, ◌∙◌, ap, sym, ℕ, ◌+◌, ◌-◌, ◌≤◌, List, ◌++◌, length, take, drop, arith}
use Rattle.std.proofs.Math.Nat.{min-le_right}
use Rattle.std.proofs.lemmas.List.{take-append-drop, drop-drop, length-take, length-take-le, length-drop}
use Rattle.gd_base.specs.declared.layout.TheConstants.{LISTS_AT, LISTS_LEN, PLAYS_AT, PLAYS_LEN, EVENTS_AT, EVENTS_LEN, BILLS_AT, BILLS_LEN, VOUCHERS_AT}
use Rattle.gd_base.proofs.PayloadLemmas.Fields.{split}
use Rattle.gd_base.specs.Payloads.ListsIn.{outside, numbers_of, StandIn}
use Rattle.gd_base.specs.Payloads.Reading.{part}
use Rattle.gd_base.specs.Payloads.Lists.{Lists}

cut : (place size : ℕ) (xs : List ℕ) → drop place xs ≡ part place size xs ++ drop (place + size) xs
cut place size xs = sym (take-append-drop size (drop place xs)) ∙ ap (λ (t : List ℕ). part place size xs ++ t) (drop-drop size place xs)

abbrev OTHERS_AT : ℕ
OTHERS_AT = LISTS_AT + LISTS_LEN

abbrev OTHERS_LEN : ℕ
OTHERS_LEN = PLAYS_AT - LISTS_AT - LISTS_LEN

abbrev joined : (a n b p e bs v : List ℕ) → List ℕ
joined a n b p e bs v = a ++ (n ++ (b ++ (p ++ (e ++ (bs ++ v)))))

cut_up : (xs : List ℕ)
    → xs ≡ joined (take LISTS_AT xs) (part LISTS_AT LISTS_LEN xs) (part OTHERS_AT OTHERS_LEN xs) (part PLAYS_AT PLAYS_LEN xs) (part EVENTS_AT EVENTS_LEN xs) (part BILLS_AT BILLS_LEN xs)
    (drop VOUCHERS_AT xs)
cut_up xs =
    let bills = cut BILLS_AT BILLS_LEN xs in
    let events = cut EVENTS_AT EVENTS_LEN xs ∙ ap (λ (t : List ℕ). part EVENTS_AT EVENTS_LEN xs ++ t) bills in
    let plays = cut PLAYS_AT PLAYS_LEN xs ∙ ap (λ (t : List ℕ). part PLAYS_AT PLAYS_LEN xs ++ t) events in
    let others = cut OTHERS_AT OTHERS_LEN xs ∙ ap (λ (t : List ℕ). part OTHERS_AT OTHERS_LEN xs ++ t) plays in
    let numbers = cut LISTS_AT LISTS_LEN xs ∙ ap (λ (t : List ℕ). part LISTS_AT LISTS_LEN xs ++ t) others in
    sym (take-append-drop LISTS_AT xs) ∙ ap (λ (t : List ℕ). take LISTS_AT xs ++ t) numbers

-- the numbers of the lists stand behind as many places
first_long : (xs : List ℕ) (l : Lists) → part LISTS_AT LISTS_LEN xs ≡ numbers_of l → length (take LISTS_AT xs) ≡ LISTS_AT
first_long xs l is =
    let long : length (part LISTS_AT LISTS_LEN xs) ≡ LISTS_LEN = ap length is in
    let within : LISTS_LEN ≤ length (drop LISTS_AT xs) = omega (arith, long, length-take LISTS_LEN (drop LISTS_AT xs), min-le_right LISTS_LEN (length (drop LISTS_AT xs))) in
    length-take-le LISTS_AT xs (omega (arith, within, length-drop LISTS_AT xs))

pub one_payload : (xs ys : List ℕ) (l : Lists) → outside xs ≡ outside ys → StandIn xs l → StandIn ys l → xs ≡ ys
one_payload xs ys l same s t =
    let others = split (take LISTS_AT xs) (take LISTS_AT ys) (part OTHERS_AT OTHERS_LEN xs) (part OTHERS_AT OTHERS_LEN ys) (first_long xs l s.numbers ∙ sym (first_long ys l t.numbers)) same in
    let numbers = s.numbers ∙ sym t.numbers in
    let plays = s.plays ∙ sym t.plays in
    let events = s.events ∙ sym t.events in
    let bills = s.bills ∙ sym t.bills in
    let vouchers = s.vouchers ∙ sym t.vouchers in
    cut_up xs ∙ (λ i. joined (others.0 i) (numbers i) (others.1 i) (plays i) (events i) (bills i) (vouchers i)) ∙ sym (cut_up ys)
