use Rattle.std.proofs.Common.{◌∙◌, ap, [], ◌∷◌}
use Rattle.gd_base.specs.declared.layout.TheConstants.{LISTS_AT, LISTS_LEN, PLAYS_AT, PLAYS_LEN, EVENTS_AT, EVENTS_LEN, BILLS_AT, BILLS_LEN}
use Rattle.gd_base.specs.Judging.Product.{same_numbers}
use Rattle.std.specs.List.{list_all}
use Rattle.gd_base.specs.Payloads.Reading.{part}
use Rattle.gd_base.proofs.PayloadLemmas.Parts.{last_part}
use Rattle.gd_recall.proofs.recall.Recall.stand_in.Goals as goal

pub returns : goal.returns
returns c =
    let payload = c.args.payload.now in
    let stand = c.write.ensures.stand in
    let numbers = c.are_same.ensures ∙ ap (same_numbers (part LISTS_AT LISTS_LEN payload)) stand.numbers in
    let plays = c.are_same-2.ensures ∙ ap (same_numbers (part PLAYS_AT PLAYS_LEN payload)) stand.plays in
    let events = c.are_same-3.ensures ∙ ap (same_numbers (part EVENTS_AT EVENTS_LEN payload)) stand.events in
    let bills = c.are_same-4.ensures ∙ ap (same_numbers (part BILLS_AT BILLS_LEN payload)) stand.bills in
    let rest = last_part payload c.requires.size in
    let written = last_part c.write.new.payload c.write.ensures.size ∙ stand.vouchers in
    let vouchers = c.are_same-5.ensures ∙ (λ i. same_numbers (rest i) (written i)) in
    c.all_of.ensures ∙ (λ i. list_all (λ b. b) (numbers i ∷ plays i ∷ events i ∷ bills i ∷ vouchers i ∷ []))
