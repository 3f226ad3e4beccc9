use Rattle.std.proofs.Common.{◌≡◌, ◌∙◌, ap, ◌+◌, ◌-◌, ◌&&◌, length, take, arith, sym, subst, Option, IsTrue}
use Rattle.std.proofs.lemmas.List.{length-take-le}
use Rattle.gd_base.specs.declared.layout.TheConstants.{LISTS_AT, LISTS_LEN, PLAYS_AT}
use Rattle.gd_base.specs.declared.play.PlayRecord.{PlayRecord}
use Rattle.gd_base.specs.Histories.View.{View}
use Rattle.gd_base.specs.Judging.Product.{same_numbers}
use Rattle.gd_base.specs.Payloads.Lists.{no_lists}
use Rattle.gd_base.specs.Payloads.ListsIn.{outside}
use Rattle.gd_base.specs.Payloads.Reading.{part}
use Rattle.gd_base.specs.Payloads.ViewRules.{is_open_as}
use Rattle.gd_image.specs.Outside.{has_choice, outside_bytes}
use Rattle.gd_image.proofs.Testing.{two_hold}
use Rattle.gd_image.proofs.Told.{same_joined}
use Rattle.gd_image.proofs.spelling.stand_outside.Goals as goal

pub write-requires-clause-choice : goal.write-requires-clause-choice
write-requires-clause-choice c =
    subst (λ (play : Option PlayRecord). IsTrue (is_open_as has_choice play)) (sym (ap (λ (v : View). v.play) (c.fields.ensures no_lists))) c.requires.choice

pub returns : goal.returns
returns c =
    let payload = c.args.payload.now in
    let written = c.write.new.payload in
    let behind = part (LISTS_AT + LISTS_LEN) (PLAYS_AT - LISTS_AT - LISTS_LEN) in
    let long : length (take LISTS_AT payload) ≡ LISTS_AT = length-take-le LISTS_AT payload (omega (arith, c.requires.size)) in
    let also : length (take LISTS_AT written) ≡ LISTS_AT = length-take-le LISTS_AT written (omega (arith, c.write.ensures.size)) in
    let is = c.write.ensures.written ∙ ap outside_bytes (c.fields.ensures no_lists) in
    c.all_of.ensures ∙ two_hold c.are_same_between.result c.are_same_between-2.result
    ∙ (λ i. c.are_same_between.ensures i && c.are_same_between-2.ensures i)
    ∙ same_joined (take LISTS_AT payload) (take LISTS_AT written) (behind payload) (behind written) (long ∙ sym also)
    ∙ ap (same_numbers (outside payload)) is
