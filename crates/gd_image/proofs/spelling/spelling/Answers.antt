use Rattle.std.proofs.Common.{◌≡◌, ◌∙◌, ap, sym}
use Rattle.gd_base.specs.Payloads.Loading.{view_read}
use Rattle.gd_base.specs.Payloads.Spelled.{load_answer}
use Rattle.gd_base.proofs.PayloadLemmas.ListsHad.{had}
use Rattle.gd_base.proofs.ViewFacts.{rules_of}
use Rattle.gd_image.specs.Read.{read_view}
use Rattle.gd_image.proofs.Told.{by_rules, choice_of_record, had_read, not_outside, not_possible, shows_if_read}
use Rattle.gd_image.proofs.spelling.spelling.Goals as goal

pub is_possible-requires : goal.is_possible-requires
is_possible-requires c = (had c.args.payload.now c.args.recall.now.lists c.requires.lists).recorded

pub stand_outside-requires-clause-choice : goal.stand_outside-requires-clause-choice
stand_outside-requires-clause-choice c =
    let v = read_view c.args.fields.now c.args.recall.now.lists in
    choice_of_record c.args.fields.now.parts.open_play (rules_of v (sym c.is_possible.ensures ∙ c.if-not-is_possible.false)).play

pub returns-then-not-is_possible-clause-answer : goal.returns-then-not-is_possible-clause-answer
returns-then-not-is_possible-clause-answer c =
    let payload = c.args.payload.now in
    let l = c.args.recall.now.lists in
    let v = read_view c.args.fields.now l in
    let is : v ≡ view_read payload = ap (read_view c.args.fields.now) (had_read payload l c.requires.lists) ∙ c.requires.fields in
    ap load_answer (not_possible c.args.setup.now c.args.digest.now payload v is (sym c.is_possible.ensures ∙ c.if-not-is_possible.true))

pub returns-then-not-is_possible-clause-shown : goal.returns-then-not-is_possible-clause-shown
returns-then-not-is_possible-clause-shown c = λ e. absurd (cc e)

pub returns-then-not-stand_outside-clause-answer : goal.returns-then-not-stand_outside-clause-answer
returns-then-not-stand_outside-clause-answer c =
    let payload = c.args.payload.now in
    let l = c.args.recall.now.lists in
    let v = read_view c.args.fields.now l in
    let is : v ≡ view_read payload = ap (read_view c.args.fields.now) (had_read payload l c.requires.lists) ∙ c.requires.fields in
    let possible = sym c.is_possible.ensures ∙ c.if-not-is_possible.false in
    ap load_answer (not_outside c.args.setup.now c.args.digest.now payload v is c.requires.lists possible (sym c.stand_outside.ensures ∙ c.if-not-stand_outside.true))

pub returns-then-not-stand_outside-clause-shown : goal.returns-then-not-stand_outside-clause-shown
returns-then-not-stand_outside-clause-shown c = λ e. absurd (cc e)

pub told_under-requires : goal.told_under-requires
told_under-requires c = sym c.is_possible.ensures ∙ c.if-not-is_possible.false

pub returns-clause-answer : goal.returns-clause-answer
returns-clause-answer c =
    let payload = c.args.payload.now in
    let l = c.args.recall.now.lists in
    let v = read_view c.args.fields.now l in
    let is : v ≡ view_read payload = ap (read_view c.args.fields.now) (had_read payload l c.requires.lists) ∙ c.requires.fields in
    let possible = sym c.is_possible.ensures ∙ c.if-not-is_possible.false in
    let same = sym c.stand_outside.ensures ∙ c.if-not-stand_outside.false in
    c.told_under.ensures ∙ ap load_answer (by_rules c.args.setup.now c.args.digest.now payload v is c.requires.lists possible same)

pub returns-clause-shown : goal.returns-clause-shown
returns-clause-shown c =
    let payload = c.args.payload.now in
    let l = c.args.recall.now.lists in
    let v = read_view c.args.fields.now l in
    let is : v ≡ view_read payload = ap (read_view c.args.fields.now) (had_read payload l c.requires.lists) ∙ c.requires.fields in
    let possible = sym c.is_possible.ensures ∙ c.if-not-is_possible.false in
    let same = sym c.stand_outside.ensures ∙ c.if-not-stand_outside.false in
    let rules = by_rules c.args.setup.now c.args.digest.now payload v is c.requires.lists possible same in
    λ e. sym rules ∙ shows_if_read c.args.setup.now c.args.digest.now v (sym c.told_under.ensures ∙ e)
