use Rattle.std.proofs.Common.{◌≡◌, ◌∙◌, ap, sym, subst, Some, Option, IsTrue}
use Rattle.gd_base.specs.declared.play.PlayRecord.{PlayRecord}
use Rattle.gd_base.specs.Histories.View.{View}
use Rattle.gd_base.specs.Payloads.Lists.{Lists, no_lists}
use Rattle.gd_base.specs.Payloads.Recorded.{are_recorded}
use Rattle.gd_base.specs.Payloads.ViewRules.{is_open_as}
use Rattle.gd_base.proofs.PayloadLemmas.ListsOfViews.{recorded_of}
use Rattle.gd_base.proofs.PayloadLemmas.Telling.{by_parts}
use Rattle.gd_base.proofs.ViewFacts.{rules_of}
use Rattle.gd_games.specs.Digest.{digest_of}
use Rattle.gd_machine.specs.Words.{machine_setup, machine_view}
use Rattle.gd_image.specs.Outside.{has_choice, outside_bytes}
use Rattle.gd_image.specs.Read.{with_lists}
use Rattle.gd_image.proofs.OfViews.{outside_of_view}
use Rattle.gd_image.proofs.Told.{choice_of_record}
use Rattle.gd_image.proofs.writing.write_machine.Goals as goal

pub write-requires-clause-choice : goal.write-requires-clause-choice
write-requires-clause-choice c =
    let v = machine_view c.args.machine.now in
    subst (λ (play : Option PlayRecord). IsTrue (is_open_as has_choice play)) (sym (ap (λ (w : View). w.play) (c.fields_of.ensures no_lists)))
    (choice_of_record v.play (rules_of v c.requires.whole.possible).play)

pub write_image-requires-clause-listed : goal.write_image-requires-clause-listed
write_image-requires-clause-listed c =
    let v = machine_view c.args.machine.now in
    subst (λ (l : Lists). IsTrue (are_recorded l)) (sym c.recall.ensures) (recorded_of v c.requires.whole.possible)

pub returns : goal.returns
returns c =
    let m = c.args.machine.now in
    let v = machine_view m in
    let setup = machine_setup m in
    let own : v.digest ≡ digest_of setup = m.has_digest in
    let written = c.write_image.ensures.others ∙ c.write.ensures.written ∙ ap outside_bytes (c.fields_of.ensures no_lists)
    ∙ (λ i. outside_bytes (record (with_lists no_lists v) { digest = sym own i })) ∙ sym (outside_of_view v c.requires.whole.possible) in
    let lists = c.write_image.ensures.lists ∙ ap (λ (l : Lists). Some l) c.recall.ensures in
    by_parts setup (digest_of setup) c.write_image.new.payload v c.requires.whole.possible c.requires.whole.under own written lists
