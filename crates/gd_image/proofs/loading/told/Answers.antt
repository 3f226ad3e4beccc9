use Rattle.std.proofs.Common.{◌∙◌, ap, sym, refl, Some}
use Rattle.gd_base.specs.Histories.View.{View}
use Rattle.gd_base.specs.Payloads.Lists.{Lists, lists_of}
use Rattle.gd_base.specs.Payloads.ListsIn.{lists_in}
use Rattle.gd_base.specs.Payloads.Loading.{spelled, view_read}
use Rattle.gd_base.specs.Payloads.Spelled.{load_answer}
use Rattle.gd_games.specs.Digest.{digest_of}
use Rattle.gd_machine.specs.Words.{machine_setup}
use Rattle.gd_image.proofs.Restored.{restored_lists}
use Rattle.gd_image.proofs.Told.{without_lists}
use Rattle.gd_image.proofs.loading.told.Goals as goal

pub returns-then-not-restore-clause-answer : goal.returns-then-not-restore-clause-answer
returns-then-not-restore-clause-answer c =
    let payload = c.args.payload.now in
    let setup = machine_setup c.args.machine.now in
    ap load_answer (without_lists setup (digest_of setup) payload (view_read payload) refl (sym c.restore.ensures.answer ∙ c.if-not-restore.true))

pub returns-then-not-restore-clause-shown : goal.returns-then-not-restore-clause-shown
returns-then-not-restore-clause-shown c = λ e. absurd (cc e)

pub spelling-requires-clause-lists : goal.spelling-requires-clause-lists
spelling-requires-clause-lists c =
    restored_lists (digest_of (machine_setup c.args.machine.now)) c.no_parts.result (lists_in c.args.payload.now) (sym c.restore.ensures.answer ∙ c.if-not-restore.false)
    ∙ ap (λ (v : View). Some (lists_of v)) (sym c.restore.ensures.view)
    ∙ ap (λ (l : Lists). Some l) (sym c.recall.ensures)

pub returns-clause-answer : goal.returns-clause-answer
returns-clause-answer c =
    let payload = c.args.payload.now in
    let setup = c.setup.ensures ∙ c.restore.ensures.setup in
    let digest = c.digest.ensures ∙ ap digest_of c.restore.ensures.setup in
    c.spelling.ensures.answer ∙ (λ i. load_answer (spelled (setup i) (digest i) payload))

pub returns-clause-shown : goal.returns-clause-shown
returns-clause-shown c =
    let payload = c.args.payload.now in
    let setup = c.setup.ensures ∙ c.restore.ensures.setup in
    let digest = c.digest.ensures ∙ ap digest_of c.restore.ensures.setup in
    let lists = restored_lists (digest_of (machine_setup c.args.machine.now)) c.no_parts.result (lists_in payload) (sym c.restore.ensures.answer ∙ c.if-not-restore.false)
    ∙ ap (λ (v : View). Some (lists_of v)) (sym c.restore.ensures.view)
    ∙ ap (λ (l : Lists). Some l) (sym c.recall.ensures) in
    λ e. (c.recall.result.now.lists, lists, (λ i. spelled (sym setup i) (sym digest i) payload) ∙ c.spelling.ensures.shown e)
