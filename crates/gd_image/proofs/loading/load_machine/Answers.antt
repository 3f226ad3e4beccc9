use Rattle.std.proofs.Common.{◌∙◌, ap, sym, subst, IsTrue}
use Rattle.gd_base.specs.declared.setup.Setup.{Setup}
use Rattle.gd_base.specs.Histories.ViewOf.{empty_view}
use Rattle.gd_base.specs.Payloads.LoadedView.{view_loaded}
use Rattle.gd_base.specs.Payloads.Loading.{spelled}
use Rattle.gd_base.specs.Payloads.ViewRules.{is_open_as}
use Rattle.gd_games.specs.Digest.{digest_of}
use Rattle.gd_machine.specs.Meaning.{the_machine}
use Rattle.gd_machine.specs.Restoring.{restored}
use Rattle.gd_machine.specs.Words.{machine_setup, machine_view, IsWhole}
use Rattle.gd_play.specs.Rules.{is_open_play}
use Rattle.gd_image.specs.Read.{read_view}
use Rattle.gd_image.proofs.Restored.{few_numbers, has_digest, is_whole, not_read, open_play_rules, read_if, restored_is, sum_is_count}
use Rattle.gd_image.proofs.loading.load_machine.Goals as goal

pub returns-then-not-is_read-clause-view : goal.returns-then-not-is_read-clause-view
returns-then-not-is_read-clause-view c =
    let payload = c.args.payload.now in
    let setup = machine_setup c.args.machine.now in
    c.clear.ensures.empty ∙ ap (λ (s : Setup). empty_view (digest_of s)) c.told-loaded.ensures.setup
    ∙ not_read (the_machine setup) (spelled setup (digest_of setup) payload) c.told-loaded.result c.told-loaded.ensures.answer (sym c.is_read.ensures ∙ c.if-not-is_read.true)

pub restore-requires-clause-numbers : goal.restore-requires-clause-numbers
restore-requires-clause-numbers c =
    let payload = c.args.payload.now in
    let setup = machine_setup c.args.machine.now in
    let told = c.told-loaded.ensures.shown (read_if c.told-loaded.result (sym c.is_read.ensures ∙ c.if-not-is_read.false)) in
    let v = read_view c.read_fields-fields.result told.0 in
    few_numbers setup v (is_whole setup (digest_of setup) payload v told.2)

pub restore-requires-clause-play : goal.restore-requires-clause-play
restore-requires-clause-play c =
    let payload = c.args.payload.now in
    let setup = machine_setup c.args.machine.now in
    let told = c.told-loaded.ensures.shown (read_if c.told-loaded.result (sym c.is_read.ensures ∙ c.if-not-is_read.false)) in
    let v = read_view c.read_fields-fields.result told.0 in
    subst (λ (s : Setup). IsTrue (is_open_as (is_open_play s) v.play)) (sym c.told-loaded.ensures.setup)
    (open_play_rules setup v (is_whole setup (digest_of setup) payload v told.2))

pub returns-clause-view : goal.returns-clause-view
returns-clause-view c =
    let payload = c.args.payload.now in
    let setup = machine_setup c.args.machine.now in
    let fields = c.read_fields-fields.result in
    let told = c.told-loaded.ensures.shown (read_if c.told-loaded.result (sym c.is_read.ensures ∙ c.if-not-is_read.false)) in
    let v = read_view fields told.0 in
    let whole = is_whole setup (digest_of setup) payload v told.2 in
    c.restore.ensures.view
    ∙ (λ i. restored (digest_of (c.told-loaded.ensures.setup i)) fields.parts (told.1 i))
    ∙ restored_is fields told.0 (digest_of setup) (has_digest setup (digest_of setup) payload v told.2) (sum_is_count setup v whole)
    ∙ ap (view_loaded (the_machine setup)) (sym told.2)

pub returns-clause-whole : goal.returns-clause-whole
returns-clause-whole c =
    let payload = c.args.payload.now in
    let setup = machine_setup c.args.machine.now in
    let fields = c.read_fields-fields.result in
    let told = c.told-loaded.ensures.shown (read_if c.told-loaded.result (sym c.is_read.ensures ∙ c.if-not-is_read.false)) in
    let v = read_view fields told.0 in
    let whole = is_whole setup (digest_of setup) payload v told.2 in
    let view = c.restore.ensures.view
    ∙ (λ i. restored (digest_of (c.told-loaded.ensures.setup i)) fields.parts (told.1 i))
    ∙ restored_is fields told.0 (digest_of setup) (has_digest setup (digest_of setup) payload v told.2) (sum_is_count setup v whole) in
    let same = c.restore.ensures.setup ∙ c.told-loaded.ensures.setup in
    subst (λ (s : Setup). IsWhole s (machine_view c.restore.new.self)) (sym same) (subst (IsWhole setup) (sym view) whole)
