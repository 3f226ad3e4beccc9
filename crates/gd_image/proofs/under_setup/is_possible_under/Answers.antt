use Rattle.std.proofs.Common.{◌∙◌, ap, ◌&&◌, [], ◌∷◌, true}
use Rattle.gd_base.specs.Payloads.ViewRules.{is_coins}
use Rattle.gd_base.proofs.ViewFacts.{rules_of}
use Rattle.gd_image.specs.Read.{read_view}
use Rattle.gd_image.proofs.Played.{rules_are}
use Rattle.gd_image.proofs.Testing.{all_true_is}
use Rattle.gd_image.proofs.under_setup.is_possible_under.Goals as goal

pub are_finished-requires : goal.are_finished-requires
are_finished-requires c = (rules_of (read_view c.args.fields.now c.args.recall.now.lists) c.requires).plays

pub may_be_open-requires : goal.may_be_open-requires
may_be_open-requires c = (rules_of (read_view c.args.fields.now c.args.recall.now.lists) c.requires).play

pub returns : goal.returns
returns c =
    let setup = c.args.setup.now in
    let f = c.args.fields.now in
    let plays = c.args.recall.now.lists.plays in
    let coins = c.is_payable.ensures ∙ ap (is_coins setup) c.open_order.ensures in
    c.all_of.ensures ∙ all_true_is (c.is_payable.result ∷ c.are_finished.result ∷ c.may_be_open.result ∷ [])
    ∙ (λ i. coins i && (c.are_finished.ensures i && (c.may_be_open.ensures i && true)))
    ∙ rules_are setup (is_coins setup f.parts.payout.order) plays f.parts.open_play
