use Rattle.std.proofs.Common.{◌≡◌, ◌∙◌, ap₂, codes}
use Rattle.std.proofs.lemmas.Result.{IfOk-weaker}
use Rattle.clap.specs.Words.{app_of, with_rule}
use Rattle.gd_words.specs.CommandLine.{bare, needed, option, place}
use Rattle.gd_words.proofs.command_line.command_line.Goals as goal

pub returns : goal.returns
returns c =
    let first : app_of c.in_ok-command.command ≡ with_rule bare (needed (codes "command")) =
    c.in_ok-command.ensures.shape c.needed.ensures.local ∙ ap₂ with_rule c.bare.ensures c.needed.ensures.rule in
    let second : app_of c.in_ok-command-2.command ≡ with_rule (with_rule bare (needed (codes "command"))) (place (codes "x")) =
    c.in_ok-command-2.ensures.shape c.place.ensures.local ∙ ap₂ with_rule first c.place.ensures.rule in
    let third : app_of c.in_ok-command-3.command ≡ with_rule (with_rule (with_rule bare (needed (codes "command"))) (place (codes "x"))) (place (codes "y")) =
    c.in_ok-command-3.ensures.shape c.place-2.ensures.local ∙ ap₂ with_rule second c.place-2.ensures.rule in
    let fourth : app_of c.in_ok-command-4.command ≡ with_rule (with_rule (with_rule (with_rule bare (needed (codes "command"))) (place (codes "x"))) (place (codes "y"))) (option (codes "setup")) =
    c.in_ok-command-4.ensures.shape c.option.ensures.local ∙ ap₂ with_rule third c.option.ensures.rule in
    IfOk-weaker c.arg-5.result _ _ (λ r h. h.shape c.option-2.ensures.local ∙ ap₂ with_rule fourth c.option-2.ensures.rule) c.arg-5.ensures
