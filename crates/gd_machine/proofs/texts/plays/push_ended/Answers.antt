use Rattle.std.proofs.Common.{◌∙◌, ap, ◌++◌, List, ℕ, codes, decimal}
use Rattle.gd_base.specs.Texts.OfViews.{play_body}
use Rattle.gd_machine.proofs.Lists.{seven_behind}
use Rattle.gd_machine.proofs.texts.plays.push_ended.Goals as goal

pub returns-clause-bytes : goal.returns-clause-bytes
returns-clause-bytes c =
    let p = c.args.play.now in
    let line = codes "win " ++ decimal p.win ++ codes " before " ++ decimal p.before ++ codes " after " ++ decimal p.after ++ codes "\n" in
    c.push_result.ensures.bytes ∙ ap (λ (t : List ℕ). t ++ line) c.push_body.ensures.bytes
    ∙ seven_behind c.args.text.now.bytes (play_body c.args.setup.now p) (codes "win ") (decimal p.win) (codes " before ") (decimal p.before) (codes " after ") (decimal p.after) (codes "\n")
