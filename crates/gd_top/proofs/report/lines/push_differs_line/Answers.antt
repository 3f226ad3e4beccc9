use Rattle.std.proofs.Common.{◌≡◌, ◌∙◌, ◌++◌, List, ℕ, codes, ap, append_assoc}
use Rattle.gd_top.specs.Report.Lines.{hex}
use Rattle.gd_top.proofs.report.lines.push_differs_line.Goals as goal

joined : (t a b c d e : List ℕ) → ((((t ++ a) ++ b) ++ c) ++ d) ++ e ≡ t ++ (a ++ b ++ c ++ d ++ e)
joined t a b c d e = simp append_assoc

pub returns-clause-bytes : goal.returns-clause-bytes
returns-clause-bytes c =
    let kept = hex c.args.kept.now in
    let given = hex c.args.given.now in
    c.push_str-3.ensures.bytes
    ∙ ap (λ (text : List ℕ). text ++ codes "\n") (c.push_digest-2.ensures.bytes
    ∙ ap (λ (text : List ℕ). text ++ given) (c.push_str-2.ensures.bytes
    ∙ ap (λ (text : List ℕ). text ++ codes " given ") (c.push_digest.ensures.bytes
    ∙ ap (λ (text : List ℕ). text ++ kept) c.push_str.ensures.bytes)))
    ∙ joined c.args.text.now.bytes (codes "differs kept ") kept (codes " given ") given (codes "\n")
