use Rattle.std.proofs.Common.{◌≡◌, ◌∙◌, ap, option_copied, sym}
use Rattle.gd_script.specs.Reading.{item_of_words, words}
use Rattle.gd_script.proofs.Firsts.{item_behind}
use Rattle.gd_script.proofs.WholeLines.{no_comment_line}
use Rattle.gd_script.proofs.reading.read_item.Goals as goal

pub returns-in-Some : goal.returns-in-Some
returns-in-Some c =
    let h : c.item_with.result ≡ item_of_words (words c.args.line.now) =
    c.item_with.ensures
    ∙ item_behind c.in_ok-keyword.keyword c.args.line.now c.split_first.result.0.now c.in-Some.fields.now (option_copied c.split_first.result.1) c.split_first.ensures (ap option_copied c.in-Some.is) (sym c.read_keyword.ensures ∙ c.in_ok-keyword.was)
    in h ∙ no_comment_line c.args.line.now (sym c.is_comment.ensures ∙ c.if-is_comment.false)
