use Rattle.std.proofs.Common.{◌∙◌, ap, option_copied, sym}
use Rattle.gd_script.proofs.Firsts.{event_behind}
use Rattle.gd_script.proofs.events.read_event.Goals as goal

pub returns-in-Some : goal.returns-in-Some
returns-in-Some c =
    c.event_with.ensures
    ∙ event_behind c.in_ok-keyword.keyword c.args.text.now c.split_first.result.0.now c.in-Some.fields.now (option_copied c.split_first.result.1) c.split_first.ensures (ap option_copied c.in-Some.is) (sym c.read_keyword.ensures ∙ c.in_ok-keyword.was)
