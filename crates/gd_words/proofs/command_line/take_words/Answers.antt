use Rattle.std.proofs.Common.{◌≡◌, ◌∙◌, [], ap, sym}
use Rattle.clap.specs.Words.{App, app_of, fault_of, is_simple, is_simple_and_free, matches_of}
use Rattle.gd_words.specs.CommandLine.{command_line, faults, places, places_found, texts}
use Rattle.gd_words.proofs.Taken.{kind_of_none, line_is_free, line_is_simple}
use Rattle.gd_words.proofs.command_line.take_words.Goals as goal

pub returns-in-Ok-try_get_matches_from-clause-taken :
    goal.returns-in-Ok-try_get_matches_from-clause-taken
unfolding faults
returns-in-Ok-try_get_matches_from-clause-taken c =
    let is : app_of c.in-Ok.line ≡ command_line = c.in-Ok.ensures in
    ap (λ (a : App). fault_of a (texts c.args.words.now)) (sym is)
    ∙ c.in-Ok-try_get_matches_from.ensures.kinds (ap is_simple_and_free is ∙ line_is_free)

pub returns-in-Ok-try_get_matches_from-clause-places :
    goal.returns-in-Ok-try_get_matches_from-clause-places
unfolding places
returns-in-Ok-try_get_matches_from-clause-places c =
    let is : app_of c.in-Ok.line ≡ command_line = c.in-Ok.ensures in
    c.given_of.ensures ∙ ap places_found ((c.in-Ok-try_get_matches_from.ensures.matches (ap is_simple is ∙ line_is_simple)).0
    ∙ ap (λ (a : App). matches_of a (texts c.args.words.now)) is)

pub returns-in-Err-try_get_matches_from-clause-usage :
    goal.returns-in-Err-try_get_matches_from-clause-usage
unfolding faults
returns-in-Err-try_get_matches_from-clause-usage c = λ usage taken.
    let is : app_of c.in-Ok.line ≡ command_line = c.in-Ok.ensures in
    let none : fault_of (app_of c.in-Ok.line) (texts c.args.words.now) ≡ [] =
    ap (λ (a : App). fault_of a (texts c.args.words.now)) is ∙ taken in
    c.cause_of.ensures usage (kind_of_none c.in-Err-try_get_matches_from.error _ none
    (c.in-Err-try_get_matches_from.ensures.kinds (ap is_simple_and_free is ∙ line_is_free)))
