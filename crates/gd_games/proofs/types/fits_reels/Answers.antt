use Rattle.std.proofs.Common.{◌≡◌, ◌∙◌, false, rules}
use Rattle.std.specs.Prelude.{codes}
use Rattle.std.specs.Str.{bytes_eq}
use Rattle.gd_games.proofs.Lists.{past_two}
use Rattle.gd_games.proofs.types.fits_reels.Goals as goal

pub returns-else-eq-2 : goal.returns-else-eq-2
returns-else-eq-2 c =
    let no_flag : bytes_eq c.args.key.now (codes "enabled") ≡ false = search rules in
    let no_strips : bytes_eq c.args.key.now (codes "strips") ≡ false = search rules in
    c.fits_wins.ensures ∙ past_two _ _ _ _ _ no_flag no_strips
