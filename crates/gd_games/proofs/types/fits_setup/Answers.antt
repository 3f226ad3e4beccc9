use Rattle.std.proofs.Common.{◌≡◌, ◌∙◌, sym, false, rules}
use Rattle.std.specs.Prelude.{codes}
use Rattle.std.specs.Str.{bytes_eq}
use Rattle.gd_games.proofs.Lists.{past_three}
use Rattle.gd_games.proofs.types.fits_setup.Goals as goal

pub returns-else-eq-2 : goal.returns-else-eq-2
returns-else-eq-2 c =
    let no_amount = sym c.is_amount.ensures ∙ c.if-is_amount.false in
    let no_bills : bytes_eq c.args.key.now (codes "bills") ≡ false = search rules in
    let no_hopper : bytes_eq c.args.key.now (codes "hopper") ≡ false = search rules in
    c.fits_games.ensures ∙ past_three _ _ _ _ _ _ _ no_amount no_bills no_hopper
