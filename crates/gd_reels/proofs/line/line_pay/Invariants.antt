use Rattle.std.proofs.Common.{◌≡◌, ◌≤◌, take}
use Rattle.gd_base.specs.Games.Chance.{greatest, pays_on}
use Rattle.gd_base.specs.declared.tables.TheConstants.{SYMBOLS}
use Rattle.gd_reels.proofs.line.line_pay.Given as goal

-- the greatest that the symbols so far pay
abbrev pub invariant-loop-place : goal.invariant-loop-place
invariant-loop-place l = record {
  pay : l.best ≡ greatest (take l.place (pays_on l.letters SYMBOLS l.setup.reel_pays));
  most : l.best ≤ 5000;
}
