use Rattle.std.proofs.Common.{◌≡◌, map, drop}
use Rattle.toml.specs.View.{view}
use Rattle.gd_base.specs.Setups.SetupRules.{rise_above}
use Rattle.gd_games.specs.Values.{number_in}
use Rattle.gd_games.proofs.rules.rise.Given as goal

abbrev pub invariant-loop-item : goal.invariant-loop-item
invariant-loop-item l =
    rise_above l.last (map (λ v. number_in (view v)) (drop l.item-index l.items.items)) ≡ rise_above 0 (map (λ v. number_in (view v)) l.items.items)
