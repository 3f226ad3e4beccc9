use Rattle.std.proofs.Common.{◌≡◌, ◌++◌, map, take, drop}
use Rattle.toml.specs.View.{view}
use Rattle.gd_games.specs.Values.{number_in}
use Rattle.gd_games.proofs.values.copy_amounts.Given as goal

abbrev pub invariant-loop-place : goal.invariant-loop-place
invariant-loop-place l = l.into ≡ map (λ v. number_in (view v)) (take l.place l.items.items) ++ drop l.place l.initial.into
