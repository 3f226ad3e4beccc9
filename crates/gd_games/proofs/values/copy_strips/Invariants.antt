use Rattle.std.proofs.Common.{◌≡◌, ◌++◌, map, take, drop}
use Rattle.toml.specs.View.{view}
use Rattle.gd_games.specs.Values.{text_in}
use Rattle.gd_games.proofs.values.copy_strips.Given as goal

abbrev pub invariant-loop-place : goal.invariant-loop-place
invariant-loop-place l = l.into ≡ map (λ v. text_in (view v)) (take l.place l.items.items) ++ drop l.place l.initial.into
