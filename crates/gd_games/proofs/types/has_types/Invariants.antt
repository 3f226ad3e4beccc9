use Rattle.std.proofs.Common.{◌≡◌}
use Rattle.toml.specs.View.{members_view}
use Rattle.gd_games.specs.Kinds.{all_fit, setup_kinds}
use Rattle.gd_games.proofs.types.has_types.Given as goal

abbrev pub invariant-loop-key : goal.invariant-loop-key
invariant-loop-key l =
    (goal.iterator-loop-key).can_next l.key-iterator × (goal.iterator-loop-key).is_finite l.key-iterator
    × (all_fit setup_kinds (members_view l.key-iterator) ≡ all_fit setup_kinds (members_view l.table.entries))
