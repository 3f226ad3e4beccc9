use Rattle.std.proofs.Common.{◌∙◌, sym}
use Rattle.toml.specs.View.{table_view}
use Rattle.gd_games.proofs.Kept.{kept_rules}
use Rattle.gd_games.proofs.reading.table_setup.Goals as goal

pub setup_of-requires : goal.setup_of-requires
setup_of-requires c = kept_rules (table_view c.args.table.now) (sym c.table_fault.ensures ∙ c.in-None.is)
