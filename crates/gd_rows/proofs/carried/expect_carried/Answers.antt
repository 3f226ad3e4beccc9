use Rattle.std.proofs.Common.{◌∙◌, ap, sym}
use Rattle.gd_base.specs.declared.setup.Setup.{Setup}
use Rattle.gd_base.specs.Histories.ViewOf.{empty_view}
use Rattle.gd_games.specs.Digest.{digest_of}
use Rattle.gd_rows.proofs.carried.expect_carried.Goals as goal

pub carry-ended-requires-clause-empty : goal.carry-ended-requires-clause-empty
carry-ended-requires-clause-empty g c = c.in_ok-core.ensures.empty ∙ ap (λ (s : Setup). empty_view (digest_of s)) (sym c.in_ok-core.ensures.setup)
