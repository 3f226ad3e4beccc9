use Rattle.std.proofs.Common.{ap, sym, inr, List, ℕ, Option, Some}
use Rattle.gd_image_rows.proofs.commands.carry_out.Goals as goal

-- on a disk in memory nothing waits for a sync
pub cabinet-ended-requires-clause-openable : goal.cabinet-ended-requires-clause-openable
cabinet-ended-requires-clause-openable g c = inr (λ image is. ap (λ (bytes : List ℕ). let seen : Option (List ℕ) = Some bytes in seen) (sym is))
