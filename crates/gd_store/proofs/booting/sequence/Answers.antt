use Rattle.std.proofs.Common.{◌∙◌, ap, List, ℕ}
use Rattle.std.specs.Int.{w64, from_be_bytes}
use Rattle.gd_store.specs.Copy.{stored_sequence}
use Rattle.gd_store.proofs.booting.sequence.Goals as goal

pub returns : goal.returns
unfolding stored_sequence
returns c = c.from_be_bytes.ensures ∙ ap (λ (x : List ℕ). from_be_bytes w64 x) c.copy_from_slice.ensures.after
