-- Which of two copies is booted, as the code says it.
use Rattle.std.specs.Prelude.{ℕ, List, Option, Some, None}
use Rattle.gd_store.specs.declared.booting.Choice.{Choice}
use Rattle.gd_store.specs.declared.booting.Choice.TheVariants.{CopyA, CopyB, Lost}

-- the sequence and the payload that a choice means, of two copies with these payloads
abbrev pub choice_meaning : Choice → List ℕ → List ℕ → Option (ℕ × List ℕ)
choice_meaning (CopyA m) p q = Some (m, p)
choice_meaning (CopyB n) p q = Some (n, q)
choice_meaning Lost p q = None
