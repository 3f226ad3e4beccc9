-- Worked rows of a full history, by computation.
use Rattle.std.specs.Prelude.{refl}
use Rattle.gd_base.specs.Judging.Answer.{answer}
use Rattle.gd_base.specs.Examples.FullHistory.{FullHistory}

pub full_history : FullHistory
unfolding answer
full_history = record { possible = refl; possible_under = refl; next = refl; last = refl; other = refl }
