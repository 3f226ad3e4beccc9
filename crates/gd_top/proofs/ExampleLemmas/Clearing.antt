-- Runs in which a locked memory is cleared, by computation.
use Rattle.std.specs.Prelude.{refl}
use Rattle.std.specs.Fmt.{digits}
use Rattle.gd_base.specs.Judging.Answer.{answer}
use Rattle.gd_top.specs.Run.Items.{item_meaning}
use Rattle.gd_top.specs.Run.Openings.{answered, reopen, opened, resolved}
use Rattle.gd_top.specs.Examples.Clearing.{UnderLock, Cleared, ClearingsCut}

pub under_lock : UnderLock
unfolding digits item_meaning answered reopen answer opened resolved
under_lock = record {
  lines = record { written = refl; ended = refl; counted = refl };
}

pub cleared : Cleared
unfolding digits item_meaning answered reopen answer opened resolved
cleared = record {
  whole = record { written = refl; ended = refl; counted = refl };
  cut_in_the_start = record { written = refl; ended = refl; counted = refl };
}

pub clearings_cut : ClearingsCut
unfolding digits item_meaning answered reopen answer opened resolved
clearings_cut = record {
  still_locked = record { written = refl; ended = refl; counted = refl };
  at_first_gate = record { written = refl; ended = refl; counted = refl };
  found_empty = record { written = refl; ended = refl; counted = refl };
  found_old = record { written = refl; ended = refl; counted = refl };
  cut_twice = record { written = refl; ended = refl; counted = refl };
  by_calls = record { written = refl; ended = refl; counted = refl };
}
