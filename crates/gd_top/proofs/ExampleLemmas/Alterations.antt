-- Runs in which the copies are altered at rest, by computation.
use Rattle.std.specs.Prelude.{refl}
use Rattle.std.specs.Fmt.{digits}
use Rattle.gd_base.specs.Judging.Answer.{answer}
use Rattle.gd_top.specs.Run.Items.{item_meaning}
use Rattle.gd_top.specs.Run.Openings.{answered, reopen, opened, resolved}
use Rattle.gd_top.specs.Examples.Alterations.{AlteredCopies, Locks, AlteredBefore, ForgedImages}

pub altered_copies : AlteredCopies
unfolding digits item_meaning answered reopen answer opened resolved
altered_copies = record {
  one_page = record { written = refl; ended = refl; counted = refl };
  other_copy = record { written = refl; ended = refl; counted = refl };
  cancel = record { written = refl; ended = refl; counted = refl };
  cancel_together = record { written = refl; ended = refl; counted = refl };
  at_the_end = refl;
}

pub locks : Locks
unfolding digits item_meaning answered reopen answer opened resolved
locks = record {
  both_copies = record { written = refl; ended = refl; counted = refl };
  one_place = record { written = refl; ended = refl; counted = refl };
  one_copy = record { written = refl; ended = refl; counted = refl };
  one_cancelled = record { written = refl; ended = refl; counted = refl };
  mask_of_nothing = record { written = refl; ended = refl; counted = refl };
  off_under_lock = record { written = refl; ended = refl; counted = refl };
  on_under_lock = record { written = refl; ended = refl; counted = refl };
  alter_under_lock = record { written = refl; ended = refl; counted = refl };
}

pub altered_before : AlteredBefore
unfolding digits item_meaning answered reopen answer opened resolved
altered_before = record {
  cut_after_repair = record { written = refl; ended = refl; counted = refl };
  next_off_period = record { written = refl; ended = refl; counted = refl };
  lock_after_a_cut = record { written = refl; ended = refl; counted = refl };
}

pub forged_images : ForgedImages
unfolding digits item_meaning answered reopen answer opened resolved
forged_images = record {
  another_view = record { written = refl; ended = refl; counted = refl };
  behind_shut_gate = record { written = refl; ended = refl; counted = refl };
  gate_alone = record { written = refl; ended = refl; counted = refl };
  other_copy_altered = record { written = refl; ended = refl; counted = refl };
  found_again = record { written = refl; ended = refl; counted = refl };
}
