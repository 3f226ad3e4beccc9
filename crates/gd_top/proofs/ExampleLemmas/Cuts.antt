-- Runs in which the power is cut, by computation.
use Rattle.std.specs.Prelude.{refl}
use Rattle.std.specs.Fmt.{digits}
use Rattle.gd_base.specs.Judging.Answer.{answer}
use Rattle.gd_top.specs.Run.Items.{item_meaning}
use Rattle.gd_top.specs.Run.Openings.{answered, reopen, opened, resolved}
use Rattle.gd_top.specs.Examples.Cuts.{CutsAtSyncs, CutsAtCalls, ArmedCuts, Synced, Limits, OtherViews, Flights}

pub cuts_at_syncs : CutsAtSyncs
unfolding digits item_meaning answered reopen answer opened resolved
cuts_at_syncs = record {
  before_first_copy = record { written = refl; ended = refl; counted = refl };
  in_first_body = record { written = refl; ended = refl; counted = refl };
  between_copies = record { written = refl; ended = refl; counted = refl };
  at_last_gate = record { written = refl; ended = refl; counted = refl };
  in_next_event = record { written = refl; ended = refl; counted = refl };
  in_the_start = record { written = refl; ended = refl; counted = refl };
  start_found_done = record { written = refl; ended = refl; counted = refl };
}

pub cuts_at_calls : CutsAtCalls
unfolding digits item_meaning answered reopen answer opened resolved
cuts_at_calls = record {
  in_an_event = record { written = refl; ended = refl; counted = refl };
  in_event_and_start = record { written = refl; ended = refl; counted = refl };
  used_up = refl;
  not_reached = record { written = refl; ended = refl; counted = refl };
}

pub armed_cuts : ArmedCuts
unfolding digits item_meaning answered reopen answer opened resolved
armed_cuts = record {
  calls = refl;
  syncs = refl;
  used_up = refl;
}

pub synced : Synced
unfolding digits item_meaning answered reopen answer opened resolved
synced = record {
  with_repair = refl;
  locked = refl;
  cleared = refl;
}

pub limits : Limits
unfolding digits item_meaning answered reopen answer opened resolved
limits = record {
  cuts = refl;
  cuts_stop = refl;
  last_cut = refl;
  power = refl;
}

pub other_views : OtherViews
unfolding digits item_meaning answered reopen answer opened resolved
other_views = record {
  counted = record { written = refl; ended = refl; counted = refl };
  begins = refl;
}

pub flights : Flights
unfolding digits item_meaning answered reopen answer opened resolved
flights = record {
  event = record { written = refl; ended = refl; counted = refl };
  of_event = refl;
  first_start = record { written = refl; ended = refl; counted = refl };
  of_first_start = refl;
  unread = record { written = refl; ended = refl; counted = refl };
  of_unread = refl;
  cut_start = record { written = refl; ended = refl; counted = refl };
  of_cut_start = refl;
  making = record { written = refl; ended = refl; counted = refl };
  of_making = refl;
  at_rest = record { written = refl; ended = refl; counted = refl };
  of_rest = refl;
  after_making = record { written = refl; ended = refl; counted = refl };
  of_made = refl;
  off_after_making = refl;
}
