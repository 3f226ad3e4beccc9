-- Runs without a cut and without an alteration, by computation.
use Rattle.std.specs.Prelude.{refl}
use Rattle.std.specs.Fmt.{digits}
use Rattle.gd_base.specs.Judging.Answer.{answer}
use Rattle.gd_top.specs.Run.Items.{item_meaning}
use Rattle.gd_top.specs.Run.Openings.{answered, reopen, opened, resolved}
use Rattle.gd_top.specs.Examples.Reports.{PlainReports, RepeatsAndSteps, ScriptFaults, ImageReports}

pub plain_reports : PlainReports
unfolding digits item_meaning answered reopen answer opened resolved
plain_reports = record {
  empty_script = record { written = refl; ended = refl; counted = refl };
  one_bill = record { written = refl; ended = refl; counted = refl };
  refused_bill = record { written = refl; ended = refl; counted = refl };
  off_and_on = record { written = refl; ended = refl; counted = refl };
  off_at_the_end = record { written = refl; ended = refl; counted = refl };
  read_fault = refl;
  soak = refl;
}

pub repeats_and_steps : RepeatsAndSteps
unfolding digits item_meaning answered reopen answer opened resolved
repeats_and_steps = record {
  repeats = record { written = refl; ended = refl; counted = refl };
  next_number = record { written = refl; ended = refl; counted = refl };
  after_a_power_cut = record { written = refl; ended = refl; counted = refl };
}

pub script_faults : ScriptFaults
unfolding digits item_meaning answered reopen answer opened resolved
script_faults = record {
  no_item = record { written = refl; ended = refl; counted = refl };
  alter_while_on = record { written = refl; ended = refl; counted = refl };
  on_while_on = record { written = refl; ended = refl; counted = refl };
  off_while_off = record { written = refl; ended = refl; counted = refl };
  bill_while_off = record { written = refl; ended = refl; counted = refl };
  clear_while_open = record { written = refl; ended = refl; counted = refl };
  clear_while_off = record { written = refl; ended = refl; counted = refl };
}

pub image_reports : ImageReports
unfolding digits item_meaning answered reopen answer opened resolved
image_reports = record {
  opened = record { written = refl; ended = refl; counted = refl };
  repaired = record { written = refl; ended = refl; counted = refl };
  cleared = record { written = refl; ended = refl; counted = refl };
  off_under_lock = record { written = refl; ended = refl; counted = refl };
  cut_refused = record { written = refl; ended = refl; counted = refl };
  off_refused = record { written = refl; ended = refl; counted = refl };
  other_count = record { written = refl; ended = refl; counted = refl };
  other_setup = record { written = refl; ended = refl; counted = refl };
  full = record { written = refl; ended = refl; counted = refl };
}
