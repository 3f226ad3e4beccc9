-- Whole reports over the machine of the product, by computation.
use Rattle.std.specs.Prelude.{refl}
use Rattle.std.specs.Fmt.{digits}
use Rattle.gd_base.specs.Judging.Answer.{answer}
use Rattle.gd_top.specs.Run.Items.{item_meaning}
use Rattle.gd_top.specs.Run.Openings.{answered, reopen, opened, resolved}
use Rattle.gd_top.specs.Examples.OverProduct.{ProductReports, ProductPowerCuts, ProductAlterations}

pub product_reports : ProductReports
unfolding digits item_meaning answered reopen answer opened resolved
product_reports = record {
  one_bill_and_meters = refl;
  empty_script = refl;
  repeats_and_steps = refl;
  bad_line = refl;
  alter_while_on = refl;
}

pub product_power_cuts : ProductPowerCuts
unfolding digits item_meaning answered reopen answer opened resolved
product_power_cuts = record {
  power_cut_at_rest = refl;
  pick_survives_power_cut = refl;
  cut_before_first_copy = refl;
  cut_between_copies = refl;
  cut_in_the_start = refl;
  cut_in_a_play = refl;
}

pub product_alterations : ProductAlterations
unfolding digits item_meaning answered reopen answer opened resolved
product_alterations = record {
  one_page_altered = refl;
  alterations_cancel = refl;
  both_copies_altered = refl;
  both_copies_altered_and_cleared = refl;
}
