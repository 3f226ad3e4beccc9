use Rattle.gd_top.proofs.ExampleLemmas.Alterations as alterations
use Rattle.gd_top.proofs.ExampleLemmas.Clearing as clearing
use Rattle.gd_top.proofs.ExampleLemmas.Cuts as cuts
use Rattle.gd_top.proofs.ExampleLemmas.OverProduct as overproduct
use Rattle.gd_top.proofs.ExampleLemmas.Reports as reports
use Rattle.gd_top.proofs.laws.example_reports.Goals as goal

pub returns-clause-plain : goal.returns-clause-plain
returns-clause-plain c = reports.plain_reports

pub returns-clause-repeats : goal.returns-clause-repeats
returns-clause-repeats c = reports.repeats_and_steps

pub returns-clause-faults : goal.returns-clause-faults
returns-clause-faults c = reports.script_faults

pub returns-clause-images : goal.returns-clause-images
returns-clause-images c = reports.image_reports

pub returns-clause-syncs : goal.returns-clause-syncs
returns-clause-syncs c = cuts.cuts_at_syncs

pub returns-clause-calls : goal.returns-clause-calls
returns-clause-calls c = cuts.cuts_at_calls

pub returns-clause-armed : goal.returns-clause-armed
returns-clause-armed c = cuts.armed_cuts

pub returns-clause-synced : goal.returns-clause-synced
returns-clause-synced c = cuts.synced

pub returns-clause-limits : goal.returns-clause-limits
returns-clause-limits c = cuts.limits

pub returns-clause-other_views : goal.returns-clause-other_views
returns-clause-other_views c = cuts.other_views

pub returns-clause-flights : goal.returns-clause-flights
returns-clause-flights c = cuts.flights

pub returns-clause-altered : goal.returns-clause-altered
returns-clause-altered c = alterations.altered_copies

pub returns-clause-locks : goal.returns-clause-locks
returns-clause-locks c = alterations.locks

pub returns-clause-altered_before : goal.returns-clause-altered_before
returns-clause-altered_before c = alterations.altered_before

pub returns-clause-forged : goal.returns-clause-forged
returns-clause-forged c = alterations.forged_images

pub returns-clause-under_lock : goal.returns-clause-under_lock
returns-clause-under_lock c = clearing.under_lock

pub returns-clause-cleared : goal.returns-clause-cleared
returns-clause-cleared c = clearing.cleared

pub returns-clause-clearings : goal.returns-clause-clearings
returns-clause-clearings c = clearing.clearings_cut

pub returns-clause-product : goal.returns-clause-product
returns-clause-product c = overproduct.product_reports

pub returns-clause-product_cuts : goal.returns-clause-product_cuts
returns-clause-product_cuts c = overproduct.product_power_cuts

pub returns-clause-product_alterations : goal.returns-clause-product_alterations
returns-clause-product_alterations c = overproduct.product_alterations
