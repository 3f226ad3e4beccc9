use Rattle.gd_base.specs.Payloads.Bytes.{payload_of}
use Rattle.gd_base.specs.Payloads.Lists.{lists_of}
use Rattle.gd_base.proofs.PayloadLemmas.ListsHad.{has_them, had}
use Rattle.gd_base.proofs.PayloadLemmas.ListsOfViews.{recorded_of, has_its_lists}
use Rattle.gd_base.proofs.PayloadLemmas.OneOfParts.{one_payload}
use Rattle.gd_base.proofs.laws.payloads.lists_of_view.Goals as goal

pub returns-clause-recorded : goal.returns-clause-recorded
returns-clause-recorded c = recorded_of

pub returns-clause-spelled : goal.returns-clause-spelled
returns-clause-spelled c = λ v h. has_them (payload_of v) (lists_of v) (has_its_lists v h)

pub returns-clause-parts : goal.returns-clause-parts
returns-clause-parts c =
    λ payload v h same is.
    one_payload payload (payload_of v) (lists_of v) same (had payload (lists_of v) is).stand (has_its_lists v h).stand
