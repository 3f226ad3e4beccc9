use Rattle.std.proofs.Common.{◌∙◌, sym}
use Rattle.gd_base.specs.Payloads.ListsIn.{stand_in}
use Rattle.gd_base.specs.Payloads.Recorded.{are_recorded}
use Rattle.gd_base.proofs.BoolTests.{second_of, not_first}
use Rattle.gd_recall.proofs.recall.Recall.is_listed_in.Goals as goal

pub returns-then-are_recorded : goal.returns-then-are_recorded
returns-then-are_recorded c =
    let l = c.args.self.now.lists in
    c.stand_in.ensures ∙ second_of (are_recorded l) (stand_in c.args.payload.now l) (sym c.are_recorded.ensures ∙ c.if-are_recorded.true)

pub returns-else-are_recorded : goal.returns-else-are_recorded
returns-else-are_recorded c =
    let l = c.args.self.now.lists in
    c.are_recorded.ensures ∙ not_first (are_recorded l) (stand_in c.args.payload.now l) (sym c.are_recorded.ensures ∙ c.if-are_recorded.false)
