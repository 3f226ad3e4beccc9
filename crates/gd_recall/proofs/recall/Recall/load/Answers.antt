use Rattle.std.proofs.Common.{◌∙◌, ap, sym, Option, is_some, unwrap_or, true, false}
use Rattle.gd_base.specs.Payloads.Lists.{Lists, no_lists}
use Rattle.gd_base.proofs.PayloadLemmas.ListsHad.{told}
use Rattle.gd_recall.proofs.recall.Recall.load.Goals as goal

pub returns-then-is_listed_in-clause-answer : goal.returns-then-is_listed_in-clause-answer
returns-then-is_listed_in-clause-answer c =
    sym (ap (λ (o : Option Lists). is_some o) (told c.args.payload.now c.read.new.self.lists true c.read.ensures (sym c.is_listed_in.ensures ∙ c.if-is_listed_in.true)))

pub returns-then-is_listed_in-clause-lists : goal.returns-then-is_listed_in-clause-lists
returns-then-is_listed_in-clause-lists c =
    sym (ap (λ (o : Option Lists). unwrap_or o no_lists) (told c.args.payload.now c.read.new.self.lists true c.read.ensures (sym c.is_listed_in.ensures ∙ c.if-is_listed_in.true)))

pub returns-clause-answer : goal.returns-clause-answer
returns-clause-answer c =
    sym (ap (λ (o : Option Lists). is_some o) (told c.args.payload.now c.read.new.self.lists false c.read.ensures (sym c.is_listed_in.ensures ∙ c.if-is_listed_in.false)))

pub returns-clause-lists : goal.returns-clause-lists
returns-clause-lists c =
    c.clear.ensures.lists
    ∙ sym (ap (λ (o : Option Lists). unwrap_or o no_lists) (told c.args.payload.now c.read.new.self.lists false c.read.ensures (sym c.is_listed_in.ensures ∙ c.if-is_listed_in.false)))
