use Rattle.std.proofs.Common.{◌∙◌, ◌*◌, ◌==◌, ◌&&◌, nat_le}
use Rattle.gd_image.proofs.Testing.{two_hold}
use Rattle.gd_image.proofs.sums.are_balanced.Goals as goal

pub returns : goal.returns
returns c = λ l.
    c.all_of.ensures ∙ two_hold (c.outgo.result == c.income-income.result) (nat_le c.income-income.result (c.from.result * c.from-2.result))
    ∙ (λ i. (c.outgo.ensures l i == c.income-income.ensures l i) && nat_le (c.income-income.ensures l i) (c.from.ensures i * c.from-2.ensures i))
