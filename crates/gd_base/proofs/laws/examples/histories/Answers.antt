use Rattle.gd_base.proofs.ExampleLemmas.Histories.{one_bill, rolls_over, pick, vouchers, royal_flush, hopper, ace_low, gambles, evening, cancelled}
use Rattle.gd_base.proofs.laws.examples.histories.Goals as goal

pub returns-clause-one_bill : goal.returns-clause-one_bill
returns-clause-one_bill c = one_bill

pub returns-clause-rolls_over : goal.returns-clause-rolls_over
returns-clause-rolls_over c = rolls_over

pub returns-clause-pick : goal.returns-clause-pick
returns-clause-pick c = pick

pub returns-clause-vouchers : goal.returns-clause-vouchers
returns-clause-vouchers c = vouchers

pub returns-clause-royal_flush : goal.returns-clause-royal_flush
returns-clause-royal_flush c = royal_flush

pub returns-clause-hopper : goal.returns-clause-hopper
returns-clause-hopper c = hopper

pub returns-clause-ace_low : goal.returns-clause-ace_low
returns-clause-ace_low c = ace_low

pub returns-clause-gambles : goal.returns-clause-gambles
returns-clause-gambles c = gambles

pub returns-clause-evening : goal.returns-clause-evening
returns-clause-evening c = evening

pub returns-clause-cancelled : goal.returns-clause-cancelled
returns-clause-cancelled c = cancelled
