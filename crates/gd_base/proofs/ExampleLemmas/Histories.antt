-- Worked rows as histories, by computation.
use Rattle.std.specs.Prelude.{refl}
use Rattle.gd_base.specs.Examples.Histories.{OneBill, RollsOver, Pick, Vouchers, RoyalFlush, HopperRunsEmpty, AceLow, Gambles, Evening, CancelledCredit}

pub one_bill : OneBill
one_bill = record { totals = refl; balance = refl }

pub rolls_over : RollsOver
rolls_over = record { below = refl; at = refl }

pub pick : Pick
pick = record { count = refl; balance = refl }

pub vouchers : Vouchers
vouchers = record { replies = refl; balance = refl }

pub royal_flush : RoyalFlush
royal_flush = record { below_limit = refl; at_limit = refl; replies = refl; totals = refl }

pub hopper : HopperRunsEmpty
hopper = record { totals = refl; balance = refl; count = refl }

pub ace_low : AceLow
ace_low = record { balance = refl }

pub gambles : Gambles
gambles = record { count = refl; balance = refl }

pub evening : Evening
evening = record { totals = refl; count = refl; balance = refl }

pub cancelled : CancelledCredit
cancelled = record { totals = refl; count = refl }
