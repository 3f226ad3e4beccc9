-- Worked rows of texts, by computation.
use Rattle.std.specs.Prelude.{refl}
use Rattle.std.specs.Fmt.{digits}
use Rattle.gd_base.specs.Examples.Texts.{MetersText, States, Orders, Recalls, Logs}

pub states : States
unfolding digits
states = record { pick = refl; hold = refl; hopper = refl; cancel = refl }

pub orders : Orders
unfolding digits
orders = record { coins = refl }

pub recalls : Recalls
unfolding digits
recalls = record { pick = refl; straight = refl; gambles = refl }

pub meters : MetersText
unfolding digits
meters = record { one_bill = refl }

pub logs : Logs
unfolding digits
logs = record { evening = refl; cancel = refl }
