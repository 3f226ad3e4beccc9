-- The words of a script that name a value of an enum. Devices, doors, tilts, games and colours have the names of gd_base.
use Rattle.std.specs.Prelude.{ℕ, List, codes}
use Rattle.gd_base.specs.declared.step.What.{What}
use Rattle.gd_disk.specs.declared.disk.CutUnit.{CutUnit}
use Rattle.gd_script.specs.declared.item.OrderWord.{OrderWord}
use Rattle.gd_disk.specs.declared.side.Side.{Side}

abbrev pub order_name : OrderWord → List ℕ
order_name OrderWord.Printed = codes "printed"
order_name OrderWord.PrintFail = codes "print-fail"
order_name OrderWord.CoinPaid = codes "coin-paid"
order_name OrderWord.HopperEmpty = codes "hopper-empty"

abbrev pub unit_name : CutUnit → List ℕ
unit_name CutUnit.Call = codes "call"
unit_name CutUnit.Sync = codes "sync"

abbrev pub side_name : Side → List ℕ
side_name Side.A = codes "a"
side_name Side.B = codes "b"

abbrev pub what_name : What → List ℕ
what_name What.Meters = codes "meters"
what_name What.State = codes "state"
what_name What.Recall = codes "recall"
what_name What.Events = codes "events"
what_name What.Order = codes "order"
