-- Worked rows of payloads, by computation.
use Rattle.std.specs.Prelude.{refl}
use Rattle.gd_base.specs.Examples.Payloads.{Lengths, ArePossible}

pub lengths : Lengths
lengths = record { head = refl; of_empty = refl; of_evening = refl }

pub possible : ArePossible
possible = record {
  of_empty = refl;
  of_empty_under = λ setup. refl;
  of_pick = refl;
  of_pick_under = refl;
  of_gambles = refl;
  of_gambles_under = refl;
  of_evening = refl;
  of_evening_under = refl;
}
