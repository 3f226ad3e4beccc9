-- Worked rows of what the law of all rules asks, by computation.
use Rattle.std.specs.Prelude.{refl}
use Rattle.gd_base.specs.Examples.Premises.{ArePremises}

pub premises : ArePremises
premises = record { greatest_id = refl; wider_id = refl; sixteen_words = refl; fifteen_words = refl; wider_words = refl }
