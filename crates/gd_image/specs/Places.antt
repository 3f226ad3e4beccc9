-- Places of a list by the newest of them.
use Rattle.std.specs.Prelude.{ℕ, Bool, true, nat_lt, Option, Some, None}

abbrev pub is_newest_below : ℕ → Option ℕ → Bool
is_newest_below limit None = true
is_newest_below limit (Some place) = nat_lt place limit
