-- Which of the rules of a play's record types of numbers make true.
use Rattle.std.specs.Prelude.{ℕ, ◌^◌, Bool, nat_lt, List, [], ◌∷◌, drop}
use Rattle.gd_base.specs.declared.play.PlayRecord.{PlayRecord}
use Rattle.gd_base.specs.Payloads.Recorded.{recorded_play_rules}

abbrev pub play_widths : PlayRecord → List Bool
play_widths p = drop 3 (recorded_play_rules p)

-- those of them that are on single numbers
abbrev pub number_widths : (number index wager win before after : ℕ) → List Bool
number_widths number index wager win before after =
    nat_lt number (2 ^ 64) ∷ nat_lt index (2 ^ 64) ∷ nat_lt wager (2 ^ 32) ∷ nat_lt win (2 ^ 64) ∷ nat_lt before (2 ^ 64) ∷ nat_lt after (2 ^ 64) ∷ []
