-- What an account has: a balance and the totals of the sixteen meters, which are two fields of a view.
use Rattle.std.specs.Prelude.{ℕ, ◌+◌, ◌-◌, ◌<◌, ◌^◌, List, slice_index}
use Rattle.gd_base.specs.declared.meter.Meter.{Meter}
use Rattle.gd_base.specs.declared.setup.Setup.{Setup}
use Rattle.gd_base.specs.Histories.Credit.{credited_win}
use Rattle.gd_base.specs.Histories.Meters.{with_one, with_additions, win_additions}
use Rattle.gd_base.specs.Histories.Numbers.{meter_place}

pub record Money : Type 0 where
  pub balance : ℕ  -- in cents
  pub totals : List ℕ  -- in the order of the meters

-- an amount more at one meter
abbrev pub with_amount : Meter → ℕ → Money → Money
with_amount m amount a = record a { totals = with_one m amount a.totals }

-- an amount that came in: at its meter, and on the balance
abbrev pub with_income : Meter → ℕ → Money → Money
with_income m amount a = record { balance = a.balance + amount; totals = with_one m amount a.totals }

-- a play more, with its wager taken off the balance
abbrev pub with_wager : ℕ → Money → Money
with_wager cents a = record {
  balance = a.balance - cents;
  totals = with_one Meter.GamesPlayed 1 (with_one Meter.Wagered cents a.totals);
}

-- a win that was posted, which the handpay limit may keep from the balance
abbrev pub with_win : Setup → ℕ → Money → Money
with_win setup win a = record {
  balance = a.balance + credited_win setup win;
  totals = with_additions (win_additions win) a.totals;
}

-- a total is so small that an amount below 2^63 fits on top of it
abbrev pub HasRoomAt : Meter → Money → Type 0
HasRoomAt m a = slice_index a.totals (meter_place m) < 2 ^ 63
