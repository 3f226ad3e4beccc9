-- What the win of a play adds fits on top of the money of a machine, before and after its wager.
use Rattle.std.proofs.Common.{◌≡◌, ◌<◌, ◌^◌, ◌∙◌, ap, sym, subst, refl, ℕ, List, arith}
use Rattle.std.specs.Prelude.{slice_index}
use Rattle.gd_base.specs.declared.meter.Meter.{Meter}
use Rattle.gd_base.specs.declared.setup.Setup.{Setup}
use Rattle.gd_base.specs.Histories.Meters.{with_one}
use Rattle.gd_base.specs.Histories.View.{View}
use Rattle.gd_base.proofs.PayloadLemmas.Itself.{numbers_by, by_places}
use Rattle.gd_account.specs.Money.{Money, with_wager, HasRoomAt}
use Rattle.gd_machine.specs.Words.{IsWhole}
use Rattle.gd_machine.proofs.PlaysSettled.{money_of}
use Rattle.gd_machine.proofs.Wholes.{facts_of}

pub record HasRoom (a : Money) : Type 0 where
  pub balance : a.balance < 2 ^ 63
  pub won : HasRoomAt Meter.Won a
  pub games : HasRoomAt Meter.GamesWon a

pub has_room : (setup : Setup) (v : View) → IsWhole setup v → HasRoom (money_of v)
has_room setup v whole = let f = facts_of setup v whole in record { balance = f.balance; won = f.totals Meter.Won; games = f.totals Meter.GamesWon }

-- a wager is added at other meters
abbrev spent : ℕ → List ℕ → List ℕ
spent cents totals = with_one Meter.GamesPlayed 1 (with_one Meter.Wagered cents totals)

other_meter : (setup : Setup) (v : View) (cents place total : ℕ) → IsWhole setup v → slice_index (spent cents (numbers_by 16 (slice_index v.totals))) place ≡ total → slice_index (spent cents v.totals) place ≡ total
other_meter setup v cents place total whole same = ap (λ (ts : List ℕ). slice_index (spent cents ts) place) (sym (by_places 16 v.totals (facts_of setup v whole).rules.meters)) ∙ same

pub room_after : (setup : Setup) (v : View) (cents : ℕ) (a : Money) → IsWhole setup v → a ≡ with_wager cents (money_of v) → HasRoom a
room_after setup v cents a whole is =
    let f = facts_of setup v whole in
    let balance = f.balance in
    let won = other_meter setup v cents 4 (slice_index v.totals 4) whole refl in
    let games = other_meter setup v cents 10 (slice_index v.totals 10) whole refl in
    let was_won = f.totals Meter.Won in
    let was_games = f.totals Meter.GamesWon in
    subst HasRoom (sym is) (record { balance = omega (arith, balance); won = omega (arith, won, was_won); games = omega (arith, games, was_games) })
