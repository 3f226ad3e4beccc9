-- Worked rows of texts, to be computed.
use Rattle.std.specs.Prelude.{◌≡◌, [], ◌∷◌, codes, take}
use Rattle.gd_base.specs.declared.event.Event.{Event}
use Rattle.gd_base.specs.declared.game.Game.{Game}
use Rattle.gd_base.specs.Setups.BuiltIn.{built_in_setup}
use Rattle.gd_base.specs.Examples.Histories.{view_of_events, no_words, first_bill, open_pick, picked, open_coins, empty_hopper, ace_low, gambles, cancelled, evening, cancel_done}
use Rattle.gd_base.specs.Texts.OfViews.{meters_text, state_text, recall_text, order_text, events_text}
use Rattle.gd_base.specs.Histories.View.{View}

-- a hand that is dealt from a block of zeros
abbrev pub open_hold : View
open_hold = view_of_events built_in_setup no_words (Event.Start ∷ Event.Bill 500 ∷ Event.Play Game.Poker 1 ∷ [])

-- the sixteen meters after one bill
pub record MetersText : Type 0 where
  pub one_bill : meters_text first_bill
      ≡ codes "BillIn 0000000500\nCoinIn 0000000000\nVoucherIn 0000000000\nWagered 0000000000\nWon 0000000000\nVoucherOut 0000000000\nCoinOut 0000000000\nHandWin 0000000000\nHandCancel 0000000000\nGamesPlayed 0000000000\nGamesWon 0000000000\nPowerUps 0000000001\nLogicOpen 0000000000\nMainOpen 0000000000\nCashboxOpen 0000000000\nDropOpen 0000000000\n"

-- states: an open pick, an open hold, after an empty hopper, and with a handpay of cancelled credit
pub record States : Type 0 where
  pub pick : state_text built_in_setup open_pick
      ≡ codes "credit 455\ncondition none\norder none\nhandpay none\nplay 1 block 1 reels bet 9 wager 45\nwindow SSSFC AFACF BEDEB\nstage pick win 0\n"
  pub hold : state_text built_in_setup open_hold
      ≡ codes "credit 495\ncondition none\norder none\nhandpay none\nplay 1 block 1 poker bet 1 wager 5\ndealt 2c 3c 4c 5c 6c\nstage hold win 0\n"
  pub hopper : state_text built_in_setup empty_hopper ≡ codes "credit 1900\ncondition hopper-empty\norder none\nhandpay none\nplay none\n"
  pub cancel : state_text built_in_setup cancelled ≡ codes "credit 0\ncondition handpay\norder none\nhandpay cancel 400000\nplay none\n"

-- an order to the hopper
pub record Orders : Type 0 where
  pub coins : order_text built_in_setup open_coins ≡ codes "order 1 hopper 79 coins 1975\n"

-- recalls: a pick, a straight flush with the ace below the two, and the newest of ten plays with its five gambles
pub record Recalls : Type 0 where
  pub pick : recall_text built_in_setup picked
      ≡ codes "recall 1\nplay 1 block 1 reels bet 9 wager 45\nwindow SSSFC AFACF BEDEB\npick 2 prize 90\nwin 450 before 500 after 905\n"
  pub straight : recall_text built_in_setup ace_low
      ≡ codes "recall 1\nplay 1 block 1 poker bet 5 wager 25\ndealt Ac 2c 3c 4c 5c\nheld 11111 final Ac 2c 3c 4c 5c straight-flush\nwin 1250 before 500 after 1725\n"
  pub gambles : take 240 (recall_text built_in_setup gambles)
      ≡ codes "recall 10\nplay 11 block 11 reels bet 1 wager 5\nwindow EWCFC FFFCF AEWEB\ngamble black 2c win 50\ngamble black 2c win 100\ngamble black 2c win 200\ngamble black 2c win 400\ngamble black 2c win 800\nwin 800 before 450 after 1245\nplay 10 block 10 re"

-- significant events, bills and vouchers of the evening, the newest first
pub record Logs : Type 0 where
  pub evening : events_text evening
      ≡ codes "events 6\n88 start\n87 tilt-cleared bill-jam\n86 tilt-raised bill-jam\n85 door-shut main\n84 door-opened main\n1 start\nbills 2\n3 1000\n2 2000\nvouchers 1\n90 out 1 7000\n"
  pub cancel : events_text cancel_done ≡ codes "events 3\n4 handpay-done 400000\n3 handpay-cancel 400000\n1 start\nbills 0\nvouchers 1\n2 in 1 400000\n"
