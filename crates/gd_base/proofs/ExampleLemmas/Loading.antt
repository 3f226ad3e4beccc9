-- Worked rows of what payloads spell, by computation.
use Rattle.std.specs.Prelude.{refl}
use Rattle.gd_base.specs.Examples.Loading.{AreShown, AreForeign, OneByte, NoneSpelled}
use Rattle.gd_base.specs.Payloads.ListsIn.{lists_in}
use Rattle.gd_base.specs.Payloads.Loading.{found_in, spelled}
use Rattle.gd_base.specs.Payloads.Reading.{number_at, short_at, two_at, reply_of}

pub are_shown : AreShown
unfolding spelled found_in number_at short_at two_at reply_of
are_shown = record { of_empty = refl; of_bill = refl; of_pick = refl; of_order = refl; of_handpay = refl; of_evening = refl }

pub are_foreign : AreForeign
unfolding spelled found_in number_at short_at two_at reply_of
are_foreign = record { of_empty = refl; of_wager = refl; of_wager_here = refl }

pub one_byte : OneByte
unfolding spelled found_in number_at short_at two_at reply_of
one_byte = record { main_door = refl; hopper_empty = refl; digest = refl }

pub none_spelled : NoneSpelled
unfolding spelled found_in lists_in number_at short_at two_at reply_of
none_spelled = record {
  count = refl;
  balance = refl;
  door_bit = refl;
  tilt_bit = refl;
  handpay_kind = refl;
  handpay_zero = refl;
  order_kind = refl;
  reply_kind = refl;
  one_play = refl;
  many_bills = refl;
  head_zero = refl;
  open_play = refl;
  list_zero = refl;
  last_zero = refl;
  elsewhere = refl;
  longer = refl;
  no_lists_of_longer = refl;
}
