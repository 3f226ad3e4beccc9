-- What stands in a payload outside of the places of the lists: the fields of the head one after the other, zeros, and the
-- open play.
use Rattle.std.specs.Prelude.{ℕ, ◌-◌, Bool, List, ◌∷◌, ◌++◌, flat_map, replicate}
use Rattle.gd_base.specs.declared.layout.TheConstants.{LISTS_AT, LISTS_LEN, OPEN_AT, OPEN_PLAY_LEN}
use Rattle.gd_base.specs.declared.play.PlayRecord.{PlayRecord}
use Rattle.gd_base.specs.Histories.View.{View}
use Rattle.gd_base.specs.Payloads.Bytes.{eight, flags, filled_part, handpay_bytes, order_bytes, kept_bytes, open_bytes}
use Rattle.gd_base.specs.Payloads.ViewRules.{is_choice_value}

-- the head but for the numbers of the lists
abbrev pub fields_bytes : View → List ℕ
fields_bytes v =
    v.digest ++ eight v.count ++ eight v.balance ++ flat_map eight v.totals ++ flags v.doors ∷ flags v.tilts ∷ handpay_bytes v.handpay
    ++ order_bytes v.orders v.order ++ flat_map kept_bytes v.kept

-- what is behind the numbers of the lists, up to the first of the lists
abbrev pub open_part : View → List ℕ
open_part v = replicate (OPEN_AT - LISTS_AT - LISTS_LEN) 0 ++ filled_part OPEN_PLAY_LEN (open_bytes v.play)

abbrev pub outside_bytes : View → List ℕ
outside_bytes v = fields_bytes v ++ open_part v

-- a play's choice is one of its game
abbrev pub has_choice : PlayRecord → Bool
has_choice p = is_choice_value p.game p.choice
