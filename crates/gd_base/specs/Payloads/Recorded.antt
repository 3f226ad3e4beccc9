-- Which lists a payload can have: what is asked of each record, and of the places of a list.
use Rattle.std.specs.Prelude.{ℕ, ◌^◌, Bool, ◌&&◌, nat_le, nat_lt, List, map, drop}
use Rattle.std.specs.List.{list_all}
use Rattle.gd_base.specs.declared.play.PlayRecord.{PlayRecord}
use Rattle.gd_base.specs.declared.records.EventRecord.{EventRecord}
use Rattle.gd_base.specs.Payloads.ViewRules.{all_true, fall_from, record_rules, is_bill_record, is_voucher}
use Rattle.gd_base.specs.Payloads.Lists.{Lists}

-- the rules of a play's record but the first, which is on its bet
abbrev pub recorded_play_rules : PlayRecord → List Bool
recorded_play_rules p = drop 1 (record_rules p)

abbrev pub is_recorded_play : PlayRecord → Bool
is_recorded_play p = all_true (recorded_play_rules p)

-- the code is one of the list; which details go with it isn't asked
abbrev pub is_recorded_event : EventRecord → Bool
is_recorded_event e = nat_le 1 e.code && nat_le e.code 8 && nat_lt e.detail (2 ^ 64)

-- each record passes its test, and places fall from the newest on and are at least 1
abbrev pub are_listed : {A : Type 0} → (A → Bool) → (A → ℕ) → List A → Bool
are_listed test place xs = list_all test xs && fall_from (2 ^ 64) (map place xs)

abbrev pub are_recorded : Lists → Bool
are_recorded l =
    are_listed is_recorded_play (λ p. p.place) l.plays && are_listed is_recorded_event (λ e. e.place) l.events
    && are_listed is_bill_record (λ b. b.place) l.bills && are_listed is_voucher (λ v. v.place) l.vouchers
