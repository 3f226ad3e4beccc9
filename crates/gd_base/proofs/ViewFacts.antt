-- For callers: the rules of a view, and those that name its setup, each under a name. Both ways, so that no proof counts
-- the places of tests in a list.
use Rattle.std.specs.Prelude.{◌≡◌, ◌+◌, ◌*◌, ◌≤◌, ◌==◌, nat_le, nat_lt, true, not, ◌&&◌, length, map, drop}
use Rattle.std.specs.List.{list_all}
use Rattle.gd_base.specs.declared.limits.TheConstants.{MOST_AMOUNT, MOST_ENTRIES}
use Rattle.gd_base.specs.declared.play.StageOpen.{StageOpen}
use Rattle.gd_base.specs.declared.records.TheConstants.{PLAYS_KEPT, EVENTS_KEPT, BILLS_KEPT, VOUCHERS_KEPT}
use Rattle.gd_base.specs.declared.setup.Setup.{Setup}
use Rattle.gd_base.specs.Histories.View.{View}
use Rattle.gd_base.specs.Judging.Product.{both_hold}
use Rattle.gd_base.specs.Payloads.ViewRules.{is_possible, is_possible_under, view_rules, setup_rules, are_numbered, fall_from, play_limit, is_small_order, has_number, is_some_handpay, is_one_open, is_event, is_bill_record, is_voucher, is_play_record, is_open_record, is_open_as, income, outgo, is_coins, is_played, is_finished, is_in}
use Rattle.gd_base.proofs.BoolTests.{all_hold, all_told, at_most, both, is_equal, is_so, is_within}

pub record Possible (v : View) : Type 0 where
  pub digest_length : length v.digest ≡ 32
  pub digest_bytes : list_all (λ b. nat_lt b 256) v.digest ≡ true
  pub meters : length v.totals ≡ 16
  pub doors : length v.doors ≡ 4
  pub tilts : length v.tilts ≡ 6
  pub devices : length v.kept ≡ 9
  pub count : v.count ≤ MOST_ENTRIES
  pub numbered : are_numbered v ≡ true
  pub books : outgo v ≡ income v
  pub bound : income v ≤ v.count * MOST_AMOUNT
  pub counts : list_all (λ n. nat_le n v.count) (drop 9 v.totals) ≡ true
  pub orders : v.orders ≤ v.count
  pub plays_fall : fall_from (play_limit v v.play) (map (λ p. p.place) v.plays) ≡ true
  pub events_fall : fall_from (v.count + 1) (map (λ e. e.place) v.events) ≡ true
  pub bills_fall : fall_from (v.count + 1) (map (λ b. b.place) v.bills) ≡ true
  pub vouchers_fall : fall_from (v.count + 1) (map (λ r. r.place) v.vouchers) ≡ true
  pub plays_short : length v.plays ≤ PLAYS_KEPT
  pub events_short : length v.events ≤ EVENTS_KEPT
  pub bills_short : length v.bills ≤ BILLS_KEPT
  pub vouchers_short : length v.vouchers ≤ VOUCHERS_KEPT
  pub small_order : is_small_order v.order ≡ true
  pub order_number : has_number v.orders v.order ≡ true
  pub some_handpay : is_some_handpay v.handpay ≡ true
  pub one_open : is_one_open v ≡ true
  pub events : list_all is_event v.events ≡ true
  pub bills : list_all is_bill_record v.bills ≡ true
  pub vouchers : list_all is_voucher v.vouchers ≡ true
  pub plays : list_all is_play_record v.plays ≡ true
  pub play : is_open_as is_play_record v.play ≡ true
  pub play_placed : is_open_as (is_open_record v) v.play ≡ true

pub rules_of : (v : View) → is_possible v ≡ true → Possible v
rules_of v h =
    let t = all_told (view_rules v) h in
    let balanced = both (outgo v == income v) (nat_le (income v) (v.count * MOST_AMOUNT)) t.1.1.1.1.1.1.1.1.0 in
    let plays = fall_from (play_limit v v.play) (map (λ p. p.place) v.plays) in
    let events = fall_from (v.count + 1) (map (λ e. e.place) v.events) in
    let bills = fall_from (v.count + 1) (map (λ b. b.place) v.bills) in
    let vouchers = fall_from (v.count + 1) (map (λ r. r.place) v.vouchers) in
    let rest = t.1.1.1.1.1.1.1.1.1.1 in
    let first_three = both (plays && events && bills) vouchers rest.1.0 in
    let first_two = both (plays && events) bills first_three.0 in
    let first = both plays events first_two.0 in
    let short_plays = nat_le (length v.plays) PLAYS_KEPT in
    let short_events = nat_le (length v.events) EVENTS_KEPT in
    let short_bills = nat_le (length v.bills) BILLS_KEPT in
    let short_vouchers = nat_le (length v.vouchers) VOUCHERS_KEPT in
    let short_three = both (short_plays && short_events && short_bills) short_vouchers rest.1.1.0 in
    let short_two = both (short_plays && short_events) short_bills short_three.0 in
    let short_one = both short_plays short_events short_two.0 in
    let lists = rest.1.1.1.1.1.1.1 in
    record {
      digest_length = is_so (length v.digest) 32 t.0;
      digest_bytes = t.1.0;
      meters = is_so (length v.totals) 16 t.1.1.0;
      doors = is_so (length v.doors) 4 t.1.1.1.0;
      tilts = is_so (length v.tilts) 6 t.1.1.1.1.0;
      devices = is_so (length v.kept) 9 t.1.1.1.1.1.0;
      count = at_most v.count MOST_ENTRIES t.1.1.1.1.1.1.0;
      numbered = t.1.1.1.1.1.1.1.0;
      books = is_so (outgo v) (income v) balanced.0;
      bound = at_most (income v) (v.count * MOST_AMOUNT) balanced.1;
      counts = t.1.1.1.1.1.1.1.1.1.0;
      orders = at_most v.orders v.count rest.0;
      plays_fall = first.0;
      events_fall = first.1;
      bills_fall = first_two.1;
      vouchers_fall = first_three.1;
      plays_short = at_most (length v.plays) PLAYS_KEPT short_one.0;
      events_short = at_most (length v.events) EVENTS_KEPT short_one.1;
      bills_short = at_most (length v.bills) BILLS_KEPT short_two.1;
      vouchers_short = at_most (length v.vouchers) VOUCHERS_KEPT short_three.1;
      small_order = rest.1.1.1.0;
      order_number = rest.1.1.1.1.0;
      some_handpay = rest.1.1.1.1.1.0;
      one_open = rest.1.1.1.1.1.1.0;
      events = lists.0;
      bills = lists.1.0;
      vouchers = lists.1.1.0;
      plays = lists.1.1.1.0;
      play = lists.1.1.1.1.0;
      play_placed = lists.1.1.1.1.1.0;
    }

pub possible_of : (v : View) → Possible v → is_possible v ≡ true
possible_of v r =
    let balanced = both_hold (outgo v == income v) (nat_le (income v) (v.count * MOST_AMOUNT)) (is_equal (outgo v) (income v) r.books) (is_within (income v) (v.count * MOST_AMOUNT) r.bound) in
    let plays = fall_from (play_limit v v.play) (map (λ p. p.place) v.plays) in
    let events = fall_from (v.count + 1) (map (λ e. e.place) v.events) in
    let bills = fall_from (v.count + 1) (map (λ b. b.place) v.bills) in
    let vouchers = fall_from (v.count + 1) (map (λ r. r.place) v.vouchers) in
    let places = both_hold (plays && events && bills) vouchers (both_hold (plays && events) bills (both_hold plays events r.plays_fall r.events_fall) r.bills_fall) r.vouchers_fall in
    let short_plays = is_within (length v.plays) PLAYS_KEPT r.plays_short in
    let short_events = is_within (length v.events) EVENTS_KEPT r.events_short in
    let short_bills = is_within (length v.bills) BILLS_KEPT r.bills_short in
    let short_vouchers = is_within (length v.vouchers) VOUCHERS_KEPT r.vouchers_short in
    let short = both_hold _ _ (both_hold _ _ (both_hold _ _ short_plays short_events) short_bills) short_vouchers in
    all_hold (view_rules v) (
      is_equal (length v.digest) 32 r.digest_length,
      (
        r.digest_bytes,
        (
          is_equal (length v.totals) 16 r.meters,
          (
            is_equal (length v.doors) 4 r.doors,
            (
              is_equal (length v.tilts) 6 r.tilts,
              (
                is_equal (length v.kept) 9 r.devices,
                (
                  is_within v.count MOST_ENTRIES r.count,
                  (
                    r.numbered,
                    (
                      balanced,
                      (
                        r.counts,
                        (
                          is_within v.orders v.count r.orders,
                          (
                            places,
                            (
                              short,
                              (
                                r.small_order,
                                (
                                  r.order_number,
                                  (
                                    r.some_handpay,
                                    (
                                      r.one_open,
                                      (r.events, (r.bills, (r.vouchers, (r.plays, (r.play, (r.play_placed, tt)))))),
                                    ),
                                  ),
                                ),
                              ),
                            ),
                          ),
                        ),
                      ),
                    ),
                  ),
                ),
              ),
            ),
          ),
        ),
      ),
    )

-- ================ under a setup

pub record Fitting (setup : Setup) (v : View) : Type 0 where
  pub coins : is_coins setup v.order ≡ true
  pub plays : list_all (is_played setup) v.plays ≡ true
  pub play : is_open_as (is_played setup) v.play ≡ true
  pub finished : list_all (is_finished setup) v.plays ≡ true
  pub going : is_open_as (λ p. not (is_in setup p StageOpen.Ended)) v.play ≡ true

pub fitting_of : (setup : Setup) (v : View) → is_possible_under setup v ≡ true → Fitting setup v
fitting_of setup v h =
    let t = all_told (setup_rules setup v) h in
    record { coins = t.0; plays = t.1.0; play = t.1.1.0; finished = t.1.1.1.0; going = t.1.1.1.1.0 }

pub under_of : (setup : Setup) (v : View) → Fitting setup v → is_possible_under setup v ≡ true
under_of setup v f = all_hold (setup_rules setup v) (f.coins, (f.plays, (f.play, (f.finished, (f.going, tt)))))
