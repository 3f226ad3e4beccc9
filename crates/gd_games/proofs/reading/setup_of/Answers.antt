use Rattle.std.proofs.Common.{nat_le, ◌&&◌, arith}
use Rattle.gd_base.proofs.BoolTests.{is_within}
use Rattle.gd_base.specs.declared.limits.TheConstants.{MOST_AMOUNT, MOST_COIN, MOST_DENOM, MOST_HOPPER_LIMIT}
use Rattle.gd_base.specs.Judging.Product.{both_hold}
use Rattle.gd_games.proofs.Kept.{bills_kept, credits_kept, limited, pays_kept, strips_kept}
use Rattle.gd_games.proofs.reading.setup_of.Goals as goal

pub invariant_of-result : goal.invariant_of-result
invariant_of-result c =
    let own = c.built_in-own.result in
    let denom = c.limit_at-denom in
    let credit = c.limit_at in
    let handpay = c.limit_at-2 in
    let gamble = c.limit_at-3 in
    let coin = c.limit_at-4 in
    let hopper = c.limit_at-5 in
    let vouchers = c.limit_at-6 in
    record {
      has_denom = limited 1 MOST_DENOM denom.result denom.ensures.low (omega (arith, denom.ensures.high, c.from-2.ensures));
      has_credit_limit = limited 1 MOST_AMOUNT credit.result credit.ensures.low credit.ensures.high;
      has_handpay_limit = limited 1 MOST_AMOUNT handpay.result handpay.ensures.low handpay.ensures.high;
      has_gamble_limit = is_within gamble.result _ gamble.ensures.high;
      has_bills = bills_kept c.bills_or-bill_count.result.1 c.bills_or-bill_count.result.0 _ _ c.value_at.ensures c.bills_or-bill_count.ensures.values c.bills_or-bill_count.ensures.count c.requires.bills;
      has_coin = limited 1 MOST_COIN coin.result coin.ensures.low coin.ensures.high;
      has_payout =
          both_hold (nat_le hopper.result MOST_HOPPER_LIMIT && nat_le 1 vouchers.result) (nat_le vouchers.result MOST_AMOUNT)
          (both_hold (nat_le hopper.result MOST_HOPPER_LIMIT) (nat_le 1 vouchers.result) (is_within hopper.result MOST_HOPPER_LIMIT hopper.ensures.high) (is_within 1 vouchers.result vouchers.ensures.low))
          (is_within vouchers.result MOST_AMOUNT vouchers.ensures.high);
      has_strips = strips_kept own.strips c.strips_or.result _ _ c.value_in-2.ensures c.strips_or.ensures own.has_strips c.requires.strips;
      has_pays = pays_kept own.reel_pays c.pays_or.result _ _ c.value_in-3.ensures c.pays_or.ensures own.has_pays c.requires.pays;
      has_prizes = credits_kept 5 own.prizes c.prizes_or.result _ _ c.value_in-4.ensures c.prizes_or.ensures own.has_prizes c.requires.prizes;
      has_poker_pays = credits_kept 9 own.poker_pays c.hand_pays_or.result _ _ c.value_in-6.ensures c.hand_pays_or.ensures own.has_poker_pays c.requires.poker;
    }
