-- What a view that keeps all rules tells of its numbers.
use Rattle.std.proofs.Common.{◌≡◌, ℕ, ◌≤◌, ◌<◌, ◌^◌, nat_le, List, [], ◌∷◌, length, drop, slice_index, true, arith}
use Rattle.std.specs.List.{list_all}
use Rattle.gd_base.specs.declared.limits.TheConstants.{MOST_ENTRIES}
use Rattle.gd_base.specs.declared.meter.Meter.{Meter}
use Rattle.gd_base.specs.declared.setup.Setup.{Setup}
use Rattle.gd_base.specs.Histories.Credit.{order_amount}
use Rattle.gd_base.specs.Histories.Meters.{handpay_amount}
use Rattle.gd_base.specs.Histories.Numbers.{meter_place}
use Rattle.gd_base.specs.Histories.View.{View}
use Rattle.gd_base.specs.Histories.ViewOf.{IsItself}
use Rattle.gd_base.proofs.BoolTests.{at_most, both}
use Rattle.gd_base.proofs.PayloadLemmas.Itself.{possible-itself}
use Rattle.gd_base.proofs.ViewFacts.{Possible, rules_of, Fitting, fitting_of}
use Rattle.gd_machine.specs.Words.{IsWhole}

-- the seven counts are at most the entries
counts_below : (count : ℕ) (totals : List ℕ) → length totals ≡ 16 → list_all (λ n. nat_le n count) (drop 9 totals) ≡ true
    → (slice_index totals 9 ≤ count) × (slice_index totals 10 ≤ count) × (slice_index totals 11 ≤ count) × (slice_index totals 12 ≤ count) × (slice_index totals 13 ≤ count)
    × (slice_index totals 14 ≤ count) × (slice_index totals 15 ≤ count)
counts_below count (a ∷ b ∷ c ∷ d ∷ e ∷ f ∷ g ∷ h ∷ i ∷ j ∷ k ∷ l ∷ m ∷ n ∷ o ∷ p ∷ []) len all =
    let t1 = both (nat_le j count) _ all in
    let t2 = both (nat_le k count) _ t1.1 in
    let t3 = both (nat_le l count) _ t2.1 in
    let t4 = both (nat_le m count) _ t3.1 in
    let t5 = both (nat_le n count) _ t4.1 in
    let t6 = both (nat_le o count) _ t5.1 in
    let t7 = both (nat_le p count) _ t6.1 in
    (at_most j count t1.0, at_most k count t2.0, at_most l count t3.0, at_most m count t4.0, at_most n count t5.0, at_most o count t6.0, at_most p count t7.0)
counts_below count _ len all = absurd (omega (arith, len))

-- so each total has room for one entry more
small_total : (v : View) → Possible v → (m : Meter) → slice_index v.totals (meter_place m) < 2 ^ 63
small_total v r Meter.BillIn = let room = r.count in let bound = r.bound in omega (arith, room, bound)
small_total v r Meter.CoinIn = let room = r.count in let bound = r.bound in omega (arith, room, bound)
small_total v r Meter.VoucherIn = let room = r.count in let bound = r.bound in omega (arith, room, bound)
small_total v r Meter.Won = let room = r.count in let bound = r.bound in omega (arith, room, bound)
small_total v r Meter.Wagered = let room = r.count in let bound = r.bound in let books = r.books in omega (arith, room, bound, books)
small_total v r Meter.VoucherOut = let room = r.count in let bound = r.bound in let books = r.books in omega (arith, room, bound, books)
small_total v r Meter.CoinOut = let room = r.count in let bound = r.bound in let books = r.books in omega (arith, room, bound, books)
small_total v r Meter.HandWin = let room = r.count in let bound = r.bound in let books = r.books in omega (arith, room, bound, books)
small_total v r Meter.HandCancel = let room = r.count in let bound = r.bound in let books = r.books in omega (arith, room, bound, books)
small_total v r Meter.GamesPlayed = let room = r.count in let le = (counts_below v.count v.totals r.meters r.counts).0 in omega (arith, room, le)
small_total v r Meter.GamesWon = let room = r.count in let le = (counts_below v.count v.totals r.meters r.counts).1 in omega (arith, room, le)
small_total v r Meter.PowerUps = let room = r.count in let le = (counts_below v.count v.totals r.meters r.counts).2 in omega (arith, room, le)
small_total v r Meter.LogicOpen = let room = r.count in let le = (counts_below v.count v.totals r.meters r.counts).3 in omega (arith, room, le)
small_total v r Meter.MainOpen = let room = r.count in let le = (counts_below v.count v.totals r.meters r.counts).4 in omega (arith, room, le)
small_total v r Meter.CashboxOpen = let room = r.count in let le = (counts_below v.count v.totals r.meters r.counts).5 in omega (arith, room, le)
small_total v r Meter.DropOpen = let room = r.count in let le = (counts_below v.count v.totals r.meters r.counts).6 in omega (arith, room, le)

-- the rules by name, and that all numbers have room
pub record Facts (setup : Setup) (v : View) : Type 0 where
  pub rules : Possible v
  pub under : Fitting setup v
  pub itself : IsItself setup v
  pub count : v.count ≤ MOST_ENTRIES
  pub balance : v.balance < 2 ^ 63
  pub ordered : order_amount v.order < 2 ^ 63
  pub held : handpay_amount v.handpay < 2 ^ 63
  pub totals : (m : Meter) → slice_index v.totals (meter_place m) < 2 ^ 63

pub facts_of : (setup : Setup) (v : View) → IsWhole setup v → Facts setup v
facts_of setup v whole =
    let r = rules_of v whole.possible in
    let room = r.count in
    let books = r.books in
    let bound = r.bound in
    record {
      rules = r;
      under = fitting_of setup v whole.under;
      itself = possible-itself setup v whole.possible whole.under;
      count = room;
      balance = omega (arith, room, books, bound);
      ordered = omega (arith, room, books, bound);
      held = omega (arith, room, books, bound);
      totals = small_total v r;
    }
