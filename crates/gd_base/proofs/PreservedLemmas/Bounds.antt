-- For callers: what the rules of a view bound. Counts are at most the entries, and amounts fit their widths.
use Rattle.std.specs.Prelude.{◌≡◌, ℕ, ◌<◌, ◌≤◌, ◌^◌, nat_le, true, List, drop, slice_index}
use Rattle.std.specs.List.{list_all}
use Rattle.std.proofs.Common.{ap, ◌∙◌, arith}
use Rattle.gd_base.specs.Histories.Credit.{order_amount}
use Rattle.gd_base.specs.Histories.Meters.{handpay_amount}
use Rattle.gd_base.specs.Histories.View.{View}
use Rattle.gd_base.proofs.BoolTests.{at_most, both}
use Rattle.gd_base.proofs.PayloadLemmas.Itself.{numbers_by, by_places}
use Rattle.gd_base.proofs.ViewFacts.{Possible}

-- plays and starts
pub record AreCounted (v : View) : Type 0 where
  pub plays : slice_index v.totals 9 ≤ v.count
  pub starts : slice_index v.totals 11 ≤ v.count

pub counted : (v : View) → Possible v → AreCounted v
counted v r =
    let c = v.count in
    let t = slice_index v.totals in
    let all : list_all (λ n. nat_le n c) (drop 9 (numbers_by 16 t)) ≡ true = ap (λ (ts : List ℕ). list_all (λ n. nat_le n c) (drop 9 ts)) (by_places 16 v.totals r.meters) ∙ r.counts in
    let plays = both (nat_le (t 9) c) _ all in
    let wins = both (nat_le (t 10) c) _ plays.1 in
    let starts = both (nat_le (t 11) c) _ wins.1 in
    record { plays = at_most (t 9) c plays.0; starts = at_most (t 11) c starts.0 }

-- the balance, what is ordered and what is held
pub record AreAmounts (v : View) : Type 0 where
  pub balance : v.balance < 2 ^ 64
  pub ordered : order_amount v.order < 2 ^ 64
  pub held : handpay_amount v.handpay < 2 ^ 64

pub amounts : (v : View) → Possible v → AreAmounts v
amounts v r =
    let room = r.count in
    let books = r.books in
    let bound = r.bound in
    record { balance = omega (arith, room, books, bound); ordered = omega (arith, room, books, bound); held = omega (arith, room, books, bound) }
