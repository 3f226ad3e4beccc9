-- For callers: the next entry keeps all rules of a view. `all_kept` says it by the reply and the draw of the entry.
use Rattle.std.specs.Prelude.{◌≡◌, ℕ, ◌*◌, ◌<◌, ◌≤◌, ◌^◌, Bool, true, false, if◌then◌else◌, List, [], ◌∷◌, Option, Some, None, refl}
use Rattle.std.proofs.Common.{ap, sym, ◌∙◌, subst, arith}
use Rattle.gd_base.specs.declared.limits.TheConstants.{MOST_AMOUNT, MOST_ENTRIES}
use Rattle.gd_base.specs.declared.records.TheConstants.{PLAYS_KEPT, EVENTS_KEPT, BILLS_KEPT, VOUCHERS_KEPT}
use Rattle.gd_base.specs.declared.setup.Setup.{Setup}
use Rattle.gd_base.specs.Histories.Entry.{Entry}
use Rattle.gd_base.specs.Histories.View.{View}
use Rattle.gd_base.specs.Histories.ViewOf.{with_entry}
use Rattle.gd_base.specs.Judging.Answer.{IsDraw}
use Rattle.gd_base.specs.Judging.Draws.{is_drawn, next_index}
use Rattle.gd_base.specs.Judging.Legal.{view_over}
use Rattle.gd_base.specs.Judging.Product.{machine}
use Rattle.gd_base.specs.Judging.Rule.{rule}
use Rattle.gd_base.specs.Laws.Preserved.{HasWidths, KeepsAllRules, KeepsAllRulesOver}
use Rattle.gd_base.specs.Outside.Blocks.{IsBlock}
use Rattle.gd_base.specs.Payloads.ViewRules.{is_possible, is_possible_under, income, outgo}
use Rattle.gd_base.proofs.PreservedLemmas.AfterPlays.{plays_kept}
use Rattle.gd_base.proofs.PreservedLemmas.Counts.{counts_kept}
use Rattle.gd_base.proofs.PreservedLemmas.Handpay.{handpay_kept}
use Rattle.gd_base.proofs.PreservedLemmas.MostAdded.{bound_kept, posted_most}
use Rattle.gd_base.proofs.PreservedLemmas.Moved.{HasBlock}
use Rattle.gd_base.proofs.PreservedLemmas.Notes.{events_pass, bills_pass, vouchers_pass}
use Rattle.gd_base.proofs.PreservedLemmas.OnlyOneOpen.{one_open_kept}
use Rattle.gd_base.proofs.PreservedLemmas.Order.{order_kept}
use Rattle.gd_base.proofs.PreservedLemmas.Places.{events_fall, bills_fall, vouchers_fall}
use Rattle.gd_base.proofs.PreservedLemmas.Sums.{books_kept, coins_kept}
use Rattle.gd_base.proofs.PreservedLemmas.Widths.{orders_kept, devices_kept, short}
use Rattle.gd_base.proofs.ViewFacts.{Possible, rules_of, possible_of, Fitting, fitting_of, under_of}

balance_short : (w : View) → w.count ≤ MOST_ENTRIES → outgo w ≡ income w → income w ≤ w.count * MOST_AMOUNT → w.balance < 2 ^ 64
balance_short w room books bound = omega (arith, room, books, bound)

-- an entry whose reply is the rule's, on a block at the next index where it draws one
module _ (setup : Setup) (v : View) (e : Entry) (h : is_possible v ≡ true) (k : is_possible_under setup v ≡ true) (room : v.count < MOST_ENTRIES) (wide : HasWidths e.event) (judged : e.reply ≡ rule setup v e.event) (drawn : IsDraw (is_drawn setup v e.event) (next_index v) e.draw) (block : HasBlock e.draw) where
  abbrev next : View
  next = with_entry setup v e

  both_kept : Possible next × Fitting setup next
  both_kept =
      let r = rules_of v h in
      let f = fitting_of setup v k in
      let count : next.count ≤ MOST_ENTRIES = omega (arith, room) in
      let books = books_kept setup v e h k judged in
      let bound = bound_kept setup v e r f judged drawn block in
      let plays = plays_kept setup v e r f judged drawn block (balance_short next count books bound) in
      let order = order_kept setup v e judged (r.small_order, r.order_number) in (
        record {
          digest_length = r.digest_length;
          digest_bytes = r.digest_bytes;
          meters = refl;
          doors = refl;
          tilts = refl;
          devices = refl;
          count = count;
          numbered = devices_kept setup v e r.devices r.numbered;
          books = books;
          bound = bound;
          counts = counts_kept setup v e r.meters r.counts;
          orders = orders_kept setup v e r.orders;
          plays_fall = plays.fall;
          events_fall = events_fall setup v e r.events_fall;
          bills_fall = bills_fall setup v e r.bills_fall;
          vouchers_fall = vouchers_fall setup v e r.vouchers_fall;
          plays_short = short PLAYS_KEPT _;
          events_short = short EVENTS_KEPT _;
          bills_short = short BILLS_KEPT _;
          vouchers_short = short VOUCHERS_KEPT _;
          small_order = order.0;
          order_number = order.1;
          some_handpay = handpay_kept setup v e judged r.some_handpay;
          one_open = one_open_kept setup v e judged r.one_open;
          events = events_pass setup v e r (λ taken. let most = posted_most setup v e r f drawn block (sym judged ∙ taken) in omega (arith, most));
          bills = bills_pass setup v e r judged;
          vouchers = vouchers_pass setup v e r wide judged;
          plays = plays.records;
          play = plays.open_record;
          play_placed = plays.open_placed;
        },
        record { coins = coins_kept setup v e h k; plays = plays.played; play = plays.open_played; finished = plays.finished; going = plays.going },
      )

  pub all_kept : (is_possible next ≡ true) × (is_possible_under setup next ≡ true)
  all_kept = let t = both_kept in (possible_of next t.0, under_of setup next t.1)

-- the draw of the next entry is such
draw_if : (b : Bool) (index : ℕ) (words : List ℕ) → IsDraw b index (if b then Some (index, words) else None)
draw_if true index words = refl
draw_if false index words = refl

block_if : (b : Bool) (index : ℕ) (words : List ℕ) → IsBlock words → HasBlock (if b then Some (index, words) else None)
block_if true index words is = is
block_if false index words is = tt

pub keeps_all_rules : KeepsAllRules
keeps_all_rules setup digest spelled blocks lap v e are wide h k next =
    let b = is_drawn setup v e.event in
    let index = next_index v in
    let draw = sym (ap (λ (y : Entry). y.draw) next.made) in
    all_kept setup v e h k next.room wide (ap (λ (y : Entry). y.reply) next.made)
    (subst (λ (d : Option (ℕ × List ℕ)). IsDraw b index d) draw (draw_if b index (blocks lap index)))
    (subst HasBlock draw (block_if b index (blocks lap index) (are lap index)))

-- and so entry by entry
pub keeps_all_rules_over : KeepsAllRulesOver
keeps_all_rules_over setup digest spelled blocks lap opening [] are wide h k legal = (h, k)
keeps_all_rules_over setup digest spelled blocks lap opening (e ∷ past) are wide h k legal =
    let t = keeps_all_rules_over setup digest spelled blocks lap opening past are wide.1 h k legal.1 in
    keeps_all_rules setup digest spelled blocks lap (view_over (machine setup digest spelled) opening past) e are wide.0 t.0 t.1 legal.0
