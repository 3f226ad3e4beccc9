-- Rules of a view that one entry more keeps, further: an entry adds at most the greatest amount to what came in and was
-- won.
use Rattle.std.specs.Prelude.{◌≡◌, ℕ, ◌+◌, ◌*◌, ◌≤◌, ◌==◌, ◌&&◌, nat_le, Bool, true, false, if◌then◌else◌, List, [], Option, Some, None, option_map, IfSome}
use Rattle.std.proofs.Common.{sym, arith, refl}
use Rattle.std.proofs.lemmas.Bool.Decides.{nat_tests}
use Rattle.gd_base.specs.declared.condition.Door.{Door}
use Rattle.gd_base.specs.declared.event.Event.{Event}
use Rattle.gd_base.specs.declared.limits.TheConstants.{MOST_AMOUNT}
use Rattle.gd_base.specs.declared.meter.Meter.{Meter}
use Rattle.gd_base.specs.declared.refusal.Refusal.{Refusal}
use Rattle.gd_base.specs.declared.refusal.Reply.{Reply}
use Rattle.gd_base.specs.declared.setup.Setup.{Setup}
use Rattle.gd_base.specs.Histories.Entry.{Entry}
use Rattle.gd_base.specs.Histories.Rounds.{Round, round_of, round_stage, moved_round, is_over, ended_by, win_of}
use Rattle.gd_base.specs.Histories.View.{View}
use Rattle.gd_base.specs.Histories.ViewOf.{from_view, with_entry}
use Rattle.gd_base.specs.Judging.Answer.{IsDraw}
use Rattle.gd_base.specs.Judging.Draws.{is_drawn, next_index}
use Rattle.gd_base.specs.Judging.Rule.{rule, refusals, is_bill}
use Rattle.gd_base.specs.Payloads.ViewRules.{income, play_limit}
use Rattle.gd_base.proofs.BooksLemmas.Books.{amount, plain, to_won, none_won, confirmed, win_by}
use Rattle.gd_base.proofs.BooksLemmas.Enabled.{bill_small}
use Rattle.gd_base.proofs.BooksLemmas.LegalBooks.{AreNone, told, is_so}
use Rattle.gd_base.proofs.BoolTests.{at_most, both}
use Rattle.gd_base.proofs.PreservedLemmas.Moved.{Onto, HasBlock, moved}
use Rattle.gd_base.proofs.PreservedLemmas.PlayRules.{win_most}
use Rattle.gd_base.proofs.ViewFacts.{Possible, Fitting}

-- ================ a posted win

win_if : (setup : Setup) (r : Round) (over : Bool) → (round_stage setup r).win ≤ 9000000 → win_of setup (if over then Some r else None) ≤ 9000000
win_if setup r true le = le
win_if setup r false le = omega arith

win_posted : (setup : Setup) (limit count : ℕ) (event : Event) (m : Option Round) → IfSome m (Onto setup limit count event) → win_of setup (ended_by setup event m) ≤ 9000000
win_posted setup limit count event None o = omega arith
win_posted setup limit count event (Some r) o = win_if setup r (is_over setup event r) (win_most setup r o.order)

posted_by : (setup : Setup) (v : View) (number : ℕ) (event : Event) (draw : Option (ℕ × List ℕ))
    → IfSome (moved_round (v.count + 1) draw (option_map round_of v.play) event) (Onto setup (play_limit v v.play) (v.count + 1) event)
    → win_by (from_view setup v) number event draw [] ≤ 9000000
posted_by setup v number event draw o =
    win_posted setup (play_limit v v.play) (v.count + 1) event (moved_round (v.count + 1) draw (option_map round_of v.play) event) o

-- ================ one event

-- what a taken event adds to what came in, with the win that it posts
abbrev added : Setup → View → ℕ → Event → Option (ℕ × List ℕ) → ℕ
added setup v number event draw =
    let o = from_view setup v in
    amount o [] event Meter.BillIn + amount o [] event Meter.CoinIn + amount o [] event Meter.VoucherIn + win_by o number event draw []

added_most : (setup : Setup) (v : View) (number : ℕ) (event : Event) (draw : Option (ℕ × List ℕ)) → rule setup v event ≡ Reply.Taken
    → IfSome (moved_round (v.count + 1) draw (option_map round_of v.play) event) (Onto setup (play_limit v v.play) (v.count + 1) event)
    → added setup v number event draw ≤ MOST_AMOUNT
added_most setup v number (Event.Bill value) draw h o =
    let t : AreNone (refusals setup v (Event.Bill value)) = told setup v (Event.Bill value) h in
    let small = bill_small setup value (is_so (is_bill setup value) Refusal.ValueNotEnabled t.1.1.0) in
    omega (arith, small)
added_most setup v number (Event.Coin value) draw h o =
    let t : AreNone (refusals setup v (Event.Coin value)) = told setup v (Event.Coin value) h in
    let same = is_so (value == setup.coin) Refusal.ValueNotEnabled t.1.1.0 in
    let small : value ≤ 10000 = grind (arith, nat_tests, same, setup.has_coin) in
    omega (arith, small)
added_most setup v number (Event.VoucherIn id value) draw h o =
    let t : AreNone (refusals setup v (Event.VoucherIn id value)) = told setup v (Event.VoucherIn id value) h in
    let small = at_most value MOST_AMOUNT (both (nat_le 1 value) (nat_le value MOST_AMOUNT) (is_so (nat_le 1 value && nat_le value MOST_AMOUNT) Refusal.ValueNotEnabled t.1.1.0)).1 in
    omega (arith, small)
added_most setup v number Event.HandpayDone draw h o = let none = (confirmed v.handpay).1 in omega (arith, none)
added_most setup v number (Event.DoorOpen Door.Logic) draw h o = omega arith
added_most setup v number (Event.DoorOpen Door.Main) draw h o = omega arith
added_most setup v number (Event.DoorOpen Door.Cashbox) draw h o = omega arith
added_most setup v number (Event.DoorOpen Door.Drop) draw h o = omega arith
added_most setup v number (Event.Play game bet) draw h o = let most = posted_by setup v number (Event.Play game bet) draw o in omega (arith, most)
added_most setup v number (Event.Pick door) draw h o = let most = posted_by setup v number (Event.Pick door) draw o in omega (arith, most)
added_most setup v number (Event.Hold mask) draw h o = let most = posted_by setup v number (Event.Hold mask) draw o in omega (arith, most)
added_most setup v number (Event.Gamble colour) draw h o = let most = posted_by setup v number (Event.Gamble colour) draw o in omega (arith, most)
added_most setup v number Event.Take draw h o = let most = posted_by setup v number Event.Take draw o in omega (arith, most)
added_most setup v number _ draw h o = omega arith

-- ================ one entry more

abbrev entry : ℕ → Event → Option (ℕ × List ℕ) → Reply → Entry
entry number event draw reply = record { number = number; event = event; draw = draw; reply = reply }

bound_if : (setup : Setup) (v : View) (number : ℕ) (event : Event) (draw : Option (ℕ × List ℕ)) (reply : Reply) → Possible v → Fitting setup v → reply ≡ rule setup v event
    → IsDraw (is_drawn setup v event) (next_index v) draw → HasBlock draw → income (with_entry setup v (entry number event draw reply)) ≤ income v + MOST_AMOUNT
bound_if setup v number event draw Reply.Taken r f h drawn block =
    let o = from_view setup v in
    let win = win_by o number event draw [] in
    let most = added_most setup v number event draw (sym h) (moved setup v draw event r f (sym h) drawn block) in
    omega (
      arith,
      most,
      plain o [] win event Meter.BillIn refl refl,
      plain o [] win event Meter.CoinIn refl refl,
      plain o [] win event Meter.VoucherIn refl refl,
      to_won o [] win event,
      none_won o [] event,
    )
bound_if setup v number event draw (Reply.Refused why) r f h drawn block = omega arith

pub bound_kept : (setup : Setup) (v : View) (e : Entry) → Possible v → Fitting setup v → e.reply ≡ rule setup v e.event
    → IsDraw (is_drawn setup v e.event) (next_index v) e.draw → HasBlock e.draw → income (with_entry setup v e) ≤ (with_entry setup v e).count * MOST_AMOUNT
bound_kept setup v e r f h drawn block =
    let bound = r.bound in
    let more = bound_if setup v e.number e.event e.draw e.reply r f h drawn block in
    omega (arith, bound, more)

-- the win that a taken entry posts
pub posted_most : (setup : Setup) (v : View) (e : Entry) → Possible v → Fitting setup v → IsDraw (is_drawn setup v e.event) (next_index v) e.draw → HasBlock e.draw
    → rule setup v e.event ≡ Reply.Taken → win_by (from_view setup v) e.number e.event e.draw [] ≤ 9000000
posted_most setup v e r f drawn block taken = posted_by setup v e.number e.event e.draw (moved setup v e.draw e.event r f taken drawn block)
