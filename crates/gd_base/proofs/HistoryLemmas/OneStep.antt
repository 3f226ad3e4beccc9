-- The view before an entry and the entry determine the view after it: the view is all that has to be kept.
use Rattle.std.specs.Prelude.{◌≡◌, ℕ, List, [], ◌∷◌, ◌++◌, map, take, sum_by, ◌+◌, if◌then◌else◌, Option, Some, None, option_map, refl}
use Rattle.std.proofs.Common.{ap, sym, ◌∙◌, arith}
use Rattle.std.proofs.lemmas.List.{take-take}
use Rattle.gd_base.specs.declared.records.TheConstants.{PLAYS_KEPT, EVENTS_KEPT, BILLS_KEPT, VOUCHERS_KEPT}
use Rattle.gd_base.specs.declared.event.Event.{Event}
use Rattle.gd_base.specs.declared.refusal.Reply.{Reply}
use Rattle.gd_base.specs.declared.setup.Setup.{Setup}
use Rattle.gd_base.specs.Histories.Credit.{balance, orders, open_order, balance_after}
use Rattle.gd_base.specs.Histories.Entry.{Entry, is_taken}
use Rattle.gd_base.specs.Histories.History.{Origin, notes_over, with_note, or_else, taken_statement, next_place}
use Rattle.gd_base.specs.Histories.Meters.{meters, meter, additions, share, open_handpay, says_handpay}
use Rattle.gd_base.specs.Histories.Recall.{plays, events, bills, vouchers, play_record, play_start, play_start_of, says_start, ended_play, open_play, significant, event_noted, bill_noted, voucher_noted}
use Rattle.gd_base.specs.Histories.Rounds.{Round, round_of, open_round, open_after, ended_after, win_of, posted_win}
use Rattle.gd_base.specs.Histories.ViewOf.{view_after, from_view, with_entry}
use Rattle.gd_base.proofs.HistoryLemmas.OneMore.{take-with_note, plays-more, events-more}

-- a history that begins at the view that another one ends with
abbrev pub reopened : Origin → List Entry → Origin
reopened o past = from_view o.setup (view_after o past)

pub round_of-play_record : (setup : Setup) (start : ℕ × ℕ) (after : ℕ) (x : Option Round) → option_map round_of (option_map (play_record setup start after) x) ≡ x
round_of-play_record setup start after None = refl
round_of-play_record setup start after (Some r) = refl

pub open_round-reopened : (o : Origin) (past : List Entry) → open_round (reopened o past) [] ≡ open_round o past
open_round-reopened o past = round_of-play_record o.setup (play_start o past) 0 (open_round o past)

pub posted-reopened : (o : Origin) (e : Entry) (past : List Entry) → posted_win (reopened o past) e [] ≡ posted_win o e past
posted-reopened o e past = ap (λ x. win_of o.setup (ended_after o.setup e (next_place o past) x)) (open_round-reopened o past)

pub balance-reopened : (o : Origin) (e : Entry) (past : List Entry) → balance (reopened o past) (e ∷ []) ≡ balance o (e ∷ past)
balance-reopened o e past = ap (λ w. balance_after o.setup e w (balance o past) (open_order o past)) (posted-reopened o e past)

pub handpay-reopened : (o : Origin) (e : Entry) (past : List Entry) → open_handpay (reopened o past) (e ∷ []) ≡ open_handpay o (e ∷ past)
handpay-reopened o e past =
    ap (λ w. or_else (if is_taken e.reply then says_handpay o.setup (balance o past) w e.event else None) (open_handpay o past)) (posted-reopened o e past)

pub totals-reopened : (o : Origin) (e : Entry) (past : List Entry) → map (λ m. meter (reopened o past) m (e ∷ [])) meters ≡ map (λ m. meter o m (e ∷ past)) meters
totals-reopened o e past =
    ap (λ w. map (λ m. meter o m past + (if is_taken e.reply then sum_by (share m) (additions o past w e.event) else 0)) meters) (posted-reopened o e past)

pub bills-reopened : (o : Origin) (e : Entry) (past : List Entry) → bills (reopened o past) (e ∷ []) ≡ bills o (e ∷ past)
bills-reopened o e past = sym (take-with_note 4 (taken_statement (bill_noted o) e past) (notes_over (bill_noted o) o.opening.bills past))

pub vouchers-reopened : (o : Origin) (e : Entry) (past : List Entry) → vouchers (reopened o past) (e ∷ []) ≡ vouchers o (e ∷ past)
vouchers-reopened o e past = sym (take-with_note 34 (taken_statement (voucher_noted o) e past) (notes_over (voucher_noted o) o.opening.vouchers past))

pub events-reopened : (o : Origin) (e : Entry) (past : List Entry) → events (reopened o past) (e ∷ []) ≡ events o (e ∷ past)
events-reopened o e past =
    ap (λ w. take EVENTS_KEPT (with_note (if is_taken e.reply then significant o past w e.event else None) (events o past))) (posted-reopened o e past)
    ∙ sym (events-more o e past)

-- The number of an open play and the balance before it are kept with it; with no play open nothing asks for them.
abbrev kept_start : Setup → ℕ × ℕ → Option Round → ℕ × ℕ
kept_start setup start x = play_start_of (option_map (play_record setup start 0) x)

abbrev start_after : Origin → List Entry → Reply → Event → ℕ × ℕ → ℕ × ℕ
start_after o past reply event first = or_else (if is_taken reply then says_start o past event else None) first

abbrev entry : ℕ → Option (ℕ × List ℕ) → Reply → Event → Entry
entry number draw reply event = record { number = number; event = event; draw = draw; reply = reply }

open_play_by : (o : Origin) (past : List Entry) (number : ℕ) (draw : Option (ℕ × List ℕ)) (place : ℕ) (start : ℕ × ℕ) (reply : Reply) (event : Event) (x : Option Round)
    → option_map (play_record o.setup (start_after o past reply event (kept_start o.setup start x)) 0) (open_after o.setup (entry number draw reply event) place x)
    ≡ option_map (play_record o.setup (start_after o past reply event start) 0) (open_after o.setup (entry number draw reply event) place x)
open_play_by o past number draw place start reply event (Some r) = refl
open_play_by o past number draw place start (Reply.Refused why) event None = refl
open_play_by o past number draw place start Reply.Taken (Event.Play game bet) None = refl
open_play_by o past number draw place start Reply.Taken _ None = refl

ended_play_by : (o : Origin) (past : List Entry) (number : ℕ) (draw : Option (ℕ × List ℕ)) (place : ℕ) (start : ℕ × ℕ) (after : ℕ) (reply : Reply) (event : Event) (x : Option Round)
    → (if is_taken reply then option_map (play_record o.setup (start_after o past reply event (kept_start o.setup start x)) after) (ended_after o.setup (entry number draw reply event) place x) else None)
    ≡ (if is_taken reply then option_map (play_record o.setup (start_after o past reply event start) after) (ended_after o.setup (entry number draw reply event) place x) else None)
ended_play_by o past number draw place start after reply event (Some r) = refl
ended_play_by o past number draw place start after (Reply.Refused why) event None = refl
ended_play_by o past number draw place start after Reply.Taken (Event.Play game bet) None = refl
ended_play_by o past number draw place start after Reply.Taken _ None = refl

pub open_play-reopened : (o : Origin) (e : Entry) (past : List Entry) → open_play (reopened o past) (e ∷ []) ≡ open_play o (e ∷ past)
open_play-reopened o e past =
    ap (λ x. option_map (play_record o.setup (start_after o past e.reply e.event (kept_start o.setup (play_start o past) (open_round o past))) 0)
    (open_after o.setup e (next_place o past) x)) (open_round-reopened o past)
    ∙ open_play_by o past e.number e.draw (next_place o past) (play_start o past) e.reply e.event (open_round o past)

-- the play that a taken entry ends
pub ended_play-reopened : (o : Origin) (e : Entry) (past : List Entry) → taken_statement (ended_play (reopened o past)) e [] ≡ taken_statement (ended_play o) e past
ended_play-reopened o e past =
    ap (λ x. if is_taken e.reply
    then option_map (play_record o.setup (start_after o past e.reply e.event (kept_start o.setup (play_start o past) (open_round o past))) (balance (reopened o past) (e ∷ [])))
    (ended_after o.setup e (next_place o past) x)
    else None) (open_round-reopened o past)
    ∙ ap (λ b. if is_taken e.reply
    then option_map (play_record o.setup (start_after o past e.reply e.event (kept_start o.setup (play_start o past) (open_round o past))) b)
    (ended_after o.setup e (next_place o past) (open_round o past))
    else None) (balance-reopened o e past)
    ∙ ended_play_by o past e.number e.draw (next_place o past) (play_start o past) (balance o (e ∷ past)) e.reply e.event (open_round o past)

pub plays-reopened : (o : Origin) (e : Entry) (past : List Entry) → plays (reopened o past) (e ∷ []) ≡ plays o (e ∷ past)
plays-reopened o e past = ap (λ p. take PLAYS_KEPT (with_note p (plays o past))) (ended_play-reopened o e past) ∙ sym (plays-more o e past)

-- one entry more: the view after it is that of the machine that begins at the view before it
pub view_after-one_more : (o : Origin) (e : Entry) (past : List Entry) → view_after (reopened o past) (e ∷ []) ≡ view_after o (e ∷ past)
view_after-one_more o e past = λ i. record {
  digest = o.opening.digest;
  count = (view_after o (e ∷ past)).count;
  balance = balance-reopened o e past i;
  totals = totals-reopened o e past i;
  doors = (view_after o (e ∷ past)).doors;
  tilts = (view_after o (e ∷ past)).tilts;
  play = open_play-reopened o e past i;
  orders = orders o (e ∷ past);
  order = open_order o (e ∷ past);
  handpay = handpay-reopened o e past i;
  kept = (view_after o (e ∷ past)).kept;
  plays = plays-reopened o e past i;
  events = events-reopened o e past i;
  bills = bills-reopened o e past i;
  vouchers = vouchers-reopened o e past i;
}

pub view_after-with_entry : (o : Origin) (e : Entry) (past : List Entry) → view_after o (e ∷ past) ≡ with_entry o.setup (view_after o past) e
view_after-with_entry o e past = sym (view_after-one_more o e past)

-- ================ any number of entries more

start_again : (setup : Setup) (start : ℕ × ℕ) (x : Option Round)
    → option_map (play_record setup (kept_start setup start x) 0) (option_map round_of (option_map (play_record setup start 0) x)) ≡ option_map (play_record setup start 0) x
start_again setup start None = refl
start_again setup start (Some r) = refl

pub view_after-none_more : (o : Origin) (past : List Entry) → view_after (reopened o past) [] ≡ view_after o past
view_after-none_more o past = λ i. record {
  digest = o.opening.digest;
  count = (view_after o past).count;
  balance = (view_after o past).balance;
  totals = (view_after o past).totals;
  doors = (view_after o past).doors;
  tilts = (view_after o past).tilts;
  play = start_again o.setup (play_start o past) (open_round o past) i;
  orders = orders o past;
  order = open_order o past;
  handpay = open_handpay o past;
  kept = (view_after o past).kept;
  plays = take-take PLAYS_KEPT PLAYS_KEPT (notes_over (ended_play o) o.opening.plays past) (omega arith) i;
  events = take-take EVENTS_KEPT EVENTS_KEPT (notes_over (event_noted o) o.opening.events past) (omega arith) i;
  bills = take-take BILLS_KEPT BILLS_KEPT (notes_over (bill_noted o) o.opening.bills past) (omega arith) i;
  vouchers = take-take VOUCHERS_KEPT VOUCHERS_KEPT (notes_over (voucher_noted o) o.opening.vouchers past) (omega arith) i;
}

-- a history may be cut anywhere: what was before is kept by its view alone
pub view_after-append : (o : Origin) (later past : List Entry) → view_after (reopened o past) later ≡ view_after o (later ++ past)
view_after-append o [] past = view_after-none_more o past
view_after-append o (e ∷ later) past =
    view_after-with_entry (reopened o past) e later
    ∙ ap (λ v. with_entry o.setup v e) (view_after-append o later past)
    ∙ view_after-one_more o e (later ++ past)
