-- Rules of a view that one entry more keeps, further: after any entry the plays keep their rules.
use Rattle.std.specs.Prelude.{◌≡◌, ℕ, ◌+◌, ◌<◌, ◌^◌, true, List, [], Option, Some, None}
use Rattle.std.proofs.Common.{sym, arith}
use Rattle.std.proofs.lemmas.Bool.{ltb-true}
use Rattle.gd_base.specs.declared.event.Event.{Event}
use Rattle.gd_base.specs.declared.play.PlayRecord.{PlayRecord}
use Rattle.gd_base.specs.declared.refusal.Reply.{Reply}
use Rattle.gd_base.specs.declared.setup.Setup.{Setup}
use Rattle.gd_base.specs.Histories.Entry.{Entry}
use Rattle.gd_base.specs.Histories.History.{or_else}
use Rattle.gd_base.specs.Histories.Recall.{play_start_of, says_start}
use Rattle.gd_base.specs.Histories.Rounds.{moved_round}
use Rattle.gd_base.specs.Histories.View.{View}
use Rattle.gd_base.specs.Histories.ViewOf.{from_view, with_entry}
use Rattle.gd_base.specs.Judging.Answer.{IsDraw}
use Rattle.gd_base.specs.Judging.Draws.{is_drawn, next_index}
use Rattle.gd_base.specs.Judging.Rule.{rule}
use Rattle.gd_base.specs.Payloads.ViewRules.{is_play_record, is_open_as}
use Rattle.gd_base.proofs.PreservedLemmas.Bounds.{amounts, counted}
use Rattle.gd_base.proofs.PreservedLemmas.Moved.{HasBlock, moved}
use Rattle.gd_base.proofs.PreservedLemmas.PlayRules.{start_short}
use Rattle.gd_base.proofs.PreservedLemmas.Plays.{AreShort, PlaysHold, stays, by_move}
use Rattle.gd_base.proofs.ViewFacts.{Possible, Fitting}

-- the number of the open play and the balance before it
kept_start : (x : Option PlayRecord) → is_open_as is_play_record x ≡ true → AreShort (play_start_of x)
kept_start None h = (omega arith, omega arith)
kept_start (Some p) h = let t = start_short p h in (ltb-true p.number (2 ^ 64) t.0, ltb-true p.before (2 ^ 64) t.1)

-- of a play that begins they are the next number and the balance
start_by : (setup : Setup) (v : View) (event : Event) → Possible v → AreShort (or_else (says_start (from_view setup v) [] event) (play_start_of v.play))
start_by setup v (Event.Play game bet) r =
    let plays = (counted v r).plays in
    let room = r.count in
    (omega (arith, plays, room), (amounts v r).balance)
start_by setup v _ r = kept_start v.play r.play

plays_of : (setup : Setup) (v : View) → Possible v → Fitting setup v → PlaysHold setup v.count v.play v.plays
plays_of setup v r f = record {
  fall = r.plays_fall;
  records = r.plays;
  played = f.plays;
  finished = f.finished;
  open_record = r.play;
  open_placed = r.play_placed;
  open_played = f.play;
  going = f.going;
}

abbrev entry : ℕ → Event → Option (ℕ × List ℕ) → Reply → Entry
entry number event draw reply = record { number = number; event = event; draw = draw; reply = reply }

plays_if : (setup : Setup) (v : View) (number : ℕ) (event : Event) (draw : Option (ℕ × List ℕ)) (reply : Reply) → Possible v → Fitting setup v → reply ≡ rule setup v event
    → IsDraw (is_drawn setup v event) (next_index v) draw → HasBlock draw → (with_entry setup v (entry number event draw reply)).balance < 2 ^ 64
    → (let w = with_entry setup v (entry number event draw reply) in PlaysHold setup (v.count + 1) w.play w.plays)
plays_if setup v number event draw Reply.Taken r f h drawn block small =
    let w = with_entry setup v (entry number event draw Reply.Taken) in
    by_move setup v.count w.balance (or_else (says_start (from_view setup v) [] event) (play_start_of v.play)) event v.play (moved_round (v.count + 1) draw _ event) v.plays
    (plays_of setup v r f) (start_by setup v event r) small (moved setup v draw event r f (sym h) drawn block)
plays_if setup v number event draw (Reply.Refused why) r f h drawn block small =
    stays setup v.count (play_start_of v.play) v.play v.plays (plays_of setup v r f) (kept_start v.play r.play)

pub plays_kept : (setup : Setup) (v : View) (e : Entry) → Possible v → Fitting setup v → e.reply ≡ rule setup v e.event
    → IsDraw (is_drawn setup v e.event) (next_index v) e.draw → HasBlock e.draw → (with_entry setup v e).balance < 2 ^ 64
    → PlaysHold setup (v.count + 1) (with_entry setup v e).play (with_entry setup v e).plays
plays_kept setup v e = plays_if setup v e.number e.event e.draw e.reply
