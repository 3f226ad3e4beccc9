-- The index of the next block rises with each taken play and each start, and with nothing else: no block is used twice.
use Rattle.std.specs.Prelude.{◌≡◌, ℕ, ◌+◌, ◌<◌, ◌≤◌, Bool, true, false, List, [], ◌∷◌, ◌++◌, Option, Some, None, if◌then◌else◌, refl}
use Rattle.std.proofs.Common.{arith, ap, sym, ◌∙◌, subst}
use Rattle.gd_base.specs.declared.event.Event.{Event}
use Rattle.gd_base.specs.declared.game.Game.{Game}
use Rattle.gd_base.specs.declared.meter.Meter.{Meter}
use Rattle.gd_base.specs.declared.refusal.Reply.{Reply}
use Rattle.gd_base.specs.declared.setup.Setup.{Setup}
use Rattle.gd_base.specs.Judging.Draws.{next_index, is_drawn}
use Rattle.gd_base.specs.Histories.Entry.{Entry, is_taken}
use Rattle.gd_base.specs.Histories.History.{Origin}
use Rattle.gd_base.specs.Laws.Indexes.{MovesIndex, RiseStrictly, NoneIsZero}
use Rattle.gd_base.specs.Judging.Legal.{IsNext, IsLegal, view_over}
use Rattle.gd_base.specs.Judging.Machine.{Machine, Blocks}
use Rattle.gd_base.specs.Judging.Rule.{rule}
use Rattle.gd_base.specs.Payloads.Spelled.{Spelled}
use Rattle.gd_base.specs.Judging.Product.{machine}
use Rattle.gd_base.specs.Histories.View.{View}
use Rattle.gd_base.specs.Histories.ViewOf.{view_after, from_view, with_entry}
use Rattle.gd_base.proofs.AnswerLemmas.Answer.{start_taken}
use Rattle.gd_base.proofs.BooksLemmas.Books.{plain, win_by, with_taken}

pub next_index-play : (o : Origin) (number : ℕ) (game : Game) (bet : ℕ) (draw : Option (ℕ × List ℕ)) (past : List Entry)
    → next_index (view_after o (with_taken number (Event.Play game bet) draw ∷ past)) ≡ next_index (view_after o past) + 1
next_index-play o number game bet draw past =
    let win = win_by o number (Event.Play game bet) draw past in
    omega (arith, plain o past win (Event.Play game bet) Meter.GamesPlayed refl refl, plain o past win (Event.Play game bet) Meter.PowerUps refl refl)

pub next_index-start : (o : Origin) (number : ℕ) (draw : Option (ℕ × List ℕ)) (past : List Entry)
    → next_index (view_after o (with_taken number Event.Start draw ∷ past)) ≡ next_index (view_after o past) + 1
next_index-start o number draw past =
    let win = win_by o number Event.Start draw past in
    omega (arith, plain o past win Event.Start Meter.GamesPlayed refl refl, plain o past win Event.Start Meter.PowerUps refl refl)

pub next_index-rises : (o : Origin) (e : Entry) (past : List Entry) → next_index (view_after o past) ≤ next_index (view_after o (e ∷ past))
next_index-rises o e past = omega arith

-- ================ what an entry does to the index

abbrev entry_by : ℕ → Event → Option (ℕ × List ℕ) → Reply → Entry
entry_by number event draw reply = record { number = number; event = event; draw = draw; reply = reply }

abbrev After : Setup → View → Entry → ℕ → Type 0
After setup v e n = next_index (with_entry setup v e) ≡ next_index v + n

play_by : (setup : Setup) (v : View) (number : ℕ) (event : Event) (draw : Option (ℕ × List ℕ)) (reply : Reply) (game : Game) (bet : ℕ) → event ≡ Event.Play game bet → reply ≡ Reply.Taken
    → After setup v (entry_by number event draw reply) 1
play_by setup v number event draw reply game bet p q =
    subst (λ (x : Event). After setup v (entry_by number x draw reply) 1) (sym p)
    (subst (λ (r : Reply). After setup v (entry_by number (Event.Play game bet) draw r) 1) (sym q) (next_index-play (from_view setup v) number game bet draw []))

start_by : (setup : Setup) (v : View) (number : ℕ) (event : Event) (draw : Option (ℕ × List ℕ)) (reply : Reply) → event ≡ Event.Start → reply ≡ Reply.Taken
    → After setup v (entry_by number event draw reply) 1
start_by setup v number event draw reply p q =
    subst (λ (x : Event). After setup v (entry_by number x draw reply) 1) (sym p)
    (subst (λ (r : Reply). After setup v (entry_by number Event.Start draw r) 1) (sym q) (next_index-start (from_view setup v) number draw []))

pub moves : (setup : Setup) (v : View) (e : Entry) → MovesIndex setup v e
moves setup v e = record {
  never_falls = next_index-rises (from_view setup v) e [];
  at_play = λ game bet p q. play_by setup v e.number e.event e.draw e.reply game bet p q;
  at_start = λ p q. start_by setup v e.number e.event e.draw e.reply p q;
}

-- ================ over a legal history

-- the event is a play, and is taken
record IsPlayTaken (M : Machine View) (v : View) (event : Event) : Type 0 where
  game : Game
  bet : ℕ
  is : event ≡ Event.Play game bet
  taken : M.rule v event ≡ Reply.Taken

-- a machine whose index moves so: it draws at a taken play alone, at the next index
record Moves (setup : Setup) (M : Machine View) : Type 0 where
  index : (v : View) → M.index v ≡ next_index v
  effect : (v : View) (e : Entry) → next_index (M.effect v e) ≡ next_index (with_entry setup v e)
  play : (v : View) (event : Event) → M.is_drawn v event ≡ true → IsPlayTaken M v event
  start : (v : View) → M.rule v Event.Start ≡ Reply.Taken

module _ (setup : Setup) (M : Machine View) (m : Moves setup M) (blocks : Blocks) (lap : ℕ) where
  never_below : (opening : View) (between past : List Entry) → next_index (view_over M opening past) ≤ next_index (view_over M opening (between ++ past))
  never_below opening [] past = omega arith
  never_below opening (b ∷ between) past =
      let w = view_over M opening (between ++ past) in
      let step : next_index w ≤ next_index (with_entry setup w b) = next_index-rises (from_view setup w) b [] in
      omega (arith, never_below opening between past, step, m.effect w b)

  legal_at : (opening : View) (between : List Entry) (e : Entry) (past : List Entry) → IsLegal M blocks lap opening (between ++ (e ∷ past)) → IsNext M blocks lap (view_over M opening past) e
  legal_at opening [] e past legal = legal.0
  legal_at opening (b ∷ between) e past legal = legal_at opening between e past legal.1

  drawn_if : (is_drawn : Bool) (x draw : ℕ × List ℕ) → (if is_drawn then Some x else None) ≡ Some draw → (is_drawn ≡ true) × (x ≡ draw)
  drawn_if true x draw h = (refl, cc h)
  drawn_if false x draw h = absurd (cc h)

  abbrev Drawn : View → Entry → ℕ × List ℕ → Type 0
  Drawn v e draw = (draw.0 ≡ next_index v) × After setup v e 1

  -- a draw that was recorded is that of a taken play
  drawn : (v : View) (e : Entry) (draw : ℕ × List ℕ) → IsNext M blocks lap v e → e.draw ≡ Some draw → Drawn v e draw
  drawn v e draw next h =
      let t = drawn_if (M.is_drawn v e.event) (M.index v, blocks lap (M.index v)) draw (sym (ap (λ (x : Entry). x.draw) next.made) ∙ h) in
      let p = m.play v e.event t.0 in (
        sym (ap (λ (x : ℕ × List ℕ). x.0) t.1) ∙ m.index v,
        play_by setup v e.number e.event e.draw e.reply p.game p.bet p.is (ap (λ (x : Entry). x.reply) next.made ∙ p.taken),
      )

  rise : (opening : View) (d : Entry) (between : List Entry) (e : Entry) (past : List Entry) (later earlier : ℕ × List ℕ)
      → IsLegal M blocks lap opening (d ∷ (between ++ (e ∷ past))) → d.draw ≡ Some later → e.draw ≡ Some earlier → earlier.0 < later.0
  rise opening d between e past later earlier legal hd he =
      let v = view_over M opening past in
      let a = drawn (view_over M opening (between ++ (e ∷ past))) d later legal.0 hd in
      let b = drawn v e earlier (legal_at opening between e past legal.1) he in
      omega (arith, a.0, b.0, b.1, m.effect v e, never_below opening between (e ∷ past))

  none_zero : (d : Entry) (between : List Entry) (start : Entry) (draw : ℕ × List ℕ)
      → IsLegal M blocks lap M.empty (d ∷ (between ++ (start ∷ []))) → start.event ≡ Event.Start → d.draw ≡ Some draw → 1 ≤ draw.0
  none_zero d between start draw legal is_start h =
      let v = M.empty in
      let a = drawn (view_over M v (between ++ (start ∷ []))) d draw legal.0 h in
      let next = legal_at v between start [] legal.1 in
      let taken : start.reply ≡ Reply.Taken = ap (λ (x : Entry). x.reply) next.made ∙ ap (M.rule v) is_start ∙ m.start v in
      let b : After setup v start 1 = start_by setup v start.number start.event start.draw start.reply is_start taken in
      omega (arith, a.0, b, m.effect v start, never_below v between (start ∷ []))

-- ================ the machine under any setup

is_true : (r : Reply) → is_taken r ≡ true → r ≡ Reply.Taken
is_true Reply.Taken h = refl
is_true (Reply.Refused why) h = absurd (cc h)

played : (setup : Setup) (digest : List ℕ) (spelled : List ℕ → Spelled View) (v : View) (event : Event) → is_drawn setup v event ≡ true → IsPlayTaken (machine setup digest spelled) v event
played setup digest spelled v (Event.Play game bet) h = record { game = game; bet = bet; is = refl; taken = is_true (rule setup v (Event.Play game bet)) h }
played setup digest spelled v _ h = absurd (cc h)

machine_moves : (setup : Setup) (digest : List ℕ) (spelled : List ℕ → Spelled View) → Moves setup (machine setup digest spelled)
machine_moves setup digest spelled =
    record { index = λ v. refl; effect = λ v e. refl; play = played setup digest spelled; start = λ v. start_taken setup v }

pub rise_strictly : RiseStrictly
rise_strictly setup digest spelled blocks lap = rise setup (machine setup digest spelled) (machine_moves setup digest spelled) blocks lap

pub none_is_zero : NoneIsZero
none_is_zero setup digest spelled blocks lap = none_zero setup (machine setup digest spelled) (machine_moves setup digest spelled) blocks lap
