-- Rules of a view that one entry more keeps, further: the play that a taken event begins or moves on is in order.
use Rattle.std.specs.Prelude.{◌≡◌, ℕ, ◌+◌, ◌<◌, ◌≤◌, ◌^◌, ◌==◌, ◌&&◌, nat_le, Bool, true, false, is_some, List, Option, Some, None, option_map, IfSome, refl}
use Rattle.std.proofs.Common.{ap, subst, arith}
use Rattle.gd_base.specs.declared.event.Event.{Event}
use Rattle.gd_base.specs.declared.game.Colour.{Colour}
use Rattle.gd_base.specs.declared.game.Game.{Game}
use Rattle.gd_base.specs.declared.limits.TheConstants.{MOST_HOLD, MOST_PICK}
use Rattle.gd_base.specs.declared.play.PlayRecord.{PlayRecord}
use Rattle.gd_base.specs.declared.play.StageOpen.{StageOpen}
use Rattle.gd_base.specs.declared.refusal.Refusal.{Refusal}
use Rattle.gd_base.specs.declared.refusal.Reply.{Reply}
use Rattle.gd_base.specs.declared.setup.Setup.{Setup}
use Rattle.gd_base.specs.Games.Stage.{is_bet, is_stage}
use Rattle.gd_base.specs.Histories.Entry.{is_taken}
use Rattle.gd_base.specs.Histories.Rounds.{Round, round_of, round_stage, choices_of, new_round, with_choice, with_turn, moved_round, is_take}
use Rattle.gd_base.specs.Histories.View.{View}
use Rattle.gd_base.specs.Judging.Answer.{IsDraw}
use Rattle.gd_base.specs.Judging.Draws.{is_drawn, next_index}
use Rattle.gd_base.specs.Judging.Rule.{rule, refusals, is_at}
use Rattle.gd_base.specs.Outside.Blocks.{IsBlock}
use Rattle.gd_base.specs.Payloads.ViewRules.{is_play_record, is_played, is_placed, is_open_as, play_limit}
use Rattle.gd_base.proofs.BooksLemmas.LegalBooks.{AreNone, told, not_refused, is_so}
use Rattle.gd_base.proofs.BoolTests.{at_most, both, is_below, is_equal}
use Rattle.gd_base.proofs.PreservedLemmas.Bounds.{counted}
use Rattle.gd_base.proofs.PreservedLemmas.PlayRules.{InOrder, in_order}
use Rattle.gd_base.proofs.StageLemmas.FirstChoice.{pick_allowed, hold_allowed}
use Rattle.gd_base.proofs.StageLemmas.Stages.{one_stage}
use Rattle.gd_base.proofs.StageLemmas.Turns.{one_turn_more}
use Rattle.gd_base.proofs.ViewFacts.{Possible, Fitting}

-- a block where one is drawn
abbrev pub HasBlock : Option (ℕ × List ℕ) → Type 0
HasBlock draw = IfSome draw (λ d. IsBlock d.1)

-- A round that an event leaves: in order, with a place that is above those of the finished plays and among the entries. A
-- win is taken in the gamble stage alone.
pub record Onto (setup : Setup) (limit count : ℕ) (event : Event) (r : Round) : Type 0 where
  pub order : InOrder setup r
  pub above : limit ≤ r.place
  pub some : 1 ≤ r.place
  pub within : r.place ≤ count
  pub taken : is_take event ≡ true → is_stage (round_stage setup r).phase StageOpen.Gamble ≡ true

-- ================ a play that begins

none_limits : (v : View) (x : Option PlayRecord) → is_some x ≡ false → play_limit v x ≡ v.count + 1
none_limits v None h = refl
none_limits v (Some p) h = absurd (cc h)

begun : (setup : Setup) (limit count index : ℕ) (draw : Option (ℕ × List ℕ)) (game : Game) (bet : ℕ) → is_bet game bet ≡ true → index < 2 ^ 64 → limit ≡ count + 1
    → IsDraw true index draw → HasBlock draw → Onto setup limit (count + 1) (Event.Play game bet) (new_round (count + 1) draw game bet)
begun setup limit count index None game bet good short first is block = absurd is
begun setup limit count index (Some d) game bet good short first is block = record {
  order = record { bet = good; choices = refl; index = is_below d.0 (2 ^ 64) (omega (arith, is, short)); sixteen = is_equal _ 16 block.0; words = block.1 };
  above = omega (arith, first);
  some = omega arith;
  within = omega arith;
  taken = λ h. absurd (cc h);
}

-- ================ a play that is moved on

-- what the rules of a view say of the open play
record IsOpen (setup : Setup) (count : ℕ) (x : Option PlayRecord) : Type 0 where
  recorded : is_open_as is_play_record x ≡ true
  placed : is_open_as (is_placed count) x ≡ true
  played : is_open_as (is_played setup) x ≡ true

-- its round, with other choices that are in order
module _ (setup : Setup) (v : View) where
  with_choices : (event : Event) (p : PlayRecord) (r : Round) → IsOpen setup v.count (Some p) → InOrder setup r → r.place ≡ p.place
      → (is_take event ≡ true → is_stage (round_stage setup r).phase StageOpen.Gamble ≡ true) → Onto setup p.place (v.count + 1) event r
  with_choices event p r k order same taken =
      let t = both (nat_le 1 p.place && nat_le p.place v.count) (p.after == 0) k.placed in
      let u = both (nat_le 1 p.place) (nat_le p.place v.count) t.0 in
      let some = at_most 1 p.place u.0 in
      let within = at_most p.place v.count u.1 in
      record { order = order; above = omega (arith, same); some = omega (arith, same, some); within = omega (arith, same, within); taken = taken }

  picked : (place : ℕ) (draw : Option (ℕ × List ℕ)) (door : ℕ) (x : Option PlayRecord) → IsOpen setup v.count x → is_at setup StageOpen.Pick x && (nat_le 1 door && nat_le door MOST_PICK) ≡ true
      → IfSome (moved_round place draw (option_map round_of x) (Event.Pick door)) (Onto setup (play_limit v x) (v.count + 1) (Event.Pick door))
  picked place draw door None k h = tt
  picked place draw door (Some p) k h =
      let o = in_order setup p k.recorded k.played in
      let t = both (is_at setup StageOpen.Pick (Some p)) (nat_le 1 door && nat_le door MOST_PICK) h in
      let choices = pick_allowed setup p.game p.bet p.words (choices_of p) door o.choices (one_stage _ _ t.0) t.1 in
      with_choices (Event.Pick door) p (with_choice door (round_of p)) k (record { bet = o.bet; choices = choices; index = o.index; sixteen = o.sixteen; words = o.words }) refl (λ e. absurd (cc e))

  held : (place : ℕ) (draw : Option (ℕ × List ℕ)) (mask : ℕ) (x : Option PlayRecord) → IsOpen setup v.count x → is_at setup StageOpen.Hold x && nat_le mask MOST_HOLD ≡ true
      → IfSome (moved_round place draw (option_map round_of x) (Event.Hold mask)) (Onto setup (play_limit v x) (v.count + 1) (Event.Hold mask))
  held place draw mask None k h = tt
  held place draw mask (Some p) k h =
      let o = in_order setup p k.recorded k.played in
      let t = both (is_at setup StageOpen.Hold (Some p)) (nat_le mask MOST_HOLD) h in
      let choices = hold_allowed setup p.game p.bet p.words (choices_of p) mask o.choices (one_stage _ _ t.0) t.1 in
      with_choices (Event.Hold mask) p (with_choice mask (round_of p)) k (record { bet = o.bet; choices = choices; index = o.index; sixteen = o.sixteen; words = o.words }) refl (λ e. absurd (cc e))

  turned : (place : ℕ) (draw : Option (ℕ × List ℕ)) (colour : Colour) (x : Option PlayRecord) → IsOpen setup v.count x → is_at setup StageOpen.Gamble x && true ≡ true
      → IfSome (moved_round place draw (option_map round_of x) (Event.Gamble colour)) (Onto setup (play_limit v x) (v.count + 1) (Event.Gamble colour))
  turned place draw colour None k h = tt
  turned place draw colour (Some p) k h =
      let o = in_order setup p k.recorded k.played in
      let t = both (is_at setup StageOpen.Gamble (Some p)) true h in
      let choices = one_turn_more setup p.game p.bet p.words (choices_of p) colour o.choices (one_stage _ _ t.0) in
      with_choices (Event.Gamble colour) p (with_turn colour (round_of p)) k (record { bet = o.bet; choices = choices; index = o.index; sixteen = o.sixteen; words = o.words }) refl (λ e. absurd (cc e))

  taken_from : (place : ℕ) (draw : Option (ℕ × List ℕ)) (x : Option PlayRecord) → IsOpen setup v.count x → is_at setup StageOpen.Gamble x && true ≡ true
      → IfSome (moved_round place draw (option_map round_of x) Event.Take) (Onto setup (play_limit v x) (v.count + 1) Event.Take)
  taken_from place draw None k h = tt
  taken_from place draw (Some p) k h =
      let t = both (is_at setup StageOpen.Gamble (Some p)) true h in
      with_choices Event.Take p (round_of p) k (in_order setup p k.recorded k.played) refl (λ e. t.0)

-- ================ any event

pub moved : (setup : Setup) (v : View) (draw : Option (ℕ × List ℕ)) (event : Event) → Possible v → Fitting setup v → rule setup v event ≡ Reply.Taken
    → IsDraw (is_drawn setup v event) (next_index v) draw → HasBlock draw
    → IfSome (moved_round (v.count + 1) draw (option_map round_of v.play) event) (Onto setup (play_limit v v.play) (v.count + 1) event)
moved setup v draw (Event.Play game bet) r f h drawn block =
    let t : AreNone (refusals setup v (Event.Play game bet)) = told setup v (Event.Play game bet) h in
    let counts = counted v r in
    let plays = counts.plays in
    let starts = counts.starts in
    let room = r.count in
    begun setup (play_limit v v.play) v.count (next_index v) draw game bet (is_so (is_bet game bet) Refusal.BadWager t.1.1.1.1.0) (omega (arith, plays, starts, room))
    (none_limits v v.play (not_refused (is_some v.play) Refusal.PlayOpen t.1.1.0)) (subst (λ (b : Bool). IsDraw b (next_index v) draw) (ap is_taken h) drawn) block
moved setup v draw (Event.Pick door) r f h drawn block =
    picked setup v (v.count + 1) draw door v.play (record { recorded = r.play; placed = r.play_placed; played = f.play }) (is_so _ Refusal.BadChoice (told setup v (Event.Pick door) h).1.1.0)
moved setup v draw (Event.Hold mask) r f h drawn block =
    held setup v (v.count + 1) draw mask v.play (record { recorded = r.play; placed = r.play_placed; played = f.play }) (is_so _ Refusal.BadChoice (told setup v (Event.Hold mask) h).1.1.0)
moved setup v draw (Event.Gamble colour) r f h drawn block =
    turned setup v (v.count + 1) draw colour v.play (record { recorded = r.play; placed = r.play_placed; played = f.play }) (is_so _ Refusal.BadChoice (told setup v (Event.Gamble colour) h).1.1.0)
moved setup v draw Event.Take r f h drawn block =
    taken_from setup v (v.count + 1) draw v.play (record { recorded = r.play; placed = r.play_placed; played = f.play }) (is_so _ Refusal.BadChoice (told setup v Event.Take h).1.1.0)
moved setup v draw _ r f h drawn block = tt
