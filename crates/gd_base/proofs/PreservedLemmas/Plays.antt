-- Rules of a view that one entry more keeps, further: those of the open play and of the finished ones.
use Rattle.std.specs.Prelude.{◌≡◌, ℕ, zero, suc, ◌+◌, ◌<◌, ◌≤◌, ◌^◌, ◌==◌, ◌&&◌, ◌||◌, nat_le, nat_lt, Bool, true, false, not, if◌then◌else◌, List, [], ◌∷◌, map, take, Option, Some, None, option_map, IfSome, refl}
use Rattle.std.specs.List.{list_all}
use Rattle.std.proofs.Common.{ap, arith}
use Rattle.std.proofs.lemmas.Bool.Decides.{nat_tests}
use Rattle.gd_base.specs.declared.event.Event.{Event}
use Rattle.gd_base.specs.declared.play.PlayRecord.{PlayRecord}
use Rattle.gd_base.specs.declared.play.StageOpen.{StageOpen}
use Rattle.gd_base.specs.declared.records.TheConstants.{PLAYS_KEPT}
use Rattle.gd_base.specs.declared.setup.Setup.{Setup}
use Rattle.gd_base.specs.Games.Stage.{is_stage}
use Rattle.gd_base.specs.Histories.History.{with_note}
use Rattle.gd_base.specs.Histories.Recall.{play_record}
use Rattle.gd_base.specs.Histories.Rounds.{Round, round_of, round_stage, is_take, is_over, left_open, ended_by}
use Rattle.gd_base.specs.Judging.Product.{both_hold}
use Rattle.gd_base.specs.Payloads.ViewRules.{fall_from, is_play_record, is_played, is_placed, is_open_as, is_in, is_finished}
use Rattle.gd_base.proofs.BoolTests.{at_most, both, is_within}
use Rattle.gd_base.proofs.PreservedLemmas.Moved.{Onto}
use Rattle.gd_base.proofs.PreservedLemmas.Places.{fall_more, fall_take}
use Rattle.gd_base.proofs.PreservedLemmas.PlayRules.{InOrder, in_order, recorded, played}
use Rattle.gd_base.proofs.StageLemmas.Stages.{or_left, or_right, none_of}

-- under which the places of finished plays fall: the place of the open one, or that of the next entry
abbrev pub limit_of : ℕ → Option PlayRecord → ℕ
limit_of count None = count + 1
limit_of count (Some p) = p.place

abbrev pub places : List PlayRecord → List ℕ
places plays = map (λ p. p.place) plays

-- what the rules of a view, and those of its setup, say of plays
pub record PlaysHold (setup : Setup) (count : ℕ) (play : Option PlayRecord) (plays : List PlayRecord) : Type 0 where
  pub fall : fall_from (limit_of count play) (places plays) ≡ true
  pub records : list_all is_play_record plays ≡ true
  pub played : list_all (is_played setup) plays ≡ true
  pub finished : list_all (is_finished setup) plays ≡ true
  pub open_record : is_open_as is_play_record play ≡ true
  pub open_placed : is_open_as (is_placed count) play ≡ true
  pub open_played : is_open_as (is_played setup) play ≡ true
  pub going : is_open_as (λ p. not (is_in setup p StageOpen.Ended)) play ≡ true

-- ================ the list of finished plays

pub all_take : {A : Type 0} (test : A → Bool) (n : ℕ) (xs : List A) → list_all test xs ≡ true → list_all test (take n xs) ≡ true
all_take test zero [] h = refl
all_take test zero (x ∷ xs) h = refl
all_take test (suc n) [] h = refl
all_take test (suc n) (x ∷ xs) h =
    let t = both (test x) (list_all test xs) h in
    both_hold (test x) (list_all test (take n xs)) t.0 (all_take test n xs t.1)

heads : (limit count place : ℕ) (xs : List ℕ) → limit ≤ place → 1 ≤ place → place ≤ count → fall_from limit xs ≡ true
    → nat_le 1 place && nat_lt place (count + 1) && fall_from place xs ≡ true
heads limit count place xs le some most h =
    both_hold (nat_le 1 place && nat_lt place (count + 1)) (fall_from place xs)
    (both_hold (nat_le 1 place) (nat_lt place (count + 1)) (grind (arith, nat_tests, some)) (grind (arith, nat_tests, most))) (fall_more limit place xs le h)

-- ================ what is left of a round: it goes on, or it heads the finished plays

-- the facts of finished plays, under a limit
record AreFinished (setup : Setup) (limit : ℕ) (plays : List PlayRecord) : Type 0 where
  fall : fall_from limit (places plays) ≡ true
  records : list_all is_play_record plays ≡ true
  played : list_all (is_played setup) plays ≡ true
  finished : list_all (is_finished setup) plays ≡ true

abbrev pub AreShort : ℕ × ℕ → Type 0
AreShort start = (start.0 < 2 ^ 64) × (start.1 < 2 ^ 64)

module _ (setup : Setup) (limit count : ℕ) (start : ℕ × ℕ) (plays : List PlayRecord) (k : AreFinished setup limit plays) (short : AreShort start) where
  none_open : limit ≤ count + 1 → PlaysHold setup count None (take PLAYS_KEPT plays)
  none_open le = record {
    fall = fall_take (λ (p : PlayRecord). p.place) PLAYS_KEPT (count + 1) plays (fall_more limit (count + 1) (places plays) le k.fall);
    records = all_take is_play_record PLAYS_KEPT plays k.records;
    played = all_take (is_played setup) PLAYS_KEPT plays k.played;
    finished = all_take (is_finished setup) PLAYS_KEPT plays k.finished;
    open_record = refl;
    open_placed = refl;
    open_played = refl;
    going = refl;
  }

  goes_on : (r : Round) → InOrder setup r → limit ≤ r.place → 1 ≤ r.place → r.place ≤ count → is_stage (round_stage setup r).phase StageOpen.Ended ≡ false
      → PlaysHold setup count (Some (play_record setup start 0 r)) (take PLAYS_KEPT plays)
  goes_on r order above some within going = record {
    fall = fall_take (λ (p : PlayRecord). p.place) PLAYS_KEPT r.place plays (fall_more limit r.place (places plays) above k.fall);
    records = all_take is_play_record PLAYS_KEPT plays k.records;
    played = all_take (is_played setup) PLAYS_KEPT plays k.played;
    finished = all_take (is_finished setup) PLAYS_KEPT plays k.finished;
    open_record = recorded setup start 0 r order short.0 short.1 (omega arith);
    open_placed = both_hold (nat_le 1 r.place && nat_le r.place count) true (both_hold (nat_le 1 r.place) (nat_le r.place count) (is_within 1 r.place some) (is_within r.place count within)) refl;
    open_played = played setup start 0 r order;
    going = ap not going;
  }

  has_ended : (balance : ℕ) (r : Round) → balance < 2 ^ 64 → InOrder setup r → limit ≤ r.place → 1 ≤ r.place → r.place ≤ count
      → is_stage (round_stage setup r).phase StageOpen.Ended || is_stage (round_stage setup r).phase StageOpen.Gamble ≡ true
      → PlaysHold setup count None (take PLAYS_KEPT (play_record setup start balance r ∷ plays))
  has_ended balance r small order above some within over =
      let p = play_record setup start balance r in
      let all = p ∷ plays in
      record {
        fall = fall_take (λ (q : PlayRecord). q.place) PLAYS_KEPT (count + 1) all (heads limit count r.place (places plays) above some within k.fall);
        records = all_take is_play_record PLAYS_KEPT all (both_hold (is_play_record p) (list_all is_play_record plays) (recorded setup start balance r order short.0 short.1 small) k.records);
        played = all_take (is_played setup) PLAYS_KEPT all (both_hold (is_played setup p) (list_all (is_played setup) plays) (played setup start balance r order) k.played);
        finished = all_take (is_finished setup) PLAYS_KEPT all (both_hold (is_finished setup p) (list_all (is_finished setup) plays) over k.finished);
        open_record = refl;
        open_placed = refl;
        open_played = refl;
        going = refl;
      }

  -- a play that an event begins or moves on, and ends or not
  ended_in : (is_taken is_ended is_gamble : Bool) → is_taken || is_ended ≡ true → (is_taken ≡ true → is_gamble ≡ true) → is_ended || is_gamble ≡ true
  ended_in true is_ended is_gamble h gamble = or_right is_ended is_gamble (gamble refl)
  ended_in false is_ended is_gamble h gamble = or_left is_ended is_gamble h

  moves : (event : Event) (balance : ℕ) (before : Option Round) (r : Round) (over : Bool) → balance < 2 ^ 64 → Onto setup limit count event r → is_over setup event r ≡ over
      → PlaysHold setup count (option_map (play_record setup start 0) (if over then None else Some r))
      (take PLAYS_KEPT (with_note (option_map (play_record setup start balance) (if over then Some r else None)) plays))
  moves event balance before r true small o over =
      has_ended balance r small o.order o.above o.some o.within (ended_in (is_take event) (is_stage (round_stage setup r).phase StageOpen.Ended) (is_stage (round_stage setup r).phase StageOpen.Gamble) over o.taken)
  moves event balance before r false small o over = goes_on r o.order o.above o.some o.within (none_of (is_take event) (is_stage (round_stage setup r).phase StageOpen.Ended) over)

-- ================ after an entry

-- an event that moves no play leaves the open one as it is
pub stays : (setup : Setup) (count : ℕ) (start : ℕ × ℕ) (x : Option PlayRecord) (plays : List PlayRecord) → PlaysHold setup count x plays → AreShort start
    → PlaysHold setup (count + 1) (option_map (play_record setup start 0) (option_map round_of x)) (take PLAYS_KEPT plays)
stays setup count start None plays k short =
    none_open setup (count + 1) (count + 1) start plays (record { fall = k.fall; records = k.records; played = k.played; finished = k.finished }) short (omega arith)
stays setup count start (Some p) plays k short =
    let t = both (nat_le 1 p.place && nat_le p.place count) (p.after == 0) k.open_placed in
    let u = both (nat_le 1 p.place) (nat_le p.place count) t.0 in
    let within = at_most p.place count u.1 in
    goes_on setup p.place (count + 1) start plays (record { fall = k.fall; records = k.records; played = k.played; finished = k.finished }) short
    (round_of p) (in_order setup p k.open_record k.open_played) (omega arith) (at_most 1 p.place u.0) (omega (arith, within)) (not_true _ k.going)
  where
    not_true : (b : Bool) → not b ≡ true → b ≡ false
    not_true true h = absurd (cc h)
    not_true false h = refl

pub by_move : (setup : Setup) (count balance : ℕ) (start : ℕ × ℕ) (event : Event) (x : Option PlayRecord) (m : Option Round) (plays : List PlayRecord) → PlaysHold setup count x plays → AreShort start
    → balance < 2 ^ 64 → IfSome m (Onto setup (limit_of count x) (count + 1) event)
    → PlaysHold setup (count + 1) (option_map (play_record setup start 0) (left_open setup event (option_map round_of x) m))
    (take PLAYS_KEPT (with_note (option_map (play_record setup start balance) (ended_by setup event m)) plays))
by_move setup count balance start event x None plays k short small o = stays setup count start x plays k short
by_move setup count balance start event x (Some r) plays k short small o =
    moves setup (limit_of count x) (count + 1) start plays (record { fall = k.fall; records = k.records; played = k.played; finished = k.finished }) short
    event balance (option_map round_of x) r (is_over setup event r) small o refl
