-- For callers: the most that any play wins, in any stage that its choices reach.
use Rattle.std.specs.Prelude.{◌≡◌, ℕ, zero, suc, ◌*◌, ◌<◌, ◌≤◌, ◌==◌, ◌||◌, nat_le, Bool, true, false, if◌then◌else◌, List, Option, Some, None, refl}
use Rattle.std.proofs.Common.{ap, sym, ◌∙◌, arith}
use Rattle.std.proofs.lemmas.Bool.Decides.{nat_tests}
use Rattle.gd_base.specs.declared.game.Game.{Game}
use Rattle.gd_base.specs.declared.limits.TheConstants.{MOST_GAMBLE_LIMIT, MOST_TURNS}
use Rattle.gd_base.specs.declared.play.Choices.{Choices}
use Rattle.gd_base.specs.declared.play.Stage.{Stage}
use Rattle.gd_base.specs.declared.play.StageOpen.{StageOpen}
use Rattle.gd_base.specs.declared.setup.Setup.{Setup}
use Rattle.gd_base.specs.Games.Chance.{rank, rank_place, final_hand, hand_pay}
use Rattle.gd_base.specs.Games.Stage.{base_win, stage, stage_with, gamble_stage, win_after, is_right, is_stage, could_turn}
use Rattle.gd_base.proofs.BoolTests.{at_most, both}
use Rattle.gd_base.proofs.HistoryLemmas.Wins.{AtMost, small_at, denom_small, product_small, base_small}

-- ================ before any gamble

poker_small : (setup : Setup) (bet : ℕ) (words : List ℕ) (choice : Option ℕ) → bet ≤ 9 → AtMost (base_win setup Game.Poker bet words choice)
poker_small setup bet words None le = tt
poker_small setup bet words (Some mask) le =
    let pay = hand_pay setup (rank (final_hand words mask)) in
    let one : pay ≤ 5000 = small_at setup.poker_pays (rank_place (rank (final_hand words mask))) setup.has_poker_pays in
    let all : pay * bet ≤ 45000 = product_small pay bet 5000 9 one le in
    let cents : pay * bet * setup.denom ≤ 4500000 = product_small (pay * bet) setup.denom 45000 100 all (denom_small setup) in
    omega (arith, cents)

any_base : (setup : Setup) (game : Game) (bet : ℕ) (words : List ℕ) (choice : Option ℕ) → bet ≤ 9 → AtMost (base_win setup game bet words choice)
any_base setup Game.Reels bet words choice le = base_small setup bet words choice le
any_base setup Game.Poker bet words choice le = poker_small setup bet words choice le

-- ================ after gamble turns

still_open : (over : Bool) (win : ℕ)
    → is_stage (let s : Stage = if over then record { phase = StageOpen.Ended; win = win } else record { phase = StageOpen.Gamble; win = win } in s.phase) StageOpen.Gamble ≡ true
    → over ≡ false
still_open true win h = absurd (cc h)
still_open false win h = refl

below_limit : (limit win : ℕ) (a c : Bool) → a || nat_le limit win || c ≡ false → win < limit
below_limit limit win a c h = grind (arith, nat_tests, h)

doubled : (right : Bool) (win limit : ℕ) → win < limit → limit ≤ 1000000 → (if right then 2 * win else 0) ≤ 9000000
doubled true win limit lt le = omega (arith, lt, le)
doubled false win limit lt le = omega arith

limit_small : (setup : Setup) → setup.gamble_limit ≤ 1000000
limit_small setup = at_most setup.gamble_limit MOST_GAMBLE_LIMIT setup.has_gamble_limit

-- the gamble stage was open before the last turn, so the win was below the limit then
turned_small : (setup : Setup) (game : Game) (bet : ℕ) (words : List ℕ) (c : Choices) (base n : ℕ) → base_win setup game bet words c.choice ≡ Some base → base ≤ 9000000
    → could_turn setup game bet words c n ≡ true → win_after words c.colours base n ≤ 9000000
turned_small setup game bet words c base zero is small could = small
turned_small setup game bet words c base (suc t) is small could =
    let before : Choices = record c { turns = t } in
    let win = win_after words c.colours base t in
    let shown = (both (could_turn setup game bet words c t) (is_stage (stage setup game bet words before).phase StageOpen.Gamble) could).1 in
    let known : is_stage (gamble_stage setup t win).phase StageOpen.Gamble ≡ true =
    ap (λ (b : Option ℕ). is_stage (stage_with setup game words before b).phase StageOpen.Gamble) (sym is) ∙ shown in
    let open_then = still_open ((win == 0) || nat_le setup.gamble_limit win || (t == MOST_TURNS)) win known in
    doubled (is_right words c.colours (suc t)) win setup.gamble_limit (below_limit setup.gamble_limit win (win == 0) (t == MOST_TURNS) open_then) (limit_small setup)

either : (over : Bool) (a b : StageOpen) (win : ℕ) → win ≤ 9000000 → (let s : Stage = if over then record { phase = a; win = win } else record { phase = b; win = win } in s.win) ≤ 9000000
either true a b win le = le
either false a b win le = le

by_base : (setup : Setup) (game : Game) (bet : ℕ) (words : List ℕ) (c : Choices) (base : Option ℕ) → base_win setup game bet words c.choice ≡ base → AtMost base
    → could_turn setup game bet words c c.turns ≡ true → (stage_with setup game words c base).win ≤ 9000000
by_base setup game bet words c None is small could = omega arith
by_base setup game bet words c (Some base) is small could =
    let win = win_after words c.colours base c.turns in
    either ((win == 0) || nat_le setup.gamble_limit win || (c.turns == MOST_TURNS)) StageOpen.Ended StageOpen.Gamble win
    (turned_small setup game bet words c base c.turns is small could)

-- nine lines of 5,000 credits and the prize of a pick, with the most cents for each credit: no gamble comes to more, since a
-- win is doubled only below its limit
pub most_win : (setup : Setup) (game : Game) (bet : ℕ) (words : List ℕ) (c : Choices) → bet ≤ 9 → could_turn setup game bet words c c.turns ≡ true
    → (stage setup game bet words c).win ≤ 9000000
most_win setup game bet words c le could = by_base setup game bet words c (base_win setup game bet words c.choice) refl (any_base setup game bet words c.choice le) could
