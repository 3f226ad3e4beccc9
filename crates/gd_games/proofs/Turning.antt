-- Turns of gamble over a known win: what they double, and when they could come.
use Rattle.std.proofs.Common.{◌≡◌, ◌∙◌, ap, sym, ℕ, zero, suc, ◌+◌, ◌-◌, ◌*◌, ◌^◌, ◌<◌, ◌≤◌, ◌==◌, Bool, true, false, ◌&&◌, ◌||◌, nat_le, nat_lt, List, if◌then◌else◌, arith, refl, Some}
use Rattle.std.proofs.lemmas.Bool.Decides.{nat_tests}
use Rattle.gd_base.specs.declared.game.Game.{Game}
use Rattle.gd_base.specs.declared.limits.TheConstants.{MOST_TURNS}
use Rattle.gd_base.specs.declared.play.Choices.{Choices}
use Rattle.gd_base.specs.declared.play.Stage.{Stage}
use Rattle.gd_base.specs.declared.play.StageOpen.{StageOpen}
use Rattle.gd_base.specs.declared.setup.Setup.{Setup}
use Rattle.gd_base.specs.Games.Stage.{are_choices, base_win, could_turn, gamble_stage, is_choice, is_right, is_stage, stage, stage_with, win_after}
use Rattle.gd_base.proofs.BoolTests.{at_most, both}
use Rattle.gd_games.specs.Turns.{could_turn_from}

pub power_small : (t : ℕ) → t ≤ 5 → 2 ^ t ≤ 32
power_small zero h = omega arith
power_small (suc zero) h = omega arith
power_small (suc (suc zero)) h = omega arith
power_small (suc (suc (suc zero))) h = omega arith
power_small (suc (suc (suc (suc zero)))) h = omega arith
power_small (suc (suc (suc (suc (suc zero))))) h = omega arith
power_small (suc (suc (suc (suc (suc (suc n)))))) h = absurd (omega (arith, h))

-- ================ the most that is won

still_open : (is_over : Bool) (win : ℕ) → is_stage (let s : Stage = if is_over then record { phase = StageOpen.Ended; win = win } else record { phase = StageOpen.Gamble; win = win } in s.phase) StageOpen.Gamble ≡ true → is_over ≡ false
still_open true win h = absurd (cc h)
still_open false win h = refl

below_limit : (limit win : ℕ) (a c : Bool) → a || nat_le limit win || c ≡ false → win < limit
below_limit limit win a c h = grind (arith, nat_tests, h)

doubled : (right : Bool) (win limit : ℕ) → win < limit → limit ≤ 1000000 → (if right then 2 * win else 0) ≤ 9000000
doubled true win limit lt le = omega (arith, lt, le)
doubled false win limit lt le = omega arith

limit_small : (setup : Setup) → setup.gamble_limit ≤ 1000000
limit_small setup = at_most setup.gamble_limit 1000000 setup.has_gamble_limit

-- the gamble stage was open before the last turn, so the win was below the limit then
turned_small : (setup : Setup) (words : List ℕ) (colours base n : ℕ) → base ≤ 9000000 → could_turn_from setup words colours base n ≡ true → win_after words colours base n ≤ 9000000
turned_small setup words colours base zero small could = small
turned_small setup words colours base (suc t) small could =
    let win = win_after words colours base t in
    let shown = (both (could_turn_from setup words colours base t) (is_stage (gamble_stage setup t win).phase StageOpen.Gamble) could).1 in
    let open_then = still_open ((win == 0) || nat_le setup.gamble_limit win || (t == MOST_TURNS)) win shown in
    doubled (is_right words colours (suc t)) win setup.gamble_limit (below_limit setup.gamble_limit win (win == 0) (t == MOST_TURNS) open_then) (limit_small setup)

either : (is_over : Bool) (a b : StageOpen) (win : ℕ) → win ≤ 9000000 → (let s : Stage = if is_over then record { phase = a; win = win } else record { phase = b; win = win } in s.win) ≤ 9000000
either true a b win le = le
either false a b win le = le

pub gamble_small : (setup : Setup) (words : List ℕ) (colours base n : ℕ) → base ≤ 9000000 → could_turn_from setup words colours base n ≡ true
    → (gamble_stage setup n (win_after words colours base n)).win ≤ 9000000
gamble_small setup words colours base n small could =
    let win = win_after words colours base n in
    either ((win == 0) || nat_le setup.gamble_limit win || (n == MOST_TURNS)) StageOpen.Ended StageOpen.Gamble win (turned_small setup words colours base n small could)

-- ================ a play whose base win is known

pub stage_known : (setup : Setup) (game : Game) (bet : ℕ) (words : List ℕ) (c : Choices) (base : ℕ) → base_win setup game bet words c.choice ≡ Some base
    → stage setup game bet words c ≡ gamble_stage setup c.turns (win_after words c.colours base c.turns)
stage_known setup game bet words c base is = ap (stage_with setup game words c) is

pub same_turns : (setup : Setup) (game : Game) (bet : ℕ) (words : List ℕ) (c : Choices) (base n : ℕ) → base_win setup game bet words c.choice ≡ Some base
    → could_turn setup game bet words c n ≡ could_turn_from setup words c.colours base n
same_turns setup game bet words c base zero is = refl
same_turns setup game bet words c base (suc t) is =
    let before : Choices = record c { turns = t } in
    let shown = ap (λ (s : Stage). is_stage s.phase StageOpen.Gamble) (stage_known setup game bet words before base is) in
    ap (λ (b : Bool). b && is_stage (stage setup game bet words before).phase StageOpen.Gamble) (same_turns setup game bet words c base t is)
    ∙ ap (λ (b : Bool). could_turn_from setup words c.colours base t && b) shown

-- the most that is won where the choices are such as the stages allow
pub known_small : (setup : Setup) (game : Game) (bet : ℕ) (words : List ℕ) (c : Choices) (base : ℕ) → base_win setup game bet words c.choice ≡ Some base → base ≤ 9000000
    → are_choices setup game bet words c ≡ true → (gamble_stage setup c.turns (win_after words c.colours base c.turns)).win ≤ 9000000
known_small setup game bet words c base is small legal =
    let could = (both (is_choice setup game words c.choice && nat_lt c.colours (2 ^ c.turns)) (could_turn setup game bet words c c.turns) legal).1 in
    gamble_small setup words c.colours base c.turns small (sym (same_turns setup game bet words c base c.turns is) ∙ could)

-- ================ a turn that could not come

never_both : (a b : Bool) → b ≡ false → (a && b) ≡ false
never_both true b h = h
never_both false b h = refl

never_first : (a b : Bool) → a ≡ false → (a && b) ≡ false
never_first true b h = absurd (cc h)
never_first false b h = refl

stopped_by : (setup : Setup) (words : List ℕ) (colours base t k : ℕ) → is_stage (gamble_stage setup t (win_after words colours base t)).phase StageOpen.Gamble ≡ false
    → could_turn_from setup words colours base (suc (t + k)) ≡ false
stopped_by setup words colours base t zero h =
    let e : t + 0 ≡ t = omega arith in
    ap (λ (m : ℕ). could_turn_from setup words colours base (suc m)) e ∙ never_both (could_turn_from setup words colours base t) _ h
stopped_by setup words colours base t (suc k) h =
    let e : t + suc k ≡ suc (t + k) = omega arith in
    ap (λ (m : ℕ). could_turn_from setup words colours base (suc m)) e
    ∙ never_first (could_turn_from setup words colours base (suc (t + k))) _ (stopped_by setup words colours base t k h)

pub stopped : (setup : Setup) (words : List ℕ) (colours base t n : ℕ) → t < n → is_stage (gamble_stage setup t (win_after words colours base t)).phase StageOpen.Gamble ≡ false
    → could_turn_from setup words colours base n ≡ false
stopped setup words colours base t n lt h =
    let apart : n ≡ suc (t + (n - t - 1)) = omega (arith, lt) in
    ap (could_turn_from setup words colours base) apart ∙ stopped_by setup words colours base t (n - t - 1) h
