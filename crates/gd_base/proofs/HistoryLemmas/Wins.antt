-- For callers: the most that a play of the reels wins before any gamble.
use Rattle.std.proofs.Common.{◌≡◌, ◌≤◌, ℕ, zero, suc, ◌*◌, ◌-◌, Bool, true, false, List, [], ◌∷◌, nat_le, get_or, slice_index, if◌then◌else◌, arith, Option, Some, None}
use Rattle.gd_base.specs.declared.game.Game.{Game}
use Rattle.gd_base.specs.declared.setup.Setup.{Setup}
use Rattle.gd_base.specs.declared.tables.TheConstants.{LINES, SYMBOLS}
use Rattle.gd_base.specs.Games.Chance.{greatest, pay_of_run, letters_on, pays_on, run_length, line_pay, line_wins, prize, window}
use Rattle.gd_base.specs.Histories.Credit.{wager}
use Rattle.gd_base.specs.Setups.SetupRules.{are_small, are_pays}
use Rattle.gd_base.specs.Games.Stage.{has_pick, lines_win, base_win}
use Rattle.gd_base.proofs.BoolTests.{at_most, both}

pub small_at : (xs : List ℕ) (i : ℕ) → are_small xs ≡ true → slice_index xs i ≤ 5000
small_at [] i h = omega arith
small_at (x ∷ xs) zero h = at_most x 5000 (both (nat_le x 5000) (are_small xs) h).0
small_at (x ∷ xs) (suc i) h = small_at xs i (both (nat_le x 5000) (are_small xs) h).1

-- ================ lines

run_if : (is_long : Bool) (n : ℕ) → n ≤ 5000 → (if is_long then n else 0) ≤ 5000
run_if true n le = le
run_if false n le = omega arith

pays_small : (line letters : List ℕ) (pays : List (List ℕ)) → are_pays pays ≡ true → greatest (pays_on line letters pays) ≤ 5000
pays_small line [] pays h = omega arith
pays_small line (letter ∷ letters) [] h = omega arith
pays_small line (letter ∷ letters) (own ∷ pays) h =
    let t = both (are_small own) (are_pays pays) h in
    let n = run_length letter line in
    let first : pay_of_run own n ≤ 5000 = run_if (nat_le 3 n) (slice_index own (n - 3)) (small_at own (n - 3) t.0) in
    omega (arith, first, pays_small line letters pays t.1)

line_small : (setup : Setup) (window : List (List ℕ)) (n : ℕ) → line_pay setup window n ≤ 5000
line_small setup window n = pays_small (letters_on window 0 (get_or LINES (n - 1) [])) SYMBOLS setup.reel_pays setup.has_pays

lines_small : (setup : Setup) (window : List (List ℕ)) (n : ℕ) → line_wins setup window n ≤ 5000 * n
lines_small setup window zero = omega arith
lines_small setup window (suc n) = omega (arith, lines_small setup window n, line_small setup window (suc n))

-- ================ a play

pub denom_small : (setup : Setup) → setup.denom ≤ 100
denom_small setup = at_most setup.denom 100 (both (nat_le 1 setup.denom) (nat_le setup.denom 100) setup.has_denom).1

pub product_small : (a b m n : ℕ) → a ≤ m → b ≤ n → a * b ≤ m * n
product_small a b m n p q = grind (arith, p, q)

pub wager_small : (setup : Setup) (bet : ℕ) → bet ≤ 9 → wager setup bet ≤ 900
wager_small setup bet le = product_small bet setup.denom 9 100 le (denom_small setup)

lines_win_small : (setup : Setup) (bet : ℕ) (words : List ℕ) → bet ≤ 9 → lines_win setup bet words ≤ 4500000
lines_win_small setup bet words le =
    let credits = line_wins setup (window setup words) bet in
    let few : credits ≤ 45000 = omega (arith, lines_small setup (window setup words) bet, le) in
    product_small credits setup.denom 45000 100 few (denom_small setup)

prize_small : (setup : Setup) (words : List ℕ) (door bet : ℕ) → bet ≤ 9 → prize setup words door * bet * setup.denom ≤ 4500000
prize_small setup words door bet le =
    let one : prize setup words door ≤ 5000 = small_at setup.prizes _ setup.has_prizes in
    let all : prize setup words door * bet ≤ 45000 = product_small (prize setup words door) bet 5000 9 one le in
    product_small (prize setup words door * bet) setup.denom 45000 100 all (denom_small setup)

abbrev pub AtMost : Option ℕ → Type 0
AtMost None = Unit {0}
AtMost (Some n) = n ≤ 9000000

base_if : (is_open : Bool) (n : ℕ) → n ≤ 9000000 → AtMost (if is_open then None else Some n)
base_if true n le = tt
base_if false n le = le

pub base_small : (setup : Setup) (bet : ℕ) (words : List ℕ) (choice : Option ℕ) → bet ≤ 9 → AtMost (base_win setup Game.Reels bet words choice)
base_small setup bet words None le = base_if (has_pick setup words) (lines_win setup bet words) (omega (arith, lines_win_small setup bet words le))
base_small setup bet words (Some door) le = omega (arith, lines_win_small setup bet words le, prize_small setup words door bet le)
