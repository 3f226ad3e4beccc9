-- Why money is refused, and where a win goes.
use Rattle.std.specs.Prelude.{ℕ, ◌+◌, ◌==◌, ◌&&◌, Bool, nat_le, nat_lt, if◌then◌else◌, List, [], ◌∷◌}
use Rattle.std.specs.Prelude.{Option, Some, None, Result, Ok, Err}
use Rattle.gd_base.specs.declared.limits.TheConstants.{MOST_AMOUNT}
use Rattle.gd_base.specs.declared.refusal.Refusal.{Refusal}
use Rattle.gd_base.specs.declared.setup.Setup.{Setup}
use Rattle.gd_base.specs.Judging.Rule.{refuse_if, unless}
use Rattle.gd_account.specs.declared.posted.Posted.{Posted}

-- the first refusal of a list, as they are tried in order
abbrev pub first_refusal : List (Option Refusal) → Option Refusal
first_refusal [] = None
first_refusal (None ∷ others) = first_refusal others
first_refusal (Some why ∷ others) = Some why

-- done, or refused
abbrev pub outcome : Option Refusal → Result (Unit {0}) Refusal
outcome None = Ok tt
outcome (Some why) = Err why

-- money in is refused where its value isn't enabled, and then where the balance would pass the credit limit
abbrev pub income_refusal : Bool → ℕ → ℕ → ℕ → Option Refusal
income_refusal is_enabled limit balance value =
    let over_limit = refuse_if (nat_lt limit (balance + value)) Refusal.CreditLimit in
    first_refusal (unless is_enabled Refusal.ValueNotEnabled ∷ over_limit ∷ [])

-- a voucher is taken over any amount of an event
abbrev pub is_voucher_value : ℕ → Bool
is_voucher_value value = nat_le 1 value && nat_le value MOST_AMOUNT

-- a wager is refused where the balance doesn't cover it
abbrev pub wager_refusal : ℕ → ℕ → Option Refusal
wager_refusal balance cents = refuse_if (nat_lt balance cents) Refusal.NoCredit

-- where a win goes: from the handpay limit on it is held for the attendant
abbrev pub posting : Setup → ℕ → Posted
posting setup win =
    if win == 0 then Posted.Nothing else if nat_lt win setup.handpay_limit then Posted.Credited else Posted.Held
