-- The digest by which a memory names its setup: SHA-256 of the fields in a row, of the bills those that are taken.
use Rattle.std.specs.Prelude.{ℕ, Bool, if◌then◌else◌, List, ◌∷◌, ◌++◌, flat_map, take}
use Rattle.sha2.specs.Sha256.{sha256}
use Rattle.gd_base.specs.declared.setup.Setup.{Setup}
use Rattle.gd_base.specs.Payloads.Bytes.{two, four}

abbrev pub flag : Bool → ℕ
flag b = if b then 1 else 0

-- the limits of amounts, and the bills
abbrev pub limits_bytes : Setup → List ℕ
limits_bytes s =
    two s.denom ++ four s.credit_limit ++ four s.handpay_limit ++ four s.gamble_limit
    ++ s.bill_count ∷ flat_map four (take s.bill_count s.bills)

-- coins, the hopper and vouchers
abbrev pub payout_bytes : Setup → List ℕ
payout_bytes s = four s.coin ++ flag s.hopper ∷ four s.hopper_limit ++ four s.voucher_limit

abbrev pub reels_bytes : Setup → List ℕ
reels_bytes s = flag s.reels_enabled ∷ flat_map (λ strip. strip) s.strips ++ flat_map (flat_map two) s.reel_pays ++ flat_map two s.prizes

abbrev pub poker_bytes : Setup → List ℕ
poker_bytes s = flag s.poker_enabled ∷ flat_map two s.poker_pays

abbrev pub setup_bytes : Setup → List ℕ
setup_bytes s = limits_bytes s ++ payout_bytes s ++ reels_bytes s ++ poker_bytes s

unfoldable pub digest_of : Setup → List ℕ
digest_of s = sha256 (setup_bytes s)
