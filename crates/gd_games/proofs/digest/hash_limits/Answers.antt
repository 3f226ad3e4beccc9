use Rattle.std.proofs.Common.{ℕ, List, ◌++◌, ◌∷◌, [], take, subst}
use Rattle.std.specs.Prelude.{flat_map}
use Rattle.sha2.specs.Sha256.{Holds, initial_hash_256}
use Rattle.gd_base.specs.Payloads.Bytes.{two, four}
use Rattle.gd_games.proofs.Pieces.{six_pieces}
use Rattle.gd_games.proofs.digest.hash_limits.Goals as goal

pub returns : goal.returns
returns c = λ m h.
    let s = c.args.setup.now in
    let one = m ++ two s.denom in
    let limits = one ++ four s.credit_limit ++ four s.handpay_limit ++ four s.gamble_limit in
    let denom = c.hash_short.ensures m h in
    let credit = c.hash_number.ensures one denom in
    let handpay = c.hash_number-2.ensures (one ++ four s.credit_limit) credit in
    let gamble = c.hash_number-3.ensures (one ++ four s.credit_limit ++ four s.handpay_limit) handpay in
    let count = c.update.ensures limits gamble in
    let bills = c.hash_numbers.ensures (limits ++ s.bill_count ∷ []) count in
    let whole = subst (λ (n : ℕ). Holds initial_hash_256 c.hash_numbers.new.hasher.core (limits ++ s.bill_count ∷ [] ++ flat_map four (take n s.bills))) c.from-taken.ensures bills in
    subst (λ (l : List ℕ). Holds initial_hash_256 c.hash_numbers.new.hasher.core l)
    (six_pieces m (two s.denom) (four s.credit_limit) (four s.handpay_limit) (four s.gamble_limit) (s.bill_count ∷ []) (flat_map four (take s.bill_count s.bills))) whole
