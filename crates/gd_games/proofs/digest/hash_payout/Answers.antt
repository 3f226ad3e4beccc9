use Rattle.std.proofs.Common.{ℕ, List, ◌++◌, ◌∷◌, [], subst}
use Rattle.sha2.specs.Sha256.{Holds, initial_hash_256}
use Rattle.gd_base.specs.Payloads.Bytes.{four}
use Rattle.gd_games.specs.Digest.{flag}
use Rattle.gd_games.proofs.Pieces.{four_pieces}
use Rattle.gd_games.proofs.digest.hash_payout.Goals as goal

pub returns : goal.returns
returns c = λ m h.
    let s = c.args.setup.now in
    let coin = c.hash_number.ensures m h in
    let hopper = c.hash_flag.ensures (m ++ four s.coin) coin in
    let limit = c.hash_number-2.ensures (m ++ four s.coin ++ flag s.hopper ∷ []) hopper in
    let whole = c.hash_number-3.ensures (m ++ four s.coin ++ flag s.hopper ∷ [] ++ four s.hopper_limit) limit in
    subst (λ (l : List ℕ). Holds initial_hash_256 c.hash_number-3.new.hasher.core l)
    (four_pieces m (four s.coin) (flag s.hopper ∷ []) (four s.hopper_limit) (four s.voucher_limit)) whole
