-- What stands behind the first bytes is read as if it stood at the beginning.
use Rattle.std.proofs.Common.{◌≡◌, ◌∙◌, ap, sym, ℕ, ◌+◌, List, ◌++◌, length, take, drop, slice_index}
use Rattle.std.specs.Int.{w32, w64, from_be_bytes}
use Rattle.std.proofs.lemmas.List.{get_or-append-add}
use Rattle.std.proofs.Math.Seq.{drop-append-add}
use Rattle.gd_base.specs.Payloads.Reading.{number_at, short_at}

pub number_behind : (n k : ℕ) (h r : List ℕ) → length h ≡ n → number_at (n + k) (h ++ r) ≡ number_at k r
unfolding number_at
number_behind n k h r len =
    ap (λ (m : ℕ). from_be_bytes w64 (take 8 (drop (m + k) (h ++ r)))) (sym len) ∙ ap (λ (x : List ℕ). from_be_bytes w64 (take 8 x)) (drop-append-add h r k)

pub short_behind : (n k : ℕ) (h r : List ℕ) → length h ≡ n → short_at (n + k) (h ++ r) ≡ short_at k r
unfolding short_at
short_behind n k h r len =
    ap (λ (m : ℕ). from_be_bytes w32 (take 4 (drop (m + k) (h ++ r)))) (sym len) ∙ ap (λ (x : List ℕ). from_be_bytes w32 (take 4 x)) (drop-append-add h r k)

pub byte_behind : (n k : ℕ) (h r : List ℕ) → length h ≡ n → slice_index (h ++ r) (n + k) ≡ slice_index r k
byte_behind n k h r len = ap (λ (m : ℕ). slice_index (h ++ r) (m + k)) (sym len) ∙ get_or-append-add h r k 0
