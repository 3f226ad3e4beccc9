-- Sixteen totals are nine amounts and then seven counts.
use Rattle.std.proofs.Common.{◌≡◌, ℕ, ◌++◌, List, [], length, take, drop, ap, ◌∙◌, arith, append-nil}
use Rattle.std.proofs.Common.{take_at, take_all, take-append-drop, drop-drop, length-append, length-drop}
use Rattle.std.proofs.lemmas.List.{drop_all}
use borrow.Rule.Slice.PartMut.{mid_of, put_mid}

-- the last seven places written, behind nine
pub joined_parts : (xs zs ys : List ℕ) → length xs ≡ 9 → length zs ≡ 7 → put_mid 9 7 (xs ++ zs) ys ≡ xs ++ ys
joined_parts xs zs ys nine seven =
    let front : take 9 (xs ++ zs) ≡ xs = take_at xs zs 9 nine in
    let behind : drop 7 (drop 9 (xs ++ zs)) ≡ [] =
    drop-drop 7 9 (xs ++ zs) ∙ drop_all 16 (xs ++ zs) (omega (arith, length-append xs zs, nine, seven)) in
    ap (λ f. f ++ (ys ++ drop 7 (drop 9 (xs ++ zs)))) front ∙ ap (λ r. xs ++ (ys ++ r)) behind ∙ ap (λ r. xs ++ r) (append-nil ys)

-- nine, and the seven behind them, are all
pub parted_whole : (xs : List ℕ) → length xs ≡ 16 → take 9 xs ++ mid_of 9 7 xs ≡ xs
parted_whole xs all =
    let behind : take 7 (drop 9 xs) ≡ drop 9 xs = take_all 7 (drop 9 xs) (omega (arith, length-drop 9 xs, all)) in
    ap (λ r. take 9 xs ++ r) behind ∙ take-append-drop 9 xs
