-- Pieces that are put in a row.
use Rattle.std.proofs.Common.{◌≡◌, ◌∙◌, ap, sym, ℕ, ◌+◌, ◌*◌, ◌<◌, ◌≤◌, List, [], ◌∷◌, ◌++◌, length, take, drop, append-nil, get_or, arith, append_assoc, add-one, length-append}
use Rattle.std.specs.List.{flat_map}
use Rattle.std.proofs.Math.Seq.{take-suc, take-append_seam}
use Rattle.std.proofs.lemmas.Grind.{flat_map-append}
use Rattle.std.proofs.lemmas.List.{length-take-le}
use Rattle.std.proofs.lemmas.List.Folds.{length-flat_map-take}
use Rattle.std.proofs.lemmas.Slice.{drop-append-drop}
use Rattle.gd_base.proofs.PayloadLemmas.Lengths.{row_length}
use Rattle.gd_recall.specs.Pieces.{put_at}

-- a second piece right behind a first one
pub put_behind : (place n : ℕ) (xs ys bytes : List ℕ) → length xs ≡ n → place + n + length ys ≤ length bytes
    → put_at (place + n) ys (put_at place xs bytes) ≡ put_at place (xs ++ ys) bytes
put_behind place n xs ys bytes e fits =
    let u = take place bytes ++ xs in
    let v = drop (place + length xs) bytes in
    let first : length (take place bytes) ≡ place = length-take-le place bytes (omega (arith, fits)) in
    let both : length u ≡ place + length xs = length-append (take place bytes) xs ∙ ap (λ (k : ℕ). k + length xs) first in
    let where_it_ends : place + n ≡ length u = omega (arith, both, e) in
    let front : take (place + n) (u ++ v) ≡ u = ap (λ (k : ℕ). take k (u ++ v)) where_it_ends ∙ take-append_seam u v in
    let back : drop (place + n + length ys) (u ++ v) ≡ drop (place + n + length ys) bytes =
    drop-append-drop (place + length xs) bytes u (place + n + length ys) (omega (arith, e)) both in
    let behind : place + n + length ys ≡ place + length (xs ++ ys) = omega (arith, e, length-append xs ys) in
    (λ i. front i ++ ys ++ back i) ∙ (λ i. append_assoc (take place bytes) xs ys i ++ drop (behind i) bytes)

-- ================ pieces of one length

-- one piece more
pub row_more : {A : Type 0} (f : A → List ℕ) (size : ℕ) → ((x : A) → length (f x) ≡ size) → (place i : ℕ) (xs : List A) (d : A) (bytes : List ℕ) → i < length xs
    → place + size * length xs ≤ length bytes
    → put_at (place + size * i) (f (get_or xs i d)) (put_at place (flat_map f (take i xs)) bytes) ≡ put_at place (flat_map f (take (i + 1) xs)) bytes
row_more {A} f size long place i xs d bytes lt fits =
    let x = get_or xs i d in
    let before = flat_map f (take i xs) in
    let few : length before ≡ size * i = row_length f size long (take i xs) ∙ ap (λ (k : ℕ). size * k) (length-take-le i xs (omega (arith, lt))) in
    let room : place + size * i + length (f x) ≤ length bytes = omega (arith, fits, few, row_length f size long xs, length-flat_map-take f xs i d lt) in
    let one : take (i + 1) xs ≡ take i xs ++ x ∷ [] = rw add-one (take-suc xs i d lt) in
    let more : flat_map f (take (i + 1) xs) ≡ before ++ f x = ap (flat_map f) one ∙ flat_map-append f (take i xs) (x ∷ []) ∙ (λ j. before ++ append-nil (f x) j) in
    put_behind place (size * i) before (f x) bytes few room ∙ ap (λ (u : List ℕ). put_at place u bytes) (sym more)
