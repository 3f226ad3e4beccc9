-- Scripts put together from lines.
use Rattle.std.proofs.Common.{◌≡◌, ◌≢◌, ℕ, ◌==◌, Bool, true, false, List, [], ◌∷◌, ◌++◌, refl, ap, ◌∙◌}
use Rattle.std.proofs.lemmas.List.Elements.{recursion_from_All}
use Rattle.std.proofs.lemmas.Bool.Decides.{nat_tests}
use Rattle.std.proofs.Common.{arith}
use Rattle.std.specs.List.{AllByRecursion}
use Rattle.gd_top.specs.Script.Lines.{Pieces, put_onto, put_by, put, pieces_of, HasNoEnd}

-- whole lines, and then more
abbrev pub join : Pieces → Pieces → Pieces
join p q = record { lines = p.lines ++ q.lines; rest = q.rest }

cons_is_not_nil : (x : ℕ) (xs : List ℕ) → (x ∷ xs) ≡ [] → ⊥
cons_is_not_nil x xs e = cc

put_onto_rest : (x : ℕ) (lines : List (List ℕ)) (rest : List ℕ) → (put_onto x lines rest).rest ≡ [] → rest ≡ []
put_onto_rest x [] rest e = absurd (cons_is_not_nil x rest e)
put_onto_rest x (l ∷ ls) rest e = e

put_by_rest : (b : Bool) (x : ℕ) (p : Pieces) → (put_by b x p).rest ≡ [] → p.rest ≡ []
put_by_rest true x p e = e
put_by_rest false x p e = put_onto_rest x p.lines p.rest e

put_onto_join : (x : ℕ) (lines : List (List ℕ)) (rest : List ℕ) (q : Pieces) → (put_onto x lines rest).rest ≡ [] → put_onto x (lines ++ q.lines) q.rest ≡ join (put_onto x lines rest) q
put_onto_join x [] rest q e = absurd (cons_is_not_nil x rest e)
put_onto_join x (l ∷ ls) rest q e = refl

put_by_join : (b : Bool) (x : ℕ) (p q : Pieces) → (put_by b x p).rest ≡ [] → put_by b x (join p q) ≡ join (put_by b x p) q
put_by_join true x p q e = refl
put_by_join false x p q e = put_onto_join x p.lines p.rest q e

-- behind whole lines a script goes on with the lines of the rest
pub pieces_append : (a b : List ℕ) → (pieces_of a).rest ≡ [] → pieces_of (a ++ b) ≡ join (pieces_of a) (pieces_of b)
pieces_append [] b e = refl
pieces_append (x ∷ xs) b e =
    ap (put x) (pieces_append xs b (put_by_rest (x == 10) x (pieces_of xs) e)) ∙ put_by_join (x == 10) x (pieces_of xs) (pieces_of b) e

not_ten : (x : ℕ) → x ≢ 10 → (x == 10) ≡ false
not_ten x h = grind (arith, nat_tests)

line_by : (line more : List ℕ) → AllByRecursion (λ b. b ≢ 10) line → pieces_of (line ++ 10 ∷ more) ≡ record { lines = line ∷ (pieces_of more).lines; rest = (pieces_of more).rest }
line_by [] more h = refl
line_by (x ∷ xs) more h =
    ap (put x) (line_by xs more h.1) ∙ ap (λ (b : Bool). put_by b x (record { lines = xs ∷ (pieces_of more).lines; rest = (pieces_of more).rest })) (not_ten x h.0)

-- a line with its LF is the first line
pub pieces_line : (line more : List ℕ) → HasNoEnd line → pieces_of (line ++ 10 ∷ more) ≡ record { lines = line ∷ (pieces_of more).lines; rest = (pieces_of more).rest }
pieces_line line more h = line_by line more (recursion_from_All (λ b. b ≢ 10) line h)

rest_by : (line : List ℕ) → AllByRecursion (λ b. b ≢ 10) line → pieces_of line ≡ record { lines = []; rest = line }
rest_by [] h = refl
rest_by (x ∷ xs) h = ap (put x) (rest_by xs h.1) ∙ ap (λ (b : Bool). put_by b x (record { lines = []; rest = xs })) (not_ten x h.0)

-- bytes without LF are no line
pub pieces_rest : (line : List ℕ) → HasNoEnd line → pieces_of line ≡ record { lines = []; rest = line }
pieces_rest line h = rest_by line (recursion_from_All (λ b. b ≢ 10) line h)

-- bytes before the first line, or before the rest
abbrev pub put_all : List ℕ → List (List ℕ) → List ℕ → Pieces
put_all bytes [] rest = record { lines = []; rest = bytes ++ rest }
put_all bytes (line ∷ lines) rest = record { lines = (bytes ++ line) ∷ lines; rest = rest }

put_all_one : (x : ℕ) (xs : List ℕ) (lines : List (List ℕ)) (rest : List ℕ) → put_onto x (put_all xs lines rest).lines (put_all xs lines rest).rest ≡ put_all (x ∷ xs) lines rest
put_all_one x xs [] rest = refl
put_all_one x xs (l ∷ ls) rest = refl

put_all_none : (lines : List (List ℕ)) (rest : List ℕ) → (let p : Pieces = record { lines = lines; rest = rest } in p) ≡ put_all [] lines rest
put_all_none [] rest = refl
put_all_none (l ∷ ls) rest = refl

long_by : (line more : List ℕ) → AllByRecursion (λ b. b ≢ 10) line → pieces_of (line ++ more) ≡ put_all line (pieces_of more).lines (pieces_of more).rest
long_by [] more h = put_all_none (pieces_of more).lines (pieces_of more).rest
long_by (x ∷ xs) more h =
    ap (put x) (long_by xs more h.1)
    ∙ (ap (λ (b : Bool). put_by b x (put_all xs (pieces_of more).lines (pieces_of more).rest)) (not_ten x h.0)
    ∙ put_all_one x xs (pieces_of more).lines (pieces_of more).rest)

-- bytes without LF begin the first line, or the rest
pub pieces_long : (line more : List ℕ) → HasNoEnd line → pieces_of (line ++ more) ≡ put_all line (pieces_of more).lines (pieces_of more).rest
pieces_long line more h = long_by line more (recursion_from_All (λ b. b ≢ 10) line h)
