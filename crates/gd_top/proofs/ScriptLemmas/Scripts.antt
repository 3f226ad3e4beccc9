-- A script in two parts, and its next line.
use Rattle.std.proofs.Common.{◌≡◌, ◌≢◌, ℕ, ◌<◌, nat_le, List, [], ◌∷◌, ◌++◌, Option, None, Bool, false, refl, ap, ◌∙◌, append-nil, append_assoc, map, length, length-append, if◌then◌else◌, arith, ok_or, Err}
use Rattle.std.proofs.lemmas.Bool.Decides.{nat_tests}
use Rattle.gd_script.specs.declared.item.Item.{Item}
use Rattle.gd_script.specs.Reading.{item_of, read_of}
use Rattle.gd_script.specs.declared.item.LineFault.{LineFault}
use Rattle.gd_top.specs.Script.Lines.{Pieces, pieces_of, HasNoEnd, line_of, read_item, rest_lines, lines_of_pieces, script_of, whole_lines}
use Rattle.gd_script.specs.declared.limits.TheConstants.{LINE_LEN}
use Rattle.gd_top.proofs.ScriptLemmas.Pieces.{pieces_append, pieces_line, pieces_rest, pieces_long, put_all}

map_append : {A B : Type 0} (f : A → B) (xs ys : List A) → map f (xs ++ ys) ≡ map f xs ++ map f ys
map_append f [] ys = refl
map_append f (x ∷ xs) ys = ap (λ zs. f x ∷ zs) (map_append f xs ys)

-- behind whole lines a script goes on with the lines of the rest
pub script_append : (came more : List ℕ) → (pieces_of came).rest ≡ [] → script_of (came ++ more) ≡ whole_lines came ++ script_of more
script_append came more e =
    ap lines_of_pieces (pieces_append came more e)
    ∙ (ap (λ (ls : List (Option Item)). ls ++ rest_lines (pieces_of more).rest) (map_append line_of (pieces_of came).lines (pieces_of more).lines)
    ∙ append_assoc (whole_lines came) (whole_lines more) (rest_lines (pieces_of more).rest))

-- a script of whole lines is these lines
pub script_whole : (came : List ℕ) → (pieces_of came).rest ≡ [] → script_of came ≡ whole_lines came
script_whole came e = ap (λ (r : List ℕ). whole_lines came ++ rest_lines r) e ∙ append-nil (whole_lines came)

-- ================ the first line

-- a line with its LF
pub script_line : (line more : List ℕ) → HasNoEnd line → script_of (line ++ 10 ∷ more) ≡ line_of line ∷ script_of more
script_line line more h = ap lines_of_pieces (pieces_line line more h)

rest_is_fault : (line : List ℕ) → line ≢ [] → rest_lines line ≡ None ∷ []
rest_is_fault [] n = absurd (n refl)
rest_is_fault (b ∷ bs) n = refl

-- a line without LF
pub script_cut : (line : List ℕ) → HasNoEnd line → line ≢ [] → script_of line ≡ None ∷ []
script_cut line h n = ap lines_of_pieces (pieces_rest line h) ∙ rest_is_fault line n

too_long : (front rest : List ℕ) → LINE_LEN < length front → line_of (front ++ rest) ≡ None
unfolding read_of
too_long front rest h =
    let long : nat_le (length (front ++ rest)) LINE_LEN ≡ false = grind (arith, nat_tests, length-append front rest) in
    ap (λ (b : Bool). read_item (if b then ok_or (item_of (front ++ rest)) LineFault.NotALine else Err LineFault.TooLong)) long

long_lines : (front : List ℕ) (lines : List (List ℕ)) (rest : List ℕ) → LINE_LEN < length front → (tail : List (Option Item)) × (lines_of_pieces (put_all front lines rest) ≡ None ∷ tail)
long_lines [] lines rest h = absurd (omega arith)
long_lines (b ∷ bs) [] rest h = ([], refl)
long_lines (b ∷ bs) (line ∷ lines) rest h = (map line_of lines ++ rest_lines rest, ap (λ item. item ∷ (map line_of lines ++ rest_lines rest)) (too_long (b ∷ bs) line h))

-- a line that is too long, whatever stands behind its first bytes
pub script_long : (front more : List ℕ) → HasNoEnd front → LINE_LEN < length front → (tail : List (Option Item)) × (script_of (front ++ more) ≡ None ∷ tail)
script_long front more h n =
    let found = long_lines front (pieces_of more).lines (pieces_of more).rest n in
    (found.0, ap lines_of_pieces (pieces_long front more h) ∙ found.1)

-- ================ whole lines, and one line more

pub one_line_more : (came line : List ℕ) → (pieces_of came).rest ≡ [] → HasNoEnd line → whole_lines (came ++ (line ++ 10 ∷ [])) ≡ whole_lines came ++ line_of line ∷ []
one_line_more came line e h =
    ap (λ (p : Pieces). map line_of p.lines) (pieces_append came (line ++ 10 ∷ []) e)
    ∙ (map_append line_of (pieces_of came).lines (pieces_of (line ++ 10 ∷ [])).lines
    ∙ ap (λ (p : Pieces). whole_lines came ++ map line_of p.lines) (pieces_line line [] h))

-- the lines are still whole
pub still_whole : (came line : List ℕ) → (pieces_of came).rest ≡ [] → HasNoEnd line → (pieces_of (came ++ (line ++ 10 ∷ []))).rest ≡ []
still_whole came line e h =
    ap (λ (p : Pieces). p.rest) (pieces_append came (line ++ 10 ∷ []) e) ∙ ap (λ (p : Pieces). p.rest) (pieces_line line [] h)

-- bytes without LF stand behind them
pub still_rest : (came line : List ℕ) → (pieces_of came).rest ≡ [] → HasNoEnd line → (pieces_of (came ++ line)).rest ≡ line
still_rest came line e h = ap (λ (p : Pieces). p.rest) (pieces_append came line e) ∙ ap (λ (p : Pieces). p.rest) (pieces_rest line h)

-- and are no line more
pub no_line_more : (came line : List ℕ) → (pieces_of came).rest ≡ [] → HasNoEnd line → whole_lines (came ++ line) ≡ whole_lines came
no_line_more came line e h =
    ap (λ (p : Pieces). map line_of p.lines) (pieces_append came line e)
    ∙ (ap (λ (p : Pieces). map line_of ((pieces_of came).lines ++ p.lines)) (pieces_rest line h)
    ∙ ap (map line_of) (append-nil (pieces_of came).lines))
