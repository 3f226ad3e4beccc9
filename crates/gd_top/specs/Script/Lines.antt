-- A script as its lines.
--
-- The definition goes from the end of the bytes, and the reader from their front.
use Rattle.std.specs.Prelude.{ℕ, ◌≡◌, ◌==◌, ◌≢◌, ◌≤◌, ◌<◌, ◌⊎◌, length, Bool, true, false, List, [], ◌∷◌, ◌++◌, All, map, Option, Some, None, Result, Ok, Err}
use Rattle.gd_script.specs.declared.item.Item.{Item}
use Rattle.gd_script.specs.declared.limits.TheConstants.{LINE_LEN}
use Rattle.gd_script.specs.Reading.{read_of}
use Rattle.gd_script.specs.declared.item.LineFault.{LineFault}
use Rattle.gd_top.specs.declared.script.reader.TheConstants.{MOST_LINES}

-- ================ bytes as lines

-- the lines that end with LF, without it, and what comes after the last LF
pub record Pieces : Type 0 where
  pub lines : List (List ℕ)
  pub rest : List ℕ

-- a byte before the first line, or before the rest where there is no line
abbrev pub put_onto : ℕ → List (List ℕ) → List ℕ → Pieces
put_onto b [] rest = record { lines = []; rest = b ∷ rest }
put_onto b (line ∷ lines) rest = record { lines = (b ∷ line) ∷ lines; rest = rest }

-- LF before them, or another byte
abbrev pub put_by : Bool → ℕ → Pieces → Pieces
put_by true b p = record p { lines = [] ∷ p.lines }
put_by false b p = put_onto b p.lines p.rest

abbrev pub put : ℕ → Pieces → Pieces
put b p = put_by (b == 10) b p

abbrev pub pieces_of : List ℕ → Pieces
pieces_of [] = record { lines = []; rest = [] }
pieces_of (b ∷ bytes) = put b (pieces_of bytes)

-- no byte is LF
abbrev pub HasNoEnd : List ℕ → Type 0
HasNoEnd bytes = All (λ b. b ≢ 10) bytes

-- ================ lines as items

abbrev pub read_item : Result Item LineFault → Option Item
read_item (Ok item) = Some item
read_item (Err fault) = None

-- None is a line that is too long, or no item
abbrev pub line_of : List ℕ → Option Item
line_of line = read_item (read_of line)

-- a last line without LF is no item, whatever it holds
abbrev pub rest_lines : List ℕ → List (Option Item)
rest_lines [] = []
rest_lines (b ∷ bytes) = None ∷ []

abbrev pub lines_of_pieces : Pieces → List (Option Item)
lines_of_pieces p = map line_of p.lines ++ rest_lines p.rest

-- a script as its lines, in order
abbrev pub script_of : List ℕ → List (Option Item)
script_of bytes = lines_of_pieces (pieces_of bytes)

-- the lines that end with LF
abbrev pub whole_lines : List ℕ → List (Option Item)
whole_lines bytes = map line_of (pieces_of bytes).lines

-- ================ what bytes show that aren't a whole script

-- Behind their whole lines, of which there are so many, the bytes show no script fault: what stands there may be the beginning of a
-- line. They show one by more than 120 bytes of a line, and by a byte behind the last line that is allowed.
pub record ShowsNoFault (came : List ℕ) (lines : ℕ) : Type 0 where
  pub short : length (pieces_of came).rest ≤ LINE_LEN
  pub room : (lines < MOST_LINES) ⊎ ((pieces_of came).rest ≡ [])
