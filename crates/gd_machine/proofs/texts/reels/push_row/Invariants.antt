use Rattle.std.proofs.Common.{◌≡◌, ◌≤◌, ◌+◌, ◌++◌, take, codes}
use Rattle.arrayvec.specs.ArrayString.{array_string_len}
use Rattle.gd_machine.proofs.texts.reels.push_row.Given as goal

-- the first letters
abbrev pub invariant-loop-letter : goal.invariant-loop-letter
invariant-loop-letter l = record {
  bytes : l.text.bytes ≡ l.fn.text.bytes ++ (codes " " ++ take l.letter-index l.row);
  room : array_string_len l.text ≤ array_string_len l.fn.text + 1 + l.letter-index;
}
