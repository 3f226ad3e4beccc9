use Rattle.std.proofs.Common.{◌≡◌, ◌≤◌, ◌+◌, ◌*◌, ◌++◌}
use Rattle.arrayvec.specs.ArrayString.{array_string_len}
use Rattle.gd_base.specs.Texts.OfViews.{turn_lines}
use Rattle.gd_machine.proofs.texts.turns.push_turns.Given as goal

-- the lines of the first turns
abbrev pub invariant-loop-turn : goal.invariant-loop-turn
invariant-loop-turn l = record {
  bytes : l.text.bytes ≡ l.fn.text.bytes ++ turn_lines l.setup l.play l.turn;
  room : array_string_len l.text ≤ array_string_len l.fn.text + 41 * l.turn;
}
