use Rattle.std.proofs.Common.{◌≡◌, ◌≤◌, ◌+◌, ◌*◌, ◌++◌, take, flat_map}
use Rattle.arrayvec.specs.ArrayString.{array_string_len}
use Rattle.gd_base.specs.Texts.OfViews.{ended_lines}
use Rattle.gd_machine.proofs.texts.recalled.push_ended_plays.Given as goal

-- the lines of the first plays
abbrev pub invariant-loop-i : goal.invariant-loop-i
invariant-loop-i l = record {
  bytes : l.text.bytes ≡ l.fn.text.bytes ++ flat_map (ended_lines l.setup) (take l.i l.recall.lists.plays);
  room : array_string_len l.text ≤ array_string_len l.fn.text + 474 * l.i;
}
