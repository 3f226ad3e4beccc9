use Rattle.std.proofs.Common.{◌≡◌, ◌+◌, ◌++◌, take}
use Rattle.arrayvec.specs.ArrayString.{array_string_len}
use Rattle.gd_base.specs.Texts.OfViews.{bits}
use Rattle.gd_script.proofs.printing.push_bits.Given as goal

-- the digits of the first cards
abbrev pub invariant-loop-card : goal.invariant-loop-card
invariant-loop-card l = record {
  bytes : l.into.bytes ≡ l.fn.into.bytes ++ take l.card (bits l.mask 0 5);
  room : array_string_len l.into ≡ array_string_len l.fn.into + l.card;
}
