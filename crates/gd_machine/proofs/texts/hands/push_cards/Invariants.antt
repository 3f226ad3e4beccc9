use Rattle.std.proofs.Common.{◌≡◌, ◌≤◌, ◌+◌, ◌*◌, ◌++◌, map, take}
use Rattle.arrayvec.specs.ArrayString.{array_string_len}
use Rattle.gd_base.specs.Texts.Names.{card_name}
use Rattle.gd_base.specs.Texts.OfViews.{spaced_texts}
use Rattle.gd_machine.proofs.texts.hands.push_cards.Given as goal

-- the first cards
abbrev pub invariant-loop-card : goal.invariant-loop-card
invariant-loop-card l = record {
  bytes : l.text.bytes ≡ l.fn.text.bytes ++ spaced_texts (map card_name (take l.card-index l.cards));
  room : array_string_len l.text ≤ array_string_len l.fn.text + 3 * l.card-index;
}
