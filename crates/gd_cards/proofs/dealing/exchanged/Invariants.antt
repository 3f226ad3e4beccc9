use Rattle.std.proofs.Common.{◌≡◌, ◌≤◌, drop, length}
use Rattle.gd_cards.proofs.Replaced.{IsExchangedTo}
use Rattle.gd_cards.proofs.dealing.exchanged.Given as goal

-- the cards up to a place are exchanged, and the others are those of the hand
abbrev pub invariant-loop-place : goal.invariant-loop-place
invariant-loop-place l = record {
  five : length l.cards ≡ 5;
  used_up : l.used ≤ l.place;
  left : drop l.place l.cards ≡ drop l.place l.dealt;
  told : IsExchangedTo l.mask l.place l.used l.cards l.dealt l.next;
}
