-- The payload of a room after a loan.
use Rattle.std.proofs.Common.{◌≡◌, ◌*◌, ◌∙◌, sym, ℕ, List, length}
use Rattle.std.proofs.lemmas.List.{with_items_is}
use Rattle.gd_disk.specs.declared.lengths.TheConstants.{PAGE_COUNT, PAGE_LEN}
use Rattle.gd_store.specs.Lending.{with_payload}
use Rattle.gd_store.specs.Room.{room_payload}
use Rattle.gd_store.specs.declared.room.Room.{Room}

-- what was left behind it, where it has the length of a payload
pub payload_left : (room : Room) (bytes : List ℕ) → length bytes ≡ PAGE_LEN * PAGE_COUNT → room_payload (with_payload room bytes) ≡ bytes
payload_left room bytes long = with_items_is room.payload bytes (long ∙ sym room.payload_len ∙ sym room.payload.ok.0)
