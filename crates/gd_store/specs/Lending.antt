-- What the lending of a room's payload leaves.
use Rattle.std.specs.Prelude.{ℕ, List}
use Rattle.std.specs.Borrow.{Lends, MutBor, Fml, u8, Array}
use Rattle.std.specs.List.{length_refill}
use Rattle.std.specs.Vec.{with_items}
use Rattle.std.proofs.Common.{sym, ◌∙◌}
use Rattle.gd_store.specs.declared.room.Room.{Room}
use Rattle.gd_store.specs.contracts.room.Room.{the_row}

-- the room with these bytes as its payload
abbrev pub with_payload : Room → List ℕ → Room
with_payload room bytes = record room {
  payload = with_items room.payload bytes;
  payload_len = sym (length_refill room.payload.len room.payload.items bytes room.payload.ok.0) ∙ room.payload.ok.0 ∙ room.payload_len;
}

-- once the loan ends, the room has what was left behind it as its payload
abbrev pub LendsPayload : MutBor Room → MutBor (List ℕ) → Fml
LendsPayload room lent = Lends the_row (Array u8 0) room lent (with_payload room.now)
