-- What a room holds. Public clauses speak by this word.
use Rattle.std.specs.Prelude.{ℕ, List}
use Rattle.gd_store.specs.declared.room.Room.{Room}

-- the payload of a room
abbrev pub room_payload : Room → List ℕ
room_payload room = room.payload.items
