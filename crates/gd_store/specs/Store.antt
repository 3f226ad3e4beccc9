-- What a store holds. Public clauses speak by these words.
use Rattle.std.specs.Prelude.{ℕ, Bool, List}
use Rattle.gd_store.specs.declared.store.Store.{Store}

-- the disk of a store
abbrev pub store_disk : {D : Type 0} {g : _} → Store D g → D
store_disk store = store.disk

-- the sequence and the payload last booted or committed
abbrev pub store_sequence : {D : Type 0} {g : _} → Store D g → ℕ
store_sequence store = store.sequence

abbrev pub store_payload : {D : Type 0} {g : _} → Store D g → List ℕ
store_payload store = store.room.payload.items

-- a commit has failed
abbrev pub store_stopped : {D : Type 0} {g : _} → Store D g → Bool
store_stopped store = store.is_stopped
