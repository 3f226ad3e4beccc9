-- What a cabinet holds. Public clauses speak by these words.
use Rattle.std.specs.Prelude.{ℕ, Bool, List}
use Rattle.gd_store.specs.Store.{store_disk, store_payload, store_stopped}
use Rattle.gd_cabinet.specs.declared.cabinet.Cabinet.{Cabinet}

-- the core of a cabinet
abbrev pub cabinet_core : {C D W : Type 0} {g h i : _} → Cabinet C D W g h i → C
cabinet_core cabinet = cabinet.core

-- the disk that its store is on
abbrev pub cabinet_disk : {C D W : Type 0} {g h i : _} → Cabinet C D W g h i → D
cabinet_disk cabinet = store_disk cabinet.store

-- the source of its blocks, and the lap that they are taken from
abbrev pub cabinet_draws : {C D W : Type 0} {g h i : _} → Cabinet C D W g h i → W
cabinet_draws cabinet = cabinet.draws

abbrev pub cabinet_lap : {C D W : Type 0} {g h i : _} → Cabinet C D W g h i → ℕ
cabinet_lap cabinet = cabinet.lap

-- a commit has failed
abbrev pub cabinet_stopped : {C D W : Type 0} {g h i : _} → Cabinet C D W g h i → Bool
cabinet_stopped cabinet = store_stopped cabinet.store

-- the payload that was committed last
abbrev pub cabinet_payload : {C D W : Type 0} {g h i : _} → Cabinet C D W g h i → List ℕ
cabinet_payload cabinet = store_payload cabinet.store

-- the page that is checked next
abbrev pub cabinet_page : {C D W : Type 0} {g h i : _} → Cabinet C D W g h i → ℕ
cabinet_page cabinet = cabinet.page
