-- Bytes with others in their place.
use Rattle.std.specs.Prelude.{ℕ, ◌+◌, List, ◌++◌, take, drop, length}

abbrev pub put_at : ℕ → List ℕ → List ℕ → List ℕ
put_at place piece bytes = take place bytes ++ piece ++ drop (place + length piece) bytes
