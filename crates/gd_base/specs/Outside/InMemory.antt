-- What the source and the sink in memory are for their callers.
use Rattle.std.specs.Prelude.{ℕ, ◌-◌, ◌==◌, if◌then◌else◌, List, get_or, replicate, Some, None}
use Rattle.std.specs.declared.option.Option.{Option}

-- bytes that are left, and how many calls on a call fails: the next one at 1
pub record SourceState : Type 0 where
  pub left : List ℕ
  pub until : Option ℕ
  pub faults : ℕ

-- after one call more: none fails any more after the one that did
abbrev pub call_more : Option ℕ → Option ℕ
call_more None = None
call_more (Some n) = if n == 1 then None else Some (n - 1)

-- bytes taken, and for how many there is room
pub record SinkState : Type 0 where
  pub taken : List ℕ
  pub room : ℕ
  pub faults : ℕ

-- the listed block of an index in lap 0, and else zeros
abbrev pub listed_block : List (List ℕ) → ℕ → ℕ → List ℕ
listed_block blocks lap index = if lap == 0 then get_or blocks index (replicate 16 0) else replicate 16 0
