-- A history is one growing list of entries over what is seen of it at its beginning. It is read from the newest
-- entry back: `e ∷ past` is the past with the entry e more. Everything that is seen of it is a sum over its taken
-- entries, the latest of them that says something, or the last n notes that they make.
use Rattle.std.specs.Prelude.{ℕ, ◌+◌, List, [], ◌∷◌, reverse, Option, Some, None, if◌then◌else◌}
use Rattle.gd_base.specs.declared.setup.Setup.{Setup}
use Rattle.gd_base.specs.Histories.Entry.{Entry, is_taken}
use Rattle.gd_base.specs.Histories.View.{View}

-- what a history stands on
pub record Origin : Type 0 where
  pub setup : Setup
  pub opening : View  -- the view over which it began

-- a history that is written from its first entry on
abbrev pub past_of : List Entry → List Entry
past_of entries = reverse entries

-- what an entry adds, where it was taken
abbrev pub added_amount : (Entry → List Entry → ℕ) → Entry → List Entry → ℕ
added_amount amount e past = if is_taken e.reply then amount e past else 0

-- a first total and the sum, over the taken entries, of an amount that may depend on the entries before
abbrev pub sum_over : (Entry → List Entry → ℕ) → ℕ → List Entry → ℕ
sum_over amount first [] = first
sum_over amount first (e ∷ past) = sum_over amount first past + added_amount amount e past

-- what an entry says, where it was taken
abbrev pub taken_statement : {A : Type 0} → (Entry → List Entry → Option A) → Entry → List Entry → Option A
taken_statement says e past = if is_taken e.reply then says e past else None

-- the first, or else the second
abbrev pub or_else : {A : Type 0} → Option A → A → A
or_else None a = a
or_else (Some b) a = b

-- what the latest taken entry says that says something, and before any the given value
abbrev pub latest : {A : Type 0} → (Entry → List Entry → Option A) → A → List Entry → A
latest says first [] = first
latest says first (e ∷ past) = or_else (taken_statement says e past) (latest says first past)

abbrev pub with_note : {A : Type 0} → Option A → List A → List A
with_note None notes = notes
with_note (Some a) notes = a ∷ notes

-- the notes that the taken entries make, the newest first, before those that were there
abbrev pub notes_over : {A : Type 0} → (Entry → List Entry → Option A) → List A → List Entry → List A
notes_over says first [] = first
notes_over says first (e ∷ past) = with_note (taken_statement says e past) (notes_over says first past)

-- how many entries, taken or refused
abbrev pub count : Origin → List Entry → ℕ
count o [] = o.opening.count
count o (e ∷ past) = count o past + 1

-- the place of the next entry, from 1
abbrev pub next_place : Origin → List Entry → ℕ
next_place o past = count o past + 1
