-- The table of the command line, row by row: the positionals of each command and the ranges of its numbers, and when
-- words say a command, a setup and a seed. It is stated beside `words_of`, which computes the same.
use Rattle.std.specs.Prelude.{ℕ, ◌≡◌, ◌<◌, ◌≤◌, ◌^◌, List, [], ◌∷◌, codes, decimal, slice_get, Option, None, Some}
use Rattle.gd_words.specs.CommandLine.{IsTaken, Places, places}
use Rattle.gd_words.specs.Names.{what_word}
use Rattle.gd_words.specs.declared.limits.TheConstants.{DEFAULT_SEED, LEAST_ITEMS, MOST_ITEMS}
use Rattle.gd_words.specs.declared.words.Command.{Command}
use Rattle.gd_words.specs.declared.words.Words.{Words}

-- the positionals of the command's row
abbrev pub row : Command → List (List ℕ)
row (Command.Init image) = codes "init" ∷ image ∷ []
row Command.Trial = codes "trial" ∷ []
row (Command.Run image) = codes "run" ∷ image ∷ []
row (Command.Show what image) = codes "show" ∷ what_word what ∷ image ∷ []
row (Command.Check image) = codes "check" ∷ image ∷ []
row (Command.Soak count seed) = codes "soak" ∷ decimal count ∷ decimal seed ∷ []

abbrev pub InRange : Command → Type 0
InRange (Command.Soak count seed) = (LEAST_ITEMS ≤ count) × (count ≤ MOST_ITEMS) × (seed < 2 ^ 64)
InRange _ = Unit {0}

-- the positionals are these, and no more
abbrev pub Stand : Places → List (List ℕ) → Type 0
Stand p words = (p.command ≡ slice_get words 0) × (p.x ≡ slice_get words 1) × (p.y ≡ slice_get words 2)

-- the option gives the seed, or is left out
abbrev pub GivesSeed : Option (List ℕ) → ℕ → Type 0
GivesSeed None seed = seed ≡ DEFAULT_SEED
GivesSeed (Some text) seed = (seed < 2 ^ 64) × (text ≡ decimal seed)

-- the command line takes the words, and they say this
pub record Says (words : List (List ℕ)) (w : Words) : Type 0 where
  pub taken : IsTaken words
  pub positionals : Stand (places words) (row w.command)
  pub range : InRange w.command
  pub setup_file : w.setup ≡ (places words).setup
  pub random_seed : GivesSeed (places words).seed w.seed
