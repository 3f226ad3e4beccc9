-- What the program takes of its words, beside what it hands on.
use Rattle.std.specs.Prelude.{ℕ, List, [], Option, None, Some}
use Rattle.gd_words.specs.declared.limits.TheConstants.{DEFAULT_SEED}
use Rattle.gd_words.specs.declared.words.Command.{Command}
use Rattle.gd_words.specs.declared.words.Words.{Words}

-- the seed of the random words
abbrev pub seed_named : Option Words → ℕ
seed_named None = DEFAULT_SEED
seed_named (Some w) = w.seed

-- the name of the image, empty for a command without one
abbrev pub image_named : Command → List ℕ
image_named (Command.Init image) = image
image_named Command.Trial = []
image_named (Command.Run image) = image
image_named (Command.Show what image) = image
image_named (Command.Check image) = image
image_named (Command.Soak count seed) = []
