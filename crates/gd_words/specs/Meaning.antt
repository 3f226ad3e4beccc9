-- What the words of the command line say.
use Rattle.std.specs.Prelude.{ℕ, List, [], ◌∷◌, Option, None, Some}
use Rattle.clap.specs.Words.{Kinds}
use Rattle.gd_words.specs.CommandLine.{Places, faults, places}
use Rattle.gd_words.specs.Numbers.{number_of}
use Rattle.gd_words.specs.Rows.{command_of, option_map_both}
use Rattle.gd_words.specs.declared.limits.TheConstants.{DEFAULT_SEED}
use Rattle.gd_words.specs.declared.words.Words.{Words}

-- the seed that is given, and the default one where none is
abbrev pub seed_of : Option (List ℕ) → Option ℕ
seed_of None = Some DEFAULT_SEED
seed_of (Some text) = number_of text

-- what the places say, if they meet a row
unfoldable pub said : Places → Option Words
said p = option_map_both (λ command seed. record { command = command; setup = p.setup; seed = seed })
    (command_of p.command p.x p.y) (seed_of p.seed)

-- where there is no fault
abbrev pub unless : Kinds → Option Words → Option Words
unless [] meant = meant
unless (fault ∷ others) meant = None

-- what the words say, if the command line takes them and what they put into its places meets a row
unfoldable pub words_of : List (List ℕ) → Option Words
words_of words = unless (faults words) (said (places words))
