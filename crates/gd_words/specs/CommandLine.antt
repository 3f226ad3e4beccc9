-- The command line: the positionals COMMAND, X and Y, of which the last two may be left out, and the options `--setup`
-- and `--seed`, each with one value. What it takes is clap's definition for simple commands.
use Rattle.std.specs.Prelude.{◌≡◌, ℕ, true, List, [], codes, map, Option, Some}
use Rattle.std.specs.Borrow.{Bor}
use Rattle.clap.specs.Words.{App, Kinds, Row, Rule, Text, new_app, new_rule, with_rule, matches_of, fault_of, first_of}
use Rattle.clap.specs.declared.builder.action.ArgAction.TheVariants.{Set}

-- a positional that may be left out
abbrev pub place : Text → Rule
place id = record (new_rule id) { action = Some Set }

-- a positional that has to be there
abbrev pub needed : Text → Rule
needed id = record (place id) { required = true }

-- an option with one value
abbrev pub option : Text → Rule
option id = record (place id) { long = Some id }

-- the words come without the program's name, and nothing asks for help
abbrev pub bare : App
bare = record (new_app (codes "cabinet")) {
  top = record (new_app (codes "cabinet")).top { no_binary_name = true; disable_help_flag = true };
}

abbrev pub command_line : App
command_line = with_rule (with_rule (with_rule (with_rule (with_rule bare
    (needed (codes "command"))) (place (codes "x"))) (place (codes "y")))
    (option (codes "setup"))) (option (codes "seed"))

-- the bytes of the words
abbrev pub texts : List (Bor (List ℕ)) → List (List ℕ)
texts = map (λ w. w.now)

-- why the command line refuses the words: nothing where it takes them
unfoldable pub faults : List (List ℕ) → Kinds
faults words = fault_of command_line words

abbrev pub IsTaken : List (List ℕ) → Type 0
IsTaken words = faults words ≡ []

-- what stands in the places of the command line
pub record Places : Type 0 where
  pub command : Option (List ℕ)
  pub x : Option (List ℕ)
  pub y : Option (List ℕ)
  pub setup : Option (List ℕ)
  pub seed : Option (List ℕ)

-- the values of a parse
abbrev pub places_found : List Row → Places
places_found rows = record {
  command = first_of (codes "command") rows;
  x = first_of (codes "x") rows;
  y = first_of (codes "y") rows;
  setup = first_of (codes "setup") rows;
  seed = first_of (codes "seed") rows;
}

-- what words that it takes put there
unfoldable pub places : List (List ℕ) → Places
places words = places_found (matches_of command_line words)
