-- The rows of the command line: which positionals say which command.
use Rattle.std.specs.Prelude.{ℕ, ◌≡◌, List, option_and_then, option_map, Option, None, Some, Result, MatchResult}
use Rattle.gd_words.specs.Names.{keyword_of, what_of}
use Rattle.gd_words.specs.Numbers.{items_of, number_of}
use Rattle.gd_words.specs.declared.keyword.Keyword.{Keyword}
use Rattle.gd_words.specs.declared.words.Command.{Command}
use Rattle.gd_words.specs.declared.words.WordsError.{WordsError}

abbrev pub option_map_both : {A B C : Type 0} → (A → B → C) → Option A → Option B → Option C
option_map_both f (Some a) (Some b) = Some (f a b)
option_map_both f _ _ = None

-- rows of the keyword alone
abbrev pub bare_row : Keyword → Option Command
bare_row Keyword.Trial = Some Command.Trial
bare_row _ = None

-- rows with one word more
abbrev pub image_row : Keyword → List ℕ → Option Command
image_row Keyword.Init image = Some (Command.Init image)
image_row Keyword.Run image = Some (Command.Run image)
image_row Keyword.Check image = Some (Command.Check image)
image_row _ image = None

-- rows with two
abbrev pub pair_row : Keyword → List ℕ → List ℕ → Option Command
pair_row Keyword.Show x y = option_map (λ what. Command.Show what y) (what_of x)
pair_row Keyword.Soak x y = option_map_both Command.Soak (items_of x) (number_of y)
pair_row _ x y = None

abbrev pub row_of : Keyword → Option (List ℕ) → Option (List ℕ) → Option Command
row_of keyword None None = bare_row keyword
row_of keyword (Some x) None = image_row keyword x
row_of keyword (Some x) (Some y) = pair_row keyword x y
row_of keyword None (Some y) = None

-- the command that the positionals say, if they meet a row
abbrev pub command_of : Option (List ℕ) → Option (List ℕ) → Option (List ℕ) → Option Command
command_of None x y = None
command_of (Some word) x y = option_and_then (λ keyword. row_of keyword x y) (keyword_of word)

-- the answer is what is meant, and Usage comes only where nothing is
abbrev pub Reads : {A : Type 0} → Option A → Result A WordsError → Type 0
Reads meant answer = MatchResult answer (λ a. meant ≡ Some a) (λ e. e ≡ WordsError.Usage → meant ≡ None)
