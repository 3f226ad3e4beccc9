-- The words that are fixed: the first of each row, and the names of the texts that are shown.
use Rattle.std.specs.Prelude.{ℕ, List, codes, find, Option}
use Rattle.std.specs.Str.{bytes_eq}
use Rattle.gd_base.specs.declared.step.What.{What}
use Rattle.gd_words.specs.declared.keyword.Keyword.{Keyword}
use Rattle.gd_words.specs.declared.keyword.TheConstants.{KEYWORDS, SHOWN}

abbrev pub keyword_word : Keyword → List ℕ
keyword_word Keyword.Init = codes "init"
keyword_word Keyword.Trial = codes "trial"
keyword_word Keyword.Run = codes "run"
keyword_word Keyword.Show = codes "show"
keyword_word Keyword.Check = codes "check"
keyword_word Keyword.Soak = codes "soak"

abbrev pub what_word : What → List ℕ
what_word What.Meters = codes "meters"
what_word What.State = codes "state"
what_word What.Recall = codes "recall"
what_word What.Events = codes "events"
what_word What.Order = codes "order"

-- the one that the word is
abbrev pub keyword_of : List ℕ → Option Keyword
keyword_of word = find (λ k. bytes_eq (keyword_word k) word) KEYWORDS

abbrev pub what_of : List ℕ → Option What
what_of word = find (λ w. bytes_eq (what_word w) word) SHOWN
