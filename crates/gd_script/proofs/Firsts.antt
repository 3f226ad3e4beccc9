-- A text as its first word, and at least one field behind it.
use Rattle.std.proofs.Common.{◌≡◌, ℕ, ◌<◌, List, [], ◌∷◌, length, Option, Some, refl, sym, ap, ◌∙◌, arith}
use Rattle.gd_script.specs.declared.keyword.Keyword.{Keyword}
use Rattle.gd_script.specs.Reading.{event_by, event_of, event_with, item_by, item_of_words, item_with, keyword_of, words, words_behind}
use Rattle.gd_script.proofs.SplitLemmas.{one_at_least}

event_fields : (keyword : Keyword) (fields : List (List ℕ)) → 0 < length fields → event_with keyword fields ≡ event_by (Some keyword) fields
event_fields keyword [] h = absurd (omega arith)
event_fields keyword (field ∷ fields) h = refl

item_fields : (keyword : Keyword) (fields : List (List ℕ)) → 0 < length fields → item_with keyword fields ≡ item_by (Some keyword) fields
item_fields keyword [] h = absurd (omega arith)
item_fields keyword (field ∷ fields) h = refl

-- the words of a text that was cut
parted : (text first rest : List ℕ) (behind : Option (List ℕ)) → words text ≡ first ∷ words_behind behind → behind ≡ Some rest → first ∷ words rest ≡ words text
parted text first rest behind e f = sym (e ∙ ap (λ (o : Option (List ℕ)). first ∷ words_behind o) f)

pub event_behind : (keyword : Keyword) (text first rest : List ℕ) (behind : Option (List ℕ)) → words text ≡ first ∷ words_behind behind → behind ≡ Some rest → keyword_of first ≡ Some keyword
    → event_with keyword (words rest) ≡ event_of (words text)
unfolding event_of
event_behind keyword text first rest behind e f k =
    event_fields keyword (words rest) (one_at_least rest) ∙ ap (λ (o : Option Keyword). event_by o (words rest)) (sym k) ∙ ap event_of (parted text first rest behind e f)

pub item_behind : (keyword : Keyword) (text first rest : List ℕ) (behind : Option (List ℕ)) → words text ≡ first ∷ words_behind behind → behind ≡ Some rest → keyword_of first ≡ Some keyword
    → item_with keyword (words rest) ≡ item_of_words (words text)
unfolding item_of_words
item_behind keyword text first rest behind e f k =
    item_fields keyword (words rest) (one_at_least rest) ∙ ap (λ (o : Option Keyword). item_by o (words rest)) (sym k) ∙ ap item_of_words (parted text first rest behind e f)
