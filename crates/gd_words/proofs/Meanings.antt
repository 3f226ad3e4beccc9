-- What words say, from whether the command line takes them and from what they put into its places.
use Rattle.std.proofs.Common.{◌≡◌, ℕ, List, [], ◌∷◌, Option, Some, None, Result, Ok, Err, IfOk, refl, ap, subst, sym, ◌∙◌}
use Rattle.std.specs.Result.{IsErrAnd}
use Rattle.clap.specs.Words.{Kinds}
use Rattle.gd_words.specs.CommandLine.{IsTaken, Places, faults, places}
use Rattle.gd_words.specs.Meaning.{said, unless, words_of}
use Rattle.gd_words.specs.Rows.{Reads}
use Rattle.gd_words.specs.declared.words.Words.{Words}
use Rattle.gd_words.specs.declared.words.WordsError.{WordsError}

no_fault : (ks : Kinds) (meant : Option Words) → ks ≡ [] → unless ks meant ≡ meant
no_fault [] meant e = refl
no_fault (k ∷ ks) meant e = absurd (cc)

some_fault : (ks : Kinds) (meant : Option Words) → ¬ (ks ≡ []) → unless ks meant ≡ None
some_fault [] meant deny = absurd (deny refl)
some_fault (k ∷ ks) meant deny = refl

-- words that the command line takes say what their places say
pub taken_say : (words : List (List ℕ)) (p : Places) → IsTaken words → p ≡ places words → said p ≡ words_of words
unfolding words_of
taken_say words p taken e = ap said e ∙ sym (no_fault (faults words) (said (places words)) taken)

-- others say nothing
pub refused : (words : List (List ℕ)) → ¬ (IsTaken words) → words_of words ≡ None
unfolding words_of
refused words deny = some_fault (faults words) (said (places words)) deny

pub read_ok : {A : Type 0} → (meant : Option A) (answer : Result A WordsError) → Reads meant answer → IfOk answer (λ a. meant ≡ Some a)
read_ok meant (Ok a) e = e
read_ok meant (Err e) h = tt

pub read_usage : {A : Type 0} → (meant : Option A) (answer : Result A WordsError) → Reads meant answer → answer ≡ Err WordsError.Usage → meant ≡ None
read_usage meant (Ok a) h e = absurd (cc)
read_usage meant (Err f) h e = let same : f ≡ WordsError.Usage = cc in h same

pub error_kept : {A : Type 0} → (answer : Result A WordsError) (P : WordsError → Type 0) (f : WordsError) → IsErrAnd answer P → answer ≡ Err f → P f
error_kept (Ok a) P f h e = absurd h
error_kept (Err g) P f h e = let same : g ≡ f = cc in subst P same h
