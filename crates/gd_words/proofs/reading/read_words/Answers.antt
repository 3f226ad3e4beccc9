use Rattle.std.proofs.Common.{◌≡◌, IfOk, Option, Some, subst, sym}
use Rattle.std.proofs.lemmas.Result.{IfOk-weaker}
use Rattle.gd_words.specs.CommandLine.{texts}
use Rattle.gd_words.specs.Meaning.{words_of}
use Rattle.gd_words.specs.Rows.{Reads}
use Rattle.gd_words.specs.Places.{places_of}
use Rattle.gd_words.specs.declared.words.Words.{Words}
use Rattle.gd_words.specs.declared.words.WordsError.{WordsError}
use Rattle.gd_words.proofs.Meanings.{error_kept, read_ok, read_usage, refused, taken_say}
use Rattle.gd_words.proofs.TableRows.{nothing_said, said_as}
use Rattle.gd_words.proofs.reading.read_words.Goals as goal

pub returns-in_err-given-clause-usage : goal.returns-in_err-given-clause-usage
returns-in_err-given-clause-usage c = λ e.
    let usage : WordsError.Usage ≡ c.in_err-given.field-0.0 = error_kept c.from_residual.result _ WordsError.Usage c.from_residual.ensures.1 e in
    refused (texts c.args.words.now) (c.in_err-given.ensures.usage (sym usage))

pub returns-in_err-given-clause-no_row : goal.returns-in_err-given-clause-no_row
returns-in_err-given-clause-no_row c = λ e.
    let usage : WordsError.Usage ≡ c.in_err-given.field-0.0 = error_kept c.from_residual.result _ WordsError.Usage c.from_residual.ensures.1 e in
    nothing_said (texts c.args.words.now) (refused (texts c.args.words.now) (c.in_err-given.ensures.usage (sym usage)))

pub returns : goal.returns
returns c =
    let words = texts c.args.words.now in
    let answer = c.read_given.result in
    let reads : Reads (words_of words) answer =
    subst (λ (m : Option Words). Reads m answer)
    (taken_say words (places_of c.in_ok-given.given) c.in_ok-given.ensures.taken c.in_ok-given.ensures.places)
    c.read_given.ensures in
    let taken : IfOk answer (λ w. words_of words ≡ Some w) = read_ok (words_of words) answer reads in
    record {
      taken = taken;
      usage = read_usage (words_of words) answer reads;
      says = IfOk-weaker answer _ _ (λ w e. said_as words w c.in_ok-given.ensures.taken e) taken;
      no_row = λ e. nothing_said words (read_usage (words_of words) answer reads e);
    }
