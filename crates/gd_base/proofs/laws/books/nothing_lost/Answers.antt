use Rattle.gd_base.proofs.PreservedLemmas.Sums.{keeps_books, keeps_books_over}
use Rattle.gd_base.proofs.laws.books.nothing_lost.Goals as goal

pub returns-clause-history : goal.returns-clause-history
returns-clause-history c = keeps_books

pub returns-clause-view : goal.returns-clause-view
returns-clause-view c = keeps_books_over
