use Rattle.asan_laws.proofs.Book.{book_admits, book_malloc, book_free, book_fits, book_refused}
use Rattle.asan_laws.proofs.Book.{book_bad_free, book_others}
use Rattle.asan_laws.proofs.lean_recording.a_recorder_can_keep_the_book.Goals as goal

pub returns-clause-admitted : goal.returns-clause-admitted
returns-clause-admitted c = book_admits

pub returns-clause-malloc : goal.returns-clause-malloc
returns-clause-malloc c = book_malloc

pub returns-clause-free : goal.returns-clause-free
returns-clause-free c = book_free

pub returns-clause-fits : goal.returns-clause-fits
returns-clause-fits c = book_fits

pub returns-clause-refused : goal.returns-clause-refused
returns-clause-refused c = book_refused

pub returns-clause-bad_free : goal.returns-clause-bad_free
returns-clause-bad_free c = book_bad_free

pub returns-clause-others : goal.returns-clause-others
returns-clause-others c = book_others
