use Rattle.asan_laws.proofs.Marks.{are_marks}
use Rattle.asan_laws.proofs.laws.marks_of_a_history_are_marks.Goals as goal

pub returns : goal.returns
returns c = are_marks
