use Rattle.asan_laws.proofs.Reasons.{class_is_true}
use Rattle.asan_laws.proofs.laws.the_class_of_a_report_is_true.Goals as goal

pub returns : goal.returns
returns c = class_is_true
