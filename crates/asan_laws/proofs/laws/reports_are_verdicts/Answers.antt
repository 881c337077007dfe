use Rattle.asan_laws.proofs.Order.{reported_among}
use Rattle.asan_laws.proofs.laws.reports_are_verdicts.Goals as goal

pub returns : goal.returns
returns c = reported_among
