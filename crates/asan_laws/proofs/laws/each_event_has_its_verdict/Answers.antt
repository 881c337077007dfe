use Rattle.asan_laws.proofs.Order.{each_in_place}
use Rattle.asan_laws.proofs.laws.each_event_has_its_verdict.Goals as goal

pub returns : goal.returns
returns c = each_in_place
