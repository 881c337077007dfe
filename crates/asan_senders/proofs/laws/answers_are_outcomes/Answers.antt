use Rattle.asan_senders.proofs.Answering.{outcome_of_bytes}
use Rattle.asan_senders.proofs.laws.answers_are_outcomes.Goals as goal

pub returns : goal.returns
returns g c = outcome_of_bytes
