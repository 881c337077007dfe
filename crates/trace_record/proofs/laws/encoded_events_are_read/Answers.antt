use Rattle.trace_record.proofs.Encoded.{read_back}
use Rattle.trace_record.proofs.laws.encoded_events_are_read.Goals as goal

pub returns : goal.returns
returns c v new events event used answer all one = read_back v events all new event used answer one
