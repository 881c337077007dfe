use Rattle.trace_record.proofs.Existence.{says, says_one}
use Rattle.trace_record.proofs.laws.whole_records_say_one_thing.Goals as goal

pub returns-clause-something : goal.returns-clause-something
returns-clause-something c = says

pub returns-clause-one_thing : goal.returns-clause-one_thing
returns-clause-one_thing c = says_one
