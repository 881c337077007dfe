use Rattle.std.proofs.Common.{arith}
use Rattle.std.proofs.lemmas.List.{take_more_set}
use Rattle.trace_record.proofs.encoding.encode_anew.Goals as goal

pub returns-clause-front : goal.returns-clause-front
returns-clause-front c = take_more_set c.args.out.now 0 8 (omega arith)
