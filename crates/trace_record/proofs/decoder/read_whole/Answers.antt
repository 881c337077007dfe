use Rattle.trace_record.proofs.Fronts.{none_of_unread}
use Rattle.trace_record.proofs.decoder.read_whole.Goals as goal

pub returns-in_err-event-clause-none : goal.returns-in_err-event-clause-none
returns-in_err-event-clause-none c =
    rw c.from_residual.ensures (none_of_unread c.args.version c.args.bytes.now c.args.size c.read_record.result
    c.requires.size c.read_record.ensures c.in_err-event.ensures.value)
