use Rattle.text_laws.proofs.Lines.{ends_read, report_is_no_end, reports_read}
use Rattle.text_laws.proofs.laws.lines_have_one_reading.Goals as goal

pub returns-clause-report : goal.returns-clause-report
returns-clause-report c = reports_read

pub returns-clause-end : goal.returns-clause-end
returns-clause-end c = ends_read

pub returns-clause-apart : goal.returns-clause-apart
returns-clause-apart c = report_is_no_end
