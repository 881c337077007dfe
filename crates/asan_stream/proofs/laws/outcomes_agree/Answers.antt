use Rattle.asan_stream.proofs.Agreeing.{ends_agree, reports_agree, reports_begin}
use Rattle.asan_stream.proofs.laws.outcomes_agree.Goals as goal

pub returns-clause-ends : goal.returns-clause-ends
returns-clause-ends g c = ends_agree

pub returns-clause-reports : goal.returns-clause-reports
returns-clause-reports g c = reports_agree

pub returns-clause-first_reports : goal.returns-clause-first_reports
returns-clause-first_reports g c = reports_begin
