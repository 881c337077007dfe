-- The numbers of reports and of ends: those of 64 bits and fewer, as their types have.
use Rattle.std.specs.Prelude.{◌^◌, ◌<◌, All}
use Rattle.asan_check.specs.declared.report.Fault.{Fault}
use Rattle.asan_check.specs.declared.report.Fault.TheVariants as fault
use Rattle.asan_check.specs.declared.report.Report.{Report}
use Rattle.asan_check.specs.declared.ending.Ending.{Ending}
use Rattle.asan_check.specs.declared.ending.Ending.TheVariants as ending
use Rattle.asan_stream.specs.declared.outcome.Outcome.{Outcome}
use Rattle.asan_stream.specs.Outcomes.{ending_of, reports_of}

-- each number of a fault fits into 64 bits
abbrev pub FaultFits : Fault → Type 0
FaultFits (fault.Access is_store width at bad class shadow) =
    (width < 2 ^ 64) × (at < 2 ^ 64) × (bad < 2 ^ 64) × (shadow < 2 ^ 64)
FaultFits (fault.DoubleFree at) = at < 2 ^ 64
FaultFits (fault.BadFree at) = at < 2 ^ 64
FaultFits (fault.BadMalloc at size) = (at < 2 ^ 64) × (size < 2 ^ 64)

-- and each of a report
abbrev pub ReportFits : Report → Type 0
ReportFits report = (report.number < 2 ^ 64) × FaultFits report.fault

-- and each of an end
abbrev pub EndingFits : Ending → Type 0
EndingFits (ending.Ran end reports) =
    (end.events < 2 ^ 64) × (end.offset < 2 ^ 64) × (reports < 2 ^ 64)
EndingFits (ending.NoMemory checked reports) = (checked < 2 ^ 64) × (reports < 2 ^ 64)
EndingFits ending.NotOpened = Unit {0}
EndingFits ending.NotStarted = Unit {0}
EndingFits ending.Unsettled = Unit {0}

module _ {F A : Type 0} where
  -- and each of what is printed of an outcome
  abbrev pub OutcomeFits : Outcome F A → Type 0
  OutcomeFits outcome = All ReportFits (reports_of outcome) × EndingFits (ending_of outcome)
