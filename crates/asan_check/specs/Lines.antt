-- The lines that are printed of a process (profile). Each ends with a line feed.
use Rattle.std.specs.Prelude.{ℕ, ◌-◌, Bool, true, false, List, ◌++◌, length, codes, decimal}
use Rattle.std.specs.Prelude.{replicate}
use Rattle.std.specs.List.{flat_map}
use Rattle.std.specs.Fmt.{digits}
use Rattle.trace_record.specs.declared.end.Fate.{Fate}
use Rattle.trace_record.specs.declared.end.Fate.TheVariants as fate
use Rattle.trace_record.specs.declared.end.Flaw.{Flaw}
use Rattle.trace_record.specs.declared.end.Flaw.TheVariants as flaw
use Rattle.asan_check.specs.declared.report.Class.{Class}
use Rattle.asan_check.specs.declared.report.Class.TheVariants as class
use Rattle.asan_check.specs.declared.report.Fault.{Fault}
use Rattle.asan_check.specs.declared.report.Fault.TheVariants as fault
use Rattle.asan_check.specs.declared.report.Report.{Report}
use Rattle.asan_check.specs.declared.ending.Ending.{Ending}
use Rattle.asan_check.specs.declared.ending.Ending.TheVariants as ending

-- a number in lower-case hexadecimal digits, with zeros before it up to a width
abbrev pub hex_text : ℕ → ℕ → List ℕ
hex_text width n = replicate (width - length (digits 16 false n)) 48 ++ digits 16 false n

-- an address has 12 digits, or more where it is 2^48 or greater
abbrev pub address_text : ℕ → List ℕ
address_text at = hex_text 12 at

-- a shadow byte has two
abbrev pub shadow_text : ℕ → List ℕ
shadow_text shadow = hex_text 2 shadow

abbrev pub class_text : Class → List ℕ
class_text class.HeapBufferOverflow = codes "heap-buffer-overflow"
class_text class.HeapUseAfterFree = codes "heap-use-after-free"
class_text class.UseAfterPoison = codes "use-after-poison"
class_text class.StackBufferOverflow = codes "stack-buffer-overflow"
class_text class.GlobalBufferOverflow = codes "global-buffer-overflow"
class_text class.UnknownCrash = codes "unknown-crash"

abbrev pub flaw_text : Flaw → List ℕ
flaw_text flaw.Header = codes "header"
flaw_text flaw.Code = codes "code"
flaw_text flaw.Width = codes "width"
flaw_text flaw.Size = codes "size"
flaw_text flaw.Range = codes "range"
flaw_text flaw.Kind = codes "kind"

abbrev pub fate_text : Fate → List ℕ
fate_text fate.Closed = codes "closed"
fate_text (fate.Malformed f) = codes "malformed " ++ flaw_text f
fate_text fate.Truncated = codes "truncated"
fate_text fate.NoClose = codes "no-close"
fate_text fate.ReadFailed = codes "read-failed"
fate_text fate.TooMany = codes "too-many"

abbrev pub kind_text : Bool → List ℕ
kind_text true = codes " store "
kind_text false = codes " load "

-- what stands after the event's number
abbrev pub fault_text : Fault → List ℕ
fault_text (fault.Access is_store width at bad class shadow) =
    kind_text is_store ++ decimal width ++ codes " at " ++ address_text at ++ codes " bad "
    ++ address_text bad
    ++ codes " " ++ class_text class ++ codes " shadow " ++ shadow_text shadow
fault_text (fault.DoubleFree at) = codes " free at " ++ address_text at ++ codes " double-free"
fault_text (fault.BadFree at) = codes " free at " ++ address_text at ++ codes " bad-free"
fault_text (fault.BadMalloc at size) =
    codes " malloc " ++ decimal size ++ codes " at " ++ address_text at ++ codes " bad-malloc"

-- the line of a report of a process
abbrev pub report_line : ℕ → Report → List ℕ
report_line process report =
    codes "p" ++ decimal process ++ codes " #" ++ decimal report.number ++ fault_text report.fault
    ++ codes "\n"

-- what stands after `end`
abbrev pub ending_text : Ending → List ℕ
ending_text (ending.Ran end reports) =
    fate_text end.fate ++ codes " events " ++ decimal end.events ++ codes " offset "
    ++ decimal end.offset
    ++ codes " reports " ++ decimal reports
ending_text (ending.NoMemory checked reports) =
    codes "no-memory checked " ++ decimal checked ++ codes " reports " ++ decimal reports
ending_text ending.NotOpened = codes "not-opened"
ending_text ending.NotStarted = codes "not-started"
ending_text ending.Unsettled = codes "unsettled"

-- the line of the end of a process
abbrev pub end_line : ℕ → Ending → List ℕ
end_line process end =
    codes "p" ++ decimal process ++ codes " end " ++ ending_text end ++ codes "\n"

-- no line of numbers of 64 bits is longer
abbrev pub longest_line : ℕ
longest_line = 200

-- the text of a process: the lines of its reports in order, and then the line of its end
abbrev pub text_of : ℕ → List Report → Ending → List ℕ
text_of process reports end = flat_map (report_line process) reports ++ end_line process end
