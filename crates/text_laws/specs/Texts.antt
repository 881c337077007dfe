-- The texts of lines.
use Rattle.std.specs.Prelude.{ℕ, ◌<◌, ◌^◌, List}
use Rattle.std.specs.List.{flat_map}
use Rattle.asan_check.specs.Lines.{end_line, report_line}
use Rattle.text_laws.specs.declared.line.Line.{Line}
use Rattle.text_laws.specs.declared.line.Line.TheVariants as line
use Rattle.text_laws.specs.Numbers.{EndingFits, ReportFits}

-- the line that says this
abbrev pub line_of : Line → List ℕ
line_of (line.Report process report) = report_line process report
line_of (line.End process ending) = end_line process ending

-- lines, one after another
abbrev pub text_of_lines : List Line → List ℕ
text_of_lines lines = flat_map line_of lines

-- each number of a line fits into 64 bits
abbrev pub LineFits : Line → Type 0
LineFits (line.Report process report) = (process < 2 ^ 64) × ReportFits report
LineFits (line.End process ending) = (process < 2 ^ 64) × EndingFits ending
