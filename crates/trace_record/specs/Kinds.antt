-- The kinds of poison, and the numbers that stand for them in a record of version 2 (profile).
use Rattle.std.specs.Prelude.{ℕ, ◌==◌, if◌then◌else◌}
use Rattle.trace_record.specs.declared.shade.Kind.{Kind}
use Rattle.trace_record.specs.declared.shade.Kind.TheVariants as kind

-- the number of a kind
abbrev pub kind_number : Kind → ℕ
kind_number kind.User = 0
kind_number kind.Stack = 1
kind_number kind.Global = 2

-- the greatest number of a kind
abbrev pub largest_kind : ℕ
largest_kind = 2

-- the kind with a number, if there is one; of any other number it has no meaning
abbrev pub kind_of : ℕ → Kind
kind_of number =
    if number == 0 then kind.User else (if number == 1 then kind.Stack else kind.Global)
