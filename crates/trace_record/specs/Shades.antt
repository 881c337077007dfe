-- What a poison speaks of: its size and its kind, which share one number.
use Rattle.std.specs.Prelude.{ℕ, ◌/◌, ◌%◌}
use Rattle.trace_record.specs.declared.shade.Kind.{Kind}
use Rattle.trace_record.specs.declared.shade.Shade.{Shade}
use Rattle.trace_record.specs.Kinds.{kind_of}

-- how many bytes are poisoned
abbrev pub shade_size : Shade → ℕ
shade_size s = s.size_and_kind / 4

-- what the poison is for
abbrev pub shade_kind : Shade → Kind
shade_kind s = kind_of (s.size_and_kind % 4)
