-- The limits that the format sets on a record and on a stream: this project's choice (profile).
use Rattle.std.specs.Prelude.{ℕ, ◌^◌}
use Rattle.trace_record.specs.declared.version.Version.{Version}
use Rattle.trace_record.specs.declared.version.Version.TheVariants as version

-- the most bytes that a malloc, a poison or an unpoison may speak of in a version
abbrev pub largest_region : Version → ℕ
largest_region version.One = 2 ^ 28
largest_region version.Two = 2 ^ 32
largest_region version.Three = 2 ^ 32

-- the greatest event limit
abbrev pub largest_limit : ℕ
largest_limit = 2 ^ 24
