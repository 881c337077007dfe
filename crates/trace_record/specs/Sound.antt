-- What the fields of a decoder keep, beside what contracts say of it: its counts fit their types,
-- and the bytes of a cut header or record are fewer than all of them.
use Rattle.std.specs.Prelude.{◌+◌, ◌*◌, ◌<◌, ◌≤◌, length, slice_index}
use Rattle.trace_record.specs.declared.decoder.Decoder.TheInside.{Inside}
use Rattle.trace_record.specs.Ranges.{largest_limit}
use Rattle.trace_record.specs.Spelling.{record_length}

pub record IsSound (d : Inside) : Type 0 where
  pub limited : d.limit ≤ largest_limit
  pub counted : d.events ≤ d.limit
  -- the header has 8 bytes, and no record has more than 18
  pub measured : d.offset ≤ 8 + 18 * d.events
  -- before the header is whole, its first bytes are kept
  pub in_header : d.offset < 8 → length d.partial < 8
  -- after it, a part of a record is kept only where the limit leaves room for the record, and it is
  -- never all of the record
  pub in_record : 8 ≤ d.offset → 0 < length d.partial →
      (d.events < d.limit) × (length d.partial < record_length d.version (slice_index d.partial 0))
