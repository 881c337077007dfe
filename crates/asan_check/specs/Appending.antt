-- What a call does that appends a piece to a text.
use Rattle.std.specs.Prelude.{◌≡◌, ℕ, ◌+◌, ◌<◌, ◌≤◌, List, ◌++◌, length, Result, OnOk, OnErr}
use Rattle.std.specs.Prelude.{String, string_bytes, string_len, string_capacity}
use Rattle.std.specs.declared.alloc.AllocError.{AllocError}
use Rattle.trace_record.specs.Stream.{BeginsWith}

-- on Ok the text is what it was, and then the piece; Err comes only where the text had no room for
-- the whole piece, and may leave a part of it after what the text was; the room never shrinks
pub record AppendsPiece {A : Type 0} (piece : List ℕ) (old new : String A)
    (answer : Result (Unit {0}) AllocError) : Type 0 where
  pub ok : OnOk answer (string_bytes new ≡ string_bytes old ++ piece)
  pub err : OnErr answer (BeginsWith (string_bytes old) (string_bytes new))
  pub full : OnErr answer (string_capacity old < string_len old + length piece)
  pub capacity : string_capacity old ≤ string_capacity new
