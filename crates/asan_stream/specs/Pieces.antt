-- The bytes of a piece.
use Rattle.std.specs.Prelude.{ℕ, List, take, drop}
use Rattle.asan_stream.specs.declared.piece.Piece.{Piece}

-- those that were not used yet
abbrev pub rest_of : Piece → List ℕ
rest_of p = drop p.used (take p.filled p.buffer)
