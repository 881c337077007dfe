-- The first worker, which runs on the calling thread and so always starts.
use Rattle.std.specs.Prelude.{List, slice_index_or}
use Rattle.asan_senders.specs.Shares.{HaveWorked, Share}

module _ {A : Type 0} where
  -- its benches came back, and have worked to the end
  abbrev pub FirstHasWorked : List (Share A) → List (Share A) → Type 0
  FirstHasWorked before after =
      (d : Share A) → HaveWorked (slice_index_or before 0 d).items (slice_index_or after 0 d).items
