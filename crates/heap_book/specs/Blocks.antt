-- What a contract sees of a book, and how it changes.
use Rattle.std.specs.Prelude.{◌≡◌, ℕ, ◌≤◌, not, List, [], ◌∷◌, ◌++◌, filter, sum_by, IsPermutation}
use Rattle.heap_book.specs.Spans.{Extent, span_bytes, starts_at}

-- the live blocks, the freed blocks in quarantine with the oldest first, the bound on the bytes of
-- their spans, and how many freed blocks there is room for in the memory at hand
pub record Blocks : Type 0 where
  pub live : List Extent
  pub queue : List Extent
  pub bound : ℕ
  pub room : ℕ

-- the blocks whose spans are taken: the live ones and those in quarantine
abbrev pub taken_blocks : Blocks → List Extent
taken_blocks book = book.live ++ book.queue

-- how many bytes the spans in quarantine have
abbrev pub queued_bytes : Blocks → ℕ
queued_bytes book = sum_by span_bytes book.queue

-- the blocks and the bound are as they were
pub record SameBlocks (old new : Blocks) : Type 0 where
  pub live : new.live ≡ old.live
  pub queue : new.queue ≡ old.queue
  pub bound : new.bound ≡ old.bound

-- one more block is live
pub record AddsLive (old : Blocks) (block : Extent) (new : Blocks) : Type 0 where
  pub live : IsPermutation (block ∷ old.live) new.live
  pub queue : new.queue ≡ old.queue
  pub bound : new.bound ≡ old.bound
  pub room : new.room ≡ old.room

-- a live block, the only one that starts where it does, is now the last in quarantine
pub record MovesToQueue (old : Blocks) (block : Extent) (new : Blocks) : Type 0 where
  pub others : new.live ≡ filter (λ other. not (starts_at block.at other)) old.live
  pub live : IsPermutation old.live (block ∷ new.live)
  pub queue : new.queue ≡ old.queue ++ block ∷ []
  pub bound : new.bound ≡ old.bound
  pub room : old.room ≤ new.room

-- the block that was freed first has left the quarantine
pub record ReleasesOldest (old : Blocks) (block : Extent) (new : Blocks) : Type 0 where
  pub queue : old.queue ≡ block ∷ new.queue
  pub live : new.live ≡ old.live
  pub bound : new.bound ≡ old.bound
  pub room : new.room ≡ old.room
