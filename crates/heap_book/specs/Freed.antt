-- What a free is answered, and the book that is left.
use Rattle.std.specs.Prelude.{◌≡◌, ℕ, ◌<◌, true, false, Contains}
use Rattle.std.specs.List.{list_any}
use Rattle.heap_book.specs.declared.answers.Freed.{Freed}
use Rattle.heap_book.specs.declared.answers.Freed.TheVariants.{Ignored, Held, Twice, Stranger}
use Rattle.heap_book.specs.Spans.{starts_at}
use Rattle.heap_book.specs.Blocks.{Blocks, MovesToQueue}

-- by the first that fits: the address is 0; a live block starts there; a block in quarantine does;
-- none does
abbrev pub IsFreeAnswer : Blocks → ℕ → Freed → Type 0
IsFreeAnswer book at Ignored = at ≡ 0
IsFreeAnswer book at (Held block) = (0 < at) × (block.at ≡ at) × Contains book.live block
IsFreeAnswer book at Twice =
    (0 < at) × (list_any (starts_at at) book.live ≡ false)
    × (list_any (starts_at at) book.queue ≡ true)
IsFreeAnswer book at Stranger =
    (0 < at) × (list_any (starts_at at) book.live ≡ false)
    × (list_any (starts_at at) book.queue ≡ false)

-- the book after the answer: only a block that is held changes it
abbrev pub AfterFree : Blocks → Freed → Blocks → Type 0
AfterFree old Ignored new = new ≡ old
AfterFree old (Held block) new = MovesToQueue old block new
AfterFree old Twice new = new ≡ old
AfterFree old Stranger new = new ≡ old
