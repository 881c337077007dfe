-- What the class of a report says of a byte: in which block it lies, or which poison covers it.
use Rattle.std.specs.Prelude.{◌≡◌, ℕ, ◌+◌, ◌<◌, ◌≤◌, ◌⊎◌, List, [], ◌∷◌, ◌++◌, None, IsTrue, Contains}
use Rattle.trace_record.specs.declared.event.Event.{Event}
use Rattle.trace_record.specs.declared.event.Event.TheVariants as event
use Rattle.trace_record.specs.declared.shade.Kind.{Kind}
use Rattle.trace_record.specs.declared.shade.Kind.TheVariants as kind
use Rattle.trace_record.specs.declared.shade.Shade.{Shade}
use Rattle.trace_record.specs.Shades.{shade_size, shade_kind}
use Rattle.shadow_map.specs.States.{Mark, is_addressable, state_given, state_of}
use Rattle.heap_book.specs.Spans.{Extent, span_from, span_to}
use Rattle.asan_units.specs.Units.{round_up}
use Rattle.asan_check.specs.declared.report.Class.{Class}
use Rattle.asan_check.specs.declared.report.Class.TheVariants as class
use Rattle.asan_check.specs.History.{live, held, marks}

-- a byte lies in a block's span
abbrev pub LiesInSpanOf : Extent → ℕ → Type 0
LiesInSpanOf b byte = (span_from b ≤ byte) × (byte < span_to b)

-- a byte lies before a block's first bytes, so many, or past them
abbrev pub LiesBeside : Extent → ℕ → ℕ → Type 0
LiesBeside b bytes byte = (byte < b.at) ⊎ (b.at + bytes ≤ byte)

-- a block was live at some time in the history
pub record WasLive (bound : ℕ) (past : List Event) (b : Extent) : Type 0 where
  pub since : List Event
  pub before : List Event
  pub split : past ≡ since ++ before
  pub was_live : Contains (live bound before) b

-- of some marks, the newest first, none covers a byte, where those before them were these
abbrev pub NoneCoversByte : List Mark → List Mark → ℕ → Type 0
NoneCoversByte [] before byte = Unit {0}
NoneCoversByte (mark ∷ later) before byte =
    (state_given (state_of (later ++ before)) mark byte ≡ None) × NoneCoversByte later before byte

-- in the history stands this poison, with the byte in its region, and of the marks that were laid
-- after its own none covers the byte
pub record IsPoisonedLast
    (bound : ℕ) (past : List Event) (laid : List Mark) (s : Shade) (byte : ℕ) : Type 0 where
  pub since : List Event
  pub before : List Event
  pub split : past ≡ since ++ event.Poison s ∷ before
  pub inside : (s.at ≤ byte) × (byte < s.at + shade_size s)
  pub later : List Mark
  pub laid_later : laid ≡ later ++ marks bound (event.Poison s ∷ before)
  pub uncovered : NoneCoversByte later (marks bound (event.Poison s ∷ before)) byte

-- a byte is a redzone: of a live block, past the block's bytes or before them; of a held one, past
-- those that round its size up too; or it is in the span of a block that was live once, and of none
-- that is live or held
abbrev pub IsInRedzone : ℕ → List Event → ℕ → Type 0
IsInRedzone bound past byte =
    ((b : Extent) × Contains (live bound past) b × LiesInSpanOf b byte × LiesBeside b b.size byte)
    ⊎ (((b : Extent) × Contains (held bound past) b × LiesInSpanOf b byte
    × LiesBeside b (round_up b.size) byte)
    ⊎ ((b : Extent) × WasLive bound past b × LiesInSpanOf b byte
    × ((c : Extent) → Contains (live bound past ++ held bound past) c → ¬ LiesInSpanOf c byte)))

-- a byte is one of a held block's, or of those that round its size up
abbrev pub IsInHeld : ℕ → List Event → ℕ → Type 0
IsInHeld bound past byte =
    (b : Extent) × Contains (held bound past) b × (b.at ≤ byte) × (byte < b.at + round_up b.size)

-- a poison of this kind covers a byte last
abbrev pub IsPoison : ℕ → List Event → ℕ → Kind → Type 0
IsPoison bound past byte kind =
    (s : Shade) × (shade_kind s ≡ kind) × IsPoisonedLast bound past (marks bound past) s byte

-- what a class says of a byte after a history
abbrev pub IsTrueOf : ℕ → List Event → ℕ → Class → Type 0
IsTrueOf bound past byte class.HeapBufferOverflow = IsInRedzone bound past byte
IsTrueOf bound past byte class.HeapUseAfterFree = IsInHeld bound past byte
IsTrueOf bound past byte class.UseAfterPoison = IsPoison bound past byte kind.User
IsTrueOf bound past byte class.StackBufferOverflow = IsPoison bound past byte kind.Stack
IsTrueOf bound past byte class.GlobalBufferOverflow = IsPoison bound past byte kind.Global
IsTrueOf bound past byte class.UnknownCrash =
    IsTrue (is_addressable (state_of (marks bound past) byte))
