-- The words of the laws about reports: since when a block is live or held, which events come near
-- it, and the report of an access whose first byte is bad.
use Rattle.std.specs.Prelude.{ℕ, ◌≡◌, ◌≢◌, ◌+◌, ◌%◌, ◌<◌, ◌≤◌, Bool, true, false, ◌&&◌, ◌==◌}
use Rattle.std.specs.Prelude.{if◌then◌else◌, ◌⊎◌, IsTrue, List, [], ◌∷◌, ◌++◌, length, reverse}
use Rattle.std.specs.Prelude.{Contains, Some, None}
use Rattle.std.specs.List.{list_any}
use Rattle.trace_record.specs.declared.event.Event.{Event}
use Rattle.trace_record.specs.declared.event.Event.TheVariants as event
use Rattle.trace_record.specs.declared.event.Access.{Access}
use Rattle.trace_record.specs.declared.event.Place.{Place}
use Rattle.trace_record.specs.declared.event.Region.{Region}
use Rattle.trace_record.specs.declared.shade.Shade.{Shade}
use Rattle.trace_record.specs.Shades.{shade_size}
use Rattle.shadow_map.specs.States.{HeapRedzone, code_of, lies_in, Mark, state_given, state_of}
use Rattle.heap_book.specs.Spans.{Extent, span_from, span_to, starts_at}
use Rattle.asan_units.specs.Units.{granule_size, granule_of, first_byte, round_up}
use Rattle.asan_check.specs.declared.report.Class.{Class}
use Rattle.asan_check.specs.declared.report.Fault.TheVariants as fault
use Rattle.asan_check.specs.declared.report.Report.{Report}
use Rattle.asan_check.specs.History.{block_of, live, held, admits, marks}
use Rattle.asan_check.specs.Verdicts.{verdict}

-- ---- since when a block is live

-- whether a malloc asks for a block
abbrev pub asks_for : Extent → Region → Bool
asks_for b r = b.at == r.at && b.size == r.size

-- the events after the malloc of a block: after the last malloc that was admitted for it
abbrev pub since_malloc : ℕ → List Event → Extent → List Event
since_malloc bound [] b = []
since_malloc bound (event.Malloc r ∷ past) b =
    if asks_for b r && admits bound past b then [] else event.Malloc r ∷ since_malloc bound past b
since_malloc bound (e ∷ past) b = e ∷ since_malloc bound past b

-- in the history stands a malloc that was admitted for the block, and then these events, of which
-- none frees it
pub record IsLiveSince (bound : ℕ) (past : List Event) (b : Extent)
    (since : List Event) : Type 0 where
  pub before : List Event
  pub malloc : Region
  pub split : past ≡ since ++ event.Malloc malloc ∷ before
  pub asked : block_of malloc ≡ b
  pub was_admitted : IsTrue (admits bound before b)
  pub unfreed : (p : Place) → Contains since (event.Free p) → p.at ≢ b.at

-- ---- since when a block is held

-- the events after the free of a block: after the last free at its address when a live block
-- started there
abbrev pub since_free : ℕ → List Event → Extent → List Event
since_free bound [] b = []
since_free bound (event.Free p ∷ past) b =
    if starts_at p.at b && list_any (starts_at p.at) (live bound past) then []
    else event.Free p ∷ since_free bound past b
since_free bound (e ∷ past) b = e ∷ since_free bound past b

-- in the history stands a free of the block while it was live, and then these events, through all
-- of which it was held
pub record IsHeldSince (bound : ℕ) (past : List Event) (b : Extent)
    (since : List Event) : Type 0 where
  pub before : List Event
  pub free : Place
  pub split : past ≡ since ++ event.Free free ∷ before
  pub at_block : free.at ≡ b.at
  pub was_live : Contains (live bound before) b
  pub held_through : (newer older : List Event) → since ≡ newer ++ older →
      Contains (held bound (older ++ event.Free free ∷ before)) b

-- ---- events that come near a range of bytes

-- a region, by its address and size, shares a granule with the bytes from an address up to another:
-- a byte of the one and a byte of the other lie in one granule
pub record SharesGranule (at size from to : ℕ) : Type 0 where
  pub own : ℕ
  pub other : ℕ
  pub in_region : (at ≤ own) × (own < at + size)
  pub in_range : (from ≤ other) × (other < to)
  pub one_granule : granule_of own ≡ granule_of other

-- no poison among these events, of whatever kind, shares a granule with the bytes from an address
-- up to another
abbrev pub NoPoisonShares : List Event → ℕ → ℕ → Type 0
NoPoisonShares events from to =
    (s : Shade) → Contains events (event.Poison s) → ¬ SharesGranule s.at (shade_size s) from to

-- no unpoison does
abbrev pub NoUnpoisonShares : List Event → ℕ → ℕ → Type 0
NoUnpoisonShares events from to =
    (r : Region) → Contains events (event.Unpoison r) → ¬ SharesGranule r.at r.size from to

-- ---- since when a granule is poison

-- of some marks, the newest first, none covers a byte of a granule, where those before them were
-- these
abbrev pub NoneCovers : List Mark → List Mark → ℕ → Type 0
NoneCovers [] before granule = Unit {0}
NoneCovers (mark ∷ marks) before granule =
    ((byte : ℕ) → granule_of byte ≡ granule →
    state_given (state_of (marks ++ before)) mark byte ≡ None)
    × NoneCovers marks before granule

-- in the history stands this poison, in whose region the granule lies wholly, and no mark that was
-- laid after its own covers a byte of the granule
pub record IsPoisonedSince (bound : ℕ) (past : List Event) (s : Shade)
    (granule : ℕ) : Type 0 where
  pub before : List Event
  pub since : List Event
  pub split : past ≡ since ++ event.Poison s ∷ before
  pub whole : (s.at ≤ first_byte granule)
      × (first_byte granule + granule_size ≤ s.at + shade_size s)
  pub laid : List Mark
  pub laid_since : marks bound past ≡ laid ++ marks bound (event.Poison s ∷ before)
  pub uncovered : NoneCovers laid (marks bound (event.Poison s ∷ before)) granule

-- ---- accesses

-- a load, or a store
abbrev pub access_event : Bool → Access → Event
access_event false a = event.Load a
access_event true a = event.Store a

-- an access all of whose bytes are a block's
abbrev pub LiesInside : Extent → Access → Type 0
LiesInside b a = (b.at ≤ a.at) × (a.at + a.width ≤ b.at + b.size)

-- an access that starts in a block's span, but before or past the block's bytes
abbrev pub StartsAround : Extent → Access → Type 0
StartsAround b a =
    (span_from b ≤ a.at) × (a.at < span_to b) × ((a.at < b.at) ⊎ (b.at + b.size ≤ a.at))

-- an access that starts at a block's bytes, or at those that round its size up
abbrev pub StartsWithin : Extent → Access → Type 0
StartsWithin b a = (b.at ≤ a.at) × (a.at < b.at + round_up b.size)

-- the report on an access after a history, where the access's first byte is the bad one
abbrev pub first_byte_report : List Event → Bool → Access → Class → ℕ → Report
first_byte_report past is_store a class shadow =
    record {
      number = length past + 1;
      fault = fault.Access is_store a.width a.at a.at class shadow;
    }

-- the shadow byte of an address around a block: how many bytes the block has in the address's
-- granule, or a redzone's code where it has none
abbrev pub shadow_around : Extent → ℕ → ℕ
shadow_around b at =
    if lies_in b.at (b.at + round_up b.size) at then b.size % granule_size else code_of HeapRedzone

-- ---- spans, and the reports on events

-- some byte lies in the spans of both blocks
pub record SharesByte (b c : Extent) : Type 0 where
  pub byte : ℕ
  pub in_one : (span_from b ≤ byte) × (byte < span_to b)
  pub in_other : (span_from c ≤ byte) × (byte < span_to c)

-- one of the events, which stand in their order, has this report as its verdict after the events
-- before it
pub record IsReportedAmong (bound : ℕ) (events : List Event) (report : Report) : Type 0 where
  pub before : List Event
  pub event : Event
  pub after : List Event
  pub split : events ≡ before ++ event ∷ after
  pub is_verdict : verdict bound (reverse before) event ≡ Some report
