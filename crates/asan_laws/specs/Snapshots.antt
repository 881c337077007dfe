-- Histories that stand the same, though they came about in different ways, and histories that
-- say in few events what another left.
use Rattle.std.specs.Prelude.{ℕ, ◌≡◌, ◌+◌, ◌<◌, ◌≤◌, Bool, true, false, IsTrue, List, [], ◌∷◌}
use Rattle.std.specs.Prelude.{◌++◌, Contains}
use Rattle.std.specs.List.{list_all}
use Rattle.std.specs.List.Sorted.{IsPermutation}
use Rattle.trace_record.specs.declared.event.Event.{Event}
use Rattle.trace_record.specs.declared.event.Event.TheVariants as event
use Rattle.trace_record.specs.declared.event.Place.{Place}
use Rattle.trace_record.specs.declared.event.Region.{Region}
use Rattle.shadow_map.specs.States.{state_of, lift}
use Rattle.heap_book.specs.Spans.{Extent, span_from, span_to}
use Rattle.asan_units.specs.Units.{granule_size, first_byte, round_up}
use Rattle.asan_check.specs.declared.report.Report.{Report}
use Rattle.asan_check.specs.History.{block_of, live, held, marks}
use Rattle.asan_laws.specs.Laws.{since_malloc, since_free, NoPoisonShares, NoUnpoisonShares}

-- two histories stand the same: every granule has the same shadow byte after both, the live blocks
-- are the same, in whatever order, and so are the held ones, in the same order
pub record StandTheSame (bound : ℕ) (one other : List Event) : Type 0 where
  pub same_shadow : (granule : ℕ) →
      lift (state_of (marks bound one)) granule ≡ lift (state_of (marks bound other)) granule
  pub same_live : IsPermutation (live bound one) (live bound other)
  pub same_held : held bound one ≡ held bound other

-- a report, where this many more events stand before its own
abbrev pub later_by : ℕ → Report → Report
later_by count r = record { number = r.number + count; fault = r.fault }

-- ---- snapshot

-- a history lays blocks out, and does nothing else: it asks for each of the first ones by a malloc,
-- and for each of the second ones by a malloc after which a free of it comes at once; each list is
-- in the order of these events, and events of the one may stand among those of the other
pub data LaysOut : List Event → List Extent → List Extent → Type 0 where
  lays_none : LaysOut [] [] []
  lays_live : (r : Region) (past : List Event) (lives helds : List Extent)
      → LaysOut past lives helds
      → LaysOut (event.Malloc r ∷ past) (lives ++ block_of r ∷ []) helds
  lays_held : (r : Region) (p : Place) (past : List Event) (lives helds : List Extent)
      → p.at ≡ r.at → LaysOut past lives helds
      → LaysOut (event.Free p ∷ event.Malloc r ∷ past) lives (helds ++ block_of r ∷ [])

-- whether an event is a poison or an unpoison
abbrev pub is_shade : Event → Bool
is_shade (event.Poison s) = true
is_shade (event.Unpoison r) = true
is_shade e = false

-- one history is a snapshot of another: it lays out the other's live blocks, in whatever order, and
-- its held blocks, in the order of their frees, and after these come poisons and unpoisons alone
pub record IsSnapshot (bound : ℕ) (snapshot past : List Event) : Type 0 where
  pub shades : List Event
  pub laid : List Event
  pub lives : List Extent
  pub parts : snapshot ≡ shades ++ laid
  pub are_shades : IsTrue (list_all is_shade shades)
  pub lays_out : LaysOut laid lives (held bound past)
  pub same_blocks : IsPermutation lives (live bound past)

-- no poison and no unpoison among these events shares a granule with this one, which is itself
abbrev pub NoneShares : List Event → ℕ → Type 0
NoneShares events granule =
    NoPoisonShares events (first_byte granule) (first_byte granule + granule_size)
    × NoUnpoisonShares events (first_byte granule) (first_byte granule + granule_size)

-- a granule lies in the span of a block
abbrev pub LiesInSpan : Extent → ℕ → Type 0
LiesInSpan b granule = (span_from b ≤ first_byte granule) × (first_byte granule < span_to b)

-- a granule lies in the bytes of a block, rounded up
abbrev pub LiesInBytes : Extent → ℕ → Type 0
LiesInBytes b granule =
    (b.at ≤ first_byte granule) × (first_byte granule < b.at + round_up b.size)

-- what a history left in a granule is what its blocks alone leave there: the granule lies in the
-- span of a live block, and no poison and no unpoison since its malloc touches it; or in the bytes
-- of a held block, and none since its free does; or in its redzones, and none since its malloc
-- does; or in no such span, and all its bytes are addressable
pub data IsAsLaid (bound : ℕ) (past : List Event) (granule : ℕ) : Type 0 where
  in_live : (b : Extent) → Contains (live bound past) b → LiesInSpan b granule
      → NoneShares (since_malloc bound past b) granule → IsAsLaid bound past granule
  in_held : (b : Extent) → Contains (held bound past) b → LiesInBytes b granule
      → NoneShares (since_free bound past b) granule → IsAsLaid bound past granule
  around_held : (b : Extent) → Contains (held bound past) b → LiesInSpan b granule
      → ¬ LiesInBytes b granule → NoneShares (since_malloc bound past b) granule
      → IsAsLaid bound past granule
  in_no_span : ((b : Extent) → Contains (live bound past ++ held bound past) b
      → ¬ LiesInSpan b granule) → lift (state_of (marks bound past)) granule ≡ 0
      → IsAsLaid bound past granule
