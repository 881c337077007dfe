-- Runs whose freed blocks are held as long as the allocator likes.
--
-- A run has its newest step first, as a history has its newest event. A freed block is held until
-- the run releases it, which it may do at any time after the free, or never: no bound and no order
-- says when. Redzones, marks and verdicts are those of a history.
use Rattle.std.specs.Prelude.{ℕ, ◌≡◌, ◌+◌, ◌≤◌, Bool, true, false, not, ◌&&◌, ◌||◌, ◌==◌}
use Rattle.std.specs.Prelude.{if◌then◌else◌, List, [], ◌∷◌, ◌++◌, length, filter, map, Contains}
use Rattle.std.specs.Prelude.{Option, Some, None, option_to_list}
use Rattle.std.specs.List.{list_any}
use Rattle.std.specs.Option.{option_map}
use Rattle.trace_record.specs.declared.event.Event.{Event}
use Rattle.trace_record.specs.declared.event.Event.TheVariants as event
use Rattle.trace_record.specs.declared.shade.Shade.{Shade}
use Rattle.trace_record.specs.Shades.{shade_size, shade_kind}
use Rattle.shadow_map.specs.States.{HeapRedzone, code_of, Mark, Block, state_of, lift}
use Rattle.shadow_map.specs.Granules.{block_byte}
use Rattle.heap_book.specs.Spans.{Extent, may_be_admitted, held_of, starts_at}
use Rattle.asan_units.specs.Units.{granule_size, first_byte}
use Rattle.asan_check.specs.declared.report.Fault.{Fault}
use Rattle.asan_check.specs.declared.report.Fault.TheVariants as fault
use Rattle.asan_check.specs.declared.report.Report.{Report}
use Rattle.asan_check.specs.Codes.{Freed, code_of_kind}
use Rattle.asan_check.specs.History.{block_of, released_from, freed_mark, released_mark, with_marks}
use Rattle.asan_check.specs.History.{own_marks}
use Rattle.asan_check.specs.Verdicts.{access_fault}
use Rattle.asan_laws.specs.Laws.{asks_for, NoneCovers}
use Rattle.asan_laws.specs.Snapshots.{NoneShares, LiesInSpan, LiesInBytes}

-- what a run does next: an event of the process, or it releases the held block that starts at this
-- address, whose memory may be used again from then on; where none is held, that is nothing
pub data Step : Type 0 where
  Does : Event → Step
  Releases : ℕ → Step

-- its events, without the releases
abbrev pub events_of : List Step → List Event
events_of [] = []
events_of (Does e ∷ run) = e ∷ events_of run
events_of (Releases at ∷ run) = events_of run

-- ---- its blocks

-- the live blocks, and the held ones, oldest free first
pub record Blocks : Type 0 where
  pub live : List Extent
  pub held : List Extent

-- whether a malloc of a block is admitted beside these: its span meets that of none of them
abbrev pub admits_beside : Blocks → Extent → Bool
admits_beside blocks b = may_be_admitted (blocks.live ++ blocks.held) b

-- the blocks after one more step: an admitted malloc adds its block to the live ones, a free moves
-- the live block that starts at its address to the held ones, and a release takes such a held block
-- away
abbrev pub blocks_after : Step → Blocks → Blocks
blocks_after (Does (event.Malloc r)) blocks =
    record {
      live =
          if admits_beside blocks (block_of r) then blocks.live ++ block_of r ∷ [] else blocks.live;
      held = blocks.held;
    }
blocks_after (Does (event.Free p)) blocks =
    record {
      live = filter (λ b. not (starts_at p.at b)) blocks.live;
      held = blocks.held ++ filter (starts_at p.at) blocks.live;
    }
blocks_after (Does e) blocks = blocks
blocks_after (Releases at) blocks =
    record { live = blocks.live; held = filter (λ b. not (starts_at at b)) blocks.held }

-- the blocks of a run, which has none at first
abbrev pub blocks_of : List Step → Blocks
blocks_of [] = record { live = []; held = [] }
blocks_of (step ∷ run) = blocks_after step (blocks_of run)

-- the live blocks of a run
abbrev pub live_in : List Step → List Extent
live_in run = (blocks_of run).live

-- its held blocks: those that were freed, and not released since
abbrev pub held_in : List Step → List Extent
held_in run = (blocks_of run).held

-- whether a malloc of this block after the run is admitted
abbrev pub admits_in : List Step → Extent → Bool
admits_in run b = admits_beside (blocks_of run) b

-- ---- its bytes

-- the marks of a run, the newest first: an admitted malloc lays its block, a free marks the bytes
-- of the block that it frees, a release the whole span of the block that it releases, and any other
-- event adds the marks that it is itself
abbrev pub marks_in : List Step → List Mark
marks_in [] = []
marks_in (Does (event.Malloc r) ∷ run) =
    if admits_in run (block_of r) then Block r.at r.size ∷ marks_in run else marks_in run
marks_in (Does (event.Free p) ∷ run) =
    with_marks freed_mark (filter (starts_at p.at) (live_in run)) (marks_in run)
marks_in (Does e ∷ run) = own_marks e ++ marks_in run
marks_in (Releases at ∷ run) =
    with_marks released_mark (filter (starts_at at) (held_in run)) (marks_in run)

-- the shadow byte that a granule has after a run
abbrev pub shadow_in : List Step → ℕ → ℕ
shadow_in run granule = lift (state_of (marks_in run)) granule

-- ---- what is wrong in it

-- what is wrong with an event after a run
abbrev pub fault_in : List Step → Event → Option Fault
fault_in run (event.Load a) = access_fault (state_of (marks_in run)) false a
fault_in run (event.Store a) = access_fault (state_of (marks_in run)) true a
fault_in run (event.Malloc r) =
    if r.at == 0 || admits_in run (block_of r) then None else Some (fault.BadMalloc r.at r.size)
fault_in run (event.Free p) =
    if p.at == 0 || list_any (starts_at p.at) (live_in run) then None
    else (if list_any (starts_at p.at) (held_in run) then Some (fault.DoubleFree p.at)
    else Some (fault.BadFree p.at))
fault_in run (event.Poison s) = None
fault_in run (event.Unpoison r) = None
fault_in run event.Anew = None

-- the verdict on an event after a run: a report with the event's number, or nothing. Numbers count
-- events, and no releases.
abbrev pub verdict_in : List Step → Event → Option Report
verdict_in run e =
    option_map (λ f. record { number = length (events_of run) + 1; fault = f }) (fault_in run e)

-- the verdicts on a run, oldest first
abbrev pub verdicts_in : List Step → List Report
verdicts_in [] = []
verdicts_in (Does e ∷ run) = verdicts_in run ++ option_to_list (verdict_in run e)
verdicts_in (Releases at ∷ run) = verdicts_in run

-- what is wrong in a run, oldest first
abbrev pub faults_in : List Step → List Fault
faults_in run = map (λ r. r.fault) (verdicts_in run)

-- ---- since when

-- the events after the malloc of a block: after the last malloc that was admitted for it
abbrev pub since_malloc_in : List Step → Extent → List Event
since_malloc_in [] b = []
since_malloc_in (Does (event.Malloc r) ∷ run) b =
    if asks_for b r && admits_in run b then [] else event.Malloc r ∷ since_malloc_in run b
since_malloc_in (Does e ∷ run) b = e ∷ since_malloc_in run b
since_malloc_in (Releases at ∷ run) b = since_malloc_in run b

-- the events after the free of a block: after the last free at its address when a live block
-- started there
abbrev pub since_free_in : List Step → Extent → List Event
since_free_in [] b = []
since_free_in (Does (event.Free p) ∷ run) b =
    if starts_at p.at b && list_any (starts_at p.at) (live_in run) then []
    else event.Free p ∷ since_free_in run b
since_free_in (Does e ∷ run) b = e ∷ since_free_in run b
since_free_in (Releases at ∷ run) b = since_free_in run b

-- in the run stands this poison, in whose region the granule lies wholly, and no mark that was laid
-- after its own covers a byte of the granule
pub record IsPoisonedSinceIn (run : List Step) (s : Shade) (granule : ℕ) : Type 0 where
  pub before : List Step
  pub since : List Step
  pub split : run ≡ since ++ Does (event.Poison s) ∷ before
  pub whole : (s.at ≤ first_byte granule)
      × (first_byte granule + granule_size ≤ s.at + shade_size s)
  pub laid : List Mark
  pub laid_since : marks_in run ≡ laid ++ marks_in (Does (event.Poison s) ∷ before)
  pub uncovered : NoneCovers laid (marks_in (Does (event.Poison s) ∷ before)) granule

-- what stands in a granule after a run says its shadow byte
pub data IsShownIn (run : List Step) (granule : ℕ) : ℕ → Type 0 where
  -- it lies in the span of a live block, and no poison and no unpoison since the block's malloc
  -- came near it: it has what the block's malloc gave to it
  in_live : (b : Extent) → Contains (live_in run) b → LiesInSpan b granule
      → NoneShares (since_malloc_in run b) granule
      → IsShownIn run granule (block_byte b.at b.size granule 0)
  -- it lies in the bytes of a held block, and none since the block's free did: it is freed memory
  in_held : (b : Extent) → Contains (held_in run) b → LiesInBytes b granule
      → NoneShares (since_free_in run b) granule → IsShownIn run granule (code_of Freed)
  -- it lies in the redzones of a held block, and none since the block's malloc did
  around_held : (b : Extent) → Contains (held_in run) b → LiesInSpan b granule
      → ¬ LiesInBytes b granule → NoneShares (since_malloc_in run b) granule
      → IsShownIn run granule (code_of HeapRedzone)
  -- it lies wholly in the region of a poison, and no mark that was laid since covers a byte of it
  in_poison : (s : Shade) → IsPoisonedSinceIn run s granule
      → IsShownIn run granule (code_of_kind (shade_kind s))
  -- no mark covers a byte of it: it is addressable, as all memory is at first
  untouched : NoneCovers (marks_in run) [] granule → IsShownIn run granule 0

-- ---- the run of a history

-- a run that releases these blocks, one after the other
abbrev pub releasing : List Extent → List Step → List Step
releasing [] run = run
releasing (b ∷ blocks) run = releasing blocks (Releases b.at ∷ run)

-- a run that releases those of its held blocks that a queue of this many bytes leaves no room for,
-- oldest free first
abbrev pub within_bound : ℕ → List Step → List Step
within_bound bound run =
    releasing (released_from (held_in run) (held_of bound (held_in run))) run

-- the run that does the events of a history with one quarantine, a queue of this many bytes: right
-- after each free it releases what there is no room for
abbrev pub with_quarantine : ℕ → List Event → List Step
with_quarantine bound [] = []
with_quarantine bound (event.Free p ∷ past) =
    within_bound bound (Does (event.Free p) ∷ with_quarantine bound past)
with_quarantine bound (e ∷ past) = Does e ∷ with_quarantine bound past

-- the run that does them and releases nothing
abbrev pub without_release : List Event → List Step
without_release past = map Does past
