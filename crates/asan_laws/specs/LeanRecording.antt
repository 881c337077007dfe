-- What a recorder may write of a run if it leaves out mallocs and frees too, and states a block
-- only when a fault comes near it.
--
-- The recording then has other blocks than the run: its book is what the checker of the recording
-- knows, its live and its held blocks. What is wrong with an event depends on little of that: an
-- access on two granules, a free on the blocks that start at its address.
use Rattle.std.specs.Prelude.{ℕ, ◌≡◌, ◌+◌, ◌≤◌, ◌⊎◌, Bool, false, IsTrue, List, [], ◌∷◌, ◌++◌, length}
use Rattle.std.specs.Prelude.{None, Contains, if◌then◌else◌}
use Rattle.std.specs.List.{list_any}
use Rattle.trace_record.specs.declared.event.Event.{Event}
use Rattle.trace_record.specs.declared.event.Event.TheVariants as event
use Rattle.trace_record.specs.declared.event.Access.{Access}
use Rattle.trace_record.specs.declared.shade.Shade.{Shade}
use Rattle.trace_record.specs.Shades.{shade_size, shade_kind}
use Rattle.shadow_map.specs.States.{HeapRedzone, code_of, lies_in, state_of, lift}
use Rattle.shadow_map.specs.Granules.{poisoned_byte, unpoisoned_byte, place_in, block_byte}
use Rattle.shadow_map.specs.Causes.{has_none_addressable}
use Rattle.heap_book.specs.Spans.{Extent, span_from, span_to, span_bytes, starts_at}
use Rattle.asan_units.specs.Units.{granule_of, first_byte, round_up}
use Rattle.asan_check.specs.Codes.{Freed, code_of_kind}
use Rattle.asan_check.specs.History.{block_of, live, held, admits, marks}
use Rattle.asan_check.specs.declared.report.Fault.{Fault}
use Rattle.asan_check.specs.Verdicts.{fault_of, is_access, marks_none, verdicts_of}
use Rattle.asan_laws.specs.Laws.{access_event, since_malloc, since_free, NoneCovers, IsPoisonedSince}
use Rattle.asan_laws.specs.Snapshots.{is_shade, NoneShares, LiesInSpan, LiesInBytes}
use Rattle.asan_laws.specs.Recording.{Detail, shadow_bytes, AreSameAt, ShowAsMuch, AddTheSame}
use Rattle.asan_laws.specs.Recording.{is_of_block}
use Rattle.asan_laws.specs.Runs.{Step, Does, Releases, events_of, live_in, held_in, admits_in}
use Rattle.asan_laws.specs.Runs.{marks_in, shadow_in, fault_in, verdicts_in}

-- ---- what a recorded malloc or free has to find

-- the same blocks start at an address in both, as far as a free there can see: a live one in both
-- or in neither, and if in neither, a held one in both or in neither
pub record HaveSameStart (bound : ℕ) (recorded : List Event) (run : List Step) (at : ℕ)
    : Type 0 where
  pub live_there : list_any (starts_at at) (live bound recorded)
      ≡ list_any (starts_at at) (live_in run)
  pub held_there : list_any (starts_at at) (live_in run) ≡ false
      → list_any (starts_at at) (held bound recorded) ≡ list_any (starts_at at) (held_in run)

-- a free finds the same blocks at its address in both, and the block that a malloc asks for is
-- admitted in both or in neither; no other event is such a one
abbrev pub FindsItsBlock : ℕ → List Event → List Step → Event → Type 0
FindsItsBlock bound recorded run (event.Malloc r) =
    admits bound recorded (block_of r) ≡ admits_in run (block_of r)
FindsItsBlock bound recorded run (event.Free p) = HaveSameStart bound recorded run p.at
FindsItsBlock bound recorded run e = ⊥

-- an access finds as much in the recording as in the run
abbrev pub FindsInRun : ℕ → Detail → List Event → List Step → Access → Type 0
FindsInRun bound detail recorded run a = ShowAsMuch detail (marks bound recorded) (marks_in run) a

-- each block that the run holds would fit into the quarantine of the recording
abbrev pub EachHeldFits : ℕ → List Step → Type 0
EachHeldFits bound run = (b : Extent) → Contains (held_in run) b → span_bytes b ≤ bound

-- a granule has the same shadow byte in the recording and in the run
abbrev pub IsAsInRun : ℕ → List Event → List Step → ℕ → Type 0
IsAsInRun bound recorded run granule = AreSameAt (marks bound recorded) (marks_in run) granule

-- a malloc may be put in if the recording admits its block, which meets none of its live and held
-- blocks, and a free, if a block starts there that is live in the recording; no other event is such
-- a one
abbrev pub MayBeStated : ℕ → List Event → Event → Type 0
MayBeStated bound recorded (event.Malloc r) = IsTrue (admits bound recorded (block_of r))
MayBeStated bound recorded (event.Free p) = IsTrue (list_any (starts_at p.at) (live bound recorded))
MayBeStated bound recorded e = ⊥

-- ---- what a recorder may write

-- a lean recording of a run: each event of either came to its place in one of these ways
pub data RecordsLeanly (bound : ℕ) (first : List Event) (past : List Step)
    : List Event → List Step → Type 0 where
  -- the recording begins with these first events, when this is what the run has done
  begins : RecordsLeanly bound first past first past
  -- a malloc or a free is recorded, which finds in the recording what it finds in the run
  block : (e : Event) (recorded : List Event) (run : List Step)
      → FindsItsBlock bound recorded run e → RecordsLeanly bound first past recorded run
      → RecordsLeanly bound first past (e ∷ recorded) (Does e ∷ run)
  -- a load or a store is recorded, which finds in the recording what it finds in the run, as far as
  -- this detail says
  access : (detail : Detail) (is_store : Bool) (a : Access) (recorded : List Event)
      (run : List Step)
      → FindsInRun bound detail recorded run a → RecordsLeanly bound first past recorded run
      → RecordsLeanly bound first past (access_event is_store a ∷ recorded)
      (Does (access_event is_store a) ∷ run)
  -- a malloc or a free is left out, which is good in the run
  leaves_out_block : (e : Event) (recorded : List Event) (run : List Step) → IsTrue (is_of_block e)
      → fault_in run e ≡ None → RecordsLeanly bound first past recorded run
      → RecordsLeanly bound first past recorded (Does e ∷ run)
  -- a malloc or a free is put in, which states what some block is
  states_block : (e : Event) (recorded : List Event) (run : List Step)
      → MayBeStated bound recorded e → RecordsLeanly bound first past recorded run
      → RecordsLeanly bound first past (e ∷ recorded) run
  -- the run releases a block, and the recording stays as it is
  releases : (at : ℕ) (recorded : List Event) (run : List Step)
      → RecordsLeanly bound first past recorded run
      → RecordsLeanly bound first past recorded (Releases at ∷ run)
  -- a load or a store is left out, which is good in the run
  leaves_out_access : (e : Event) (recorded : List Event) (run : List Step) → IsTrue (is_access e)
      → fault_in run e ≡ None → RecordsLeanly bound first past recorded run
      → RecordsLeanly bound first past recorded (Does e ∷ run)
  -- an event is put in that changes nothing, as a load does, and is good in the recording
  says_nothing : (e : Event) (recorded : List Event) (run : List Step) → IsTrue (marks_none e)
      → fault_of bound recorded e ≡ None → RecordsLeanly bound first past recorded run
      → RecordsLeanly bound first past (e ∷ recorded) run
  -- a poison or an unpoison is left out; one that is recorded in its place is also put in
  leaves_out_shade : (e : Event) (recorded : List Event) (run : List Step) → IsTrue (is_shade e)
      → RecordsLeanly bound first past recorded run
      → RecordsLeanly bound first past recorded (Does e ∷ run)
  -- a poison or an unpoison is put in, which states what some memory is
  states : (e : Event) (recorded : List Event) (run : List Step) → IsTrue (is_shade e)
      → RecordsLeanly bound first past recorded run
      → RecordsLeanly bound first past (e ∷ recorded) run

-- of each event that stands in both, and has since the recording began, its number in the
-- recording, its number in the run, and how much it finds as in the run, in their order
abbrev pub lean_numbers : {bound : ℕ} {first : List Event} {past : List Step}
    {recorded : List Event} {run : List Step}
    → RecordsLeanly bound first past recorded run → List (ℕ × ℕ × Detail)
lean_numbers begins = []
lean_numbers (block e recorded run finds way) =
    lean_numbers way ++ (length recorded + 1, length (events_of run) + 1, shadow_bytes) ∷ []
lean_numbers (access detail is_store a recorded run finds way) =
    lean_numbers way ++ (length recorded + 1, length (events_of run) + 1, detail) ∷ []
lean_numbers (leaves_out_block e recorded run is good way) = lean_numbers way
lean_numbers (states_block e recorded run may way) = lean_numbers way
lean_numbers (releases at recorded run way) = lean_numbers way
lean_numbers (leaves_out_access e recorded run is good way) = lean_numbers way
lean_numbers (says_nothing e recorded run is good way) = lean_numbers way
lean_numbers (leaves_out_shade e recorded run is way) = lean_numbers way
lean_numbers (states e recorded run is way) = lean_numbers way

-- since a lean recording began, the same is reported of it as of the run
abbrev pub AreReportedInRun : ℕ → List (ℕ × ℕ × Detail) → (Detail → Fault → Fault → Type 0)
    → List Event → List Step → List Event → List Step → Type 0
AreReportedInRun bound numbers Same first past recorded run =
    AddTheSame numbers Same (verdicts_of bound first) (verdicts_of bound recorded)
    (verdicts_in past) (verdicts_in run)

-- from some past on, a run is recorded in segments, one after the other. The first begins when the
-- run has done this past, as that of a forked child is its parent's, and each other one when the
-- one before it has ended: with some events in which nothing is wrong, as poisons and unpoisons.
-- Nothing that the one before it had has to stand in it.
pub data RecordsInSegments (bound : ℕ) (past : List Step)
    : List (List Event) → List Step → Type 0 where
  no_segment : RecordsInSegments bound past [] past
  one_more : (segments : List (List Event)) (first recorded : List Event) (before run : List Step)
      → verdicts_of bound first ≡ [] → RecordsInSegments bound past segments before
      → RecordsLeanly bound first before recorded run
      → RecordsInSegments bound past (segments ++ recorded ∷ []) run

-- of each event that stands in a segment and in the run, its numbers and how much it finds, in
-- their order; the number in the run says in which segment
abbrev pub segment_numbers : {bound : ℕ} {past : List Step} {segments : List (List Event)}
    {run : List Step} → RecordsInSegments bound past segments run → List (ℕ × ℕ × Detail)
segment_numbers no_segment = []
segment_numbers (one_more segments first recorded before run quiet earlier way) =
    segment_numbers earlier ++ lean_numbers way

-- ---- shadow bytes, and what each event makes of them

-- the shadow byte that a granule has after a history
abbrev pub shadow_after : ℕ → List Event → ℕ → ℕ
shadow_after bound past granule = lift (state_of (marks bound past)) granule

-- what a fill of granules, from an address up to another, makes of one's shadow byte
abbrev pub filled_byte : ℕ → ℕ → ℕ → ℕ → ℕ → ℕ
filled_byte from to code granule shadow =
    if lies_in from to (first_byte granule) then code else shadow

-- what the free of a block makes of it
abbrev pub freed_byte : Extent → ℕ → ℕ → ℕ
freed_byte b granule shadow =
    filled_byte b.at (b.at + round_up b.size) (code_of Freed) granule shadow

-- what the release of blocks makes of it, one after the other
abbrev pub released_byte : List Extent → ℕ → ℕ → ℕ
released_byte [] granule shadow = shadow
released_byte (b ∷ blocks) granule shadow =
    released_byte blocks granule
    (filled_byte (span_from b) (span_to b) (code_of HeapRedzone) granule shadow)

-- what a poison or an unpoison makes of it; any other event leaves it
abbrev pub shaded_byte : Event → ℕ → ℕ → ℕ
shaded_byte (event.Poison s) granule shadow =
    poisoned_byte (code_of_kind (shade_kind s)) shadow (place_in granule s.at)
    (place_in granule (s.at + shade_size s))
shaded_byte (event.Unpoison r) granule shadow =
    unpoisoned_byte shadow (place_in granule r.at) (place_in granule (r.at + r.size))
shaded_byte e granule shadow = shadow

-- ---- shadow bytes, by what stands there

-- what stands in a granule after a history says its shadow byte
pub data IsShown (bound : ℕ) (past : List Event) (granule : ℕ) : ℕ → Type 0 where
  -- it lies in the span of a live block, and no poison and no unpoison since the block's malloc
  -- came near it: it has what the block's malloc gave to it
  in_live : (b : Extent) → Contains (live bound past) b → LiesInSpan b granule
      → NoneShares (since_malloc bound past b) granule
      → IsShown bound past granule (block_byte b.at b.size granule 0)
  -- it lies in the bytes of a held block, and none since the block's free did: it is freed memory
  in_held : (b : Extent) → Contains (held bound past) b → LiesInBytes b granule
      → NoneShares (since_free bound past b) granule → IsShown bound past granule (code_of Freed)
  -- it lies in the redzones of a held block, and none since the block's malloc did
  around_held : (b : Extent) → Contains (held bound past) b → LiesInSpan b granule
      → ¬ LiesInBytes b granule → NoneShares (since_malloc bound past b) granule
      → IsShown bound past granule (code_of HeapRedzone)
  -- it lies wholly in the region of a poison, and no mark that was laid since covers a byte of it
  in_poison : (s : Shade) → IsPoisonedSince bound past s granule
      → IsShown bound past granule (code_of_kind (shade_kind s))
  -- no mark covers a byte of it: it is addressable, as all memory is at first
  untouched : NoneCovers (marks bound past) [] granule → IsShown bound past granule 0

-- a recording shows what an access looks at as it is in the run: the granule of its first byte, and
-- if some byte of that is addressable in the run, the next one too, which may say the class
pub record IsShownForAccess (bound : ℕ) (recorded : List Event) (run : List Step) (a : Access)
    : Type 0 where
  pub here : IsShown bound recorded (granule_of a.at) (shadow_in run (granule_of a.at))
  pub class_there : IsTrue (has_none_addressable (state_of (marks_in run)) (granule_of a.at))
      ⊎ IsShown bound recorded (granule_of a.at + 1) (shadow_in run (granule_of a.at + 1))
