-- What is found at a bad access or a bad free, and what is stated of it in a history of its own.
use Rattle.std.specs.Prelude.{◌≡◌, ℕ, ◌+◌, ◌≤◌, ◌<◌, Bool, true, false, ◌||◌, ◌==◌, nat_lt, if◌then◌else◌}
use Rattle.std.specs.Prelude.{List, [], ◌∷◌, ◌++◌, Option, IfSome, is_some}
use Rattle.std.specs.List.{list_any}
use Rattle.asan_units.specs.Units.{granule_size, first_byte}
use Rattle.trace_record.specs.declared.event.Event.{Event}
use Rattle.trace_record.specs.declared.event.Event.TheVariants as event
use Rattle.trace_record.specs.declared.shade.Kind.{Kind}
use Rattle.trace_record.specs.Shades.{shade_size}
use Rattle.trace_record.specs.declared.shade.Kind.TheVariants as kind
use Rattle.shadow_map.specs.States.{HeapRedzone, code_of}
use Rattle.shadow_map.specs.Checks.{is_negative}
use Rattle.heap_book.specs.Spans.{Extent, IsPlaced, span_bytes, starts_at}
use Rattle.asan_shades.specs.Blocks.{left_byte}
use Rattle.asan_check.specs.Codes.{Freed, StackRedzone, GlobalRedzone, code_of_kind, class_of_code}
use Rattle.asan_check.specs.Verdicts.{verdicts_of}
use Rattle.asan_laws.specs.Traces.{IsOneHistory}
use Rattle.asan_laws.specs.LeanRecording.{shadow_after}
use Rattle.asan_check.specs.History.{block_of}
use Rattle.asan_laws.specs.Runs.{Step, live_in, held_in, shadow_in}
use Rattle.asan_plan.specs.declared.saying.Around.{Around}
use Rattle.asan_plan.specs.declared.saying.Stated.{Stated}
use Rattle.asan_plan.specs.declared.saying.Stated.TheVariants as stated
use Rattle.asan_plan.specs.declared.saying.Shading.{Shading}
use Rattle.asan_plan.specs.declared.saying.Shading.TheVariants as shading
use Rattle.asan_plan.specs.declared.saying.Said.{Said}

-- ---- shadow bytes

-- whether a shadow byte comes from a block: a redzone, or freed memory
abbrev pub is_of_heap : ℕ → Bool
is_of_heap shadow = shadow == code_of HeapRedzone || shadow == code_of Freed

-- the kind of poison that another code is of
abbrev pub kind_of_byte : ℕ → Kind
kind_of_byte shadow =
    if shadow == code_of StackRedzone then kind.Stack
    else (if shadow == code_of GlobalRedzone then kind.Global else kind.User)

-- a shadow byte of the recorder's as the collector has it: what no block has left is poison of its
-- kind
abbrev pub as_recorded : ℕ → ℕ
as_recorded shadow =
    if nat_lt shadow granule_size || is_of_heap shadow then shadow
    else code_of_kind (kind_of_byte shadow)

-- the shadow byte that a block leaves in a granule, live or held: 0 outside its span
abbrev pub left_by : Extent → Bool → ℕ → ℕ
left_by b is_held granule = left_byte b.at b.size is_held 0 granule

-- ---- what is found

-- a block that is held fits into a quarantine of this bound
abbrev pub Fits : ℕ → Around → Type 0
Fits bound found = found.is_held ≡ true → span_bytes (block_of found.region) ≤ bound

-- the same, if there is a block
abbrev pub FitsIfFound : ℕ → Option Around → Type 0
FitsIfFound bound found = IfSome found (λ b. Fits bound b)

-- the least bound of a quarantine for which something can always be stated: the bytes of the span
-- of a block of one granule
abbrev pub least_bound : ℕ
least_bound = 72

-- a run has these shadow bytes where an access looks: in the granule of its first byte, and if that
-- has an addressable byte, in the next one, which says the class then
pub record IsSeen (run : List Step) (granule here next : ℕ) : Type 0 where
  pub in_here : shadow_in run granule ≡ here
  pub in_next : is_negative here ≡ false → shadow_in run (granule + 1) ≡ next

-- a free at an address is bad in a run: no live block starts there; a held one does where the block
-- that was found is one, which is placed
pub record IsFoundFreed (run : List Step) (at : ℕ) (found : Option Around) : Type 0 where
  pub none_live : list_any (starts_at at) (live_in run) ≡ false
  pub held_or_not : list_any (starts_at at) (held_in run) ≡ is_some found
  pub block : IfSome found (λ b. (b.region.at ≡ at) × (b.is_held ≡ true)
      × IsPlaced (block_of b.region))

-- ---- what is stated

-- a malloc of a block, and a free of it where it is held
abbrev pub block_events : Stated → List Event
block_events stated.Nothing = []
block_events (stated.Live r) = event.Malloc r ∷ []
block_events (stated.Held r p) = event.Free p ∷ event.Malloc r ∷ []

-- a poison or an unpoison
abbrev pub shading_events : Shading → List Event
shading_events shading.Nothing = []
shading_events (shading.Poison s) = event.Poison s ∷ []
shading_events (shading.Unpoison r) = event.Unpoison r ∷ []

-- the events that state it, the newest first: the block, and then the shading
abbrev pub said_events : Said → List Event
said_events s = shading_events s.shading ++ block_events s.block

-- ---- when it is right

-- a block has left this byte in a granule, as it is, live or held
abbrev pub HasLeft : Around → ℕ → ℕ → Type 0
HasLeft found granule shadow =
    IsPlaced (block_of found.region)
    × (left_by (block_of found.region) found.is_held granule ≡ shadow)

-- this states a block, live or held
abbrev pub IsStatedOf : Around → Stated → Type 0
IsStatedOf found stated.Nothing = ⊥
IsStatedOf found (stated.Live r) = (found.is_held ≡ false) × (r ≡ found.region)
IsStatedOf found (stated.Held r p) =
    (found.is_held ≡ true) × (r ≡ found.region) × (p.at ≡ r.at)

-- this makes the number of a granule's addressable first bytes, which was one, the other
abbrev pub IsFit : ℕ → ℕ → ℕ → Shading → Type 0
IsFit granule had has shading.Nothing = had ≡ has
IsFit granule had has (shading.Poison s) =
    (has < had) × (s.at ≡ first_byte granule + has) × (shade_size s + has ≡ granule_size)
IsFit granule had has (shading.Unpoison r) =
    (had < has) × (r.at ≡ first_byte granule) × (r.size ≡ has)

-- these events are a history in which nothing is wrong. It has this shadow byte in a granule and,
-- if that has an addressable byte, one of the same class as this in the next
pub record BringsThere (bound granule here next : ℕ) (events : List Event) : Type 0 where
  pub one_history : IsOneHistory events
  pub quiet : verdicts_of bound events ≡ []
  pub in_here : shadow_after bound events granule ≡ here
  pub in_next : is_negative here ≡ false →
      class_of_code (shadow_after bound events (granule + 1)) ≡ class_of_code next
