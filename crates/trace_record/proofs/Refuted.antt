-- Answers and ends that the contracts refuse. Each lemma is named for what would have gone wrong.
use Rattle.std.proofs.Common.{◌≡◌, ℕ, ◌+◌, ◌*◌, ◌<◌, ◌≤◌, ◌⊎◌, inl, inr, Bool, true, false, List, [], ◌∷◌, ◌++◌, Some}
use Rattle.std.proofs.Common.{None, refl, ap, arith}
use Rattle.std.specs.Prelude.{◌≢◌, IsTrue, length}
use Rattle.trace_record.specs.declared.event.Event.{Event}
use Rattle.trace_record.specs.declared.event.Region.{Region}
use Rattle.trace_record.specs.declared.end.Fate.{Fate}
use Rattle.trace_record.specs.declared.end.Fate.TheVariants as fate
use Rattle.trace_record.specs.declared.end.Flaw.TheVariants as flaw
use Rattle.trace_record.specs.declared.event.Event.TheVariants as event
use Rattle.trace_record.specs.declared.shade.Kind.TheVariants as kind
use Rattle.trace_record.specs.declared.shade.Shade.{Shade}
use Rattle.trace_record.specs.declared.version.Version.{Version}
use Rattle.trace_record.specs.declared.version.Version.TheVariants as version
use Rattle.trace_record.specs.Flaws.{access_flaw, region_flaw, shade_flaw}
use Rattle.trace_record.specs.Shades.{shade_kind}
use Rattle.trace_record.specs.Spelling.{header, spelling, spells_in}
use Rattle.trace_record.specs.Standing.{StandsAt}
use Rattle.trace_record.specs.Stream.{IsDecided, IsInHeader, IsInRecords, IsMadeOf, IsOpen, Spells}
use Rattle.trace_record.specs.Stream.{offset_of}
use Rattle.trace_record.proofs.Steps.{none_to_spell}

-- ---- where a decoder stands

-- the first byte of a load was read after the header, and the decoder holds no byte
drops_record_cut_in_two :
    (limit : ℕ) (events : List Event) →
    ¬ StandsAt
    (record { limit = limit; version = version.One; events = 0; offset = 8; rest = []; stop = None })
    (header version.One ++ 1 ∷ []) events
drops_record_cut_in_two limit [] stands = go stands.reads
  where
    text : List ℕ
    text = header version.One ++ 1 ∷ []

    go : IsInHeader text [] [] ⊎ IsInRecords limit text [] [] → ⊥
    go (inl short) = absurd (omega (arith, short.short))
    go (inr whole) =
        let nine_is_eight : ◌≡◌ {A = ℕ} 9 8 = ap length whole.made.split in absurd (omega arith)
drops_record_cut_in_two limit (e ∷ events) stands =
    let none_is_some : 0 ≡ length (e ∷ events) = stands.count in absurd cc

-- an event was read and counted, and it is not given
last_event_read_ahead_is_dropped :
    (limit offset : ℕ) (v : Version) (text : List ℕ) →
    ¬ StandsAt
    (record { limit = limit; version = v; events = 1; offset = offset; rest = []; stop = None })
    text []
last_event_read_ahead_is_dropped limit offset v text stands =
    let one_is_none : ◌≡◌ {A = ℕ} 1 0 = stands.count in absurd (omega arith)

-- ---- ends

-- an unknown code is found where the limit leaves no room for a record
unknown_code_before_limit :
    (limit : ℕ) (text : List ℕ) (events : List Event) →
    length events ≡ limit → ¬ IsDecided limit text events (fate.Malformed flaw.Code)
unknown_code_before_limit limit text events full (inl in_header) =
    let same : flaw.Code ≡ flaw.Header = in_header.0 in absurd cc
unknown_code_before_limit limit text events full (inr in_records) =
    let few : length events < limit = in_records.0 in absurd (omega arith)

-- the end counts no event
event_not_counted :
    (limit offset : ℕ) (fate : Fate) (text : List ℕ) (e : Event) (events : List Event) →
    ¬ Spells limit text (e ∷ events) (record { fate = fate; events = 0; offset = offset })
event_not_counted limit offset fate text e events spells =
    let none_is_some : 0 ≡ length (e ∷ events) = spells.count in absurd cc

-- the close is not among the bytes that were used
close_not_counted :
    (limit n : ℕ) (text : List ℕ) (events : List Event) →
    ¬ Spells limit text events
    (record { fate = fate.Closed; events = n; offset = offset_of text events })
close_not_counted limit n text events spells =
    let same : offset_of text events ≡ offset_of text events + 1 = spells.offset
    in absurd (omega arith)

-- ---- open texts

-- an open text is a byte shorter than the header and the longest records
bound_is_a_byte_short :
    ¬ ((limit : ℕ) (text : List ℕ) (events : List Event) →
    IsOpen limit text events → length text ≤ 18 * limit + 7)
bound_is_a_byte_short short =
    let made : IsMadeOf version.Two (header version.Two) [] [] =
    record { spelled = none_to_spell version.Two; split = refl } in
    let bare : IsOpen 0 (header version.Two) [] =
    ([], inr (record { version = version.Two; made = made; follows = omega arith })) in
    let eight_is_seven : 8 ≤ 7 = short 0 (header version.Two) [] bare in
    absurd (omega arith)

-- ---- flaws

-- an access may have 3 bytes
width_of_three_taken : access_flaw 0x1000 3 ≢ None
width_of_three_taken same = absurd cc

-- of an access with two flaws the range is found first
range_before_width : access_flaw 0x8000_0000_0000 3 ≢ Some flaw.Range
range_before_width same = absurd cc

-- of a region with two flaws the range is found first
range_before_size : (v : Version) → region_flaw v 0x8000_0000_0000 0x1_0000_0001 ≢ Some flaw.Range
range_before_size version.One same = absurd cc
range_before_size version.Two same = absurd cc
range_before_size version.Three same = absurd cc

-- version 1 has regions of more than 2^28 bytes
large_region_taken_in_version_1 : region_flaw version.One 0x1000 0x1000_0001 ≢ None
large_region_taken_in_version_1 same = absurd cc

-- version 2 has no region of 2^32 bytes
largest_region_refused_in_version_2 : region_flaw version.Two 0x1000 0x1_0000_0000 ≢ Some flaw.Size
largest_region_refused_in_version_2 same = absurd cc

-- version 2 has regions of more than 2^32 bytes
larger_region_taken_in_version_2 : region_flaw version.Two 0x1000 0x1_0000_0001 ≢ None
larger_region_taken_in_version_2 same = absurd cc

-- of a poison with two flaws the size is found before the kind
size_before_kind : shade_flaw version.Two 0x1000 0x1_0000_0001 3 ≢ Some flaw.Size
size_before_kind same = absurd cc

-- there is a fourth kind
kind_of_three_taken : shade_flaw version.Two 0x1000 8 3 ≢ None
kind_of_three_taken same = absurd cc

-- ---- versions

-- a stream of version 1 has the poison of a redzone
stack_poison_in_version_1 :
    (s : Shade) → shade_kind s ≡ kind.Stack →
    ¬ IsTrue (spells_in version.One (event.Poison s))
stack_poison_in_version_1 s is spells =
    let no_is_yes : ◌≡◌ {A = Bool} false true = rw is at spells in absurd cc

-- a malloc of more than 2^28 bytes is spelled in version 1
large_malloc_in_version_1 :
    (r : Region) → r.size ≡ 0x1000_0001 →
    ¬ IsTrue (spells_in version.One (event.Malloc r))
large_malloc_in_version_1 r is spells =
    let no_is_yes : ◌≡◌ {A = Bool} false true = rw is at spells in absurd cc

abbrev packed_in : Event → ℕ
packed_in (event.Poison s) = s.size_and_kind
packed_in _ = 0

-- two events that version 1 does not tell apart would have one spelling there
kinds_are_distinct_in_version_1 :
    ¬ ((e f : Event) → spelling version.One e ≡ spelling version.One f → e ≡ f)
kinds_are_distinct_in_version_1 distinct =
    let user : Shade = record {
      at = 0;
      size_and_kind = 0;
      known_kind = omega arith;
      small = omega arith;
      in_range = omega arith;
    } in
    let stack : Shade = record {
      at = 0;
      size_and_kind = 1;
      known_kind = omega arith;
      small = omega arith;
      in_range = omega arith;
    } in
    let same = distinct (event.Poison user) (event.Poison stack) refl in
    let none_is_one : ◌≡◌ {A = ℕ} 0 1 = ap packed_in same in absurd (omega arith)
