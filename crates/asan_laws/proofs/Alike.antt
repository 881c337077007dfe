-- Histories that stand the same: what is wrong with an event depends on no more, and an event keeps them so.
use Rattle.std.proofs.Common.{◌≡◌, ℕ, ◌+◌, ◌/◌, true, false, List, [], ◌∷◌, ◌++◌, length, map}
use Rattle.std.proofs.Common.{Option, Some, None, refl, sym, ap, ◌∙◌, arith, inl, inr, append_assoc, length-append}
use Rattle.std.specs.Prelude.{filter, Contains, option_to_list, reverse}
use Rattle.std.specs.Option.{option_map}
use Rattle.std.proofs.lemmas.Bool.{cases_Bool}
use Rattle.std.proofs.lemmas.List.{map-append, append-nil, reverse-append, length-reverse}
use Rattle.std.proofs.lemmas.List.Sorted.{IsPermutation-refl}
use Rattle.trace_record.specs.declared.event.Event.{Event}
use Rattle.trace_record.specs.declared.event.Event.TheVariants as event
use Rattle.trace_record.specs.declared.event.Access.{Access}
use Rattle.trace_record.specs.declared.event.Place.{Place}
use Rattle.trace_record.specs.declared.event.Region.{Region}
use Rattle.shadow_map.specs.States.{Mark, Fill, Block, Poison, Unpoison, IsMark, AreMarks, state_of}
use Rattle.shadow_map.specs.States.{lift}
use Rattle.shadow_map.specs.Causes.{deciding_granule}
use Rattle.shadow_map.proofs.Bytes.{MakesOfBytes, fill_makes, block_makes, poison_makes, unpoison_makes}
use Rattle.heap_book.specs.Spans.{Extent, meets, starts_at}
use Rattle.asan_check.specs.declared.report.Fault.{Fault}
use Rattle.asan_check.specs.declared.report.Report.{Report}
use Rattle.asan_check.specs.History.{block_of, live, held, admits, marks, with_marks, freed_mark, released_mark}
use Rattle.asan_check.specs.History.{released_from, own_marks}
use Rattle.asan_check.specs.Verdicts.{fault_of, verdicts, verdicts_of}
use Rattle.asan_laws.specs.Thinning.{faults_of, LeaveTheSame}
use Rattle.asan_laws.specs.Snapshots.{StandTheSame, later_by}
use Rattle.asan_check.proofs.Steps.{held_free}
use Rattle.asan_check.proofs.Members.{in_none}
use Rattle.asan_laws.specs.Recording.{HaveSameBlocks, FindsTheSame}
use Rattle.asan_laws.proofs.Finding.{found_fault}
use Rattle.asan_laws.proofs.SameBlocks.{same_admits, same_any, same_freed, malloc_same, malloc_step, free_step}
use Rattle.asan_laws.proofs.Marks.{are_marks}

-- ---- marks of which the shadow bytes are the same

abbrev pub SameShadow : List Mark → List Mark → Type 0
SameShadow one other = (granule : ℕ) → lift (state_of one) granule ≡ lift (state_of other) granule

-- what a mark makes of a shadow byte depends on that alone
by_bytes : (mark : Mark) (byte_after : ℕ → ℕ → ℕ) → MakesOfBytes mark byte_after → (one other : List Mark)
    → AreMarks one → AreMarks other → SameShadow one other → SameShadow (mark ∷ one) (mark ∷ other)
by_bytes mark byte_after makes one other ok also same granule =
    sym (makes one ok granule (lift (state_of one) granule) refl)
    ∙ makes other also granule (lift (state_of one) granule) (same granule)

pub one_mark : (mark : Mark) → IsMark mark → (one other : List Mark) → AreMarks one → AreMarks other
    → SameShadow one other → SameShadow (mark ∷ one) (mark ∷ other)
one_mark (Fill from to code) is = by_bytes (Fill from to code) _ (fill_makes from to code is)
one_mark (Block at size) is = by_bytes (Block at size) _ (block_makes at size is)
one_mark (Poison at size code) is = by_bytes (Poison at size code) _ (poison_makes at size code is)
one_mark (Unpoison at size) is = by_bytes (Unpoison at size) _ (unpoison_makes at size is)

-- the same for a mark of each block of a list
are_before : (mark : Extent → Mark) (blocks : List Extent) (before : List Mark)
    → AreMarks (with_marks mark blocks before) → AreMarks before
are_before mark [] before are = are
are_before mark (b ∷ blocks) before are = (are_before mark blocks (mark b ∷ before) are).1

each_mark : (mark : Extent → Mark) (blocks : List Extent) (one other : List Mark)
    → AreMarks (with_marks mark blocks one) → AreMarks (with_marks mark blocks other) → SameShadow one other →
    SameShadow (with_marks mark blocks one) (with_marks mark blocks other)
each_mark mark [] one other ok also same = same
each_mark mark (b ∷ blocks) one other ok also same =
    let first = are_before mark blocks (mark b ∷ one) ok in
    let second = are_before mark blocks (mark b ∷ other) also in
    each_mark mark blocks (mark b ∷ one) (mark b ∷ other) ok also
    (one_mark (mark b) first.0 one other first.1 second.1 same)

-- where the states of all bytes are the same, so are the shadow bytes
pub by_states : (one other : List Mark) → ((byte : ℕ) → state_of one byte ≡ state_of other byte)
    → SameShadow one other
by_states one other same granule = ap (λ states. lift states granule) (λ i byte. same byte i)

-- ---- histories that stand the same

module _ (bound : ℕ) (one other : List Event) (same : StandTheSame bound one other) where
  blocks : HaveSameBlocks bound one other
  blocks = record { same_live = same.same_live; oldest_cut = sym same.same_held }

  none_cut : (r : Region) (b : Extent) → Contains [] b → meets (block_of r) b ≡ false
  none_cut r b has = absurd (in_none b has)

  finds : (a : Access) → FindsTheSame bound one other a
  finds a = record {
    here = same.same_shadow (a.at / 8);
    class_there = λ bad. same.same_shadow (deciding_granule (state_of (marks bound other)) a.at);
  }

  -- an event is as good or as bad after the one as after the other
  pub alike_fault : (e : Event) → fault_of bound one e ≡ fault_of bound other e
  alike_fault (event.Load a) = found_fault bound one other false a (finds a)
  alike_fault (event.Store a) = found_fault bound one other true a (finds a)
  alike_fault (event.Malloc r) = malloc_same bound [] one other blocks r (none_cut r)
  alike_fault (event.Free p) = rw (same_any bound [] one other blocks p, same.same_held) refl
  alike_fault e = refl

  same_held_after_free : (p : Place) → held bound (event.Free p ∷ one) ≡ held bound (event.Free p ∷ other)
  same_held_after_free p = held_free bound p one
      ∙ rw (same_freed bound [] one other blocks p, same.same_held) (sym (held_free bound p other))

  same_shadow_after_free : (p : Place)
      → SameShadow (marks bound (event.Free p ∷ one)) (marks bound (event.Free p ∷ other))
  same_shadow_after_free p =
      let now = filter (starts_at p.at) (live bound other) in
      let gone = released_from (held bound other ++ now) (held bound (event.Free p ∷ other)) in
      let those : marks bound (event.Free p ∷ one)
      ≡ with_marks released_mark gone (with_marks freed_mark now (marks bound one)) =
      rw (same_held_after_free p, same_freed bound [] one other blocks p, same.same_held) refl in
      let ok : AreMarks (with_marks released_mark gone (with_marks freed_mark now (marks bound one))) =
      rw those at (are_marks bound (event.Free p ∷ one)) in
      let also = are_marks bound (event.Free p ∷ other) in
      rw those (each_mark released_mark gone (with_marks freed_mark now (marks bound one))
      (with_marks freed_mark now (marks bound other)) ok also
      (each_mark freed_mark now (marks bound one) (marks bound other)
      (are_before released_mark gone (with_marks freed_mark now (marks bound one)) ok)
      (are_before released_mark gone (with_marks freed_mark now (marks bound other)) also) same.same_shadow))

  same_shadow_after : (laid : List Mark) → AreMarks (laid ++ marks bound one) → AreMarks (laid ++ marks bound other)
      → SameShadow (laid ++ marks bound one) (laid ++ marks bound other)
  same_shadow_after [] ok also = same.same_shadow
  same_shadow_after (mark ∷ laid) ok also =
      one_mark mark ok.0 (laid ++ marks bound one) (laid ++ marks bound other) ok.1 also.1
      (same_shadow_after laid ok.1 also.1)

  same_shadow_after_malloc : (r : Region)
      → SameShadow (marks bound (event.Malloc r ∷ one)) (marks bound (event.Malloc r ∷ other))
  same_shadow_after_malloc r =
      let admits_same = same_admits bound [] one other blocks r (none_cut r) in
      elim (cases_Bool (admits bound other (block_of r))) [
        | inl ok ↦ let ok' = admits_same ∙ ok in
            rw (ok', ok) (same_shadow_after (Block r.at r.size ∷ [])
            (rw ok' at (are_marks bound (event.Malloc r ∷ one))) (rw ok at (are_marks bound (event.Malloc r ∷ other))))
        | inr refused ↦ let refused' = admits_same ∙ refused in rw (refused', refused) same.same_shadow
      ]

  -- and one more event keeps them so
  pub alike_step : (e : Event) → StandTheSame bound (e ∷ one) (e ∷ other)
  alike_step (event.Malloc r) =
      let after = malloc_step bound [] one other blocks r (none_cut r) in record {
        same_shadow = same_shadow_after_malloc r;
        same_live = after.same_live;
        same_held = sym after.oldest_cut;
      }
  alike_step (event.Free p) = record {
    same_shadow = same_shadow_after_free p;
    same_live = (free_step bound [] one other blocks p).blocks.same_live;
    same_held = same_held_after_free p;
  }
  alike_step e = record {
    same_shadow = same_shadow_after (own_marks e) (are_marks bound (e ∷ one)) (are_marks bound (e ∷ other));
    same_live = same.same_live;
    same_held = same.same_held;
  }

-- any later events keep them so
pub alike_later : (bound : ℕ) (one other later : List Event) → StandTheSame bound one other
    → StandTheSame bound (later ++ one) (later ++ other)
alike_later bound one other [] same = same
alike_later bound one other (e ∷ later) same =
    alike_step bound (later ++ one) (later ++ other) (alike_later bound one other later same) e

-- histories that leave the same stand the same
pub left_alike : (bound : ℕ) (one other : List Event) → LeaveTheSame bound one other → StandTheSame bound one other
left_alike bound one other same = record {
  same_shadow = λ granule. ap (λ ms. lift (state_of ms) granule) same.same_marks;
  same_live = rw same.same_live (IsPermutation-refl (live bound other));
  same_held = same.same_held;
}

-- ---- later events

-- the verdict on an event, by the number of the events before it
abbrev said_at : ℕ → Option Fault → List Report
said_at number f = option_to_list (option_map (λ g. let r : Report = record { number = number; fault = g } in r) f)

said_later : (number count : ℕ) (f : Option Fault)
    → said_at (number + count) f ≡ map (later_by count) (said_at number f)
said_later number count None = refl
said_later number count (Some f) = refl

-- after histories that stand the same, the reports on later events are the same, but for the numbers: to those of the
-- later events among themselves, the count of the events before them is added
pub said_alike : (bound : ℕ) (one other later : List Event) → StandTheSame bound one other →
    (added : List Report)
    × (verdicts_of bound (later ++ one) ≡ verdicts_of bound one ++ map (later_by (length one)) added)
    × (verdicts_of bound (later ++ other) ≡ verdicts_of bound other ++ map (later_by (length other)) added)
said_alike bound one other [] same = (
  [],
  sym (append-nil (verdicts_of bound one)),
  sym (append-nil (verdicts_of bound other)),
)
said_alike bound one other (e ∷ later) same =
    let rest = said_alike bound one other later same in
    let f = fault_of bound (later ++ other) e in
    let same_f : fault_of bound (later ++ one) e ≡ f =
    alike_fault bound (later ++ one) (later ++ other) (alike_later bound one other later same) e in
    let last = said_at (length later + 1) f in (
      rest.0 ++ last,
      ap (λ g. verdicts_of bound (later ++ one) ++ said_at (length (later ++ one) + 1) g) same_f
          ∙ one_more (verdicts_of bound one) rest.0 f one (verdicts_of bound (later ++ one)) rest.1,
      one_more (verdicts_of bound other) rest.0 f other (verdicts_of bound (later ++ other)) rest.2,
    )
  where
    one_more : (start added : List Report) (f : Option Fault) (before : List Event) (all : List Report)
        → all ≡ start ++ map (later_by (length before)) added →
        all ++ said_at (length (later ++ before) + 1) f
        ≡ start ++ map (later_by (length before)) (added ++ said_at (length later + 1) f)
    one_more start added f before all is =
        let number : length (later ++ before) + 1 ≡ length later + 1 + length before =
        omega (arith, length-append later before) in
        ap (λ rs. rs ++ said_at (length (later ++ before) + 1) f) is
        ∙ append_assoc start (map (later_by (length before)) added) (said_at (length (later ++ before) + 1) f)
        ∙ ap (λ rs. start ++ (map (later_by (length before)) added ++ rs))
        (ap (λ n. said_at n f) number ∙ said_later (length later + 1) (length before) f)
        ∙ ap (λ rs. start ++ rs)
        (sym (map-append (later_by (length before)) added (said_at (length later + 1) f)))

-- what is wrong in them is the same
pub faults_alike : (bound : ℕ) (one other later : List Event) → StandTheSame bound one other →
    (added : List Fault) × (faults_of bound (later ++ one) ≡ faults_of bound one ++ added)
    × (faults_of bound (later ++ other) ≡ faults_of bound other ++ added)
faults_alike bound one other later same =
    let said = said_alike bound one other later same in (
      map (λ r. r.fault) said.0,
      ap (map (λ r. r.fault)) said.1 ∙ map-append (λ r. r.fault) (verdicts_of bound one) _
          ∙ ap (λ fs. faults_of bound one ++ fs) (forget (length one) said.0),
      ap (map (λ r. r.fault)) said.2 ∙ map-append (λ r. r.fault) (verdicts_of bound other) _
          ∙ ap (λ fs. faults_of bound other ++ fs) (forget (length other) said.0),
    )
  where
    forget : (count : ℕ) (rs : List Report) → map (λ (r : Report). r.fault) (map (later_by count) rs)
        ≡ map (λ r. r.fault) rs
    forget count [] = refl
    forget count (r ∷ rs) = ap (λ fs. r.fault ∷ fs) (forget count rs)

-- the reports on events that stand in their order
pub reports_alike : (bound : ℕ) (one other later : List Event) → StandTheSame bound (reverse one) (reverse other) →
    (added : List Report)
    × (verdicts bound (one ++ later) ≡ verdicts bound one ++ map (later_by (length one)) added)
    × (verdicts bound (other ++ later) ≡ verdicts bound other ++ map (later_by (length other)) added)
reports_alike bound one other later same =
    let said = said_alike bound (reverse one) (reverse other) (reverse later) same in (
      said.0,
      ap (verdicts_of bound) (reverse-append one later) ∙ said.1
          ∙ ap (λ n. verdicts bound one ++ map (later_by n) said.0) (length-reverse one),
      ap (verdicts_of bound) (reverse-append other later) ∙ said.2
          ∙ ap (λ n. verdicts bound other ++ map (later_by n) said.0) (length-reverse other),
    )
