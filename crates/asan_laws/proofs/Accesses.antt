-- What is reported of an access, by the states of the bytes around it.
use Rattle.std.proofs.Common.{◌≡◌, ℕ, zero, suc, ◌+◌, ◌-◌, ◌*◌, ◌/◌, ◌%◌, ◌≤◌, ◌<◌, Bool, true, false, cond, ltb, eqb}
use Rattle.std.proofs.Common.{List, Option, Some, None, refl, ap, ◌∙◌, arith, inl, inr, add-zero}
use Rattle.std.specs.Prelude.{min, ◌||◌, ◌⊎◌, IsTrue, Contains, length}
use Rattle.std.specs.Option.{option_map}
use Rattle.std.proofs.lemmas.Bool.Decides.{nat_tests}
use Rattle.trace_record.specs.declared.event.Event.{Event}
use Rattle.trace_record.specs.declared.event.Access.{Access}
use Rattle.shadow_map.specs.States.{State, Addressable, HeapRedzone, is_addressable, code_of, lies_in, state_of}
use Rattle.shadow_map.specs.States.{addressable_front, shadow_byte, lift, least_unaddressable, bad_byte_of}
use Rattle.shadow_map.specs.Causes.{has_none_addressable}
use Rattle.heap_book.specs.Spans.{Extent, IsPlaced, span_from, span_to}
use Rattle.asan_units.specs.Units.{round_up}
use Rattle.asan_check.specs.declared.report.Class.{Class}
use Rattle.asan_check.specs.declared.report.Class.TheVariants as class
use Rattle.asan_check.specs.declared.report.Fault.{Fault}
use Rattle.asan_check.specs.declared.report.Fault.TheVariants as fault
use Rattle.asan_check.specs.Codes.{Freed, class_of_code}
use Rattle.asan_check.specs.History.{live, held, marks}
use Rattle.asan_check.specs.Verdicts.{class_of, access_fault, verdict}
use Rattle.asan_laws.specs.Laws.{since_malloc, since_free, NoPoisonShares, NoUnpoisonShares, access_event, LiesInside}
use Rattle.asan_laws.specs.Laws.{StartsAround, StartsWithin, first_byte_report, shadow_around}
use Rattle.shadow_map.proofs.Fronts.{redzone_or}
use Rattle.asan_check.proofs.Blocks.{live_placed}
use Rattle.asan_laws.proofs.Blocks.{held_placed}
use Rattle.asan_laws.proofs.Frames.{IsInSpan}
use Rattle.asan_laws.proofs.Bytes.{live_inside, live_span, held_bytes, no_poison_there, neither_there}

-- ---- by states

-- the class that a state stands for
abbrev pub class_of_its_code : State → Class
class_of_its_code state = class_of_code (code_of state)

-- whether a granule has no addressable byte, where none is addressable and where the first one is
module _ (states : ℕ → State) where
  none_is : (granule : ℕ) → ((i : ℕ) → i < 8 → is_addressable (states (8 * granule + i)) ≡ false)
      → has_none_addressable states granule ≡ true
  none_is granule bad =
      rw (
        bad 0 (omega arith),
        bad 1 (omega arith),
        bad 2 (omega arith),
        bad 3 (omega arith),
        bad 4 (omega arith),
        bad 5 (omega arith),
        bad 6 (omega arith),
        bad 7 (omega arith),
      ) refl

  some_is : (granule : ℕ) → is_addressable (states (8 * granule)) ≡ true
      → has_none_addressable states granule ≡ false
  some_is granule first =
      let here : is_addressable (states (8 * granule + 0)) ≡ true = rw (add-zero (8 * granule)) first in
      rw here refl

module _ (states : ℕ → State) where
  least_none : (from count : ℕ) → ((byte : ℕ) → from ≤ byte → byte < from + count → states byte ≡ Addressable)
      → least_unaddressable states from count ≡ None
  least_none from zero all = refl
  least_none from (suc count) all =
      rw (all from (omega arith) (omega arith))
      (least_none (from + 1) count (λ byte above below. all byte (omega arith) (omega arith)))

  least_first : (from count : ℕ) → 0 < count → is_addressable (states from) ≡ false
      → least_unaddressable states from count ≡ Some from
  least_first from zero some bad = absurd (omega arith)
  least_first from (suc count) some bad = rw bad refl

  -- where all of an access's bytes in the granule of its first one are addressable nothing is wrong with it
  no_fault : (is_store : Bool) (a : Access) →
      ((byte : ℕ) → a.at ≤ byte → byte < a.at + a.width → byte < 8 * (a.at / 8) + 8 → states byte ≡ Addressable)
      → access_fault states is_store a ≡ None
  no_fault is_store a all =
      let none : bad_byte_of states a.at a.width ≡ None =
      least_none a.at (min a.width (8 - a.at % 8))
      (λ byte above below. all byte above (let le = (min_le a.width (8 - a.at % 8)).0 in omega arith)
      (let le = (min_le a.width (8 - a.at % 8)).1 in omega arith)) in
      rw none refl
    where
      min_le : (m n : ℕ) → (min m n ≤ m) × (min m n ≤ n)
      min_le m n = (omega arith, omega arith)

  -- where its first byte is not, that one is bad
  pub first_fault : (is_store : Bool) (a : Access) → is_addressable (states a.at) ≡ false →
      access_fault states is_store a ≡ Some (fault.Access is_store a.width a.at a.at (class_of states a.at)
      (lift states (a.at / 8)))
  first_fault is_store a bad =
      let known = a.known_width in
      let some : 0 < min a.width (8 - a.at % 8) = some_byte a.width (a.at % 8) known (omega arith) in
      let is : bad_byte_of states a.at a.width ≡ Some a.at = least_first a.at (min a.width (8 - a.at % 8)) some bad in
      rw is refl
    where
      some_byte : (width place : ℕ) → IsTrue (eqb width 1 || eqb width 2 || eqb width 4 || eqb width 8) → place < 8
          → 0 < min width (8 - place)
      some_byte width place known lt = grind (arith, nat_tests)

  -- how many bytes of a front are addressable, where the first k are and no others
  front_run : (byte k count : ℕ) → ((i : ℕ) → i < count → is_addressable (states (byte + i)) ≡ ltb i k)
      → addressable_front states byte count ≡ min k count
  front_run byte k zero each = grind (arith, nat_tests)
  front_run byte zero (suc count) each = let none : is_addressable (states byte) ≡ false =
      rw (← add-zero byte) (each 0 (omega arith)) in rw none (grind (arith, nat_tests))
  front_run byte (suc k) (suc count) each =
      let first : is_addressable (states byte) ≡ true =
      rw (← add-zero byte) (each 0 (omega arith) ∙ grind (arith, nat_tests)) in
      let rest : addressable_front states (byte + 1) count ≡ min k count =
      front_run (byte + 1) k count (λ i lt. rw (one_more byte i) (each (suc i) (omega arith)
      ∙ grind (arith, nat_tests))) in
      rw (first, rest) (grind (arith, nat_tests))
    where
      one_more : (b i : ℕ) → b + 1 + i ≡ b + suc i
      one_more b i = omega arith

  -- a granule whose first byte is not addressable
  front_zero : (byte count : ℕ) → is_addressable (states byte) ≡ false → addressable_front states byte count ≡ 0
  front_zero byte zero bad = refl
  front_zero byte (suc count) bad = rw bad refl

  pub own_class : (at : ℕ) → ((i : ℕ) → i < 8 → is_addressable (states (8 * (at / 8) + i)) ≡ false)
      → class_of states at ≡ class_of_its_code (states (8 * (at / 8)))
  own_class at bad = ap (λ t. class_of_its_code (states (8 * (cond t (at / 8) (at / 8 + 1)))))
      (none_is states (at / 8) bad)

  pub own_shadow : (granule : ℕ) → is_addressable (states (8 * granule)) ≡ false
      → lift states granule ≡ code_of (states (8 * granule))
  own_shadow granule bad = ap (λ (k : ℕ). shadow_byte k (states (8 * granule))) (front_zero (8 * granule) 8 bad)

  -- a granule of which the first k bytes are addressable, and no others
  module _ (at k : ℕ) (some : 0 < k) (part : k < 8) (each : (i : ℕ) → i < 8
      → is_addressable (states (8 * (at / 8) + i)) ≡ ltb i k) where
    front_is : addressable_front states (8 * (at / 8)) 8 ≡ k
    front_is = front_run (8 * (at / 8)) k 8 each ∙ least k part
      where
        least : (m : ℕ) → m < 8 → min m 8 ≡ m
        least m lt = omega arith

    next_class : class_of states at ≡ class_of_its_code (states (8 * (at / 8 + 1)))
    next_class =
        ap (λ t. class_of_its_code (states (8 * (cond t (at / 8) (at / 8 + 1)))))
        (some_is states (at / 8) (rw (← add-zero (8 * (at / 8))) (each 0 (omega arith) ∙ grind (arith, nat_tests))))

    part_shadow : lift states (at / 8) ≡ k
    part_shadow = ap (λ (j : ℕ). shadow_byte j (states (8 * (at / 8)))) front_is
        ∙ counted k (code_of (states (8 * (at / 8)))) some part
      where
        counted : (m code : ℕ) → 0 < m → m < 8 → cond (eqb m 8) 0 (cond (eqb m 0) code m) ≡ m
        counted m code lt lt' = grind (arith, nat_tests)

-- an access that starts in a granule of freed memory
some_fault : (is_store : Bool) (a : Access) (c d : Class) (v w : ℕ) → c ≡ d → v ≡ w →
    (let f : Option Fault = Some (fault.Access is_store a.width a.at a.at c v) in f)
    ≡ Some (fault.Access is_store a.width a.at a.at d w)
some_fault is_store a c d v w p q = rw (p, q) refl

pub freed_fault : (states : ℕ → State) (is_store : Bool) (a : Access)
    → ((byte : ℕ) → 8 * (a.at / 8) ≤ byte → byte < 8 * (a.at / 8) + 8 → states byte ≡ Freed) →
    access_fault states is_store a
    ≡ Some (fault.Access is_store a.width a.at a.at class.HeapUseAfterFree (code_of Freed))
freed_fault states is_store a each =
    let base = each (8 * (a.at / 8)) (omega arith) (omega arith) in
    let none : (i : ℕ) → i < 8 → is_addressable (states (8 * (a.at / 8) + i)) ≡ false =
    λ i lt. ap is_addressable (each (8 * (a.at / 8) + i) (omega arith) (omega arith)) in
    first_fault states is_store a (ap is_addressable (each a.at (omega arith) (omega arith)))
    ∙ some_fault is_store a _ _ _ _ (own_class states a.at none ∙ ap class_of_its_code base)
    (own_shadow states (a.at / 8) (ap is_addressable base) ∙ ap code_of base)

-- a fault of an access, as its verdict
pub verdict_from : (bound : ℕ) (past : List Event) (is_store : Bool) (a : Access) (o : Option Fault)
    → access_fault (state_of (marks bound past)) is_store a ≡ o →
    verdict bound past (access_event is_store a) ≡ option_map (λ f. record { number = length past + 1; fault = f }) o
verdict_from bound past true a o is = ap (option_map (λ f. record { number = length past + 1; fault = f })) is
verdict_from bound past false a o is = ap (option_map (λ f. record { number = length past + 1; fault = f })) is

-- ---- the laws

pub quiet : (bound : ℕ) (past : List Event) (b : Extent) (is_store : Bool) (a : Access) → Contains (live bound past) b
    → LiesInside b a → NoPoisonShares (since_malloc bound past b) a.at (a.at + 1)
    → verdict bound past (access_event is_store a) ≡ None
quiet bound past b is_store a has inside clear =
    verdict_from bound past is_store a None
    (no_fault (state_of (marks bound past)) is_store a (λ byte above below here.
    let from = inside.0 in
    let to = inside.1 in
    live_inside bound past b byte (8 * (a.at / 8)) (8 * (a.at / 8) + 8) has (omega arith) (omega arith)
    (omega arith, here) (no_poison_there (since_malloc bound past b) a.at clear)))

-- the numbers of the last granule of a block, where an address past its bytes lies there
tail_granule : (at size place : ℕ) → at % 8 ≡ 0 → at + size ≤ place → place < at + round_up size
    → (8 * (place / 8) + size % 8 ≡ at + size) × (0 < size % 8)
tail_granule at size place aligned past within = (omega arith, omega arith)

tail_test : (at size base k i : ℕ) → at ≤ base → base + k ≡ at + size → i < 8
    → lies_in at (at + size) (base + i) ≡ ltb i k
tail_test at size base k i le is lt = grind (arith, nat_tests)

outside_is : (b : Extent) (byte : ℕ) → (byte < b.at) ⊎ (b.at + b.size ≤ byte)
    → cond (lies_in b.at (b.at + b.size) byte) Addressable HeapRedzone ≡ HeapRedzone
outside_is b byte out =
    let off : lies_in b.at (b.at + b.size) byte ≡ false = grind (arith, nat_tests) in rw off refl

-- an address in a block's span, where the bytes of its granule have what the block's malloc gave to them
module _ (states : ℕ → State) (b : Extent) (placed : IsPlaced b) (at : ℕ) (each : (byte : ℕ) → IsInSpan b byte
    → byte / 8 ≡ at / 8 → states byte ≡ cond (lies_in b.at (b.at + b.size) byte) Addressable HeapRedzone) where
  outside : (byte : ℕ) → IsInSpan b byte → byte / 8 ≡ at / 8 → (byte < b.at) ⊎ (b.at + b.size ≤ byte)
      → states byte ≡ HeapRedzone
  outside byte in_span here out = each byte in_span here ∙ outside_is b byte out

  -- in a redzone's granule
  in_redzone : IsInSpan b at → (at < b.at) ⊎ (b.at + round_up b.size ≤ at)
      → (class_of states at ≡ class.HeapBufferOverflow) × (lift states (at / 8) ≡ code_of HeapRedzone)
  in_redzone in_span out =
      let from = in_span.from in
      let to = in_span.to in
      let aligned = placed.0 in
      let above = placed.1 in
      let each_is : (i : ℕ) → i < 8 → states (8 * (at / 8) + i) ≡ HeapRedzone =
      λ i lt.
      let in_it : IsInSpan b (8 * (at / 8) + i) = record { from = omega arith; to = omega arith } in
      let out_of_it : (8 * (at / 8) + i < b.at) ⊎ (b.at + b.size ≤ 8 * (at / 8) + i) =
      elim out [ inl less ↦ inl (omega arith) | inr more ↦ inr (omega arith) ] in
      outside (8 * (at / 8) + i) in_it (omega arith) out_of_it in
      let is : states (8 * (at / 8)) ≡ HeapRedzone = rw (← add-zero (8 * (at / 8))) (each_is 0 (omega arith)) in (
        own_class states at (λ i lt. ap is_addressable (each_is i lt)) ∙ ap class_of_its_code is,
        own_shadow states (at / 8) (ap is_addressable is) ∙ ap code_of is,
      )

  -- in the granule of the block's last bytes: the next one says the class
  in_tail_granule : b.at + b.size ≤ at → at < b.at + round_up b.size →
      (states (8 * (at / 8 + 1)) ≡ HeapRedzone → class_of states at ≡ class.HeapBufferOverflow)
      × (lift states (at / 8) ≡ b.size % 8)
  in_tail_granule past within =
      let aligned = placed.0 in
      let above = placed.1 in
      let numbers = tail_granule b.at b.size at aligned past within in
      let whole = numbers.0 in
      let some = numbers.1 in
      let run : (i : ℕ) → i < 8 → is_addressable (states (8 * (at / 8) + i)) ≡ ltb i (b.size % 8) =
      λ i lt.
      let in_span : IsInSpan b (8 * (at / 8) + i) = record { from = omega arith; to = omega arith } in
      ap is_addressable (each (8 * (at / 8) + i) in_span (omega arith))
      ∙ redzone_or (lies_in b.at (b.at + b.size) (8 * (at / 8) + i))
      ∙ tail_test b.at b.size (8 * (at / 8)) (b.size % 8) i (omega arith) whole lt in (
        λ next. next_class states at (b.size % 8) some (omega arith) run ∙ ap class_of_its_code next,
        part_shadow states at (b.size % 8) some (omega arith) run,
      )

  around : IsInSpan b at → (at < b.at) ⊎ (b.at + b.size ≤ at) →
      ((IsInSpan b (8 * (at / 8 + 1)) → b.at + b.size ≤ 8 * (at / 8 + 1) → states (8 * (at / 8 + 1)) ≡ HeapRedzone)
      → class_of states at ≡ class.HeapBufferOverflow) × (lift states (at / 8) ≡ shadow_around b at)
  around in_span out = go (lies_in b.at (b.at + round_up b.size) at) refl
    where
      go : (t : Bool) → lies_in b.at (b.at + round_up b.size) at ≡ t →
          ((IsInSpan b (8 * (at / 8 + 1)) → b.at + b.size ≤ 8 * (at / 8 + 1) → states (8 * (at / 8 + 1)) ≡ HeapRedzone)
          → class_of states at ≡ class.HeapBufferOverflow)
          × (lift states (at / 8) ≡ cond t (b.size % 8) (code_of HeapRedzone))
      go true is =
          let above : b.at ≤ at = grind (arith, nat_tests) in
          let below : at < b.at + round_up b.size = grind (arith, nat_tests) in
          let past : b.at + b.size ≤ at = grind (arith, nat_tests) in
          let aligned = placed.0 in
          let low = placed.1 in
          let found = in_tail_granule past below in (
            λ next. found.0 (next (record { from = omega arith; to = omega arith }) (omega arith)),
            found.1,
          )
      go false is =
          let found = in_redzone in_span (beyond b.at (b.at + round_up b.size) at is) in (λ next. found.0, found.1)
        where
          beyond : (from to byte : ℕ) → lies_in from to byte ≡ false → (byte < from) ⊎ (to ≤ byte)
          beyond from to byte off = grind (arith, nat_tests)

pub some_report : (past : List Event) (is_store : Bool) (a : Access) (c d : Class) (v w : ℕ) → c ≡ d → v ≡ w →
    option_map (λ f. record { number = length past + 1; fault = f })
    (Some (fault.Access is_store a.width a.at a.at c v)) ≡ Some (first_byte_report past is_store a d w)
some_report past is_store a c d v w p q = rw (p, q) refl

-- what is said of an access in a block's span, before or past its bytes, as far as its own granule shows
module _ (bound : ℕ) (past : List Event) (b : Extent) (is_store : Bool) (a : Access)
    (has : Contains (live bound past) b) (start : StartsAround b a) where
  here : IsInSpan b a.at
  here = record { from = start.0; to = start.1 }

  pub overflow_said : NoPoisonShares (since_malloc bound past b) a.at (a.at + 1)
      → NoUnpoisonShares (since_malloc bound past b) a.at (a.at + 1) →
      (said : Class) × (verdict bound past (access_event is_store a)
      ≡ Some (first_byte_report past is_store a said (shadow_around b a.at)))
  overflow_said clear clear' =
      let states = state_of (marks bound past) in
      let placed = live_placed bound past b has in
      let each : (byte : ℕ) → IsInSpan b byte → byte / 8 ≡ a.at / 8 → states byte
      ≡ cond (lies_in b.at (b.at + b.size) byte) Addressable HeapRedzone =
      λ byte in_span same.
      live_span bound past b byte (8 * (a.at / 8)) (8 * (a.at / 8) + 8) has in_span (omega arith) (omega arith)
      (neither_there (since_malloc bound past b) a.at clear clear') in
      let bad = ap is_addressable (outside states b placed a.at each a.at here refl start.2) in (
        class_of states a.at,
        verdict_from bound past is_store a _ (first_fault states is_store a bad)
            ∙ some_report past is_store a _ _ _ _ refl (around states b placed a.at each here start.2).1,
      )

  pub overflow : NoPoisonShares (since_malloc bound past b) (span_from b) (span_to b)
      → NoUnpoisonShares (since_malloc bound past b) (span_from b) (span_to b) →
      verdict bound past (access_event is_store a)
      ≡ Some (first_byte_report past is_store a class.HeapBufferOverflow (shadow_around b a.at))
  overflow clear clear' =
      let states = state_of (marks bound past) in
      let placed = live_placed bound past b has in
      let each : (byte : ℕ) → IsInSpan b byte → states byte
      ≡ cond (lies_in b.at (b.at + b.size) byte) Addressable HeapRedzone =
      λ byte in_span.
      live_span bound past b byte (span_from b) (span_to b) has in_span in_span.from in_span.to (clear, clear') in
      let own : (byte : ℕ) → IsInSpan b byte → byte / 8 ≡ a.at / 8 → states byte
      ≡ cond (lies_in b.at (b.at + b.size) byte) Addressable HeapRedzone = λ byte in_span same. each byte in_span in
      let bad = ap is_addressable (outside states b placed a.at own a.at here refl start.2) in
      let reported = around states b placed a.at own here start.2 in
      verdict_from bound past is_store a _ (first_fault states is_store a bad)
      ∙ some_report past is_store a _ _ _ _
      (reported.0 (λ in_span past_it. each _ in_span ∙ outside_is b _ (inr past_it))) reported.1

pub late : (bound : ℕ) (past : List Event) (b : Extent) (is_store : Bool) (a : Access) → Contains (held bound past) b
    → StartsWithin b a → NoPoisonShares (since_free bound past b) a.at (a.at + 1)
    → NoUnpoisonShares (since_free bound past b) a.at (a.at + 1) →
    verdict bound past (access_event is_store a)
    ≡ Some (first_byte_report past is_store a class.HeapUseAfterFree (code_of Freed))
late bound past b is_store a has start clear clear' =
    let from = start.0 in
    let to = start.1 in
    let aligned = (held_placed bound past b has).0 in
    verdict_from bound past is_store a _ (freed_fault (state_of (marks bound past)) is_store a (λ byte above below.
    held_bytes bound past b byte (8 * (a.at / 8)) (8 * (a.at / 8) + 8) has (omega arith) (omega arith) above below
    (neither_there (since_free bound past b) a.at clear clear')))
