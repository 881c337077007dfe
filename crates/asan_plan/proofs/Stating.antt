-- What the parts of a statement bring, in a history of their own, and what an access finds then.
use Rattle.std.proofs.Common.{◌≡◌, ℕ, ◌+◌, ◌-◌, ◌*◌, ◌/◌, ◌≤◌, ◌<◌, ◌⊎◌, Bool, true, false, cond, List, [], ◌∷◌, ◌++◌}
use Rattle.std.proofs.Common.{refl, sym, ap, subst, ◌∙◌, arith, inl, inr}
use Rattle.std.specs.Prelude.{min}
use Rattle.std.proofs.lemmas.Bool.{false≢true}
use Rattle.std.proofs.lemmas.Bool.Decides.{nat_tests}
use Rattle.std.proofs.lemmas.List.{append-nil}
use Rattle.trace_record.specs.declared.event.Event.{Event}
use Rattle.trace_record.specs.declared.event.Event.TheVariants as event
use Rattle.trace_record.specs.declared.event.Access.{Access}
use Rattle.trace_record.specs.declared.shade.Shade.{Shade}
use Rattle.trace_record.specs.Shades.{shade_size, shade_kind}
use Rattle.shadow_map.specs.States.{state_of, lift}
use Rattle.shadow_map.specs.Causes.{deciding_granule}
use Rattle.shadow_map.specs.Checks.{is_negative}
use Rattle.shadow_map.specs.Granules.{front_of}
use Rattle.shadow_map.proofs.Queries.{deciding_shown}
use Rattle.heap_book.specs.Spans.{IsPlaced, span_bytes}
use Rattle.asan_check.specs.Codes.{class_of_code, code_of_kind}
use Rattle.asan_check.specs.History.{block_of, marks}
use Rattle.asan_check.specs.Verdicts.{fault_of, verdicts_of}
use Rattle.asan_laws.specs.Laws.{access_event}
use Rattle.asan_laws.specs.LeanRecording.{shadow_after}
use Rattle.asan_laws.specs.Runs.{Step, fault_in, marks_in}
use Rattle.asan_laws.specs.Traces.{IsOneHistory}
use Rattle.asan_laws.proofs.Finding.{found_alike}
use Rattle.asan_laws.proofs.Marks.{are_marks}
use Rattle.asan_laws.proofs.RunBlocks.{are_marks_in}
use Rattle.asan_laws.proofs.Shown.{shadow_shade}
use Rattle.asan_plan.specs.declared.saying.Around.{Around}
use Rattle.asan_plan.specs.declared.saying.Stated.{Stated}
use Rattle.asan_plan.specs.declared.saying.Stated.TheVariants as stated
use Rattle.asan_plan.specs.declared.saying.Shading.{Shading}
use Rattle.asan_plan.specs.declared.saying.Shading.TheVariants as shading
use Rattle.asan_plan.specs.Saying.{as_recorded, is_of_heap, kind_of_byte, left_by, Fits, IsSeen, block_events}
use Rattle.asan_plan.specs.Saying.{shading_events, IsStatedOf, IsFit, BringsThere}
use Rattle.asan_plan.proofs.Brings.{live_shadow, live_quiet, held_shadow, held_quiet}
use Rattle.asan_plan.proofs.Bytes.{poison_good, poison_more, unpoison_fewer, same_front, no_poison, no_unpoison}
use Rattle.asan_plan.proofs.Bytes.{no_class, code_back, is_code, heap_code}

-- ---- a block

-- a block that is stated
pub record HasBlock (bound : ℕ) (found : Around) (events : List Event) : Type 0 where
  pub one_history : IsOneHistory events
  pub quiet : verdicts_of bound events ≡ []
  pub shadow : (granule : ℕ) → shadow_after bound events granule ≡ left_by (block_of found.region) found.is_held granule

pub has_block : (bound : ℕ) (found : Around) (st : Stated) → IsPlaced (block_of found.region) → Fits bound found
    → IsStatedOf found st → HasBlock bound found (block_events st)
has_block bound found stated.Nothing placed fits is = absurd is
has_block bound found (stated.Live r) placed fits (live, same) =
    let placed_too : IsPlaced (block_of r) = subst (λ x. IsPlaced (block_of x)) (sym same) placed in
    record {
      one_history = tt;
      quiet = live_quiet bound r placed_too;
      shadow = λ granule. live_shadow bound r placed_too granule
          ∙ ap (λ x. left_by (block_of x) false granule) same
          ∙ ap (λ t. left_by (block_of found.region) t granule) (sym live);
    }
has_block bound found (stated.Held r p) placed fits (held, same, at) =
    let placed_too : IsPlaced (block_of r) = subst (λ x. IsPlaced (block_of x)) (sym same) placed in
    let within : span_bytes (block_of r) ≤ bound =
    subst (λ x. span_bytes (block_of x) ≤ bound) (sym same) (fits held) in
    record {
      one_history = tt;
      quiet = held_quiet bound r placed_too p at within;
      shadow = λ granule. held_shadow bound r placed_too p at within granule
          ∙ ap (λ x. left_by (block_of x) true granule) same
          ∙ ap (λ t. left_by (block_of found.region) t granule) (sym held);
    }

-- it leaves the byte of a granule without an addressable byte
pub block_here : (bound : ℕ) (found : Around) (st : Stated) (granule here next : ℕ) → IsPlaced (block_of found.region)
    → Fits bound found → IsStatedOf found st → left_by (block_of found.region) found.is_held granule ≡ here
    → is_of_heap here ≡ true → BringsThere bound granule here next (block_events st)
block_here bound found st granule here next placed fits is left heap =
    let has = has_block bound found st placed fits is in
    record {
      one_history = has.one_history;
      quiet = has.quiet;
      in_here = has.shadow granule ∙ left;
      in_next = λ addressable. absurd (false≢true (sym addressable ∙ heap_code here heap));
    }

-- ---- a shading after a block

module _ (bound : ℕ) (past : List Event) (granule here next : ℕ) (some : 0 < front_of here)
    (one : IsOneHistory past) (quiet : verdicts_of bound past ≡ [])
    (next_is : shadow_after bound past (granule + 1) ≡ next) where
  fit_brings : (had : ℕ) → shadow_after bound past granule ≡ had → (sh : Shading)
      → IsFit granule (front_of had) (front_of here) sh
      → BringsThere bound granule here next (shading_events sh ++ past)
  fit_brings had had_is shading.Nothing same =
      record {
        one_history = one;
        quiet = quiet;
        in_here = had_is ∙ same_front had here some same;
        in_next = λ addressable. ap class_of_code next_is;
      }
  fit_brings had had_is (shading.Poison s) (fewer, at, size) =
      let code = code_of_kind (shade_kind s) in
      let most : front_of had ≤ 8 = front_most had in
      let from : min 8 (s.at - 8 * granule) ≡ front_of here = omega arith in
      let to : min 8 (s.at + shade_size s - 8 * granule) ≡ 8 = omega arith in
      let from_next : min 8 (s.at - 8 * (granule + 1)) ≡ 0 = omega arith in
      let to_next : min 8 (s.at + shade_size s - 8 * (granule + 1)) ≡ 0 = omega arith in
      let there : shadow_after bound (event.Poison s ∷ past) (granule + 1) ≡ next =
      shadow_shade bound past (event.Poison s) (granule + 1) refl
      ∙ rw (from_next, to_next, next_is) (no_poison code next) in
      record {
        one_history = one;
        quiet = append-nil (verdicts_of bound past) ∙ quiet;
        in_here = shadow_shade bound past (event.Poison s) granule refl
            ∙ rw (from, to, had_is) (poison_more code had here some fewer);
        in_next = λ addressable. ap class_of_code there;
      }
    where
      front_most : (shadow : ℕ) → front_of shadow ≤ 8
      front_most shadow = grind (arith, nat_tests)
  fit_brings had had_is (shading.Unpoison r) (more, at, size) =
      let most : front_of here ≤ 8 = front_most here in
      let from : min 8 (r.at - 8 * granule) ≡ 0 = omega arith in
      let to : min 8 (r.at + r.size - 8 * granule) ≡ front_of here = omega arith in
      let from_next : min 8 (r.at - 8 * (granule + 1)) ≡ 0 = omega arith in
      let to_next : min 8 (r.at + r.size - 8 * (granule + 1)) ≡ 0 = omega arith in
      let there : shadow_after bound (event.Unpoison r ∷ past) (granule + 1) ≡ next =
      shadow_shade bound past (event.Unpoison r) (granule + 1) refl
      ∙ rw (from_next, to_next, next_is) (no_unpoison next) in
      record {
        one_history = one;
        quiet = append-nil (verdicts_of bound past) ∙ quiet;
        in_here = shadow_shade bound past (event.Unpoison r) granule refl
            ∙ rw (from, to, had_is) (unpoison_fewer had here more);
        in_next = λ addressable. ap class_of_code there;
      }
    where
      front_most : (shadow : ℕ) → front_of shadow ≤ 8
      front_most shadow = grind (arith, nat_tests)

pub block_next : (bound : ℕ) (found : Around) (st : Stated) (sh : Shading) (granule here next : ℕ)
    → IsPlaced (block_of found.region) → Fits bound found → IsStatedOf found st
    → left_by (block_of found.region) found.is_held (granule + 1) ≡ next → 0 < front_of here
    → IsFit granule (front_of (left_by (block_of found.region) found.is_held granule)) (front_of here) sh
    → BringsThere bound granule here next (shading_events sh ++ block_events st)
block_next bound found st sh granule here next placed fits is left some fit =
    let has = has_block bound found st placed fits is in
    fit_brings bound (block_events st) granule here next some has.one_history has.quiet
    (has.shadow (granule + 1) ∙ left) _ (has.shadow granule) sh fit

-- ---- poison alone

pub poison_here : (bound : ℕ) (s : Shade) (granule here next : ℕ) → s.at ≡ 8 * granule + 0
    → s.at + shade_size s ≡ 8 * (granule + 1) → shade_kind s ≡ kind_of_byte here → as_recorded here ≡ here
    → is_of_heap here ≡ false → front_of here ≡ 0 → BringsThere bound granule here next (event.Poison s ∷ [])
poison_here bound s granule here next at end kind recorded other none =
    let from : min 8 (s.at - 8 * granule) ≡ 0 = omega arith in
    let to : min 8 (s.at + shade_size s - 8 * granule) ≡ 8 = omega arith in
    record {
      one_history = tt;
      quiet = refl;
      in_here = shadow_shade bound [] (event.Poison s) granule refl
          ∙ rw (from, to) (ap code_of_kind kind ∙ code_back here recorded other none);
      in_next = λ addressable. absurd (false≢true (sym addressable ∙ is_code here recorded none));
    }

-- of the bytes past the addressable ones, and of the next granule where that has none
pub poison_next : (bound : ℕ) (s : Shade) (granule to here next : ℕ) → s.at ≡ 8 * granule + front_of here
    → s.at + shade_size s ≡ 8 * to → shade_kind s ≡ kind_of_byte next → 0 < front_of here
    → ((0 < front_of next) × (to ≡ granule + 1))
    ⊎ ((front_of next ≡ 0) × (to ≡ granule + 2) × (as_recorded next ≡ next) × (is_of_heap next ≡ false))
    → BringsThere bound granule here next (event.Poison s ∷ [])
poison_next bound s granule to here next at end kind some case =
    let code = code_of_kind (shade_kind s) in
    let most : front_of here ≤ 8 = front_most here in
    let from : min 8 (s.at - 8 * granule) ≡ front_of here = omega arith in
    let from_next : min 8 (s.at - 8 * (granule + 1)) ≡ 0 = omega arith in
    let up_to : min 8 (s.at + shade_size s - 8 * granule) ≡ 8 = up_to_end case in
    record {
      one_history = tt;
      quiet = refl;
      in_here = shadow_shade bound [] (event.Poison s) granule refl
          ∙ rw (from, up_to) (poison_good code here some);
      in_next = λ addressable. elim case [
        | inl (good, is) ↦
            let to_next : min 8 (s.at + shade_size s - 8 * (granule + 1)) ≡ 0 = omega arith in
            let there : shadow_after bound (event.Poison s ∷ []) (granule + 1) ≡ 0 =
            shadow_shade bound [] (event.Poison s) (granule + 1) refl ∙ rw (from_next, to_next) (no_poison code 0) in
            ap class_of_code there ∙ no_class next good
        | inr (none, is, recorded, other) ↦
            let to_next : min 8 (s.at + shade_size s - 8 * (granule + 1)) ≡ 8 = omega arith in
            let there : shadow_after bound (event.Poison s ∷ []) (granule + 1) ≡ next =
            shadow_shade bound [] (event.Poison s) (granule + 1) refl
            ∙ rw (from_next, to_next) (ap code_of_kind kind ∙ code_back next recorded other none) in
            ap class_of_code there
      ];
    }
  where
    front_most : (shadow : ℕ) → front_of shadow ≤ 8
    front_most shadow = grind (arith, nat_tests)

    up_to_end : ((0 < front_of next) × (to ≡ granule + 1))
        ⊎ ((front_of next ≡ 0) × (to ≡ granule + 2) × (as_recorded next ≡ next) × (is_of_heap next ≡ false))
        → min 8 (s.at + shade_size s - 8 * granule) ≡ 8
    up_to_end (inl (good, is)) = omega arith
    up_to_end (inr (none, is, recorded, other)) = omega arith

-- ---- an access

-- the class is said by the same byte
class_same : (f h : ℕ → ℕ) (granule here next : ℕ) → f granule ≡ h granule
    → (is_negative here ≡ false → class_of_code (f (granule + 1)) ≡ class_of_code next)
    → (is_negative here ≡ false → h (granule + 1) ≡ next) → (t : Bool) → is_negative here ≡ t
    → class_of_code (f (cond t granule (granule + 1))) ≡ class_of_code (h (cond t granule (granule + 1)))
class_same f h granule here next same left right true is = ap class_of_code same
class_same f h granule here next same left right false is = left is ∙ ap class_of_code (sym (right is))

module _ (bound granule here next : ℕ) (events : List Event) (run : List Step)
    (brings : BringsThere bound granule here next events) (seen : IsSeen run granule here next) where
  finds : (is_store : Bool) (a : Access) → a.at / 8 ≡ granule →
      (t : Bool) → is_negative here ≡ t
      → class_of_code (lift (state_of (marks bound events)) (cond t granule (granule + 1)))
      ≡ class_of_code (lift (state_of (marks_in run)) (cond t granule (granule + 1)))
  finds is_store a there t is =
      class_same (lift (state_of (marks bound events))) (lift (state_of (marks_in run))) granule here next
      (brings.in_here ∙ sym seen.in_here) brings.in_next seen.in_next t is

  same_there : (a : Access) → a.at / 8 ≡ granule
      → lift (state_of (marks bound events)) (a.at / 8) ≡ lift (state_of (marks_in run)) (a.at / 8)
  same_there a there = ap (lift (state_of (marks bound events))) there ∙ brings.in_here ∙ sym seen.in_here
      ∙ ap (lift (state_of (marks_in run))) (sym there)

  decides : (a : Access) → a.at / 8 ≡ granule
      → deciding_granule (state_of (marks_in run)) a.at ≡ cond (is_negative here) granule (granule + 1)
  decides a there =
      deciding_shown (marks_in run) (are_marks_in run) a.at here
      (sym seen.in_here ∙ ap (lift (state_of (marks_in run))) (sym there))
      ∙ ap (λ g. cond (is_negative here) g (g + 1)) there

  class_there : (is_store : Bool) (a : Access) → a.at / 8 ≡ granule
      → class_of_code (lift (state_of (marks bound events)) (deciding_granule (state_of (marks_in run)) a.at))
      ≡ class_of_code (lift (state_of (marks_in run)) (deciding_granule (state_of (marks_in run)) a.at))
  class_there is_store a there = rw (decides a there) (finds is_store a there (is_negative here) refl)

  -- an access finds what it finds in the run
  pub access_same : (is_store : Bool) (a : Access) → a.at / 8 ≡ granule
      → fault_of bound events (access_event is_store a) ≡ fault_in run (access_event is_store a)
  access_same false a there = found_alike (marks bound events) (marks_in run) (are_marks bound events)
      (are_marks_in run) false a (same_there a there) (λ bad. class_there false a there)
  access_same true a there = found_alike (marks bound events) (marks_in run) (are_marks bound events)
      (are_marks_in run) true a (same_there a there) (λ bad. class_there true a there)
