-- What is said of an access that finds all shadow bytes of the run, or only as many addressable bytes; and what is
-- seen of faults that are the same in that detail.
use Rattle.std.proofs.Common.{◌≡◌, ℕ, Bool, List, [], ◌∷◌, Some, None, Option, map, refl, ap, subst}
use Rattle.std.specs.Prelude.{Contains}
use Rattle.std.specs.Option.{option_map}
use Rattle.std.specs.List.{AllZip}
use Rattle.trace_record.specs.declared.event.Event.{Event}
use Rattle.trace_record.specs.declared.event.Access.{Access}
use Rattle.asan_check.specs.declared.report.Fault.{Fault}
use Rattle.asan_check.specs.declared.report.Report.{Report}
use Rattle.asan_check.specs.Verdicts.{fault_of}
use Rattle.asan_laws.specs.Laws.{access_event}
use Rattle.asan_laws.specs.Recording.{Detail, shadow_bytes, addressable_bytes, FindAllBytes, Finds, without_class}
use Rattle.asan_laws.specs.Recording.{IsSameButForClass, IsSameInDetail, IsReportedOfOne}
use Rattle.asan_laws.proofs.Finding.{found_fault, counted_fault}
use Rattle.asan_laws.proofs.SameBlocks.{SayAlike, say_the_same}

pub map_itself : {X : Type 0} (xs : List X) → map (λ x. x) xs ≡ xs
map_itself [] = refl
map_itself (x ∷ xs) = ap (λ ys. x ∷ ys) (map_itself xs)

-- ---- of one access

pub say_by_class : (one other : Option Fault) → option_map without_class one ≡ option_map without_class other
    → SayAlike IsSameButForClass one other
say_by_class None None is = tt
say_by_class None (Some g) is = absurd cc
say_by_class (Some f) None is = absurd cc
say_by_class (Some f) (Some g) is = (inside is, tt)
  where
    inside : Some (without_class f) ≡ Some (without_class g) → without_class f ≡ without_class g
    inside is = cc

pub says_in_detail : (bound : ℕ) (detail : Detail) (recorded run : List Event) (is_store : Bool) (a : Access)
    → Finds bound detail recorded run a → SayAlike (IsSameInDetail detail)
    (fault_of bound recorded (access_event is_store a)) (fault_of bound run (access_event is_store a))
says_in_detail bound shadow_bytes recorded run is_store a finds =
    say_the_same ◌≡◌ (λ f. refl) _ _ (found_fault bound recorded run is_store a finds)
says_in_detail bound addressable_bytes recorded run is_store a finds =
    say_by_class _ _ (counted_fault bound recorded run is_store a finds)

-- ---- of reports, one by one

-- what is seen of faults that are the same in the detail of one of these events
abbrev pub SeesAlike : List (ℕ × ℕ × Detail) → (Fault → Fault) → Type 0
SeesAlike numbers see =
    (found : ℕ × ℕ × Detail) → Contains numbers found → (f g : Fault) → IsSameInDetail found.2 f g → see f ≡ see g

pub same_if_all : (numbers : List (ℕ × ℕ × Detail)) → FindAllBytes numbers → SeesAlike numbers (λ f. f)
same_if_all numbers all found has f g same = subst (λ d. IsSameInDetail d f g) (all found has) same

pub same_but_for_class : (numbers : List (ℕ × ℕ × Detail)) → SeesAlike numbers without_class
same_but_for_class numbers found has f g same = go found.2 same
  where
    go : (detail : Detail) → IsSameInDetail detail f g → without_class f ≡ without_class g
    go shadow_bytes is = ap without_class is
    go addressable_bytes is = is

pub seen_alike : (see : Fault → Fault) (numbers : List (ℕ × ℕ × Detail)) → SeesAlike numbers see
    → (rs ss : List Report) → AllZip (IsReportedOfOne numbers IsSameInDetail) rs ss →
    map see (map (λ (r : Report). r.fault) rs) ≡ map see (map (λ (r : Report). r.fault) ss)
seen_alike see numbers sees [] [] h = refl
seen_alike see numbers sees [] (s ∷ ss) h = absurd h
seen_alike see numbers sees (r ∷ rs) [] h = absurd h
seen_alike see numbers sees (r ∷ rs) (s ∷ ss) h =
    rw (sees (r.number, s.number, h.0.0) h.0.1 r.fault s.fault h.0.2, seen_alike see numbers sees rs ss h.1) refl
