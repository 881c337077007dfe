-- What is wrong with an access depends on what it finds: the shadow bytes of two granules; and but for the class, how
-- many bytes of one are addressable.
use Rattle.std.proofs.Common.{◌≡◌, ℕ, ◌+◌, ◌-◌, ◌*◌, ◌/◌, ◌%◌, Bool, true, false, List, Option, Some, None, refl, sym}
use Rattle.std.proofs.Common.{ap, ◌∙◌}
use Rattle.std.specs.Prelude.{cond, ltb, max, min, IsSome}
use Rattle.std.specs.Option.{option_map}
use Rattle.trace_record.specs.declared.event.Event.{Event}
use Rattle.trace_record.specs.declared.event.Access.{Access}
use Rattle.shadow_map.specs.States.{State, Mark, AreMarks, code_of, state_of, lift, bad_byte_of}
use Rattle.shadow_map.specs.Granules.{front_of}
use Rattle.shadow_map.specs.Causes.{deciding_granule, has_none_addressable}
use Rattle.shadow_map.proofs.Queries.{bad_byte_shown, deciding_shown}
use Rattle.asan_check.specs.declared.report.Class.{Class}
use Rattle.asan_check.specs.declared.report.Fault.{Fault}
use Rattle.asan_check.specs.declared.report.Fault.TheVariants as fault
use Rattle.asan_check.specs.Codes.{class_of_code}
use Rattle.asan_check.specs.History.{marks}
use Rattle.asan_check.specs.Verdicts.{fault_of, access_fault, class_of}
use Rattle.asan_check.proofs.Classes.{class_shown}
use Rattle.asan_laws.specs.Laws.{access_event}
use Rattle.asan_laws.specs.Recording.{FindsTheSame, FindsAsMany, without_class}
use Rattle.asan_laws.proofs.Marks.{are_marks}

-- a fault of an access that has a bad byte
abbrev said : Bool → Access → Class → ℕ → ℕ → Fault
said is_store a c shadow bad = fault.Access is_store a.width a.at bad c shadow

-- where there is no bad byte, neither the class nor the shadow byte plays a part
by_bad : (is_store : Bool) (a : Access) (c d : Class) (s t : ℕ) (bad : Option ℕ) → s ≡ t → (IsSome bad → c ≡ d)
    → option_map (said is_store a c s) bad ≡ option_map (said is_store a d t) bad
by_bad is_store a c d s t None shadow class = refl
by_bad is_store a c d s t (Some b) shadow class = rw (shadow, class refl) refl

but_for_class : (is_store : Bool) (a : Access) (c d : Class) (s t : ℕ) (bad : Option ℕ)
    → option_map without_class (option_map (said is_store a c s) bad)
    ≡ option_map without_class (option_map (said is_store a d t) bad)
but_for_class is_store a c d s t None = refl
but_for_class is_store a c d s t (Some b) = refl

module _ (one other : List Mark) (ok : AreMarks one) (also : AreMarks other) where
  same_bad : (a : Access) → front_of (lift (state_of one) (a.at / 8)) ≡ front_of (lift (state_of other) (a.at / 8))
      → bad_byte_of (state_of one) a.at a.width ≡ bad_byte_of (state_of other) a.at a.width
  same_bad a same =
      bad_byte_shown one ok a.at a.width (lift (state_of one) (a.at / 8)) refl
      ∙ ap (λ front. cond (ltb (max (a.at % 8) front) (a.at % 8 + min a.width (8 - a.at % 8)))
      (Some (a.at - a.at % 8 + max (a.at % 8) front)) None) same
      ∙ sym (bad_byte_shown other also a.at a.width (lift (state_of other) (a.at / 8)) refl)

  same_deciding : (at : ℕ) → lift (state_of one) (at / 8) ≡ lift (state_of other) (at / 8)
      → deciding_granule (state_of one) at ≡ deciding_granule (state_of other) at
  same_deciding at here =
      deciding_shown one ok at (lift (state_of one) (at / 8)) refl
      ∙ sym (deciding_shown other also at (lift (state_of one) (at / 8)) here)

  same_class : (at : ℕ) → lift (state_of one) (at / 8) ≡ lift (state_of other) (at / 8) →
      class_of_code (lift (state_of one) (deciding_granule (state_of other) at))
      ≡ class_of_code (lift (state_of other) (deciding_granule (state_of other) at))
      → class_of (state_of one) at ≡ class_of (state_of other) at
  same_class at here there =
      ap (λ granule. class_of_code (code_of (state_of one (8 * granule)))) (same_deciding at here)
      ∙ sym (class_shown (state_of one) (deciding_granule (state_of other) at))
      ∙ there
      ∙ class_shown (state_of other) (deciding_granule (state_of other) at)

  -- of the granule that decides, only the class of its byte plays a part
  pub found_alike : (is_store : Bool) (a : Access) → lift (state_of one) (a.at / 8) ≡ lift (state_of other) (a.at / 8) →
      (IsSome (bad_byte_of (state_of other) a.at a.width)
      → class_of_code (lift (state_of one) (deciding_granule (state_of other) a.at))
      ≡ class_of_code (lift (state_of other) (deciding_granule (state_of other) a.at)))
      → access_fault (state_of one) is_store a ≡ access_fault (state_of other) is_store a
  found_alike is_store a here there =
      ap (option_map (said is_store a (class_of (state_of one) a.at) (lift (state_of one) (a.at / 8))))
      (same_bad a (ap front_of here))
      ∙ by_bad is_store a _ _ _ _ (bad_byte_of (state_of other) a.at a.width) here
      (λ bad. same_class a.at here (there bad))

  pub found_same : (is_store : Bool) (a : Access) → lift (state_of one) (a.at / 8) ≡ lift (state_of other) (a.at / 8) →
      (IsSome (bad_byte_of (state_of other) a.at a.width)
      → lift (state_of one) (deciding_granule (state_of other) a.at)
      ≡ lift (state_of other) (deciding_granule (state_of other) a.at))
      → access_fault (state_of one) is_store a ≡ access_fault (state_of other) is_store a
  found_same is_store a here there = found_alike is_store a here (λ bad. ap class_of_code (there bad))

  pub found_as_many : (is_store : Bool) (a : Access)
      → front_of (lift (state_of one) (a.at / 8)) ≡ front_of (lift (state_of other) (a.at / 8))
      → option_map without_class (access_fault (state_of one) is_store a)
      ≡ option_map without_class (access_fault (state_of other) is_store a)
  found_as_many is_store a same =
      ap (λ bad. option_map without_class
      (option_map (said is_store a (class_of (state_of one) a.at) (lift (state_of one) (a.at / 8))) bad))
      (same_bad a same)
      ∙ but_for_class is_store a _ _ _ _ (bad_byte_of (state_of other) a.at a.width)

-- the granule that decides is that of the first byte or the next one
next_decides : (states : ℕ → State) (at : ℕ) (f h : ℕ → ℕ) → f (at / 8) ≡ h (at / 8) → f (at / 8 + 1) ≡ h (at / 8 + 1)
    → f (deciding_granule states at) ≡ h (deciding_granule states at)
next_decides states at f h here next = go (has_none_addressable states (at / 8))
  where
    go : (b : Bool) → f (cond b (at / 8) (at / 8 + 1)) ≡ h (cond b (at / 8) (at / 8 + 1))
    go true = here
    go false = next

module _ (bound : ℕ) (one other : List Event) where
  pub found_fault : (is_store : Bool) (a : Access) → FindsTheSame bound one other a
      → fault_of bound one (access_event is_store a) ≡ fault_of bound other (access_event is_store a)
  found_fault false a finds = found_same (marks bound one) (marks bound other) (are_marks bound one)
      (are_marks bound other) false a finds.here finds.class_there
  found_fault true a finds = found_same (marks bound one) (marks bound other) (are_marks bound one)
      (are_marks bound other) true a finds.here finds.class_there

  pub two_granules : (is_store : Bool) (a : Access) →
      lift (state_of (marks bound one)) (a.at / 8) ≡ lift (state_of (marks bound other)) (a.at / 8)
      → lift (state_of (marks bound one)) (a.at / 8 + 1) ≡ lift (state_of (marks bound other)) (a.at / 8 + 1)
      → fault_of bound one (access_event is_store a) ≡ fault_of bound other (access_event is_store a)
  two_granules is_store a here next = found_fault is_store a (record {
    here = here;
    class_there = λ bad. next_decides (state_of (marks bound other)) a.at (lift (state_of (marks bound one)))
        (lift (state_of (marks bound other))) here next;
  })

  pub counted_fault : (is_store : Bool) (a : Access) → FindsAsMany bound one other a →
      option_map without_class (fault_of bound one (access_event is_store a))
      ≡ option_map without_class (fault_of bound other (access_event is_store a))
  counted_fault false a finds = found_as_many (marks bound one) (marks bound other) (are_marks bound one)
      (are_marks bound other) false a finds
  counted_fault true a finds = found_as_many (marks bound one) (marks bound other) (are_marks bound one)
      (are_marks bound other) true a finds
