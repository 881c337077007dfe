-- One more answer of a door.
use Rattle.std.proofs.Common.{◌≡◌, ◌≤◌, ◌+◌, ℕ, arith, List, [], ◌∷◌, ◌++◌, Option, None, Some, refl, sym, ap, ◌∙◌}
use Rattle.std.proofs.Common.{append_assoc}
use Rattle.trace_feed.specs.declared.door.Arrival.{Arrival}
use Rattle.trace_feed.specs.declared.door.Arrival.TheVariants as arrival
use Rattle.trace_feed.specs.Doors.{Arrives, CountsDown, refusals_after}
use Rattle.asan_senders.specs.Arrivals.{Arrived, IsAllThatCame}

module _ {F : Type 0} where
  pub arrived_none : (known : Option (List (Arrival F))) → Arrived known known []
  arrived_none None = tt
  arrived_none (Some xs) = refl

  -- the end of the door is no arrival
  pub arrived_over : (before mid after : Option (List (Arrival F))) (arrivals : List (Arrival F))
      → Arrived before mid arrivals → Arrives mid after arrival.Over → Arrived before after arrivals
  arrived_over None mid after arrivals so next = tt
  arrived_over (Some xs) None after arrivals so next = absurd so
  arrived_over (Some xs) (Some ms) None arrivals so next = absurd next
  arrived_over (Some xs) (Some ms) (Some ys) arrivals so next = so ∙ ap (λ m. arrivals ++ m) (next.0 ∙ sym next.1)

  -- one answer raises the count of refusals by one at most
  pub refusals_rise : (a : Arrival F) (count : ℕ) → refusals_after a count ≤ count + 1
  refusals_rise (arrival.Came feed) count = omega arith
  refusals_rise arrival.Refused count = omega arith
  refusals_rise arrival.Over count = omega arith

  joined : (xs ms ys arrivals : List (Arrival F)) (a : Arrival F) → xs ≡ arrivals ++ ms → ms ≡ a ∷ ys
      → xs ≡ (arrivals ++ a ∷ []) ++ ys
  joined xs ms ys arrivals a so next = so ∙ ap (λ m. arrivals ++ m) next ∙ sym (append_assoc arrivals (a ∷ []) ys)

  pub arrived_came : (before mid after : Option (List (Arrival F))) (arrivals : List (Arrival F)) (feed : F)
      → Arrived before mid arrivals → Arrives mid after (arrival.Came feed)
      → Arrived before after (arrivals ++ arrival.Came feed ∷ [])
  arrived_came None mid after arrivals feed so next = tt
  arrived_came (Some xs) None after arrivals feed so next = absurd so
  arrived_came (Some xs) (Some ms) None arrivals feed so next = absurd next
  arrived_came (Some xs) (Some ms) (Some ys) arrivals feed so next =
      joined xs ms ys arrivals (arrival.Came feed) so next

  pub arrived_refused : (before mid after : Option (List (Arrival F))) (arrivals : List (Arrival F))
      → Arrived before mid arrivals → Arrives mid after arrival.Refused
      → Arrived before after (arrivals ++ arrival.Refused ∷ [])
  arrived_refused None mid after arrivals so next = tt
  arrived_refused (Some xs) None after arrivals so next = absurd so
  arrived_refused (Some xs) (Some ms) None arrivals so next = absurd next
  arrived_refused (Some xs) (Some ms) (Some ys) arrivals so next = joined xs ms ys arrivals arrival.Refused so next

-- of a known number of arrivals this many came, and the others are left
abbrev pub IsLeft : Option ℕ → Option ℕ → ℕ → Type 0
IsLeft None now came = Unit {0}
IsLeft (Some n) None came = ⊥
IsLeft (Some n) (Some m) came = n ≡ m + came

pub left_at_first : (known : Option ℕ) → IsLeft known known 0
left_at_first None = tt
left_at_first (Some n) = omega arith

pub left_came : {F : Type 0} (before mid after : Option ℕ) (came : ℕ) (feed : F)
    → IsLeft before mid came → CountsDown mid after (arrival.Came feed) → IsLeft before after (came + 1)
left_came None mid after came feed so next = tt
left_came (Some n) None after came feed so next = absurd so
left_came (Some n) (Some m) None came feed so next = absurd next
left_came (Some n) (Some m) (Some k) came feed so next = omega arith

pub left_refused : (F : Type 0) (before mid after : Option ℕ) (came : ℕ)
    → IsLeft before mid came → CountsDown {F = F} mid after arrival.Refused → IsLeft before after (came + 1)
left_refused F None mid after came so next = tt
left_refused F (Some n) None after came so next = absurd so
left_refused F (Some n) (Some m) None came so next = absurd next
left_refused F (Some n) (Some m) (Some k) came so next = omega arith

pub left_over : (F : Type 0) (before mid after : Option ℕ) (came : ℕ) → came ≤ 256
    → IsLeft before mid came → CountsDown {F = F} mid after arrival.Over → IsAllThatCame before came
left_over F None mid after came few so next = tt
left_over F (Some n) None after came few so next = absurd so
left_over F (Some n) (Some m) None came few so next = absurd next
left_over F (Some n) (Some m) (Some k) came few so next = let none = next.0 in omega arith

pub left_full : (before mid : Option ℕ) (came : ℕ) → came ≡ 256 → IsLeft before mid came → IsAllThatCame before came
left_full None mid came full so = tt
left_full (Some n) None came full so = absurd so
left_full (Some n) (Some m) came full so = omega arith
