-- The numbers of the events that stand in a recording and in the run.
use Rattle.std.proofs.Common.{◌≡◌, ℕ, ◌+◌, ◌≤◌, ◌<◌, List, [], ◌∷◌, ◌++◌, length, refl, ap, arith, inl, inr}
use Rattle.std.proofs.Common.{length-append}
use Rattle.std.specs.Prelude.{Contains, slice_index_or}
use Rattle.std.specs.List.{AllPairs}
use Rattle.std.proofs.lemmas.List.Elements.{Contains-push_cases, Contains-get_or}
use Rattle.std.proofs.lemmas.List.Quantifiers.{all_pairs_push}
use Rattle.trace_record.specs.declared.event.Event.{Event}
use Rattle.asan_laws.specs.Laws.{access_event}
use Rattle.asan_laws.specs.Recording.{Records, begins, block, access, leaves_out_access, says_nothing}
use Rattle.asan_laws.specs.Recording.{leaves_out_shade, states, numbers_in_both, HasNumber, IsBefore}
use Rattle.asan_laws.specs.Recording.{Detail, shadow_bytes}
use Rattle.asan_check.proofs.Members.{in_none}

-- an event has its number still after one more
later_too : (history : List Event) (e f : Event) (number : ℕ) → HasNumber history e number
    → HasNumber (f ∷ history) e number
later_too history e f number has = record {
  later = f ∷ has.later;
  before = has.before;
  split = ap (λ es. f ∷ es) has.split;
  counted = has.counted;
}

-- the newest has the number of all
newest : (history : List Event) (e : Event) (number : ℕ) → length history + 1 ≡ number
    → HasNumber (e ∷ history) e number
newest history e number is =
    record { later = []; before = history; split = refl; counted = omega (arith, is) }

pub number_within : (history : List Event) (e : Event) (number : ℕ) → HasNumber history e number
    → number ≤ length history
number_within history e number has =
    let whole : length history ≡ length (has.later ++ e ∷ has.before) = ap length has.split in
    let parts = length-append has.later (e ∷ has.before) in
    let counted = has.counted in
    omega arith

-- an event that has a number in each
pub record IsInBoth (recorded run : List Event) (m n : ℕ) : Type 0 where
  pub event : Event
  pub in_recording : HasNumber recorded event m
  pub in_run : HasNumber run event n

pub run_longer : (recorded run : List Event) (e : Event) (m n : ℕ) → IsInBoth recorded run m n
    → IsInBoth recorded (e ∷ run) m n
run_longer recorded run e m n both = record {
  event = both.event;
  in_recording = both.in_recording;
  in_run = later_too run both.event e n both.in_run;
}

pub recording_longer : (recorded run : List Event) (e : Event) (m n : ℕ) → IsInBoth recorded run m n
    → IsInBoth (e ∷ recorded) run m n
recording_longer recorded run e m n both = record {
  event = both.event;
  in_recording = later_too recorded both.event e m both.in_recording;
  in_run = both.in_run;
}

pub is_before_push : (numbers : List (ℕ × ℕ × Detail)) (last : ℕ × ℕ × Detail) → AllPairs IsBefore numbers
    → ((p : ℕ × ℕ × Detail) → Contains numbers p → IsBefore p last) → AllPairs IsBefore (numbers ++ last ∷ [])
is_before_push numbers last all each =
    all_pairs_push IsBefore numbers last all
    (λ k d lt. each (slice_index_or numbers k d) (Contains-get_or numbers k d lt))

module _ (bound : ℕ) (first past : List Event) where
  pub pushed : (recorded run : List Event) (numbers : List (ℕ × ℕ × Detail)) (e : Event)
      → ((m n : ℕ) (d : Detail) → Contains numbers (m, n, d) → IsInBoth recorded run m n) → (detail : Detail) (m n : ℕ)
      (d : Detail) → Contains (numbers ++ (length recorded + 1, length run + 1, detail) ∷ []) (m, n, d)
      → IsInBoth (e ∷ recorded) (e ∷ run) m n
  pushed recorded run numbers e each detail m n d has =
      elim (Contains-push_cases numbers (length recorded + 1, length run + 1, detail) (m, n, d) has) [
        | inl old ↦ let found = each m n d old in record {
          event = found.event;
          in_recording = later_too recorded found.event e m found.in_recording;
          in_run = later_too run found.event e n found.in_run;
        }
        | inr new ↦ record {
          event = e;
          in_recording = newest recorded e m (ap (λ (p : ℕ × ℕ × Detail). p.0) new);
          in_run = newest run e n (ap (λ (p : ℕ × ℕ × Detail). p.1) new);
        }
      ]

  numbered : (recorded run : List Event) (way : Records bound first past recorded run) (m n : ℕ) (d : Detail)
      → Contains (numbers_in_both way) (m, n, d) → IsInBoth recorded run m n
  numbered recorded run begins m n d has = absurd (in_none (m, n, d) has)
  numbered recorded run (block e t f is way) m n d has =
      pushed t f (numbers_in_both way) e (numbered t f way) shadow_bytes m n d has
  numbered recorded run (access detail is_store a t f finds way) m n d has =
      pushed t f (numbers_in_both way) (access_event is_store a) (numbered t f way) detail m n d has
  numbered recorded run (leaves_out_access e t f is good way) m n d has =
      run_longer t f e m n (numbered t f way m n d has)
  numbered recorded run (says_nothing e t f is good way) m n d has =
      recording_longer t f e m n (numbered t f way m n d has)
  numbered recorded run (leaves_out_shade e t f is way) m n d has = run_longer t f e m n (numbered t f way m n d has)
  numbered recorded run (states e t f is way) m n d has = recording_longer t f e m n (numbered t f way m n d has)

  pub numbered_event : (recorded run : List Event) (way : Records bound first past recorded run) (m n : ℕ) (d : Detail)
      → Contains (numbers_in_both way) (m, n, d) → (e : Event) × HasNumber recorded e m × HasNumber run e n
  numbered_event recorded run way m n d has =
      let found = numbered recorded run way m n d has in (found.event, found.in_recording, found.in_run)

  before_last : (recorded run : List Event) (way : Records bound first past recorded run) (p : ℕ × ℕ × Detail)
      → Contains (numbers_in_both way) p → (p.0 < length recorded + 1) × (p.1 < length run + 1)
  before_last recorded run way p has =
      let found = numbered recorded run way p.0 p.1 p.2 has in
      let in_recording = number_within recorded found.event p.0 found.in_recording in
      let in_run = number_within run found.event p.1 found.in_run in
      (omega arith, omega arith)

  pub in_order : (recorded run : List Event) (way : Records bound first past recorded run)
      → AllPairs IsBefore (numbers_in_both way)
  in_order recorded run begins = λ i j d lt within. absurd (omega arith)
  in_order recorded run (block e t f is way) =
      is_before_push (numbers_in_both way) _ (in_order t f way) (before_last t f way)
  in_order recorded run (access detail is_store a t f finds way) =
      is_before_push (numbers_in_both way) _ (in_order t f way) (before_last t f way)
  in_order recorded run (leaves_out_access e t f is good way) = in_order t f way
  in_order recorded run (says_nothing e t f is good way) = in_order t f way
  in_order recorded run (leaves_out_shade e t f is way) = in_order t f way
  in_order recorded run (states e t f is way) = in_order t f way
