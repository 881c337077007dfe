-- The numbers of the events that stand in a lean recording and in its run.
use Rattle.std.proofs.Common.{ℕ, ◌+◌, ◌<◌, List, [], length, arith}
use Rattle.std.specs.Prelude.{Contains}
use Rattle.std.specs.List.{AllPairs}
use Rattle.trace_record.specs.declared.event.Event.{Event}
use Rattle.asan_laws.specs.Laws.{access_event}
use Rattle.asan_laws.specs.Recording.{HasNumber, IsBefore, Detail, shadow_bytes}
use Rattle.asan_laws.specs.LeanRecording.{RecordsLeanly, lean_numbers, begins, block, access, leaves_out_block}
use Rattle.asan_laws.specs.LeanRecording.{states_block, releases, leaves_out_access, says_nothing}
use Rattle.asan_laws.specs.LeanRecording.{leaves_out_shade, states}
use Rattle.asan_laws.specs.Runs.{Step, events_of}
use Rattle.asan_check.proofs.Members.{in_none}
use Rattle.asan_laws.proofs.Numbers.{IsInBoth, pushed, run_longer, recording_longer, number_within, is_before_push}

module _ (bound : ℕ) (first : List Event) (past : List Step) where
  numbered : (recorded : List Event) (run : List Step)
      (way : RecordsLeanly bound first past recorded run) (m n : ℕ) (d : Detail)
      → Contains (lean_numbers way) (m, n, d) → IsInBoth recorded (events_of run) m n
  numbered recorded run begins m n d has = absurd (in_none (m, n, d) has)
  numbered recorded run (block e t f finds way) m n d has =
      pushed bound first [] t (events_of f) (lean_numbers way) e (numbered t f way) shadow_bytes m n d has
  numbered recorded run (access detail is_store a t f finds way) m n d has =
      pushed bound first [] t (events_of f) (lean_numbers way) (access_event is_store a)
      (numbered t f way) detail m n d has
  numbered recorded run (leaves_out_block e t f is good way) m n d has =
      run_longer t (events_of f) e m n (numbered t f way m n d has)
  numbered recorded run (states_block e t f may way) m n d has =
      recording_longer t (events_of f) e m n (numbered t f way m n d has)
  numbered recorded run (releases at t f way) m n d has = numbered t f way m n d has
  numbered recorded run (leaves_out_access e t f is good way) m n d has =
      run_longer t (events_of f) e m n (numbered t f way m n d has)
  numbered recorded run (says_nothing e t f is good way) m n d has =
      recording_longer t (events_of f) e m n (numbered t f way m n d has)
  numbered recorded run (leaves_out_shade e t f is way) m n d has =
      run_longer t (events_of f) e m n (numbered t f way m n d has)
  numbered recorded run (states e t f is way) m n d has =
      recording_longer t (events_of f) e m n (numbered t f way m n d has)

  pub lean_event : (recorded : List Event) (run : List Step)
      (way : RecordsLeanly bound first past recorded run) (m n : ℕ) (d : Detail)
      → Contains (lean_numbers way) (m, n, d) → (e : Event) × HasNumber recorded e m × HasNumber (events_of run) e n
  lean_event recorded run way m n d has =
      let found = numbered recorded run way m n d has in (found.event, found.in_recording, found.in_run)

  before_last : (recorded : List Event) (run : List Step)
      (way : RecordsLeanly bound first past recorded run) (p : ℕ × ℕ × Detail)
      → Contains (lean_numbers way) p → (p.0 < length recorded + 1) × (p.1 < length (events_of run) + 1)
  before_last recorded run way p has =
      let found = numbered recorded run way p.0 p.1 p.2 has in
      let in_recording = number_within recorded found.event p.0 found.in_recording in
      let in_run = number_within (events_of run) found.event p.1 found.in_run in
      (omega arith, omega arith)

  pub lean_order : (recorded : List Event) (run : List Step)
      (way : RecordsLeanly bound first past recorded run)
      → AllPairs IsBefore (lean_numbers way)
  lean_order recorded run begins = λ i j d lt within. absurd (omega arith)
  lean_order recorded run (block e t f finds way) =
      is_before_push (lean_numbers way) _ (lean_order t f way) (before_last t f way)
  lean_order recorded run (access detail is_store a t f finds way) =
      is_before_push (lean_numbers way) _ (lean_order t f way) (before_last t f way)
  lean_order recorded run (leaves_out_block e t f is good way) = lean_order t f way
  lean_order recorded run (states_block e t f may way) = lean_order t f way
  lean_order recorded run (releases at t f way) = lean_order t f way
  lean_order recorded run (leaves_out_access e t f is good way) = lean_order t f way
  lean_order recorded run (says_nothing e t f is good way) = lean_order t f way
  lean_order recorded run (leaves_out_shade e t f is way) = lean_order t f way
  lean_order recorded run (states e t f is way) = lean_order t f way
