-- What was printed of the senders of a door, where that was one over files.
use Rattle.std.proofs.Common.{◌≡◌, ◌≤◌, ℕ, List, Option, Result, Ok, Err}
use Rattle.std.specs.Prelude.{◌≢◌, IfOk, IsSome, map, string_bytes}
use Rattle.std.specs.declared.alloc.AllocError.{AllocError}
use Rattle.trace_feed.specs.Doors.{DoorState}
use Rattle.trace_feed.specs.Feeds.{FeedState}
use Rattle.asan_inputs.specs.Inputs.{NamedFiles, input_place}
use Rattle.asan_senders.specs.Statuses.{unwritten}
use Rattle.asan_session.specs.declared.session.Checking.{Checking}
use Rattle.asan_session.specs.Printed.{AreSendersPrinted, CheckersMemory}
use Rattle.asan_request.specs.Refusals.{refused}
use Rattle.asan_request.specs.declared.request.TraceFiles.{TraceFiles}
use Rattle.asan_program.specs.Carried.{AreFilesPrinted, checking_with}
use Rattle.asan_program.proofs.Statuses.{of_senders}

module _ {F : Type 0} (seen : F → FeedState) where
  -- the senders of a door over these files were printed, or there was no memory to start
  pub files_printed : (door : NamedFiles → DoorState F) (files : TraceFiles) (input before after : Option (List ℕ))
      (old new : NamedFiles) (r : Result ℕ AllocError)
      → old.names ≡ map string_bytes files.names.items → old.place ≡ input_place files.names.items
      → (IsSome old.place → old.bytes ≡ input) → old.refusals ≡ 0
      → IfOk r (AreSendersPrinted seen (CheckersMemory files.options.memory)
      (checking_with files.options files.is_live) (door old) (door new) before after)
      → IfOk r (AreFilesPrinted seen door files input before after)
  files_printed door files input before after old new (Ok status) names place bytes none printed = record {
    old = old;
    new = new;
    names = names;
    place = place;
    bytes = bytes;
    none_refused = none;
    printed = printed;
  }
  files_printed door files input before after old new (Err error) names place bytes none printed = tt

  -- and the status is one of those of traces
  pub status_of_door : (A : Type 0) (checking : Checking) (old new : DoorState F) (before after : Option (List ℕ))
      (r : Result ℕ AllocError) → IfOk r (AreSendersPrinted seen A checking old new before after)
      → IfOk r (λ status. (status ≤ unwritten) × (status ≢ refused))
  status_of_door A checking old new before after (Ok status) printed =
      let is = of_senders A seen checking old new before after status printed in (is.known, is.other)
  status_of_door A checking old new before after (Err error) printed = tt
