-- What the program does once its arguments are read.
use Rattle.std.specs.Prelude.{◌≡◌, ℕ, Bool, List, Option, IsSome, map, string_bytes}
use Rattle.trace_feed.specs.Doors.{DoorState, Peers}
use Rattle.trace_feed.specs.Feeds.{FeedState}
use Rattle.asan_stream.specs.declared.options.Options.{Options}
use Rattle.asan_inputs.specs.Inputs.{NamedFiles, input_place}
use Rattle.asan_inputs.specs.declared.serve.Serving.{Serving}
use Rattle.asan_session.specs.declared.session.Checking.{Checking}
use Rattle.asan_session.specs.Printed.{AreSendersPrinted, CheckersMemory}
use Rattle.asan_request.specs.declared.request.TraceFiles.{TraceFiles}

-- how traces are checked with these options, and whether each report is printed when it is found
abbrev pub checking_with : Options → Bool → Checking
checking_with options is_live = record { options = options; is_live = is_live }

-- The functions say what is seen of a door and of its feeds.
module _ {F : Type 0} (seen : F → FeedState) where
  -- the traces in these files were checked with their options, and what became of each was printed:
  -- all came through a door that had their names to give, and the input in place of the first `-`
  pub record AreFilesPrinted
      (door : NamedFiles → DoorState F) (files : TraceFiles) (input : Option (List ℕ))
      (before after : Option (List ℕ)) (status : ℕ) : Type 0 where
    pub old : NamedFiles
    pub new : NamedFiles
    pub names : old.names ≡ map string_bytes files.names.items
    pub place : old.place ≡ input_place files.names.items
    pub bytes : IsSome old.place → old.bytes ≡ input
    pub none_refused : old.refusals ≡ 0
    pub printed :
        AreSendersPrinted seen (CheckersMemory files.options.memory)
        (checking_with files.options files.is_live) (door old) (door new) before after status

  -- the traces that came through a socket were checked with its options, and what became of each
  -- was printed: the door had as many peers to accept as are asked for
  pub record ArePeersPrinted
      (door : Peers → DoorState F) (serving : Serving)
      (before after : Option (List ℕ)) (status : ℕ) : Type 0 where
    pub old : Peers
    pub new : Peers
    pub count : old.left ≡ serving.count
    pub none_refused : old.refusals ≡ 0
    pub printed :
        AreSendersPrinted seen (CheckersMemory serving.options.memory)
        (checking_with serving.options serving.is_live) (door old) (door new) before after status
