-- What contracts see of a feed.
use Rattle.std.specs.Prelude.{◌≡◌, ℕ, ◌+◌, ◌<◌, ◌≤◌, ◌⊎◌, List, length, Option, Some, Contains}
use Rattle.std.specs.Prelude.{drop}

-- what is seen of any feed
pub record FeedState : Type 0 where
  -- the bytes still to come, where they are known
  pub to_come : Option (List ℕ)
  -- how many reads have failed
  pub faults : ℕ

-- a feed over bytes in memory: all of its bytes, where its reads are cut, where they fail, the
-- place in the bytes at which the next read starts, and how many reads have failed
pub record Tape : Type 0 where
  pub bytes : List ℕ
  pub cuts : List ℕ
  pub fail_at : Option ℕ
  pub place : ℕ
  pub faults : ℕ

-- the bytes from the place on are still to come
abbrev pub bytes_left : Tape → Option (List ℕ)
bytes_left tape = Some (drop tape.place tape.bytes)

-- a cut, and the failing place, where they lie ahead of the next read
abbrev pub IsCutAhead : Tape → ℕ → Type 0
IsCutAhead tape stop = (tape.place < stop) × Contains tape.cuts stop

abbrev pub IsFailingAhead : Tape → ℕ → Type 0
IsFailingAhead tape stop = (tape.place < stop) × (tape.fail_at ≡ Some stop)

-- a place that a read into `room` bytes does not go past: a cut or the failing place ahead, the end
-- of the bytes, or the end of the room
abbrev pub IsStop : Tape → ℕ → ℕ → Type 0
IsStop tape room stop =
    (IsCutAhead tape stop ⊎ IsFailingAhead tape stop)
    ⊎ ((stop ≡ length tape.bytes) ⊎ (stop ≡ tape.place + room))

-- the first of these places
pub record IsFirstStop (tape : Tape) (room stop : ℕ) : Type 0 where
  pub is_stop : IsStop tape room stop
  pub is_first : (other : ℕ) → IsStop tape room other → stop ≤ other
