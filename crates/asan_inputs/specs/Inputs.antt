-- Feeds of two kinds, and a door over files, one of which may be standard input.
use Rattle.std.specs.Prelude.{ℕ, Bool, true, false, List, String, Option, None, Some, codes}
use Rattle.std.specs.Prelude.{length, string_bytes, suc, zero}
use Rattle.std.specs.List.{filter, insert, position}
use Rattle.std.specs.Str.{bytes_eq}
use Rattle.std.specs.declared.alloc.Global.{Global}
use Rattle.trace_feed.specs.declared.door.Arrival.{Arrival}
use Rattle.trace_feed.specs.declared.door.Arrival.TheVariants as arrival
use Rattle.trace_feed.specs.Feeds.{FeedState}
use Rattle.asan_inputs.specs.declared.input_feed.InputFeed.{InputFeed}
use Rattle.asan_inputs.specs.declared.input_feed.InputFeed.TheVariants as input_feed

-- what a feed of either kind has, by what is asked of each kind
abbrev pub of_either : {F I : Type 0} {X : Type 0} → (F → X) → (I → X) → InputFeed F I → X
of_either of_file of_input (input_feed.File feed) = of_file feed
of_either of_file of_input (input_feed.Input feed) = of_input feed

-- what is seen of a feed over a file or standard input
abbrev pub input_feed_seen : InputFeed FeedState FeedState → FeedState
input_feed_seen (input_feed.File feed) = feed
input_feed_seen (input_feed.Input feed) = feed

-- whether it is standard input that came
abbrev pub is_input : {F I : Type 0} → Arrival (InputFeed F I) → Bool
is_input (arrival.Came (input_feed.File feed)) = false
is_input (arrival.Came (input_feed.Input feed)) = true
is_input arrival.Refused = false
is_input arrival.Over = false

-- where it is standard input that came, this holds of its feed
abbrev pub IfInput : {F I : Type 0} → (I → Type 0) → Arrival (InputFeed F I) → Type 0
IfInput p (arrival.Came (input_feed.File feed)) = Unit {0}
IfInput p (arrival.Came (input_feed.Input feed)) = p feed
IfInput p arrival.Refused = Unit {0}
IfInput p arrival.Over = Unit {0}

-- the name of standard input
abbrev pub input_name : List ℕ
input_name = codes "-"

-- how many of these names are that of standard input
abbrev pub inputs_among : List (List ℕ) → ℕ
inputs_among names = length (filter (λ name. bytes_eq name input_name) names)

-- the place of standard input among names: the first that is its name
abbrev pub input_place : List (String Global) → Option ℕ
input_place names = position (λ name. bytes_eq (string_bytes name) input_name) names

-- the names of files: these paths, and that of standard input in its place among them
abbrev pub names_with : Option ℕ → List (List ℕ) → List (List ℕ)
names_with None paths = paths
names_with (Some place) paths = insert paths place input_name

-- the place of an input that these many come before
abbrev pub place_of : {I : Type 0} → Option I → ℕ → Option ℕ
place_of None before = None
place_of (Some input) before = Some before

-- the bytes of an input that has not come, where they are known
abbrev pub bytes_of : {I : Type 0} → (I → Option (List ℕ)) → Option I → Option (List ℕ)
bytes_of remaining None = None
bytes_of remaining (Some input) = remaining input

-- the place of standard input among the names that are left after the first
abbrev pub place_after : Option ℕ → Option ℕ
place_after None = None
place_after (Some zero) = None
place_after (Some (suc place)) = Some place

-- what is seen of a door over named files, one of which may be standard input
pub record NamedFiles : Type 0 where
  -- the names of those that are still to come, in order
  pub names : List (List ℕ)
  -- the place of standard input among them
  pub place : Option ℕ
  -- its bytes, where they are known, until it has come
  pub bytes : Option (List ℕ)
  -- how many files could not be opened
  pub refusals : ℕ
