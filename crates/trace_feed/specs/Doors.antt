-- What a door's answers say of the arrivals.
use Rattle.std.specs.Prelude.{◌≡◌, ℕ, ◌+◌, ◌∷◌, ◌&&◌, [], Bool, true, false, List, nat_eq}
use Rattle.std.specs.Prelude.{None, Option, Some}
use Rattle.trace_feed.specs.declared.door.Arrival.{Arrival}
use Rattle.trace_feed.specs.declared.door.Arrival.TheVariants.{Came, Refused, Over}
use Rattle.trace_feed.specs.Feeds.{FeedState}

-- what is seen of any door whose feeds are of the type F
pub record DoorState (F : Type 0) : Type 0 where
  -- the arrivals still to come, without the end, where they are known
  pub to_arrive : Option (List (Arrival F))
  -- how many arrivals are left, where that is known
  pub left : Option ℕ
  -- how many senders were refused
  pub refusals : ℕ
  -- whether no more senders come
  pub is_shut : Bool

-- the arrivals before the first Over
abbrev pub before_over : {F : Type 0} → List (Arrival F) → List (Arrival F)
before_over [] = []
before_over (Came f ∷ xs) = Came f ∷ before_over xs
before_over (Refused ∷ xs) = Refused ∷ before_over xs
before_over (Over ∷ xs) = []

-- of the known arrivals this one came first and the others are left, and Over came where none was
-- left
abbrev pub Arrives : {F : Type 0}
    → Option (List (Arrival F)) → Option (List (Arrival F)) → Arrival F → Type 0
Arrives None new arrival = Unit {0}
Arrives (Some xs) None arrival = ⊥
Arrives (Some xs) (Some ys) (Came f) = xs ≡ Came f ∷ ys
Arrives (Some xs) (Some ys) Refused = xs ≡ Refused ∷ ys
Arrives (Some xs) (Some ys) Over = (xs ≡ []) × (ys ≡ [])

-- of a known number of arrivals that are left this is one, and Over comes where none is left
abbrev pub CountsDown : {F : Type 0} → Option ℕ → Option ℕ → Arrival F → Type 0
CountsDown None new arrival = Unit {0}
CountsDown (Some n) None arrival = ⊥
CountsDown (Some n) (Some m) (Came f) = n ≡ m + 1
CountsDown (Some n) (Some m) Refused = n ≡ m + 1
CountsDown (Some n) (Some m) Over = (n ≡ 0) × (m ≡ 0)

-- the count of refusals after an answer, where it was n before
abbrev pub refusals_after : {F : Type 0} → Arrival F → ℕ → ℕ
refusals_after (Came f) n = n
refusals_after Refused n = n + 1
refusals_after Over n = n

-- whether no more senders come
abbrev pub is_over : {F : Type 0} → Arrival F → Bool
is_over (Came f) = false
is_over Refused = false
is_over Over = true

-- P holds of the feed that came, where one did
abbrev pub IfCame : {F : Type 0} → (F → Type 0) → Arrival F → Type 0
IfCame P (Came f) = P f
IfCame P Refused = Unit {0}
IfCame P Over = Unit {0}

-- whether no read has failed of the feed that came, where one did, by what is seen of a feed
abbrev pub is_fresh : {F : Type 0} → (F → FeedState) → Arrival F → Bool
is_fresh seen (Came f) = nat_eq (seen f).faults 0
is_fresh seen Refused = true
is_fresh seen Over = true

-- whether no read has failed of any feed in the list
abbrev pub all_fresh : {F : Type 0} → (F → FeedState) → List (Arrival F) → Bool
all_fresh seen [] = true
all_fresh seen (arrival ∷ rest) = is_fresh seen arrival && all_fresh seen rest

-- a door whose arrivals are known: those still to come, and how many senders were refused
pub record Arrivals (F : Type 0) : Type 0 where
  pub to_arrive : List (Arrival F)
  pub refusals : ℕ

-- a door that opens files: the bytes of the paths still to be opened, and how many could not be
pub record Paths : Type 0 where
  pub paths : List (List ℕ)
  pub refusals : ℕ

-- a door that accepts peers: how many times it still accepts one, and how many could not be
-- accepted
pub record Peers : Type 0 where
  pub left : ℕ
  pub refusals : ℕ
