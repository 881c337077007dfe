-- Where a sender was refused, the status says that not every trace was checked, or that not everything was printed.
use Rattle.std.proofs.Common.{arith, ◌≡◌, ◌<◌, ℕ, Bool, true, false, List, [], ◌∷◌, Option, refl, inl, inr, ◌∙◌}
use Rattle.std.specs.Prelude.{◌⊎◌, None, Some}
use Rattle.std.specs.declared.alloc.Global.{Global}
use Rattle.std.specs.List.{list_all}
use Rattle.std.proofs.lemmas.Bool.{false≢true, and_parts}
use Rattle.asan_stream.specs.declared.outcome.Outcome.{Outcome}
use Rattle.asan_stream.specs.declared.outcome.Outcome.TheVariants as outcome
use Rattle.trace_feed.specs.Doors.{DoorState}
use Rattle.trace_feed.specs.Feeds.{FeedState}
use Rattle.asan_senders.specs.Counts.{not_opened, not_opened_among}
use Rattle.asan_senders.specs.Statuses.{is_closed, status_of, unchecked, unwritten}
use Rattle.asan_session.specs.declared.session.Checking.{Checking}
use Rattle.asan_session.specs.Printed.{AreSendersPrinted, BoundedMemory, CheckersMemory, IsPrintedAs}

module _ {F A : Type 0} where
  closed_is_opened : (result : Outcome F A) → is_closed result ≡ true → not_opened result ≡ 0
  closed_is_opened (outcome.Settled feed end reports) closed = refl
  closed_is_opened (outcome.NoMemory feed end checked reports) closed = refl
  closed_is_opened outcome.NotOpened closed = absurd (false≢true closed)
  closed_is_opened outcome.NotStarted closed = refl
  closed_is_opened outcome.Unsettled closed = refl

  all_closed_are_opened : (outcomes : List (Outcome F A)) → list_all is_closed outcomes ≡ true
      → not_opened_among outcomes ≡ 0
  all_closed_are_opened [] closed = refl
  all_closed_are_opened (result ∷ outcomes) closed =
      let parts = and_parts (is_closed result) (list_all is_closed outcomes) closed in
      let first = closed_is_opened result parts.0 in
      let rest = all_closed_are_opened outcomes parts.1 in
      omega arith

  status_by : (outcomes : List (Outcome F A)) (closed : Bool) → list_all is_closed outcomes ≡ closed
      → 0 < not_opened_among outcomes → status_of outcomes true ≡ unchecked
  status_by outcomes true closed some = absurd (let none = all_closed_are_opened outcomes closed in omega arith)
  status_by outcomes false closed some = rw closed refl

  pub status_of_refused : (outcomes : List (Outcome F A)) (status : ℕ) → 0 < not_opened_among outcomes
      → (status ≡ unwritten) ⊎ (status ≡ status_of outcomes true) → (status ≡ unchecked) ⊎ (status ≡ unwritten)
  status_of_refused outcomes status some (inl broken) = inr broken
  status_of_refused outcomes status some (inr own) =
      inl (own ∙ status_by outcomes (list_all is_closed outcomes) refl some)

  status_printed : (is_live : Bool) (before after : Option (List ℕ)) (outcomes : List (Outcome F A)) (status : ℕ)
      → IsPrintedAs is_live before after outcomes status
      → (status ≡ unwritten) ⊎ (status ≡ status_of outcomes true)
  status_printed true before after outcomes status printed = printed.2.status_is
  status_printed false before after outcomes status printed = printed.status_is

-- if senders were printed, their status says that one was refused
pub refused_if_printed : {F : Type 0} (A : Type 0) (seen : F → FeedState) (checking : Checking)
    (old new : DoorState F) (before after : Option (List ℕ)) (status : ℕ)
    → AreSendersPrinted seen A checking old new before after status
    → old.refusals < new.refusals → (status ≡ unchecked) ⊎ (status ≡ unwritten)
refused_if_printed A seen checking old new before after status (outcomes, all) more =
    let rise = all.collected.refused in
    let some : 0 < not_opened_among outcomes = omega arith in
    status_of_refused outcomes status some (status_printed checking.is_live before after outcomes status all.printed)

-- where memory has no bound, the checkers' is the common one
pub unbounded : {F : Type 0} (seen : F → FeedState) (checking : Checking)
    (old new : DoorState F) (before after : Option (List ℕ)) (status : ℕ) (bound : Option ℕ) → bound ≡ None
    → AreSendersPrinted seen Global checking old new before after status
    → AreSendersPrinted seen (CheckersMemory bound) checking old new before after status
unbounded seen checking old new before after status bound none printed = rw none printed

-- and where it has one, theirs is of the kind that refuses
pub bounded : {F : Type 0} (seen : F → FeedState) (checking : Checking)
    (old new : DoorState F) (before after : Option (List ℕ)) (status : ℕ) (bound : Option ℕ) (bytes : ℕ)
    → bound ≡ Some bytes → AreSendersPrinted seen BoundedMemory checking old new before after status
    → AreSendersPrinted seen (CheckersMemory bound) checking old new before after status
bounded seen checking old new before after status bound bytes some printed = rw some printed
