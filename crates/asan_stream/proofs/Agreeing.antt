-- What outcomes say of the same bytes agrees.
use Rattle.std.proofs.Common.{◌≡◌, ◌≢◌, ℕ, List, [], ◌++◌, length, take, drop, Option, Some, None, refl, sym, ap, ◌∙◌}
use Rattle.std.proofs.Common.{arith, inr, append_assoc}
use Rattle.std.specs.Prelude.{IsTrue, reverse}
use Rattle.std.specs.Io.KnownBytes.{Consumes, IsAtEnd}
use Rattle.std.proofs.lemmas.Bool.{false≢true}
use Rattle.std.proofs.lemmas.List.{append-nil, reverse-append, take-append-drop, take_all}
use Rattle.trace_record.specs.declared.event.Event.{Event}
use Rattle.trace_record.specs.declared.end.End.{End}
use Rattle.trace_record.specs.declared.end.Fate.{Fate}
use Rattle.trace_record.specs.declared.end.Fate.TheVariants as fate
use Rattle.trace_record.specs.Stream.{MayEnd, Spells}
use Rattle.trace_record.specs.Reading.{Reads}
use Rattle.trace_record.proofs.Readings.{same_first}
use Rattle.trace_record.proofs.Ends.{one_end, end_stands}
use Rattle.trace_feed.specs.Feeds.{FeedState}
use Rattle.asan_check.specs.declared.report.Report.{Report}
use Rattle.asan_check.specs.Traces.{verdicts, verdicts_of}
use Rattle.asan_check.proofs.Order.{trace_verdicts_begin}
use Rattle.asan_stream.specs.declared.outcome.Outcome.{Outcome}
use Rattle.asan_stream.specs.declared.outcome.Outcome.TheVariants as outcome
use Rattle.asan_stream.specs.Agreement.{IsOutcomeOfBytes, NoReadFailed, end_of, is_settled}
use Rattle.asan_stream.specs.Outcomes.{IsSpelled, SaysNoMore, HasResults}
use Rattle.asan_stream.specs.Outcomes.{reports_of}

-- what a text that has ended can be read as
abbrev HasReading : ℕ → List ℕ → List Event → Type 0
HasReading limit text events = (decided : Option Fate) × Reads limit text events decided

reading_of : (limit : ℕ) (text : List ℕ) (events : List Event) (f : Fate) → MayEnd limit text events f
    → HasReading limit text events
reading_of limit text events fate.Closed may = (Some fate.Closed, may)
reading_of limit text events (fate.Malformed f) may = (Some (fate.Malformed f), may)
reading_of limit text events fate.TooMany may = (Some fate.TooMany, may)
reading_of limit text events fate.Truncated may = (None, may.0)
reading_of limit text events fate.NoClose ((v, made), within) =
    (None, ([], inr record { version = v; made = made; follows = within }))
reading_of limit text events fate.ReadFailed may = (None, may)

-- what was taken of known bytes, and what was left
taken_of : (bytes : List ℕ) (left : Option (List ℕ)) (text : List ℕ) → Consumes (Some bytes) left text
    → (rest : List ℕ) × (bytes ≡ text ++ rest) × (IsAtEnd left → rest ≡ [])
taken_of bytes None text taken = absurd taken
taken_of bytes (Some rest) text taken = (rest, taken, λ none. none)

-- where no read failed, a byte decided the end, or nothing was left
whole_of : (limit : ℕ) (text rest : List ℕ) (events : List Event) (end : End) (f : Fate) → end.fate ≡ f
    → f ≢ fate.ReadFailed → (SaysNoMore f → rest ≡ []) → Spells limit text events end
    → Spells limit (text ++ rest) events end
whole_of limit text rest events end fate.Closed is failed none spells =
    end_stands limit text rest events end spells (rw is tt)
whole_of limit text rest events end (fate.Malformed f) is failed none spells =
    end_stands limit text rest events end spells (rw is tt)
whole_of limit text rest events end fate.TooMany is failed none spells =
    end_stands limit text rest events end spells (rw is tt)
whole_of limit text rest events end fate.Truncated is failed none spells = rw (none tt, append-nil text) spells
whole_of limit text rest events end fate.NoClose is failed none spells = rw (none tt, append-nil text) spells
whole_of limit text rest events end fate.ReadFailed is failed none spells = absurd (failed refl)

-- so all of the bytes spell the end
all_spell : (limit : ℕ) (bytes : List ℕ) (before after : FeedState) (events : List Event) (end : End)
    → before.to_come ≡ Some bytes → IsSpelled limit before after events end → NoReadFailed end
    → Spells limit bytes events end
all_spell limit bytes before after events end known spelled sound =
    let parts = taken_of bytes after.to_come spelled.text (rw known at spelled.taken) in
    rw parts.1 (whole_of limit spelled.text parts.0 events end end.fate refl sound
    (λ says. parts.2 (spelled.no_more says)) spelled.spells)

pub one_spelled : (limit : ℕ) (bytes : List ℕ) (before after other_before other_after : FeedState)
    (events others : List Event) (end other : End)
    → before.to_come ≡ Some bytes → other_before.to_come ≡ Some bytes
    → IsSpelled limit before after events end → IsSpelled limit other_before other_after others other
    → NoReadFailed end → NoReadFailed other → (events ≡ others) × (end ≡ other)
one_spelled limit bytes before after other_before other_after events others end other known other_known a b p q =
    one_end limit bytes events others end other (all_spell limit bytes before after events end known a p)
    (all_spell limit bytes other_before other_after others other other_known b q) p q

pub first_spelled : (limit : ℕ) (bytes : List ℕ) (before after other_before other_after : FeedState)
    (events others : List Event) (end other : End)
    → before.to_come ≡ Some bytes → other_before.to_come ≡ Some bytes
    → IsSpelled limit before after events end → IsSpelled limit other_before other_after others other
    → NoReadFailed other → (later : List Event) × (others ≡ events ++ later)
first_spelled limit bytes before after other_before other_after events others end other known other_known a b q =
    let parts = taken_of bytes after.to_come a.text (rw known at a.taken) in
    let front = reading_of limit a.text events end.fate a.spells.fate in
    let whole = reading_of limit (a.text ++ parts.0) others other.fate
    (rw parts.1 at (all_spell limit bytes other_before other_after others other other_known b q)).fate in
    same_first limit a.text parts.0 events others front.0 whole.0 front.1 whole.1

-- the verdicts on more events begin with those on the first of them
begins : (bound : ℕ) (events later : List Event)
    → (rest : List Report) × (verdicts bound (events ++ later) ≡ verdicts bound events ++ rest)
begins bound events later =
    let more = trace_verdicts_begin bound (reverse later) (reverse events) in
    (more.0, ap (verdicts_of bound) (reverse-append events later) ∙ more.1)

module _ {F A : Type 0} where
  -- an outcome has the verdicts on the first events, and where it is settled on all of them
  reports_first : (bound : ℕ) (events : List Event) (feed : F) (end : End) (result : Outcome F A)
      → HasResults bound events feed end result
      → (n : ℕ) × (reports_of result ≡ verdicts bound (take n events))
  reports_first bound events feed end (outcome.Settled f m reports) results =
      (length events, results.2 ∙ ap (verdicts bound) (sym (take_all (length events) events (omega arith))))
  reports_first bound events feed end (outcome.NoMemory f m checked reports) results = (checked, results.3)
  reports_first bound events feed end outcome.NotOpened results = absurd results
  reports_first bound events feed end outcome.NotStarted results = absurd results
  reports_first bound events feed end outcome.Unsettled results = absurd results

  reports_all : (bound : ℕ) (events : List Event) (feed : F) (end : End) (result : Outcome F A)
      → HasResults bound events feed end result
      → IsTrue (is_settled result) → reports_of result ≡ verdicts bound events
  reports_all bound events feed end (outcome.Settled f m reports) results settled = results.2
  reports_all bound events feed end (outcome.NoMemory f m checked reports) results settled = absurd (false≢true settled)
  reports_all bound events feed end outcome.NotOpened results settled = absurd results
  reports_all bound events feed end outcome.NotStarted results settled = absurd results
  reports_all bound events feed end outcome.Unsettled results settled = absurd results

  end_same : (bound : ℕ) (events : List Event) (feed : F) (end n : End) (result : Outcome F A)
      → HasResults bound events feed end result → end_of result ≡ Some n → end ≡ n
  end_same bound events feed end n (outcome.Settled f m reports) results is = let same = results.1 in cc
  end_same bound events feed end n (outcome.NoMemory f m checked reports) results is = let same = results.1 in cc
  end_same bound events feed end n outcome.NotOpened results is = absurd results
  end_same bound events feed end n outcome.NotStarted results is = absurd results
  end_same bound events feed end n outcome.Unsettled results is = absurd results

module _ {F G A B : Type 0} where
  pub ends_agree : (limit bound other_bound : ℕ) (bytes : List ℕ) (result : Outcome F A) (other : Outcome G B)
      (end other_end : End)
      → IsOutcomeOfBytes limit bound bytes result → IsOutcomeOfBytes limit other_bound bytes other
      → end_of result ≡ Some end → end_of other ≡ Some other_end → NoReadFailed end → NoReadFailed other_end
      → end ≡ other_end
  ends_agree limit bound other_bound bytes result other end other_end a b is other_is sound other_sound =
      let here = end_same bound a.events a.feed a.end end result a.results is in
      let there = end_same other_bound b.events b.feed b.end other_end other b.results other_is in
      (one_spelled limit bytes a.before a.after b.before b.after a.events b.events end other_end a.bytes_are b.bytes_are
      (rw here at a.spelled) (rw there at b.spelled) sound other_sound).1

  pub reports_agree : (limit bound : ℕ) (bytes : List ℕ) (result : Outcome F A) (other : Outcome G B)
      (end other_end : End)
      → IsOutcomeOfBytes limit bound bytes result → IsOutcomeOfBytes limit bound bytes other
      → end_of result ≡ Some end → end_of other ≡ Some other_end → NoReadFailed end → NoReadFailed other_end
      → IsTrue (is_settled result) → IsTrue (is_settled other) → reports_of result ≡ reports_of other
  reports_agree limit bound bytes result other end other_end a b is other_is sound other_sound settled other_settled =
      let here = end_same bound a.events a.feed a.end end result a.results is in
      let there = end_same bound b.events b.feed b.end other_end other b.results other_is in
      let same = (one_spelled limit bytes a.before a.after b.before b.after a.events b.events end other_end a.bytes_are
      b.bytes_are (rw here at a.spelled) (rw there at b.spelled) sound other_sound).0 in
      reports_all bound a.events a.feed a.end result a.results settled ∙ ap (verdicts bound) same
      ∙ sym (reports_all bound b.events b.feed b.end other b.results other_settled)

  pub reports_begin : (limit bound : ℕ) (bytes : List ℕ) (result : Outcome F A) (other : Outcome G B) (other_end : End)
      → IsOutcomeOfBytes limit bound bytes result → IsOutcomeOfBytes limit bound bytes other
      → end_of other ≡ Some other_end → NoReadFailed other_end → IsTrue (is_settled other)
      → (later : List Report) × (reports_of other ≡ reports_of result ++ later)
  reports_begin limit bound bytes result other other_end a b other_is other_sound other_settled =
      let there = end_same bound b.events b.feed b.end other_end other b.results other_is in
      let more = first_spelled limit bytes a.before a.after b.before b.after a.events b.events a.end other_end
      a.bytes_are b.bytes_are a.spelled (rw there at b.spelled) other_sound in
      let some = reports_first bound a.events a.feed a.end result a.results in
      let first = begins bound a.events more.0 in
      let within = begins bound (take some.0 a.events) (drop some.0 a.events) in
      let whole : verdicts bound a.events ≡ reports_of result ++ within.0 =
      ap (verdicts bound) (sym (take-append-drop some.0 a.events)) ∙ within.1
      ∙ ap (λ rs. rs ++ within.0) (sym some.1) in (
        within.0 ++ first.0,
        reports_all bound b.events b.feed b.end other b.results other_settled ∙ ap (verdicts bound) more.1 ∙ first.1
            ∙ ap (λ rs. rs ++ first.0) whole ∙ append_assoc (reports_of result) within.0 first.0,
      )
