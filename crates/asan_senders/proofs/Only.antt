-- What becomes of the only sender, and what is printed of it.
use Rattle.std.proofs.Common.{◌≡◌, ℕ, ◌<◌, List, [], ◌∷◌, ◌++◌, ◌-◌, length, take, drop, Option}
use Rattle.std.proofs.Common.{None, refl, ap, inl, inr, ◌∙◌}
use Rattle.std.proofs.Common.{arith, append-nil}
use Rattle.std.specs.Prelude.{◌≢◌, IfErr, IsTrue, OnOk, Result}
use Rattle.std.specs.Io.KnownBytes.{Appends}
use Rattle.std.proofs.lemmas.List.{take_rest}
use Rattle.asan_check.specs.declared.report.Report.{Report}
use Rattle.trace_feed.specs.declared.door.Arrival.{Arrival}
use Rattle.trace_feed.specs.declared.door.Arrival.TheVariants as arrival
use Rattle.trace_feed.specs.Feeds.{FeedState}
use Rattle.asan_check.specs.Lines.{end_line}
use Rattle.asan_print.specs.declared.live_printer.LivePrinter.{LivePrinter}
use Rattle.asan_print.specs.declared.fault.WriteFault.{WriteFault}
use Rattle.asan_print.specs.Logs.{Adds, Line, Printed, joined, lines_of, report_lines}
use Rattle.asan_stream.specs.declared.options.Options.{Options}
use Rattle.asan_stream.specs.declared.outcome.Outcome.{Outcome}
use Rattle.asan_stream.specs.declared.outcome.Outcome.TheVariants as outcome
use Rattle.asan_stream.specs.Outcomes.{IsOutcomeOf, ending_of, is_read, reports_of}
use Rattle.asan_senders.specs.Arrivals.{IsAnswerTo, IsAnswerToFeed, Pairwise}
use Rattle.asan_senders.specs.Closings.{HasClosed}
use Rattle.asan_senders.specs.Collected.{IsReadIfAlone}
use Rattle.asan_senders.specs.Live.{ArePrinted}
use Rattle.asan_senders.proofs.LastLines.{all_closed, lines_whole}

module _ {F A : Type 0} (seen : F → FeedState) (options : Options) where
  -- the outcome of a feed that was read is an answer to it
  answers_feed : (feed : F) (result : Outcome F A) → IsOutcomeOf seen options feed result
      → IsAnswerToFeed seen options feed result
  answers_feed feed (outcome.Settled f end reports) right = right
  answers_feed feed (outcome.NoMemory f end checked reports) right = right
  answers_feed feed outcome.NotOpened right = absurd right.4
  answers_feed feed outcome.NotStarted right = absurd right.4
  answers_feed feed outcome.Unsettled right = absurd right.4

  one_pair : (feed : F) (result : Outcome F A) → IsOutcomeOf seen options feed result
      → Pairwise (IsAnswerTo seen options) (arrival.Came feed ∷ []) (result ∷ [])
  one_pair feed result right = record {
    same_length = refl;
    each = λ i d e below. let first : i ≡ 0 = omega arith in rw first (answers_feed feed result right);
  }

  -- and the only one, where it was put into an empty list
  pub one_answer : (feed : F) (result : Outcome F A) (room outcomes : List (Outcome F A)) → room ≡ []
      → outcomes ≡ room ++ result ∷ [] → IsOutcomeOf seen options feed result
      → Pairwise (IsAnswerTo seen options) (arrival.Came feed ∷ []) outcomes
  one_answer feed result room outcomes none more right = rw (more, none) (one_pair feed result right)

  is_read_of : (feed : F) (result : Outcome F A) → IsOutcomeOf seen options feed result → IsTrue (is_read result)
  is_read_of feed (outcome.Settled f end reports) right = refl
  is_read_of feed (outcome.NoMemory f end checked reports) right = refl
  is_read_of feed outcome.NotOpened right = absurd right.4
  is_read_of feed outcome.NotStarted right = absurd right.4
  is_read_of feed outcome.Unsettled right = absurd right.4

  -- which was read
  pub one_read : (feed : F) (result : Outcome F A) (room outcomes : List (Outcome F A)) → room ≡ []
      → outcomes ≡ room ++ result ∷ [] → IsOutcomeOf seen options feed result → IsReadIfAlone outcomes
  one_read feed result room outcomes none more right = rw (more, none) (inr (is_read_of feed result right))

  -- if several came, or one that was refused, no feed came alone
  pub read_if_alone : (arrivals : List (Arrival F)) (outcomes : List (Outcome F A))
      → Pairwise (IsAnswerTo seen options) arrivals outcomes
      → ((feed : F) → arrivals ≢ arrival.Came feed ∷ []) → IsReadIfAlone outcomes
  read_if_alone arrivals [] fit several = tt
  read_if_alone arrivals (first ∷ second ∷ rest) fit several = tt
  read_if_alone [] (result ∷ []) fit several = absurd (let same = fit.same_length in omega arith)
  read_if_alone (a ∷ b ∷ rest) (result ∷ []) fit several = absurd (let same = fit.same_length in omega arith)
  read_if_alone (arrival.Came feed ∷ []) (result ∷ []) fit several = absurd (several feed refl)
  read_if_alone (arrival.Refused ∷ []) (result ∷ []) fit several =
      inl (fit.each 0 arrival.Refused result (omega arith))
  read_if_alone (arrival.Over ∷ []) (result ∷ []) fit several =
      absurd (fit.each 0 arrival.Over result (omega arith))

module _ {A : Type 0} where
  -- the lines of more reports were added
  pub more_shown : (start now next : Option (List ℕ)) (p q : LivePrinter A) (process : ℕ)
      (xs ys : List (List ℕ)) (log : List Line) (a : Adds start now p process xs log)
      → Adds start next q process ys a.more → Adds start next q process ys log
  more_shown start now next p q process xs ys log a b = record {
    more = b.more;
    printed = b.printed;
    own = b.own;
    others = λ other apart. b.others other apart ∙ a.others other apart;
  }

  -- the reports on a batch were shown, after those before it
  pub batch_shown : (start now next : Option (List ℕ)) (p q : LivePrinter A) (before all reports : List Report)
      (shown : ℕ) → take (length before) all ≡ before → shown ≡ length before → reports ≡ all
      → ((log : List Line) (lines : List (List ℕ)) → Printed start now p log → lines_of 0 log ≡ lines
      → Adds start next q 0 (lines ++ report_lines 0 (take (length reports - shown) (drop shown reports))) log)
      → Adds start now p 0 (report_lines 0 before) [] → Adds start next q 0 (report_lines 0 all) []
  batch_shown start now next p q before all reports shown front count are adds a =
      let same : report_lines 0 before ++ report_lines 0 (take (length reports - shown) (drop shown reports))
      ≡ report_lines 0 all = ap (λ rs. report_lines 0 before ++ report_lines 0 rs) (take_rest reports shown)
      ∙ rw (are, count) (lines_whole 0 (length before) before all front) in
      more_shown start now next p q 0 (report_lines 0 before) (report_lines 0 all) [] a
      (rw same at (adds a.more (report_lines 0 before) a.printed a.own))

module _ {F A : Type 0} where
  -- the only process is closed
  one_closed_alone : (start now : Option (List ℕ)) (p : LivePrinter A) (result : Outcome F A)
      → Adds start now p 0 ((report_lines 0 (reports_of result) ++ []) ++ end_line 0 (ending_of result) ∷ []) []
      → HasClosed start now p (None ∷ []) (result ∷ [])
  one_closed_alone start now p result a = record {
    log = a.more;
    printed = a.printed;
    closed = λ i d below.
        let first : i ≡ 0 = omega arith in
        let whole = append-nil (report_lines 0 (reports_of result)) in
        rw first (record {
          reports = reports_of result;
          lines_are = a.own ∙ ap (λ lines. lines ++ end_line 0 (ending_of result) ∷ []) whole;
          own = λ own. refl;
        });
    waiting = λ i d from below. absurd (omega arith);
    others = λ i from. a.others i (λ e. omega arith);
  }

  -- and all that was printed is its lines
  pub printed_alone : (start mid after : Option (List ℕ)) (p : LivePrinter A) (result : Outcome F A)
      (room outcomes : List (Outcome F A)) (wrote : Result (Unit {0}) WriteFault)
      → room ≡ [] → outcomes ≡ room ++ result ∷ []
      → Adds start mid p 0 ((report_lines 0 (reports_of result) ++ []) ++ end_line 0 (ending_of result) ∷ []) []
      → OnOk wrote ((s : Option (List ℕ)) (log : List Line) → Printed s mid p log → Appends s after (joined log))
      → IfErr wrote (λ e. (s : Option (List ℕ)) (log : List Line) → Printed s mid p log
      → Appends s after (take e.written (joined log)))
      → IfErr wrote (λ e. (s : Option (List ℕ)) (log : List Line) → Printed s mid p log
      → e.written < length (joined log))
      → ArePrinted start after outcomes wrote
  printed_alone start mid after p result room outcomes wrote none more adds ok fault short =
      rw (more, none) (all_closed start mid after p (None ∷ []) (result ∷ []) wrote refl
      (one_closed_alone start mid p result adds) ok fault short)
