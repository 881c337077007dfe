-- The last lines of each process.
use Rattle.std.proofs.Common.{true, ℕ, ◌-◌, ◌≡◌, ◌<◌, ◌++◌, ◌∷◌, [], List, length, length-append, take, drop, refl, ◌∙◌}
use Rattle.std.proofs.Common.{sym, ap, arith, Option, None, Some, inl, inr, append-nil}
use Rattle.std.specs.Prelude.{min, IfSome, Result, OnOk, IfErr}
use Rattle.std.specs.Io.KnownBytes.{Appends}
use Rattle.std.proofs.lemmas.Bool.{cases_eq, false≢true}
use Rattle.std.proofs.lemmas.List.{get_or_append_left, get_or_at, take-append-drop, take_all, drop_all, drop_min}
use Rattle.std.proofs.lemmas.List.{length-drop}
use Rattle.asan_check.specs.declared.report.Report.{Report}
use Rattle.asan_check.specs.Lines.{end_line, report_line}
use Rattle.asan_print.specs.declared.fault.WriteFault.{WriteFault}
use Rattle.asan_print.specs.declared.live_printer.LivePrinter.{LivePrinter}
use Rattle.asan_print.specs.declared.port.Port.{Port}
use Rattle.asan_print.specs.Logs.{Line, Printed, joined, report_lines}
use Rattle.asan_print.specs.Ports.{Follows, lane_at, port_lane}
use Rattle.asan_print.proofs.Prints.{on_ok, if_err}
use Rattle.asan_senders.specs.declared.sender.Sender.{Sender}
use Rattle.asan_stream.specs.declared.outcome.Outcome.{Outcome}
use Rattle.asan_stream.specs.declared.outcome.Outcome.TheVariants as outcome
use Rattle.asan_senders.specs.Closings.{WerePrinted, Closes, HasClosed}
use Rattle.asan_senders.specs.Live.{ArePrinted, ArePrintedOf, has_lost_reports}
use Rattle.asan_stream.specs.Outboxes.{IsFront}
use Rattle.asan_senders.specs.ReportLanes.{Fits, NoneTaken}
use Rattle.asan_stream.specs.Outcomes.{reports_of, ending_of}
use Rattle.asan_stream.proofs.Reporting.{front_trans}

lines_append : (process : ℕ) (xs ys : List Report)
    → report_lines process (xs ++ ys) ≡ report_lines process xs ++ report_lines process ys
lines_append process [] ys = refl
lines_append process (x ∷ xs) ys = ap (λ lines. report_line process x ∷ lines) (lines_append process xs ys)

-- the reports that were printed, and then the rest
pub lines_whole : (process count : ℕ) (printed reports : List Report) → take count reports ≡ printed
    → report_lines process printed ++ report_lines process (drop count reports) ≡ report_lines process reports
lines_whole process count printed reports front =
    sym (lines_append process printed (drop count reports))
    ∙ ap (report_lines process) (ap (λ xs. xs ++ drop count reports) (sym front) ∙ take-append-drop count reports)

drop_none : (count : ℕ) → drop {A = Report} count [] ≡ []
drop_none count = drop_all count [] (omega arith)

-- what follows the first of some reports, as a slice
pub rest_whole : (count : ℕ) (reports : List Report)
    → take (length reports - min count (length reports)) (drop (min count (length reports)) reports)
    ≡ drop count reports
rest_whole count reports =
    take_all _ (drop (min count (length reports)) reports)
    (omega (arith, length-drop (min count (length reports)) reports)) ∙ drop_min count reports

module _ {A : Type 0} where
  -- at first nothing is printed
  pub follows_start : (start : Option (List ℕ)) (p : LivePrinter A) (ports : List (Option (Port A)))
      → Printed start start p [] → NoneTaken ports → Follows start start p ports
  follows_start start p ports printed none = record {
    log = [];
    printed = printed;
    lines = λ i d below. rw (none.each i d below) refl;
    others = λ i from. refl;
  }

module _ {F A : Type 0} where
  -- nothing was printed of an outcome
  pub none_printed : (result : Outcome F A) → WerePrinted [] 0 result
  none_printed result = λ own. refl

  -- what was taken of what was put of what the checker had found, by the clauses of `settle`
  pub were_printed : {X : Type 0} (lane_end : Option X) (result : Outcome F A) (taken put found : List Report)
      → (lane_end ≡ None → result ≡ outcome.Unsettled) → IfSome lane_end (λ e. IsFront found (reports_of result))
      → IsFront taken put → IsFront put found → WerePrinted taken (length taken) result
  were_printed None result taken put found none begins first second =
      λ own. absurd (false≢true (sym own ∙ ap has_lost_reports (none refl)))
  were_printed (Some e) result taken put found none begins first second =
      λ own. front_trans taken found (reports_of result) (front_trans taken put found first second) begins

  -- the lines of what was printed, of the rest and of the end, where the reports are the outcome's own
  own_whole : (process count : ℕ) (printed : List Report) (result : Outcome F A)
      → take count (reports_of result) ≡ printed
      → ArePrintedOf process result ((report_lines process printed
      ++ report_lines process (drop count (reports_of result))) ++ end_line process (ending_of result) ∷ [])
  own_whole process count printed result front = record {
    reports = reports_of result;
    lines_are = ap (λ lines. lines ++ end_line process (ending_of result) ∷ [])
        (lines_whole process count printed (reports_of result) front);
    own = λ own. refl;
  }

  -- and where the outcome has none
  lost_whole : (process count : ℕ) (printed : List Report) (result : Outcome F A) → reports_of result ≡ []
      → has_lost_reports result ≡ true
      → ArePrintedOf process result ((report_lines process printed
      ++ report_lines process (drop count (reports_of result))) ++ end_line process (ending_of result) ∷ [])
  lost_whole process count printed result none lost = record {
    reports = printed;
    lines_are = rw (none, drop_none count, append-nil (report_lines process printed)) refl;
    own = λ own. absurd (false≢true (sym own ∙ lost));
  }

  pub printed_whole : (process count : ℕ) (printed : List Report) (result : Outcome F A)
      → WerePrinted printed count result
      → ArePrintedOf process result ((report_lines process printed
      ++ report_lines process (drop count (reports_of result))) ++ end_line process (ending_of result) ∷ [])
  printed_whole process count printed (outcome.Settled feed end reports) front =
      own_whole process count printed (outcome.Settled feed end reports) (front refl)
  printed_whole process count printed (outcome.NoMemory feed end checked reports) front =
      own_whole process count printed (outcome.NoMemory feed end checked reports) (front refl)
  printed_whole process count printed outcome.NotOpened front =
      own_whole process count printed outcome.NotOpened (front refl)
  printed_whole process count printed outcome.NotStarted front =
      lost_whole process count printed outcome.NotStarted refl refl
  printed_whole process count printed outcome.Unsettled front =
      lost_whole process count printed outcome.Unsettled refl refl

  -- a sender's report lane is that of its port
  pub fits_at_port : (port : Option (Port A)) (s : Sender F A) → Fits (lane_at port) s
      → IfSome port (λ p. Fits (Some (port_lane p)) s)
  fits_at_port None s h = tt
  fits_at_port (Some p) s h = h

  -- at first no process is closed
  pub none_closed : (start now : Option (List ℕ)) (p : LivePrinter A) (ports : List (Option (Port A)))
      (outcomes : List (Outcome F A)) → outcomes ≡ [] → Follows start now p ports → HasClosed start now p ports outcomes
  none_closed start now p ports outcomes none h = record {
    log = h.log;
    printed = h.printed;
    closed = λ i d below. absurd (let no = rw none at below in omega arith);
    waiting = λ i d from below. h.lines i d below;
    others = h.others;
  }

  -- one more process is closed
  pub one_closed : (start now : Option (List ℕ)) (p : LivePrinter A) (ports : List (Option (Port A)))
      (outcomes : List (Outcome F A)) (result : Outcome F A)
      (old : Option (List ℕ)) (q : LivePrinter A) (h : HasClosed start old q ports outcomes)
      → length outcomes < length ports → Closes start now p (length outcomes) result h.log
      → HasClosed start now p ports (outcomes ++ result ∷ [])
  one_closed start now p ports outcomes result old q h low c = record {
    log = c.adds.more;
    printed = c.adds.printed;
    closed = λ i d below. elim (cases_eq i (length outcomes)) [
      | inl e ↦ rw (e, get_or_at outcomes result [] d (length outcomes) refl, c.adds.own) c.printed
      | inr n ↦ let first : i < length outcomes = omega (arith, length-append outcomes (result ∷ [])) in
          rw (get_or_append_left outcomes (result ∷ []) d i first, c.adds.others i n) (h.closed i d first)
    ];
    waiting = λ i d from below.
        let long = length-append outcomes (result ∷ []) in
        c.adds.others i (λ e. omega arith) ∙ h.waiting i d (omega arith) below;
    others = λ i from. c.adds.others i (λ e. omega arith) ∙ h.others i from;
  }

  -- at last all are
  pub all_closed : (start mid after : Option (List ℕ)) (p : LivePrinter A) (ports : List (Option (Port A)))
      (outcomes : List (Outcome F A)) (wrote : Result (Unit {0}) WriteFault)
      → length outcomes ≡ length ports → HasClosed start mid p ports outcomes
      → OnOk wrote ((s : Option (List ℕ)) (log : List Line) → Printed s mid p log → Appends s after (joined log))
      → IfErr wrote (λ e. (s : Option (List ℕ)) (log : List Line) → Printed s mid p log
      → Appends s after (take e.written (joined log)))
      → IfErr wrote (λ e. (s : Option (List ℕ)) (log : List Line) → Printed s mid p log
      → e.written < length (joined log))
      → ArePrinted start after outcomes wrote
  all_closed start mid after p ports outcomes wrote same h ok fault short = record {
    log = h.log;
    all = on_ok wrote _ _ ok (λ f. f start h.log h.printed);
    part = if_err wrote _ _ fault (λ e f. f start h.log h.printed);
    short = if_err wrote _ _ short (λ e f. f start h.log h.printed);
    lines = record { lines = h.closed; others = λ i from. h.others i (omega arith) };
  }
