-- Outcomes, texts and statuses that the contracts refuse.
-- Each lemma is named for what would have gone wrong.
use Rattle.std.proofs.Common.{◌≡◌, ◌⊎◌, inl, inr, ℕ, true, false, List, [], ◌∷◌, Option, Some, None, refl, sym, ap, ◌∙◌}
use Rattle.std.proofs.Common.{arith}
use Rattle.std.specs.Prelude.{◌≢◌, All, IsTrue, Vec}
use Rattle.std.specs.Io.KnownBytes.{Appends}
use Rattle.std.proofs.lemmas.Bool.{false≢true}
use Rattle.trace_lane.specs.Lanes.{known_room}
use Rattle.trace_lane.specs.declared.lane_end.LaneEnd.{LaneEnd}
use Rattle.trace_lane.specs.declared.lane_in.LaneIn.{LaneIn}
use Rattle.trace_record.specs.declared.end.End.{End}
use Rattle.trace_record.specs.declared.end.Fate.TheVariants as fate
use Rattle.trace_feed.specs.Feeds.{FeedState}
use Rattle.trace_feed.specs.declared.door.Arrival.TheVariants as arrival
use Rattle.asan_check.specs.declared.report.Report.{Report}
use Rattle.asan_check.specs.Lines.{end_line, report_line}
use Rattle.asan_print.specs.declared.port.Port.{Port}
use Rattle.asan_stream.specs.declared.bench.Bench.{Bench}
use Rattle.asan_stream.specs.declared.options.Options.{Options}
use Rattle.asan_stream.specs.declared.outcome.Outcome.TheVariants as outcome
use Rattle.asan_stream.specs.declared.item.Item.{Item}
use Rattle.asan_stream.specs.declared.reader.ReaderDone.{ReaderDone}
use Rattle.asan_senders.specs.declared.worker_thread.WorkerThread.TheVariants as running
use Rattle.asan_senders.specs.declared.missing.Part.TheVariants as part
use Rattle.asan_senders.specs.declared.sender.Sender.{Sender}
use Rattle.asan_senders.specs.declared.sender.Sender.TheVariants as sender
use Rattle.asan_senders.specs.Arrivals.{IsAnswerTo}
use Rattle.asan_senders.specs.Senders.{HasRing, SaysHowFar}
use Rattle.asan_senders.specs.Shares.{EachGivesUp, Share}
use Rattle.asan_senders.specs.Live.{ArePrintedOf}
use Rattle.asan_stream.specs.Outcomes.{faults_of, ending_of}
use Rattle.asan_stream.proofs.Refuted.{end_as}
use Rattle.asan_senders.specs.Ranges.{most_senders}
use Rattle.asan_senders.specs.Statuses.{clean, reported, status_of}

-- ---- answers

module _ {F A : Type 0} (seen : F → FeedState) (options : Options) where
  -- another sender's failed read ends this one, of whose feed no read failed
  one_fault_ends_the_others :
      (feed after : F) (n offset : ℕ) (reports : Vec Report A) → (seen after).faults ≡ 0 →
      ¬ IsAnswerTo seen options (arrival.Came feed)
      (outcome.Settled after (end_as fate.ReadFailed n offset) reports)
  one_fault_ends_the_others feed after n offset reports none answer =
      let none_is_one : ◌≡◌ {A = ℕ} 0 1 =
      sym none ∙ ap (λ f. (seen f).faults) answer.4.0 ∙ answer.3.faults_are
      ∙ ap (λ e. faults_of e.fate) (sym answer.4.1)
      in absurd (omega arith)

-- the outcome of a feed that came is that of one that was refused
not_opened_for_a_feed_that_came :
    (F A : Type 0) (seen : F → FeedState) (options : Options) (feed : F) →
    ¬ IsAnswerTo {F = F} {A = A} seen options (arrival.Came feed) outcome.NotOpened
not_opened_for_a_feed_that_came F A seen options feed answer = answer

-- ---- arrivals

-- no more are asked for after 255, and the door is not over
stops_asking_at_255 : ¬ (IsTrue false ⊎ ◌≡◌ {A = ℕ} 255 most_senders)
stops_asking_at_255 (inl over) = absurd cc
stops_asking_at_255 (inr all) = absurd (omega arith)

-- ---- lanes

-- the lane of a sender has half the room that the options ask for
lane_has_half_the_ring :
    (F A : Type 0) (feed : F) (lane : LaneIn Item A) → known_room lane ≡ 512 →
    ¬ All (HasRing {F = F} {A = A} 1024) (sender.Ready feed lane ∷ [])
lane_has_half_the_ring F A feed lane half rings =
    let whole : known_room lane ≡ 1024 = rings 0 sender.NotOpened (omega arith) in
    absurd (omega arith)

-- ---- workers that were lost

module _ {F A : Type 0} (feed : F) (lane : LaneIn Item A) where
  -- the worker was lost, and its sender is still ready for a reader
  nobody_gives_up :
      ¬ EachGivesUp {F = F} {A = A} (running.Lost ∷ []) (sender.Ready feed lane ∷ [])
      (sender.Ready feed lane ∷ [])
  nobody_gives_up p =
      let gone : ◌≡◌ {A = Sender F A} (sender.Ready feed lane) (sender.NotStarted part.Worker) =
      p.each 0 sender.NotOpened running.Lost (omega arith) in absurd cc

  -- the second worker was lost, and the first one's sender gives up
  sender_of_another_checker_gives_up :
      (benches : Share A) →
      ¬ EachGivesUp {F = F} {A = A} (running.Idle benches ∷ running.Lost ∷ [])
      (sender.Ready feed lane ∷ []) (sender.NotStarted part.Worker ∷ [])
  sender_of_another_checker_gives_up benches p =
      let same : ◌≡◌ {A = Sender F A} (sender.NotStarted part.Worker) (sender.Ready feed lane) =
      p.each 0 sender.NotOpened running.Lost (omega arith) in absurd cc

-- ---- settling

module _ {F A : Type 0} (done : ReaderDone F A) (bench : Bench A) (port : Port A) where
  -- the lane has its end, and the outcome is that it has none
  unsettled_where_the_lane_has_its_end :
      (end : LaneEnd Item A) (reports : Option (LaneEnd Report A)) → done.lane_end ≡ Some end →
      ¬ SaysHowFar None (sender.Joined done bench reports) outcome.Unsettled
  unsettled_where_the_lane_has_its_end end reports has far =
      absurd (false≢true (rw has at far))

  -- so has the report lane
  unsettled_where_both_lanes_have_their_ends :
      (end : LaneEnd Item A) (reports : LaneEnd Report A) → done.lane_end ≡ Some end →
      ¬ SaysHowFar (Some port) (sender.Joined done bench (Some reports)) outcome.Unsettled
  unsettled_where_both_lanes_have_their_ends end reports has far =
      absurd (false≢true (rw has at far))

-- ---- lines

abbrev first_line : List (List ℕ) → List ℕ
first_line [] = []
first_line (line ∷ lines) = line

-- the end line of a process, which is no line of a report, stands before that of its last report
end_line_before_last_report :
    (F A : Type 0) (feed : F) (end : End) (process : ℕ) (last : Report) (reports : Vec Report A) →
    reports.items ≡ last ∷ [] →
    end_line process (ending_of (outcome.Settled feed end reports)) ≢ report_line process last →
    ¬ ArePrintedOf process (outcome.Settled feed end reports)
    (end_line process (ending_of (outcome.Settled feed end reports))
    ∷ report_line process last ∷ [])
end_line_before_last_report F A feed end process last reports one apart printed =
    let own : printed.reports ≡ last ∷ [] = printed.own refl ∙ one in
    apart (ap first_line (rw own at printed.lines_are))

-- ---- texts

-- what was held back does not go out
held_back_text_is_dropped : ¬ Appends (Some []) (Some []) (97 ∷ [])
held_back_text_is_dropped appended = absurd cc

-- ---- statuses

module _ {F A : Type 0} (feed : F) (n offset : ℕ) (reports : Vec Report A) where
  -- a stream without its close counts as checked to its close
  no_close_counts_as_closed :
      status_of {F = F} {A = A}
      (outcome.Settled feed (end_as fate.NoClose n offset) reports ∷ []) true ≢ clean
  no_close_counts_as_closed same = absurd (omega arith)

  -- a sender that came to nothing counts as checked
  not_started_counts_as_closed : status_of {F = F} {A = A} (outcome.NotStarted ∷ []) true ≢ clean
  not_started_counts_as_closed same = absurd (omega arith)

  -- a report hides that not everything was written
  report_hides_a_failed_write :
      status_of {F = F} {A = A}
      (outcome.Settled feed (end_as fate.Closed n offset) reports ∷ []) false ≢ reported
  report_hides_a_failed_write same = absurd (omega arith)
