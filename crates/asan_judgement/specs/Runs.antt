-- What a run came to, and which of its statuses is due: the page of asancol-run says it to users,
-- under STATUS.
use Rattle.std.specs.Prelude.{◌≡◌, ◌≢◌, ◌⊎◌, ◌==◌, ◌||◌, Bool, true, false, List, not, if◌then◌else◌}
use Rattle.std.specs.List.{list_all, list_any}
use Rattle.asan_judgement.specs.Complete.{is_complete}
use Rattle.asan_judgement.specs.declared.verdict.Answer.{Answer}
use Rattle.asan_judgement.specs.declared.verdict.Answer.TheVariants as answer
use Rattle.asan_judgement.specs.declared.run.Process.{Process}
use Rattle.asan_judgement.specs.declared.run.Said.{Said}
use Rattle.asan_judgement.specs.declared.run.Said.TheVariants as said
use Rattle.asan_judgement.specs.declared.run.Run.{Run}
use Rattle.asan_judgement.specs.declared.run.Statuses.{Statuses}

abbrev pub was_complete : Process → Bool
was_complete p = is_complete p.answer

-- no code of it is checked
abbrev pub is_unchecked : Answer → Bool
is_unchecked answer.Unchecked = true
is_unchecked _ = false

abbrev pub was_unchecked : Process → Bool
was_unchecked p = is_unchecked p.answer

abbrev pub was_complete_or_unchecked : Process → Bool
was_complete_or_unchecked p = was_complete p || was_unchecked p

abbrev pub has_report : Process → Bool
has_report p = not (p.reports == 0)

-- a report counts, by the word of asancol-report; if that has failed, each report counts
abbrev pub is_report_counted : Said → List Process → Bool
is_report_counted said.Clean _ = false
is_report_counted said.Counts _ = true
is_report_counted said.Incomplete _ = false
is_report_counted said.Nothing ps = list_any has_report ps

-- asancol-report has failed, or it says that something was not seen; if nothing was recorded it
-- says so of each run
abbrev pub misses : Said → Bool → Bool
misses said.Nothing _ = true
misses said.Incomplete is_empty = not is_empty
misses _ _ = false

-- all was seen: nothing was cut short, and each process was complete; or nothing was recorded, and
-- each process was complete or is one without checks
abbrev pub all_seen : Run → List Process → Bool
all_seen run ps =
    if run.is_cut_short || misses run.said run.is_empty then false
    else (if run.is_empty then list_all was_complete_or_unchecked ps
    else list_all was_complete ps)

-- none of the three leaves the command's status as it is: the defaults are 99, 98 and 98
pub record AreUsual (statuses : Statuses) : Type 0 where
  pub reports : statuses.reports ≢ 0
  pub incomplete : statuses.incomplete ≢ 0
  pub nothing : statuses.nothing ≢ 0

-- no report makes the status
abbrev pub NoReportSays : Statuses → Run → List Process → Type 0
NoReportSays statuses run ps =
    (is_report_counted run.said ps ≡ false) ⊎ (statuses.reports ≡ 0)
