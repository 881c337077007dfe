-- What each reason says of a process: run/judgement_rows.h has its text.
use Rattle.std.specs.Prelude.{◌≡◌, ◌≢◌, ◌⊎◌, true, false}
use Rattle.asan_judgement.specs.declared.facts.Fate.{Fate}
use Rattle.asan_judgement.specs.declared.facts.Fate.TheVariants as fate
use Rattle.asan_judgement.specs.declared.facts.Ending.{Ending}
use Rattle.asan_judgement.specs.declared.facts.Ending.TheVariants as ending
use Rattle.asan_judgement.specs.declared.facts.Facts.{Facts}
use Rattle.asan_judgement.specs.declared.verdict.Answer.{Answer}
use Rattle.asan_judgement.specs.declared.verdict.Answer.TheVariants as answer
use Rattle.asan_judgement.specs.declared.verdict.Why.{Why}
use Rattle.asan_judgement.specs.declared.verdict.Why.TheVariants as why
use Rattle.asan_judgement.specs.Complete.{is_cut_off, is_ended_from_outside}

-- the trace breaks off, and nothing says how the process ended: it is gone, and nothing bad of it
-- is missing
abbrev pub IsGoneAbruptly : Fate → Ending → Facts → Type 0
IsGoneAbruptly f e facts =
    (is_cut_off f ≡ true) × (e ≡ ending.Unheard) × (facts.gone ≡ true)
    × (facts.none_missing ≡ true)

-- the trace breaks off or is damaged, and nothing says how the process ended
abbrev pub HasNoEnd : Fate → Ending → Type 0
HasNoEnd f e = ((is_cut_off f ≡ true) ⊎ (f ≡ fate.Malformed)) × (e ≡ ending.Unheard)

-- the reason is true of the process
abbrev pub IsTrueOf : Why → Fate → Ending → Facts → Type 0
IsTrueOf why.StillRan _ _ facts = (facts.by_wait ≡ true) × (facts.all_came ≡ false)
IsTrueOf why.TimedOut f e facts =
    (facts.by_timeout ≡ true) × (f ≢ fate.Closed) × (is_ended_from_outside e ≡ true)
IsTrueOf why.CheckerKilled f _ facts = (f ≡ fate.NotChecked) × (facts.killed ≡ true)
IsTrueOf why.CheckerFailed f _ facts = (f ≡ fate.NotChecked) × (facts.killed ≡ false)
IsTrueOf why.DiedInside _ _ facts = facts.inside ≡ true
IsTrueOf why.LeftOutOfOneSegment _ _ facts =
    (facts.limit ≡ true) × (facts.left_out ≡ true) × (facts.one_segment ≡ true)
IsTrueOf why.LeftOut _ _ facts =
    (facts.limit ≡ true) × (facts.left_out ≡ true) × (facts.one_segment ≡ false)
IsTrueOf why.AtLimit _ _ facts = (facts.limit ≡ true) × (facts.left_out ≡ false)
IsTrueOf why.OwnCall _ _ facts = facts.own_call ≡ true
IsTrueOf why.FindingsLost _ _ facts = facts.findings_lost ≡ true
IsTrueOf why.LeaksMissed _ _ facts = facts.leaks_missed ≡ true
IsTrueOf why.Contradiction _ _ facts = facts.contradiction ≡ true
IsTrueOf why.GoneUnchecked f e facts = IsGoneAbruptly f e facts × (facts.checks ≡ false)
IsTrueOf why.Replaced f e facts =
    IsGoneAbruptly f e facts × (facts.replaced ≡ true) × (facts.main ≡ true)
IsTrueOf why.ReplacedBeforeMain f e facts =
    IsGoneAbruptly f e facts × (facts.replaced ≡ true) × (facts.main ≡ false)
IsTrueOf why.Abrupt f e facts =
    IsGoneAbruptly f e facts × (facts.replaced ≡ false) × (facts.main ≡ true)
IsTrueOf why.AbruptByOthers f e facts =
    IsGoneAbruptly f e facts × (facts.replaced ≡ false) × (facts.main ≡ false)
    × (facts.by_others ≡ true)
IsTrueOf why.AbruptBeforeMain f e facts =
    IsGoneAbruptly f e facts × (facts.replaced ≡ false) × (facts.main ≡ false)
    × (facts.by_others ≡ false)
IsTrueOf why.CheckerHadNoMemory f _ _ = f ≡ fate.NoMemory
IsTrueOf why.CheckerAtLimit f _ _ = f ≡ fate.TooMany
IsTrueOf why.ClosedOffWithBadMissing _ _ facts =
    (facts.closed_off ≡ true) × (facts.bad_missing ≡ true) × (facts.all_came ≡ false)
IsTrueOf why.ClosedOffInOneSegment _ e facts =
    (e ≡ ending.Lost) × (facts.closed_off ≡ true) × (facts.all_came ≡ false)
IsTrueOf why.RecordingLost _ e facts =
    (e ≡ ending.Lost) × (facts.closed_off ≡ false) × (facts.all_came ≡ false)
IsTrueOf why.AbruptWithBadMissing f e facts = HasNoEnd f e × (facts.bad_missing ≡ true)
IsTrueOf why.MayStillRun f e facts =
    (f ≡ fate.Unwritten) × (e ≡ ending.Unheard) × (facts.file_alone ≡ true)
IsTrueOf why.LastNotSeen f e facts = HasNoEnd f e × (facts.file_alone ≡ false)
IsTrueOf why.BadMissing _ _ facts = (facts.bad_missing ≡ true) × (facts.all_came ≡ false)
IsTrueOf why.EndedAsFate _ _ facts = (facts.bad_missing ≡ false) × (facts.all_came ≡ false)
IsTrueOf why.NothingBeside _ _ facts = facts.beside ≡ false
IsTrueOf why.Unchecked _ _ facts = facts.checks ≡ false
IsTrueOf why.BySignal _ e facts = (e ≡ ending.Signal) × (facts.main ≡ true)
IsTrueOf why.BySignalOfOthers _ e facts =
    (e ≡ ending.Signal) × (facts.main ≡ false) × (facts.by_others ≡ true)
IsTrueOf why.BySignalBeforeMain _ e facts =
    (e ≡ ending.Signal) × (facts.main ≡ false) × (facts.by_others ≡ false)
IsTrueOf why.Seen _ e facts = (e ≢ ending.Signal) × (facts.all_came ≡ true)

-- what a process counts as for each reason: the rows of run/judgement_rows.h pair the two
abbrev pub answer_for : Why → Answer
answer_for why.Seen = answer.Complete
answer_for why.BySignal = answer.Complete
answer_for why.Replaced = answer.Complete
answer_for why.Abrupt = answer.UpToThere
answer_for why.AbruptByOthers = answer.UpToThere
answer_for why.BySignalOfOthers = answer.UpToThere
answer_for why.AbruptBeforeMain = answer.BeforeMain
answer_for why.BySignalBeforeMain = answer.BeforeMain
answer_for why.ReplacedBeforeMain = answer.BeforeMain
answer_for why.Unchecked = answer.Unchecked
answer_for why.GoneUnchecked = answer.Unchecked
answer_for _ = answer.Incomplete
