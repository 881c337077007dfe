use Rattle.std.proofs.Common.{◌++◌, ◌≤◌, codes, decimal, length, append_assoc}
use Rattle.asan_check.specs.Lines.{fate_text}
use Rattle.asan_check.proofs.Pieces.{both, pushed, on_ok, ran_short}
use Rattle.asan_check.proofs.lines.push_ending.Goals as goal

pub returns-in_ok-push_number-in-NoMemory-clause-appends : goal.returns-in_ok-push_number-in-NoMemory-clause-appends
returns-in_ok-push_number-in-NoMemory-clause-appends g c =
    let checked = codes "no-memory checked " ++ decimal c.in-NoMemory.checked in
    let label = codes " reports " in
    let reports = decimal c.in-NoMemory.reports in
    let first = rw c.in_ok-push_number-in-NoMemory.was at c.push_number-in-NoMemory.ensures.appends in
    rw (c.in-NoMemory.is, append_assoc checked label reports) (
    both checked (label ++ reports) _ _ _ _ first c.push_number-in-NoMemory-2.ensures.appends
    )

pub returns-in-NotStarted-clause-appends : goal.returns-in-NotStarted-clause-appends
returns-in-NotStarted-clause-appends g c =
    let p = c.push_str-in-NotStarted in
    rw c.in-NotStarted.is (pushed (codes "not-started") _ _ _ p.ensures.bytes p.ensures.full p.ensures.capacity)

pub returns-in_ok-push_number-in-Ran-2-clause-short : goal.returns-in_ok-push_number-in-Ran-2-clause-short
returns-in_ok-push_number-in-Ran-2-clause-short g c =
    let fate = fate_text c.in-Ran.end.fate in
    let events = decimal c.in-Ran.end.events in
    let offset = decimal c.in-Ran.end.offset in
    let reports = decimal c.in-Ran.reports in
    let first : length fate ≤ 16 = c.in_ok-push_fate-in-Ran.ensures.short in
    let second : length events ≤ 20 = c.push_number.ensures.short in
    let third : length offset ≤ 20 = c.push_number-in-Ran.ensures.short in
    let fourth : length reports ≤ 20 = c.push_number-in-Ran-2.ensures.short in
    on_ok c.push_number-in-Ran-2.result (rw c.in-Ran.is
    (ran_short fate events offset reports first second third fourth))
