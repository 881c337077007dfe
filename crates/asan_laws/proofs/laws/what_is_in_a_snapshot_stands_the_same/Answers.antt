use Rattle.asan_laws.proofs.Snapshots.{snapshot_live, snapshot_held, snapshot_quiet, snapshot_stands, shaded_by}
use Rattle.asan_laws.proofs.laws.what_is_in_a_snapshot_stands_the_same.Goals as goal

pub returns-clause-live : goal.returns-clause-live
returns-clause-live c = snapshot_live

pub returns-clause-held : goal.returns-clause-held
returns-clause-held c = snapshot_held

pub returns-clause-quiet : goal.returns-clause-quiet
returns-clause-quiet c = snapshot_quiet

pub returns-clause-stands : goal.returns-clause-stands
returns-clause-stands c = snapshot_stands

pub returns-clause-poisoned : goal.returns-clause-poisoned
returns-clause-poisoned c bound laid later poison granule are clear from to =
    shaded_by bound laid later poison granule are clear from to
