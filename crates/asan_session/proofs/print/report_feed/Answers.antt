use Rattle.std.proofs.Common.{rules}
use Rattle.asan_session.proofs.print.report_feed.Goals as goal

pub returns-clause-ok : goal.returns-clause-ok
returns-clause-ok g c =
    let usual = c.usual.ensures in (
      c.usual.result,
      c.check_feed-outcome.result,
      (usual.quarantine, usual.ring, usual.workers, usual.limit, usual.memory),
      c.check_feed-outcome.ensures.outcome,
      search rules,
    )
