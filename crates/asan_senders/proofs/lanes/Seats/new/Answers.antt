use Rattle.std.proofs.Common.{arith}
use Rattle.asan_senders.proofs.lanes.Seats.new.Goals as goal

pub returns-clause-empty : goal.returns-clause-empty
returns-clause-empty g c =
    let shares = c.in_ok-shares.ensures in
    record {
      no_senders = c.in_ok-senders.ensures.items;
      for_senders = c.in_ok-senders.ensures.capacity;
      no_ports = c.in_ok-ports.ensures.items;
      for_ports = c.in_ok-ports.ensures.capacity;
      some_shares = omega (arith, shares.0, c.args.options.some_worker);
      no_benches = rw shares.0 shares.1;
    }

pub no_shares-requires-clause-some : goal.no_shares-requires-clause-some
no_shares-requires-clause-some g c = c.args.options.some_worker

pub no_shares-requires-clause-few : goal.no_shares-requires-clause-few
no_shares-requires-clause-few g c = c.args.options.workers_in_range
