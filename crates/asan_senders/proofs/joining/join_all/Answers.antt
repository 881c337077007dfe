use Rattle.asan_senders.proofs.joining.join_all.Goals as goal

pub join_workers-requires : goal.join_workers-requires
join_workers-requires g c = c.requires

pub returns-clause-senders : goal.returns-clause-senders
returns-clause-senders g c = c.join_readers.ensures

pub returns-clause-shares : goal.returns-clause-shares
returns-clause-shares g c = c.join_workers.ensures
