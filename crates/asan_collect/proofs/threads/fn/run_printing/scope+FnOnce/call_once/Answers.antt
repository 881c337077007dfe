use Rattle.asan_collect.proofs.threads.fn.run_printing.scope+FnOnce.call_once.Goals as goal

-- the bounds of the types that go to other threads, and then the closure's own condition
pub scope-requires : goal.scope-requires
scope-requires g c =
    let bounds = c.requires.1.1.1.1.1.1 in
    let own = c.requires.1.1.1.1.1.0 in
    (bounds.0, (bounds.1, (bounds.2, (bounds.3, (bounds.4, own)))))
