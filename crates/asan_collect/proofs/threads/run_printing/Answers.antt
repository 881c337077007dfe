use denote.Param.Send.{Quiet-if}
use mir.Syntax.{of_param}
use Rattle.asan_collect.proofs.threads.run_printing.Goals as goal

-- the closure's own condition, and then the bounds of the types that go to other threads
pub scoped-back-requires : goal.scoped-back-requires
scoped-back-requires g c =
    let fresh = c.requires in
    let bounds = c.type_bounds in
    record {
      at = λ a. (
        fresh,
        (
          record { owned = bounds.send-F.owned; leaving = λ k. Quiet-if (k (of_param 0)) _ _ (λ x w. tt) (λ x w. tt) },
          bounds.send-A,
          record { shared = bounds.sync-G.shared },
          record { shared = bounds.sync-R.shared },
          bounds.frees-A-Allocator,
        ),
      );
    }
