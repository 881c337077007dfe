use Rattle.std.proofs.Common.{refl}
use Rattle.std.proofs.lemmas.List.Sorted.{IsPermutation-refl}
use Rattle.asan_check.proofs.checker.Checker.new.Goals as goal

pub returns-clause-stands : goal.returns-clause-stands
returns-clause-stands g c =
    let book = c.in_ok-book.ensures.ok in
    record {
      running = refl;
      shown = record {
        shadow = c.new-2.ensures;
        live_blocks = rw book.0 (IsPermutation-refl _);
        queue = book.1;
        bound_is = book.2;
      };
      count = refl;
      reports = c.new-3.ensures.items;
    }
