use Rattle.std.proofs.Common.{drop, rules, take}
use Rattle.std.proofs.KnownBytes.{Appends-trans}
use Rattle.std.proofs.Math.Seq.{take-add}
use Rattle.std.proofs.lemmas.List.{take_rest}
use Rattle.trace_feed.proofs.put.put_all.Goals as goal

pub loop-written-preserved : goal.loop-written-preserved
loop-written-preserved g c =
    let all = c.args.bytes.now in let written = c.loop-written.written in let count = c.in-Ok.count in (
      search rules,
      rw (take-add written count all) (
          Appends-trans _ _ _ (take written all) (take count (drop written all)) c.loop-written.invariant.1
          (rw (take_rest all written) at c.in-Ok.ensures.bytes)
          ),
    )
