use Rattle.std.proofs.Common.{◌∙◌, arith}
use Rattle.line_map.proofs.Branches.{pushed}
use Rattle.line_map.proofs.branch.Branch.keep.Goals as goal

pub loop-place-preserved : goal.loop-place-preserved
loop-place-preserved g c =
    let branch = c.loop-place.self in
    let items = c.in_ok-push.ensures.items in
    record {
      at = c.loop-place.invariant.at;
      long = (let len = c.in_ok-push.ensures.len in let le = c.loop-place.invariant.long in omega arith);
      same = λ line.
          rw items (pushed g.S.Node.tag_at g.S.Node.width branch.first branch.kept.items c.empty-in-loop-place.result
          c.empty-in-loop-place.ensures line)
          ∙ c.loop-place.invariant.same line;
    }
