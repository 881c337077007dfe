use Rattle.std.proofs.Common.{◌%◌, sym, ◌∙◌, arith}
use Rattle.std.specs.Prelude.{OnOk, OnErr}
use Rattle.std.proofs.lemmas.Result.{on_ok_weaker, on_err_weaker}
use Rattle.line_map.specs.Trees.{tree_tag}
use Rattle.line_map.specs.Entries.{AreInLine}
use Rattle.line_map.proofs.Found.{either, in-line-put, of-same, of-insert, unmarked}
use Rattle.line_map.proofs.map.LineMap.insert.Goals as goal

pub invariant_of-self : goal.invariant_of-self
invariant_of-self g c =
    let tags = tree_tag c.self.inside.tree in
    let new = tree_tag c.put.new.self in
    let ok : OnOk c.put.result (AreInLine new) =
    on_ok_weaker c.put.result
    (λ put. in-line-put tags new c.args.at (record { offset = c.args.at % 64; slot = c.args.slot }) (omega arith)
    c.self.invariant put) c.put.ensures.ok in
    let err : OnErr c.put.result (AreInLine new) =
    on_err_weaker c.put.result (λ same line tag lt is. c.self.invariant line tag lt (sym (same line) ∙ is))
    c.put.ensures.err in
    either c.put.result ok err

pub returns : goal.returns
returns g c =
    let tags = tree_tag c.self.inside.tree in
    let new = tree_tag c.put.new.self in
    rw (← c.self.view_is) (record {
      ok = on_ok_weaker c.put.result
          (λ put. of-insert tags new c.args.at c.args.slot c.self.invariant put
          (unmarked tags c.self.invariant c.args.at (omega arith) (rw c.self.view_is c.requires.alone))
          (omega arith))
          c.put.ensures.ok;
      err = on_err_weaker c.put.result (λ same. of-same tags new same) c.put.ensures.err;
    })
