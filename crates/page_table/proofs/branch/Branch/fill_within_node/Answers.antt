use Rattle.std.proofs.Common.{◌≡◌, ℕ, ◌+◌, ◌-◌, ◌*◌, ◌/◌, ◌%◌, ◌<◌, ◌≤◌, refl, sym, ap, ◌∙◌, arith, length}
use Rattle.std.specs.Prelude.{vec_len}
use Rattle.std.proofs.lemmas.Result.{err_from_is_err_and, on_ok_weaker, on_err_weaker}
use Rattle.std.proofs.lemmas.Nat.{div-mul-add, div-add-mod'}
use Rattle.std.proofs.Math.Nat.{mod-lt}
use Rattle.std.specs.Vec.{with_item}
use Rattle.page_table.specs.declared.branch.TheConstants.{NODES}
use Rattle.page_table.specs.Branches.{branch_byte}
use Rattle.page_table.specs.Nodes.{IsFilled}
use Rattle.page_table.proofs.Branches.{past_the_kept, node_byte, node_filled, rest_filled}
use Rattle.page_table.proofs.Fills.{broken_off_at_once}
use Rattle.page_table.proofs.branch.Branch.fill_within_node.Goals as goal
use Rattle.page_table.proofs.branch.Branch.fill_within_node.Goals.{then-place-len+else-self-byte+in_ok-keep}
use Rattle.page_table.proofs.branch.Branch.fill_within_node.Goals.{else-place-len}

pub returns-then-self-byte-clause-ok : goal.returns-then-self-byte-clause-ok
returns-then-self-byte-clause-ok g c index lt =
    let old = c.args.self.now in
    let missing : length old.kept.items ≤ c.args.from / g.S.Node.width =
    rw (← c.width-width.ensures) (let is = old.kept.ok.0 in let past = c.if-place-len.true in
    let len = c.len.ensures in omega arith) in
    rest_filled g.S.Node.byte_at g.S.Node.width old.kept.items c.args.from c.args.to c.args.byte old.rest index
    (let order = c.requires.order in omega arith) c.requires.within missing c.if-self-byte.true

pub returns-in_err-keep-clause-err : goal.returns-in_err-keep-clause-err
returns-in_err-keep-clause-err g c =
    let p = err_from_is_err_and c.from_residual.result c.from_residual.ensures.1 in
    let old = c.args.self.now in
    let width = g.S.Node.width in
    let missing : length old.kept.items ≤ c.args.from / width =
    rw (← c.width-width.ensures) (let is = old.kept.ok.0 in let past = c.if-place-len.true in
    let len = c.len.ensures in omega arith) in
    let rest : branch_byte g.S.Node.byte_at width old c.args.from ≡ old.rest =
    past_the_kept (λ node. g.S.Node.byte_at node (c.args.from % width)) old.kept.items (c.args.from / width)
    old.rest missing in
    rw p.1 (broken_off_at_once (NODES * width) (branch_byte g.S.Node.byte_at width old) _ c.args.from c.args.to
    c.args.byte c.requires.order
    (λ same. c.if-self-byte.false (sym rest ∙ same)) c.keep.ensures.same)

pub returns : goal.returns
returns g c =
    let byte_at = g.S.Node.byte_at in
    let width = g.S.Node.width in
    let old = c.args.self.now in
    let branch = c.if-place-len.self in
    let first = c.args.from % width in
    let positive = (g.met.S.Node.is_width c.requires.fits).0 in
    let grown : (c.args.from / c.width-width.result < vec_len branch.kept)
    × ((index : ℕ) → branch_byte byte_at width branch index ≡ branch_byte byte_at width old index) =
    elim c.if-place-len.branch [
      | then-place-len+else-self-byte+in_ok-keep w ↦
          rw w.self-is (let long = w.in_ok-keep.ensures.ok in omega arith, w.keep.ensures.same)
      | else-place-len w ↦ rw w.self-is (
        let lt = w.if-place-len.false in let len = c.len.ensures in
            omega arith,
        λ index. refl,
      )
    ] in
    let lt : c.args.from / width < length branch.kept.items =
    rw (← c.width-width.ensures) (let is = branch.kept.ok.0 in let long = grown.0 in omega arith) in
    let end : first + (c.args.to - c.args.from) ≤ width = let within = c.requires.within in
    let order = c.requires.order in let less = mod-lt c.args.from positive in omega arith in
    let lent = rw c.width-width.ensures at c.index_mut.ensures.value in
    let filled : (stop : ℕ) → c.args.from ≤ stop → stop ≤ c.args.to →
    IsFilled width (byte_at c.index_mut.result.now) (byte_at c.fill.new.self) first (first + (stop - c.args.from))
    c.args.byte →
    IsFilled (NODES * width) (branch_byte byte_at width old)
    (branch_byte byte_at width (record {
      kept = with_item branch.kept (c.args.from / width) c.fill.new.self;
      rest = branch.rest;
    })) c.args.from stop c.args.byte =
    λ stop order most node index below. node_filled byte_at width branch.kept.items c.args.from stop c.args.byte
    branch.rest index order (let within = c.requires.within in omega arith)
    c.index_mut.result.now c.fill.new.self positive lt lent node ∙ rw (grown.1 index) refl in
    rw c.width-width.ensures (record {
      ok = on_ok_weaker c.fill.result (λ node. filled c.args.to (let order = c.requires.order in
          omega arith) (omega arith) node) (rw c.width-width.ensures at c.fill.ensures.ok);
      err = on_err_weaker c.fill.result
          (λ torn.
          let stop = c.args.from + (torn.0 - first) in
          let low = torn.1 in
          let below = torn.2 in
          let place : first + (stop - c.args.from) ≡ torn.0 = omega arith in
          let split : c.args.from / width * width + first ≡ c.args.from = div-add-mod' c.args.from width in
          let inside : torn.0 < width = omega arith in
          let stop_is : stop ≡ c.args.from / width * width + torn.0 = omega arith in
          let node : stop / width ≡ c.args.from / width = ap (λ n. n / width) stop_is
          ∙ div-mul-add (c.args.from / width) width torn.0 inside in
          let also : stop / width * width + stop % width ≡ stop = div-add-mod' stop width in
          let same : stop % width ≡ torn.0 = (let alike = rw node at also in omega arith) in (
            stop,
            omega arith,
            omega arith,
            filled stop (omega arith) (omega arith) (rw place torn.3),
            λ is. torn.4 (ap (byte_at c.index_mut.result.now) (sym same)
                ∙ sym (node_byte byte_at width branch.kept.items (c.args.from / width) branch.rest stop
                c.index_mut.result.now lt lent node)
                ∙ grown.1 stop ∙ is),
          ))
          (rw c.width-width.ensures at c.fill.ensures.err);
    })
