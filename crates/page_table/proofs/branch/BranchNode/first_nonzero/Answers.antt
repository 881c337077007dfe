use Rattle.std.proofs.Common.{◌≡◌, ℕ, ◌+◌, ◌-◌, ◌/◌, ◌%◌, ◌<◌, ◌≤◌, sym, ap, ◌∙◌, arith, inl, inr, length}
use Rattle.std.proofs.lemmas.Bool.{cases_lt}
use Rattle.std.proofs.Math.Nat.{mod-lt}
use Rattle.page_table.specs.Branches.{branch_byte}
use Rattle.page_table.proofs.Branches.{node_from, rest_from}
use Rattle.page_table.proofs.branch.BranchNode.first_nonzero.Goals as goal

pub returns-then-self-eq0 : goal.returns-then-self-eq0
returns-then-self-eq0 g c other low high =
    let width = g.S.Node.width in
    let old = c.args.self.now in
    let i = c.loop-index.index in
    let positive = (g.met.S.Node.is_width c.requires.fits.1).0 in
    let missing : length old.kept.items ≤ i / width =
    rw (← c.width-width.ensures) (let is = old.kept.ok.0 in let past = c.if-place-len.true in
    let len = c.len.ensures in omega arith) in
    elim (cases_lt other i) [
      | inl before ↦ c.loop-index.invariant.none other low before
      | inr from_here ↦ rest_from g.S.Node.byte_at width old.kept.items i old.rest other positive missing from_here
          ∙ c.if-self-eq0.true
    ]

pub returns-in-Some : goal.returns-in-Some
returns-in-Some g c =
    let byte_at = g.S.Node.byte_at in
    let width = g.S.Node.width in
    let old = c.args.self.now in
    let i = c.loop-index.index in
    let start = i - i % width in
    let found = c.in-Some.found in
    let node = c.index.result.now in
    let lt : i / width < length old.kept.items =
    rw (← c.width-width.ensures) (let is = old.kept.ok.0 in let within = c.if-place-len.false in
    let len = c.len.ensures in omega arith) in
    let lent = rw c.width-width.ensures at c.index.ensures in
    let next_is = rw c.width-width.ensures at c.min-next.ensures in
    let e = rw c.width-width.ensures at c.in-Some.ensures in
    let reached = e.0 in
    let below = e.1 in
    let from_low = c.loop-index.invariant.low in
    let inside : (other : ℕ) → start ≤ other → other < start + width
    → branch_byte byte_at width old other ≡ byte_at node (other - start) =
    λ other low high. node_from byte_at width old.kept.items i old.rest other node lt lent low high in
    rw c.width-width.ensures (
      omega arith,
      omega arith,
      λ other low high. elim (cases_lt other i) [
        | inl before ↦ c.loop-index.invariant.none other low before
        | inr from_here ↦ inside other (omega arith) (omega arith) ∙ e.2 (other - start) (omega arith) (omega arith)
      ],
      λ is.
          let same : start + found - start ≡ found = omega arith in
          e.3 (ap (byte_at node) (sym same) ∙ sym (inside (start + found) (omega arith) (omega arith)) ∙ is),
    )

pub loop-index-preserved : goal.loop-index-preserved
loop-index-preserved g c =
    let byte_at = g.S.Node.byte_at in
    let width = g.S.Node.width in
    let old = c.args.self.now in
    let i = c.loop-index.index in
    let start = i - i % width in
    let node = c.index.result.now in
    let positive = (g.met.S.Node.is_width c.requires.fits.1).0 in
    let less = mod-lt i positive in
    let lt : i / width < length old.kept.items =
    rw (← c.width-width.ensures) (let is = old.kept.ok.0 in let within = c.if-place-len.false in
    let len = c.len.ensures in omega arith) in
    let lent = rw c.width-width.ensures at c.index.ensures in
    let next_is = rw c.width-width.ensures at c.min-next.ensures in
    let e = rw c.width-width.ensures at c.in_default.ensures in
    let from_low = c.loop-index.invariant.low in
    let test = c.loop-index-test.true in
    record {
      low = omega arith;
      none = λ other low high. elim (cases_lt other i) [
        | inl before ↦ c.loop-index.invariant.none other low before
        | inr from_here ↦
            node_from byte_at width old.kept.items i old.rest other node lt lent (omega arith) (omega arith)
            ∙ e (other - start) (omega arith) (omega arith)
      ];
    }
