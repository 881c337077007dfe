use Rattle.std.proofs.Common.{rules, ◌<◌, length, arith, subst}
use Rattle.std.specs.Prelude.{IsTrue, false}
use Rattle.asan_stream.proofs.Later.{each_refl, each_worked, no_more_worked, reported_worked}
use Rattle.asan_stream.proofs.worker.go_round.Goals.{in-Items, in-None, in-End}
use Rattle.asan_stream.proofs.worker.go_round.Goals as goal

pub loop-i-init : goal.loop-i-init
loop-i-init g c = (
  each_refl c.args.benches.now.items,
  λ ended k d below. absurd (omega arith),
  λ ended k d below. absurd (omega arith),
)

pub loop-i-preserved : goal.loop-i-preserved
loop-i-preserved g c =
    let low : c.loop-i.i < length c.loop-i.benches.items = search rules in (
      each_worked c.args.benches.now.items c.loop-i.benches.items c.loop-i.i c.index_mut-bench.result.now
          c.work.new.self low c.index_mut-bench.ensures.value c.work.ensures.later c.loop-i.invariant.0,
      λ ended. elim c.match-work.branch [
        | in-Items w ↦ let no : IsTrue false = subst (λ r. IsTrue r.ended) w.round-is ended in absurd cc
        | in-None w ↦ let no : IsTrue false = subst (λ r. IsTrue r.ended) w.round-is ended in absurd cc
        | in-End w ↦
            let before = c.loop-i.invariant.1 (subst (λ r. IsTrue r.ended) w.round-is ended) in
            reported_worked c.loop-i.benches.items c.loop-i.i c.work.new.self low before
            (c.work.ensures.ends w.in-End.is)
      ],
      λ ended. elim c.match-work.branch [
        | in-Items w ↦ let no : IsTrue false = subst (λ r. IsTrue r.ended) w.round-is ended in absurd cc
        | in-None w ↦ let no : IsTrue false = subst (λ r. IsTrue r.ended) w.round-is ended in absurd cc
        | in-End w ↦
            let before = c.loop-i.invariant.2 (subst (λ r. IsTrue r.ended) w.round-is ended) in
            no_more_worked c.loop-i.benches.items c.loop-i.i c.work.new.self low before
            (c.work.ensures.no_more w.in-End.is)
      ],
    )
