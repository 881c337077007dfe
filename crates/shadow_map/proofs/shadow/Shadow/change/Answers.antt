use Rattle.std.proofs.Common.{◌≡◌, cond, ltb, false, refl, ℕ, ◌≤◌, ◌<◌, ◌+◌, ◌*◌, ◌/◌, sym, ◌∙◌, arith}
use Rattle.std.proofs.lemmas.Bool.Decides.{nat_tests}
use Rattle.std.proofs.lemmas.Result.{err_from_is_err_and, on_ok_weaker, on_err_weaker}
use Rattle.shadow_map.specs.Shows.{value_at}
use Rattle.shadow_map.proofs.Fills.{changed_nothing, change_within, first_unchanged, first_changed, inside_changed}
use Rattle.shadow_map.proofs.Fills.{last_changed}
use Rattle.shadow_map.proofs.shadow.Shadow.change.Goals as goal

-- a call that stands at a place has not changed that place yet
module _ (old now new : ℕ → ℕ) (place : ℕ) (upto : (k : ℕ) → now k ≡ cond (ltb k place) (new k) (old k)) where
  from_place : (k : ℕ) → place ≤ k → now k ≡ old k
  from_place k le = let past : ltb k place ≡ false = grind (arith, nat_tests) in upto k ∙ rw past refl

pub returns-then-size-eq0-clause-ok : goal.returns-then-size-eq0-clause-ok
returns-then-size-eq0-clause-ok g c k =
    let none : c.args.size ≡ 0 = c.if-size-eq0.true in
    sym (changed_nothing c.args.change (value_at c.args.self.now k) _ _ (omega arith))

pub returns-in_err-change_edge-clause-err : goal.returns-in_err-change_edge-clause-err
returns-in_err-change_edge-clause-err g c =
    let p = err_from_is_err_and c.from_residual.result c.from_residual.ensures.1 in
    let at = c.args.at in
    let end = at + c.args.size in
    let old : ℕ → ℕ = λ k. value_at c.args.self.now k in
    let e = c.in_err-change_edge.ensures.err in
    let some = c.if-size-eq0.false in
    rw p.1 record {
      byte = at;
      in_range = (omega arith, omega arith);
      values = λ k. e.1 k ∙ first_unchanged c.args.change at end old k;
      due = e.2;
    }

pub returns-in_err-fill-clause-err : goal.returns-in_err-fill-clause-err
returns-in_err-fill-clause-err g c =
    let p = err_from_is_err_and c.from_residual-in_err-fill.result c.from_residual-in_err-fill.ensures.1 in
    let at = c.args.at in
    let end = at + c.args.size in
    let old : ℕ → ℕ = λ k. value_at c.args.self.now k in
    let one : ℕ → ℕ = λ k. value_at c.change_edge.new.self k in
    let two : ℕ → ℕ = λ k. value_at c.fill.new.self k in
    let up : c.div_ceil-first.result ≡ (at + 7) / 8 = omega arith in
    let first = first_changed c.args.change at end old one c.in_ok-change_edge.ensures.ok in
    let e = rw (c.inside.ensures, up) at c.in_err-fill.ensures.err in
    let low = e.1 in
    let below = e.2 in
    let max_is = c.max.ensures in
    let inside : e.0 < end / 8 = omega arith in
    let place : 8 * e.0 / 8 ≡ e.0 = omega arith in
    rw p.1 record {
      byte = 8 * e.0;
      in_range = (omega arith, omega arith);
      values = rw place (inside_changed c.args.change at end old one two e.0 e.1 (omega arith) first e.3);
      due = rw place (λ is. e.4 (from_place old one _ ((at + 7) / 8) first e.0 e.1 ∙ sym is
          ∙ change_within c.args.change (old e.0) at end e.0 e.1 inside));
    }

pub returns-then-first-stop : goal.returns-then-first-stop
returns-then-first-stop g c =
    let at = c.args.at in
    let end = c.args.at + c.args.size in
    let old : ℕ → ℕ = λ k. value_at c.args.self.now k in
    let one : ℕ → ℕ = λ k. value_at c.change_edge.new.self k in
    let two : ℕ → ℕ = λ k. value_at c.fill.new.self k in
    let three : ℕ → ℕ = λ k. value_at c.change_edge-then-first-stop.new.self k in
    let up : c.div_ceil-first.result ≡ (at + 7) / 8 = omega arith in
    let whole : c.max.result ≡ end / 8 = let le = c.if-first-stop.true in let is = c.max.ensures in omega arith in
    let first = first_changed c.args.change at end old one c.in_ok-change_edge.ensures.ok in
    let some : (at + 7) / 8 ≤ end / 8 = let le = c.if-first-stop.true in omega arith in
    let inside = inside_changed c.args.change at end old one two (end / 8) some (omega arith) first
    (rw (c.inside.ensures, up, whole) at c.in_ok-fill.ensures.ok) in
    record {
      ok = on_ok_weaker c.change_edge-then-first-stop.result
          (λ each. last_changed c.args.change at end old two three (omega arith) inside each)
          c.change_edge-then-first-stop.ensures.ok;
      err = on_err_weaker c.change_edge-then-first-stop.result
          (λ e.
          let cut = e.0 in
          let place : 8 * (end / 8) / 8 ≡ end / 8 = omega arith in
          record {
            byte = 8 * (end / 8);
            in_range = (omega arith, omega arith);
            values = rw place (λ k. e.1 k ∙ inside k);
            due = rw place (rw (from_place old two _ (end / 8) inside (end / 8) (omega arith)) at e.2);
          })
          c.change_edge-then-first-stop.ensures.err;
    }
