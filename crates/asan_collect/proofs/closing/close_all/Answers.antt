use Rattle.std.proofs.Common.{◌≡◌, ◌<◌, ◌∙◌, ◌∷◌, [], None, sym, subst, refl, ap, length, arith, rules}
use Rattle.std.proofs.Common.{slice_index_or, inl, inr}
use Rattle.std.proofs.lemmas.Bool.{cases_eq}
use Rattle.std.proofs.lemmas.List.{get_or_default, get_or-set_other, get_or_append_left, get_or_at}
use Rattle.asan_print.specs.Logs.{lines_of, report_lines}
use Rattle.asan_print.specs.Ports.{lane_at, taken_at}
use Rattle.asan_senders.specs.ReportLanes.{Fits, lanes_of}
use Rattle.asan_senders.specs.Senders.{IsJoined}
use Rattle.asan_senders.proofs.LastLines.{all_closed, fits_at_port, none_closed, one_closed}
use Rattle.asan_collect.proofs.closing.close_all.Goals as goal

pub loop-i-init : goal.loop-i-init
loop-i-init g c = record {
  same = refl;
  wide = refl;
  going = record {
    done = (let whole = c.args.room.ok in omega (arith, whole.0, ap length c.requires.empty));
    fits = (let few = c.requires.few in let room = c.requires.room in let whole = c.args.senders.ok in
        omega (arith, whole.0));
    rest = λ k d above. refl;
    each = λ k d e below. absurd (omega arith);
  };
  rest = λ k d above. refl;
  lines = λ start h. none_closed start _ c.args.printers.printer c.args.printers.ports.items c.args.room.items
      c.requires.empty h;
  far = λ k d e below. absurd (omega arith);
}

pub close-outcome-requires-clause-joined : goal.close-outcome-requires-clause-joined
close-outcome-requires-clause-joined g c =
    let inv = c.loop-i.invariant in
    let now = c.loop-i.senders.items in
    let i = c.loop-i.i in
    let whole = c.loop-i.senders.ok.0 in
    let low : i < length now = omega (arith, c.loop-i-test.true, c.len-i-end.ensures, inv.same) in
    let was = c.replace-sender.result in
    let is : was ≡ slice_index_or c.args.senders.items i was = c.replace-sender.ensures.value
    ∙ (c.index_mut.ensures.value ∙ (get_or_default now i c.index_mut.result.now was low
    ∙ inv.going.rest i was (omega arith))) in
    subst IsJoined (sym is) (c.requires.joined.each i was (omega (arith, inv.same)))

pub close-outcome-requires-clause-port : goal.close-outcome-requires-clause-port
close-outcome-requires-clause-port g c =
    let inv = c.loop-i.invariant in
    let now = c.loop-i.senders.items in
    let ports = c.loop-i.ports.items in
    let i = c.loop-i.i in
    let whole = c.loop-i.senders.ok.0 in
    let low : i < length now = omega (arith, c.loop-i-test.true, c.len-i-end.ensures, inv.same) in
    let first : i < length c.args.senders.items = omega (arith, inv.same) in
    let port_low : i < length ports = omega (arith, inv.same, inv.wide, c.requires.ports) in
    let was = c.replace-sender.result in
    let port = c.replace-port.result in
    let is : was ≡ slice_index_or c.args.senders.items i was = c.replace-sender.ensures.value
    ∙ (c.index_mut.ensures.value ∙ (get_or_default now i c.index_mut.result.now was low
    ∙ inv.going.rest i was (omega arith))) in
    let port_is : port ≡ slice_index_or c.args.printers.ports.items i None = c.replace-port.ensures.value
    ∙ (c.index_mut-in-loop-i.ensures.value ∙ (get_or_default ports i c.index_mut-in-loop-i.result.now None port_low
    ∙ inv.rest i None (omega arith))) in
    fits_at_port port was (subst (λ x. Fits (lane_at x) was) (sym port_is)
    (subst (Fits (lanes_of c.args.printers.ports.items i)) (sym is) (c.requires.fits.each i was first)))

pub loop-i-preserved : goal.loop-i-preserved
loop-i-preserved g c =
    let inv = c.loop-i.invariant in
    let now = c.loop-i.senders.items in
    let ports = c.loop-i.ports.items in
    let outcomes = c.loop-i.outcomes.items in
    let result = c.close-outcome.result in
    let i = c.loop-i.i in
    let whole = c.loop-i.senders.ok.0 in
    let low : i < length now = omega (arith, c.loop-i-test.true, c.len-i-end.ensures, inv.same) in
    let port_low : i < length ports = omega (arith, inv.same, inv.wide, c.requires.ports) in
    let port_first : i < length c.args.printers.ports.items = omega (arith, inv.wide) in
    let port = c.replace-port.result in
    let is : (d : _) → c.replace-sender.result ≡ slice_index_or c.args.senders.items i d =
    λ d. c.replace-sender.ensures.value ∙ (c.index_mut.ensures.value
    ∙ (get_or_default now i c.index_mut.result.now d low ∙ inv.going.rest i d (omega arith))) in
    let port_is : port ≡ slice_index_or c.args.printers.ports.items i None = c.replace-port.ensures.value
    ∙ (c.index_mut-in-loop-i.ensures.value ∙ (get_or_default ports i c.index_mut-in-loop-i.result.now None port_low
    ∙ inv.rest i None (omega arith))) in
    let long : length outcomes ≡ i = omega (arith, inv.going.done, c.loop-i.outcomes.ok.0) in
    let pushed = c.push_reserved.ensures.items in
    record {
      same = inv.same;
      wide = inv.wide;
      going = record {
        done = omega (arith, inv.going.done, c.push_reserved.ensures.len);
        fits = omega (arith, inv.going.fits, c.push_reserved.ensures.capacity);
        rest = λ k d above. get_or-set_other now i k c.replace-sender.new.dest d (λ e. omega arith)
            ∙ inv.going.rest k d (omega arith);
        each = λ k d e below. elim (cases_eq k i) [
          | inl same ↦ rw (same, ← is d, pushed, get_or_at outcomes result [] e i long) c.close-outcome.ensures.outcome
          | inr other ↦ let first : k < length outcomes = omega arith in
              rw (pushed, get_or_append_left outcomes (result ∷ []) e k first) (inv.going.each k d e (omega arith))
        ];
      };
      rest = λ k d above. get_or-set_other ports i k c.replace-port.new.dest d (λ e. omega arith)
          ∙ inv.rest k d (omega arith);
      lines = λ start h.
          let was = inv.lines start h in
          let own : lines_of i was.log ≡ report_lines i (taken_at port) = was.waiting i None (omega arith) port_first
          ∙ ap (λ o. report_lines i (taken_at o)) (sym port_is) in
          let closes = c.close-outcome.ensures.lines start was.log was.printed own in
          rw pushed (one_closed start _ c.close-outcome.new.printer c.args.printers.ports.items outcomes result _
          c.loop-i.printer was (omega arith) (rw long closes));
      far = λ k d e below. elim (cases_eq k i) [
        | inl same ↦ rw (same, ← port_is, ← is d, pushed, get_or_at outcomes result [] e i long)
            c.close-outcome.ensures.far
        | inr other ↦ let first : k < length outcomes = omega arith in
            rw (pushed, get_or_append_left outcomes (result ∷ []) e k first) (inv.far k d e (omega arith))
      ];
    }

pub returns-clause-outcomes : goal.returns-clause-outcomes
returns-clause-outcomes g c = record {
  same_length = search rules;
  each = λ i d e below. c.loop-i.invariant.going.each i d e (search rules);
}

pub returns-clause-far : goal.returns-clause-far
returns-clause-far g c = record { each = λ i d e below. c.loop-i.invariant.far i d e (search rules) }

pub returns-clause-printed : goal.returns-clause-printed
returns-clause-printed g c = λ start h.
    let inv = c.loop-i.invariant in
    let done = inv.going.done in
    let all = c.requires.ports in
    let same : length c.loop-i.outcomes.items ≡ length c.args.printers.ports.items = search rules in
    all_closed start _ _ c.loop-i.printer c.args.printers.ports.items c.loop-i.outcomes.items c.finish-wrote.result same
    (inv.lines start h)
    c.finish-wrote.ensures.ok c.finish-wrote.ensures.fault c.finish-wrote.ensures.short

pub index_mut-requires : goal.index_mut-requires
index_mut-requires g c = omega (arith, c.loop-i-test.true, c.len-i-end.ensures, c.loop-i.invariant.same)

pub index_mut-requires-in-loop-i : goal.index_mut-requires-in-loop-i
index_mut-requires-in-loop-i g c =
    let inv = c.loop-i.invariant in
    let ports = c.requires.ports in
    let whole = c.args.senders.ok.0 in
    let wide = c.args.printers.ports.ok.0 in
    omega (arith, c.loop-i-test.true, c.len-i-end.ensures, inv.wide)

pub push_reserved-requires : goal.push_reserved-requires
push_reserved-requires g c =
    let going = c.loop-i.invariant.going in
    omega (arith, c.loop-i-test.true, c.len-i-end.ensures, going.done, going.fits)
