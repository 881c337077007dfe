use Rattle.std.proofs.Common.{◌≡◌, ◌≤◌, ◌++◌, length, take, sym, ap, ◌∙◌, arith, length-append, subst}
use Rattle.std.specs.Prelude.{◌||◌}
use Rattle.std.proofs.lemmas.List.{take-append-le, length-take-le}
use Rattle.std.proofs.lemmas.List.Folds.{list_any-append}
use Rattle.trace_lane.specs.Lanes.{taken_list, waiting}
use Rattle.asan_stream.specs.Items.{events_of, has_end, is_end}
use Rattle.asan_stream.specs.Checking.{StandsAfter}
use Rattle.asan_stream.proofs.Reporting.{holds_more}
use Rattle.asan_stream.proofs.Checking.{front_batch, events_of-append, stands_batch}
use Rattle.asan_stream.proofs.bench.Bench.take_items.Goals as goal

pub invariant_of-self-2 : goal.invariant_of-self-2
invariant_of-self-2 g c =
    let old = c.args.self.now in
    let before = taken_list old.lane in
    let count = c.take_some-count.result in
    let room = c.take_some-count.new.room in
    let more = take count room in
    let taken : taken_list c.take_some-count.new.self ≡ before ++ more = c.take_some-count.ensures.some in
    let fits : count ≤ length room = (let most = c.take_some-count.ensures.most in
    let same = c.take_some-count.ensures.room in omega arith) in
    let within : c.min-most.result ≤ length c.args.items.now = (let k = c.min-most.ensures in omega arith) in
    let low : count ≤ c.min-most.result = (let most = c.take_some-count.ensures.most in
    omega (arith, length-take-le c.min-most.result c.args.items.now within)) in
    let same = take-append-le count room _ fits in
    let among = c.pick_events-among.ensures in
    let events = take c.pick_events-among.result.events c.pick_events-among.new.events in
    let are : events ≡ events_of more = among.events ∙ ap events_of same in
    let few : c.pick_events-among.result.events ≤ count =
    (let few = rw same at among.few in let len = length-take-le count room fits in omega arith) in
    record {
      stands = subst (λ items. StandsAfter c.check_each.new.checker items) (sym taken)
          (stands_batch old.checker c.check_each.new.checker before more events are c.check_each.ensures.stands
          c.check_each.ensures.bound old.stands);
      counted = (let was = old.counted in let some =
          length-take-le c.pick_events-among.result.events c.pick_events-among.new.events (let n = among.same_room in
          let enough = c.requires.enough_room in omega arith) in
          omega (
            arith,
            ap length are,
            ap length (ap events_of taken ∙ events_of-append before more),
            length-append (events_of before) (events_of more),
          ));
      few = (let most = c.take_some-count.ensures.most in let k = c.min-most.ensures in let was = old.few in
          omega arith);
      sends = holds_more old.outbox _ _ (front_batch old.checker c.check_each.new.checker before
          c.check_each.ensures.found old.stands) old.sends;
      ends = ap (λ ended. ended || c.pick_events-among.result.has_end) old.ends
          ∙ ap (λ ended. has_end before || ended) (among.ended ∙ ap has_end same)
          ∙ sym (list_any-append is_end before more) ∙ ap has_end (sym taken);
    }

pub returns-clause-found : goal.returns-clause-found
returns-clause-found g c = let old = c.args.self.now in
    front_batch old.checker c.check_each.new.checker (taken_list old.lane) c.check_each.ensures.found old.stands

pub returns-clause-takes : goal.returns-clause-takes
returns-clause-takes g c =
    let count = c.take_some-count.result in
    let room = c.take_some-count.new.room in
    let fits : count ≤ length room = (let most = c.take_some-count.ensures.most in
    let same = c.take_some-count.ensures.room in omega arith) in
    c.take_some-count.ensures.some
    ∙ ap (λ more. taken_list c.args.self.now.lane ++ more) (sym (take-append-le count room _ fits))

pub returns-clause-waits : goal.returns-clause-waits
returns-clause-waits g c = λ some.
    let count = c.take_some-count.result in
    let room = c.take_some-count.new.room in
    let fits : count ≤ length room = (let most = c.take_some-count.ensures.most in
    let same = c.take_some-count.ensures.room in omega arith) in
    c.take_some-count.ensures.known some
    ∙ ap (λ more. more ++ waiting c.take_some-count.new.self) (sym (take-append-le count room _ fits))
