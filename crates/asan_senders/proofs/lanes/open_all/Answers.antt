use Rattle.std.proofs.Common.{◌≡◌, ◌<◌, ◌∙◌, ◌∷◌, ◌%◌, [], vec_len, sym, subst, refl, length, arith, rules}
use Rattle.std.proofs.Common.{slice_index_or, inl, inr}
use Rattle.std.proofs.lemmas.Bool.{cases_eq}
use Rattle.std.proofs.lemmas.List.{get_or_default, get_or-set_other, get_or_append_left, get_or_at}
use Rattle.std.proofs.lemmas.List.Elements.{All-push}
use Rattle.asan_senders.specs.Arrivals.{IsArrived}
use Rattle.asan_stream.specs.Benches.{process_of}
use Rattle.asan_senders.specs.ReportLanes.{SharesHave, lanes_of}
use Rattle.asan_senders.specs.Senders.{HasRing}
use Rattle.asan_senders.specs.Shares.{SharesAt}
use Rattle.std.proofs.Math.Nat.{mod-lt}
use Rattle.asan_senders.proofs.Dealing.{shares_more, shares_none, shares_dealt, room_first, room_on, room_dealt}
use Rattle.asan_senders.proofs.Dealing.{dealt_length}
use Rattle.asan_senders.proofs.ReportLanes.{untaken_push, have_none, have_more, have_new, have_dealt, fit_push}
use Rattle.asan_senders.proofs.ReportLanes.{pairs_push}
use Rattle.asan_senders.proofs.Senders.{at_new, fresh_push}
use Rattle.asan_senders.proofs.Causes.{no_seat, seats_dealt, seats_more, seats_none}
use Rattle.asan_senders.proofs.lanes.open_all.Goals.{in-Some, in_default}
use Rattle.asan_senders.proofs.lanes.open_all.Goals as goal

pub loop-i-init : goal.loop-i-init
loop-i-init g c =
    let seats = c.requires.empty in
    let none = seats.no_senders in
    let empty = seats.no_ports in
    record {
      same = refl;
      going = record {
        done = search rules;
        rest = λ k d above. refl;
        each = λ k d e below. absurd (omega arith);
      };
      fresh = record { each = λ i d below. absurd (let no = rw none at below in omega arith) };
      benches = shares_none c.args.options.quarantine (vec_len c.args.seats.shares) c.args.seats.senders.items
          c.args.seats.shares.items seats.no_benches;
      sender_room = seats.for_senders;
      kept = refl;
      room = room_first (vec_len c.args.seats.shares) c.args.seats.shares.items seats.some_shares (search rules)
          seats.no_benches;
      long = search rules;
      port_room = seats.for_ports;
      live = record {
        same_length = search rules;
        each = λ i d e below. absurd (let no = rw none at below in omega arith);
      };
      untaken = record { each = λ i d below. absurd (let no = rw empty at below in omega arith) };
      fits = record { each = λ i d below. absurd (let no = rw none at below in omega arith) };
      have = have_none (lanes_of c.args.seats.ports.items) (vec_len c.args.seats.shares) c.args.seats.shares.items
          seats.no_benches;
      seated = seats_none c.args.seats.senders.items c.args.seats.shares.items none;
      rings = λ i d below. absurd (let no = rw none at below in omega arith);
    }

pub open-seat-requires : goal.open-seat-requires
open-seat-requires g c =
    let inv = c.loop-i.invariant in
    let now = c.loop-i.arrivals.items in
    let i = c.loop-i.i in
    let whole = c.loop-i.arrivals.ok.0 in
    let low : i < length now = omega (arith, c.loop-i-test.true, c.len-i-end.ensures, inv.same) in
    let first : i < length c.args.arrivals.items = omega (arith, c.args.arrivals.ok.0, inv.same) in
    let a = c.replace-arrival.result in
    let is : a ≡ slice_index_or c.args.arrivals.items i a = c.replace-arrival.ensures.value
    ∙ (c.index_mut.ensures.value ∙ (get_or_default now i c.index_mut.result.now a low
    ∙ inv.going.rest i a (omega arith))) in
    subst (IsArrived g.F.Feed.seen) (sym is) (c.requires.arrived i a first)

pub loop-i-preserved : goal.loop-i-preserved
loop-i-preserved g c =
    let inv = c.loop-i.invariant in
    let now = c.loop-i.arrivals.items in
    let i = c.loop-i.i in
    let senders = c.loop-i.senders.items in
    let ports = c.loop-i.ports.items in
    let s = c.open-seat.result.sender in
    let p = c.open-seat.result.port in
    let bound = c.args.options.quarantine in
    let whole = c.loop-i.arrivals.ok.0 in
    let low : i < length now = omega (arith, c.loop-i-test.true, c.len-i-end.ensures, inv.same) in
    let is : (d : _) → c.replace-arrival.result ≡ slice_index_or c.args.arrivals.items i d =
    λ d. c.replace-arrival.ensures.value ∙ (c.index_mut.ensures.value
    ∙ (get_or_default now i c.index_mut.result.now d low ∙ inv.going.rest i d (omega arith))) in
    let long : length senders ≡ i = omega (arith, inv.going.done, c.loop-i.senders.ok.0) in
    let wide : length ports ≡ i = omega (arith, inv.long, c.loop-i.ports.ok.0) in
    let same : length ports ≡ length senders = wide ∙ sym long in
    let pushed = c.push_reserved.ensures.items in
    let opened = c.push_reserved-in-loop-i.ensures.items in
    let shares = c.loop-i.shares.items in
    let more : SharesAt bound c.push_reserved.new.self.items shares =
    rw pushed (shares_more bound senders s shares inv.benches) in
    let have : SharesHave (lanes_of c.push_reserved-in-loop-i.new.self.items) shares =
    rw opened (have_more bound senders ports p shares same inv.benches inv.have) in
    let at_low : i % vec_len c.loop-i.shares < length shares = rw inv.room.all (mod-lt i inv.room.some) in
    record {
      same = inv.same;
      going = record {
        done = omega (arith, inv.going.done, c.push_reserved.ensures.len);
        rest = λ k d above. get_or-set_other now i k c.replace-arrival.new.dest d (λ e. omega arith)
            ∙ inv.going.rest k d (omega arith);
        each = λ k d e below. elim (cases_eq k i) [
          | inl here ↦ rw (here, ← is d, pushed, get_or_at senders s [] e i long) c.open-seat.ensures.came
          | inr other ↦ let first : k < length senders = omega arith in
              rw (pushed, get_or_append_left senders (s ∷ []) e k first) (inv.going.each k d e (omega arith))
        ];
      };
      fresh = rw pushed (fresh_push g.F.Feed.seen senders s inv.fresh c.open-seat.ensures.fresh);
      benches = elim c.match-bench.branch [
        | in-Some w ↦
            let is_new = rw w.in-Some.is at c.open-seat.ensures.bench in
            let at : process_of w.in-Some.bench ≡ length senders = is_new.0 ∙ sym long in
            rw w.shares-is (shares_dealt bound (i % vec_len c.loop-i.shares) c.push_reserved.new.self.items
            w.in-Some.bench shares w.deal.new.shares.items at_low more
            (rw pushed (at_new bound senders s w.in-Some.bench at is_new.1 is_new.2)) w.deal.ensures)
        | in_default w ↦ rw w.shares-is more
      ];
      sender_room = omega (arith, inv.sender_room, c.push_reserved.ensures.capacity);
      kept = elim c.match-bench.branch [
        | in-Some w ↦
            let same : length w.deal.new.shares.items ≡ length shares =
            dealt_length (i % vec_len c.loop-i.shares) w.in-Some.bench shares w.deal.new.shares.items
            w.deal.ensures in
            let all : vec_len w.deal.new.shares ≡ vec_len c.loop-i.shares =
            omega (arith, same, w.deal.new.shares.ok.0, c.loop-i.shares.ok.0) in
            rw w.shares-is (all ∙ inv.kept)
        | in_default w ↦ rw w.shares-is inv.kept
      ];
      room = elim c.match-bench.branch [
        | in-Some w ↦
            let kept : length w.deal.new.shares.items ≡ length shares =
            dealt_length (i % vec_len c.loop-i.shares) w.in-Some.bench shares w.deal.new.shares.items
            w.deal.ensures in
            let all : vec_len w.deal.new.shares ≡ vec_len c.loop-i.shares =
            omega (arith, kept, w.deal.new.shares.ok.0, c.loop-i.shares.ok.0) in
            rw (w.shares-is, all) (room_dealt (vec_len c.loop-i.shares) i w.in-Some.bench shares w.deal.new.shares.items
            inv.room w.deal.ensures)
        | in_default w ↦ rw w.shares-is (room_on (vec_len c.loop-i.shares) i shares inv.room)
      ];
      long = omega (arith, inv.long, c.push_reserved-in-loop-i.ensures.len);
      port_room = omega (arith, inv.port_room, c.push_reserved-in-loop-i.ensures.capacity);
      live = rw (pushed, opened) (pairs_push senders ports s p inv.live c.open-seat.ensures.port);
      untaken = rw opened (untaken_push ports p inv.untaken c.open-seat.ensures.untaken);
      fits = rw (opened, pushed) (fit_push senders s ports p same inv.fits c.open-seat.ensures.fits);
      have = elim c.match-bench.branch [
        | in-Some w ↦
            let is_new = rw w.in-Some.is at c.open-seat.ensures.bench in
            let keeps = rw w.in-Some.is at c.open-seat.ensures.report_lane in
            let at : process_of w.in-Some.bench ≡ length ports = is_new.0 ∙ sym wide in
            rw w.shares-is (have_dealt (lanes_of c.push_reserved-in-loop-i.new.self.items) (i % vec_len c.loop-i.shares)
            w.in-Some.bench shares w.deal.new.shares.items at_low have
            (rw opened (have_new ports p w.in-Some.bench at keeps)) w.deal.ensures)
        | in_default w ↦ rw w.shares-is have
      ];
      seated = elim c.match-bench.branch [
        | in-Some w ↦
            let is_new = rw w.in-Some.is at c.open-seat.ensures.bench in
            let at : process_of w.in-Some.bench ≡ length senders = let e = is_new.0 in let f = long in search rules in
            let dealt = rw (← long, ← inv.room.all) at w.deal.ensures in
            rw (w.shares-is, pushed) (seats_dealt senders s w.in-Some.bench shares w.deal.new.shares.items
            (omega (arith, at_low))
            (dealt_length (i % vec_len c.loop-i.shares) w.in-Some.bench shares w.deal.new.shares.items w.deal.ensures)
            at dealt inv.seated)
        | in_default w ↦ rw (w.shares-is, pushed) (seats_more senders s shares
            (no_seat s c.open-seat.result.bench c.open-seat.ensures.seated w.in_default.not-Some) inv.seated)
      ];
      rings = rw pushed (All-push (HasRing c.args.options.ring) senders s inv.rings c.open-seat.ensures.ring);
    }

pub returns-clause-came : goal.returns-clause-came
returns-clause-came g c = record {
  same_length = search rules;
  each = λ i d e below. c.loop-i.invariant.going.each i d e (search rules);
}

pub returns-clause-same : goal.returns-clause-same
returns-clause-same g c = c.loop-i.invariant.kept

pub returns-clause-ports : goal.returns-clause-ports
returns-clause-ports g c = let long = c.loop-i.invariant.long in let done = c.loop-i.invariant.going.done in
    search rules

pub returns-clause-live : goal.returns-clause-live
returns-clause-live g c = c.loop-i.invariant.live

pub returns-clause-untaken : goal.returns-clause-untaken
returns-clause-untaken g c = c.loop-i.invariant.untaken

pub returns-clause-fits : goal.returns-clause-fits
returns-clause-fits g c = c.loop-i.invariant.fits

pub returns-clause-seated : goal.returns-clause-seated
returns-clause-seated g c = c.loop-i.invariant.seated

pub returns-clause-rings : goal.returns-clause-rings
returns-clause-rings g c = c.loop-i.invariant.rings

pub returns-clause-have : goal.returns-clause-have
returns-clause-have g c = c.loop-i.invariant.have

pub index_mut-requires : goal.index_mut-requires
index_mut-requires g c = omega (arith, c.loop-i-test.true, c.len-i-end.ensures, c.loop-i.invariant.same)

pub push_reserved-requires : goal.push_reserved-requires
push_reserved-requires g c =
    let inv = c.loop-i.invariant in
    let few = c.requires.few in
    let whole = c.args.arrivals.ok.0 in
    omega (arith, c.loop-i-test.true, c.len-i-end.ensures, inv.going.done, inv.sender_room)

pub push_reserved-requires-in-loop-i : goal.push_reserved-requires-in-loop-i
push_reserved-requires-in-loop-i g c =
    let inv = c.loop-i.invariant in
    let few = c.requires.few in
    let whole = c.args.arrivals.ok.0 in
    omega (arith, c.loop-i-test.true, c.len-i-end.ensures, inv.long, inv.port_room)

pub deal-requires-clause-room : goal.deal-requires-clause-room
deal-requires-clause-room g c = c.loop-i.invariant.room

pub deal-requires-clause-few : goal.deal-requires-clause-few
deal-requires-clause-few g c =
    let few = c.requires.few in
    let whole = c.args.arrivals.ok.0 in
    omega (arith, c.loop-i-test.true, c.len-i-end.ensures)

pub returns-clause-fresh : goal.returns-clause-fresh
returns-clause-fresh g c = c.loop-i.invariant.fresh

pub returns-clause-shares : goal.returns-clause-shares
returns-clause-shares g c = c.loop-i.invariant.benches
