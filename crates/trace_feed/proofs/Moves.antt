-- What a read takes off the bytes that are still to come.
use Rattle.std.proofs.Common.{◌≡◌, ◌+◌, ◌-◌, ◌<◌, ◌≤◌, [], ◌++◌, List, arith, drop, inl, inr, length, length-drop}
use Rattle.std.proofs.Common.{length-take, subst, sym, take, ℕ}
use Rattle.std.proofs.Math.ListN.{drop_of_length-le}
use Rattle.std.proofs.Math.Seq.{take-append_seam}
use Rattle.std.proofs.lemmas.List.{drop-drop, take-append-drop}
use Rattle.trace_feed.specs.Feeds.{IsFirstStop, IsStop, Tape}

-- the piece goes off the front, and what follows it is left
moved_by : (bytes piece rest : List ℕ) (place count : ℕ) → place + count ≤ length bytes
    → piece ≡ take count (drop place bytes)
    → drop place bytes ≡ take count (piece ++ rest) ++ drop (place + count) bytes
moved_by bytes piece rest place count within is =
    let len : length piece ≡ count = rw (is, length-take, length-drop) (omega arith) in
    let front : take count (piece ++ rest) ≡ piece =
    subst (λ k. take k (piece ++ rest) ≡ piece) len (take-append_seam piece rest) in
    rw (front, is, ← drop-drop count place bytes) (sym (take-append-drop count (drop place bytes)))

pub moved : (bytes piece rest : List ℕ) (place stop : ℕ) → place ≤ stop → stop ≤ length bytes
    → piece ≡ take (stop - place) (drop place bytes)
    → drop place bytes ≡ take (stop - place) (piece ++ rest) ++ drop stop bytes
moved bytes piece rest place stop ahead within is =
    let back : place + (stop - place) ≡ stop = omega arith in
    subst (λ k. drop place bytes ≡ take (stop - place) (piece ++ rest) ++ drop k bytes) back
    (moved_by bytes piece rest place (stop - place) (rw back within) is)

-- a read with room that stops where it started stands at the end of the bytes
at_stop : (tape : Tape) (room stop : ℕ) → IsStop tape room stop → stop ≡ tape.place → 0 < room
    → drop stop tape.bytes ≡ []
at_stop tape room stop (inl (inl cut)) still some = let ahead = cut.0 in absurd (omega arith)
at_stop tape room stop (inl (inr failing)) still some = let ahead = failing.0 in absurd (omega arith)
at_stop tape room stop (inr (inl end)) still some = drop_of_length-le tape.bytes (omega arith)
at_stop tape room stop (inr (inr full)) still some = absurd (omega arith)

pub at_end : (tape : Tape) (room stop : ℕ) → IsFirstStop tape room stop → stop ≡ tape.place → 0 < room
    → drop stop tape.bytes ≡ []
at_end tape room stop first still some = at_stop tape room stop first.is_stop still some
