use Rattle.std.specs.Prelude.{codes}
use Rattle.std.specs.Str.Parse.{ExplainsUnsignedError, HasUnsignedDigitsIfOk, ParsesUnsigned}
use Rattle.clap.specs.Words.{found_of, one_text}
use Rattle.asan_request.specs.Settings.{IsSet}
use Rattle.asan_stream.specs.Ranges.{usual_quarantine, usual_limit, usual_ring, usual_workers}
use Rattle.asan_request.proofs.Reading.{made_of, refused_of, set_of}
use Rattle.asan_request.proofs.settings.sizes_of.Goals as goal

pub returns : goal.returns
returns c =
    let found = found_of c.args.matches.now in
    let quarantine : IsSet 64 (one_text found (codes "quarantine")) usual_quarantine c.unwrap_or.result =
    set_of (λ text r. ParsesUnsigned 64 10 text r × ExplainsUnsignedError 10 text r × HasUnsignedDigitsIfOk text r) 64
    (λ text r given. given.0)
    (one_text found (codes "quarantine")) c.get_one.result _ usual_quarantine _ c.unwrap_or.ensures
    c.usual-usual.ensures.quarantine c.get_one.ensures.none c.get_one.ensures.value in
    let ring : IsSet 32 (one_text found (codes "ring")) usual_ring c.unwrap_or-2.result =
    set_of (λ text r. ParsesUnsigned 32 10 text r × ExplainsUnsignedError 10 text r × HasUnsignedDigitsIfOk text r) 32
    (λ text r given. given.0)
    (one_text found (codes "ring")) c.get_one-2.result _ usual_ring _ c.unwrap_or-2.ensures c.usual-usual.ensures.ring
    c.get_one-2.ensures.none c.get_one-2.ensures.value in
    let workers : IsSet 32 (one_text found (codes "workers")) usual_workers c.unwrap_or-3.result =
    set_of (λ text r. ParsesUnsigned 32 10 text r × ExplainsUnsignedError 10 text r × HasUnsignedDigitsIfOk text r) 32
    (λ text r given. given.0)
    (one_text found (codes "workers")) c.get_one-3.result _ usual_workers _ c.unwrap_or-3.ensures
    c.usual-usual.ensures.workers c.get_one-3.ensures.none c.get_one-3.ensures.value in
    let limit : IsSet 32 (one_text found (codes "limit")) usual_limit c.unwrap_or-4.result =
    set_of (λ text r. ParsesUnsigned 32 10 text r × ExplainsUnsignedError 10 text r × HasUnsignedDigitsIfOk text r) 32
    (λ text r given. given.0)
    (one_text found (codes "limit")) c.get_one-4.result _ usual_limit _ c.unwrap_or-4.ensures
    c.usual-usual.ensures.limit c.get_one-4.ensures.none c.get_one-4.ensures.value in
    record {
      found = made_of _ c.new.result found c.unwrap_or.result c.unwrap_or-2.result c.unwrap_or-3.result
          c.unwrap_or-4.result c.new.ensures.each quarantine ring workers limit;
      refused = refused_of _ c.new.result found c.unwrap_or.result c.unwrap_or-2.result c.unwrap_or-3.result
          c.unwrap_or-4.result c.new.ensures.each quarantine ring workers limit;
      unbounded = c.new.ensures.unbounded;
    }
