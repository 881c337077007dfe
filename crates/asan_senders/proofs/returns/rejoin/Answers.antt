use Rattle.std.proofs.Common.{◌≡◌, refl}
use Rattle.asan_stream.specs.declared.bench.Bench.{Bench}
use Rattle.asan_stream.specs.declared.reader.ReaderDone.{ReaderDone}
use Rattle.asan_senders.specs.declared.sender.Sender.{Sender}
use Rattle.asan_senders.specs.declared.sender.Sender.TheVariants as sender
use Rattle.asan_senders.specs.Senders.{HasBench, TakesBack}
use Rattle.asan_senders.proofs.returns.rejoin.Goals as goal

others : {F A : Type 0} (b : Bench A) (s : Sender F A) → ((d : ReaderDone F A) → s ≡ sender.Read d → ⊥)
    → HasBench s × TakesBack b s s
others b sender.NotOpened isnt = (tt, refl)
others b (sender.NotStarted missing) isnt = (tt, refl)
others b (sender.Ready feed lane) isnt = (tt, refl)
others b (sender.Running h) isnt = (tt, refl)
others b (sender.Read d) isnt = absurd (isnt d refl)
others b (sender.Joined d l reports) isnt = (tt, refl)

pub returns-in-Read-clause-takes : goal.returns-in-Read-clause-takes
returns-in-Read-clause-takes g c = rw c.in-Read.is (
  c.finish_reports-reports.new.self,
  c.finish_reports-reports.result,
  refl,
  c.finish_reports-reports.ensures.checker,
  c.finish_reports-reports.ensures.taken,
  c.finish_reports-reports.ensures.item_lane,
)

pub returns-in_default : goal.returns-in_default
returns-in_default g c =
    let both = others c.args.bench c.args.sender c.in_default.not-Read in record {
      rejoins = record { came = λ options a bound came. came; lane = λ x has. has };
      back = both.0;
      takes = both.1;
      fits = λ lane fit keeps. fit;
    }
