use Rattle.asan_collect.proofs.reader_threads.fn.start.work.Goals as goal

pub returns : goal.returns
returns g c = c.run_reader.ensures
