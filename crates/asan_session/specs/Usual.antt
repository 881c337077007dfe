-- The options of a session that names none.
use Rattle.std.specs.Prelude.{◌≡◌, None}
use Rattle.asan_stream.specs.Ranges.{usual_quarantine, usual_ring, usual_workers, usual_limit}
use Rattle.asan_stream.specs.declared.options.Options.{Options}

-- each option has its default
abbrev pub AreUsual : Options → Type 0
AreUsual options =
    (options.quarantine ≡ usual_quarantine) × (options.ring ≡ usual_ring)
    × (options.workers ≡ usual_workers) × (options.limit ≡ usual_limit)
    × (options.memory ≡ None)
