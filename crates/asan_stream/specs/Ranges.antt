-- The ranges of the options, their defaults, and the most that one call takes (profile).
use Rattle.std.specs.Prelude.{ℕ, ◌^◌}
use Rattle.trace_lane.specs.Lanes.{most_items}
use Rattle.trace_record.specs.Ranges.{largest_limit}

-- items in a ring
abbrev pub most_ring : ℕ
most_ring = most_items

-- checkers of one call
abbrev pub most_workers : ℕ
most_workers = 64

-- bytes that one sender's checker may hold, where they are bounded
abbrev pub least_memory : ℕ
least_memory = 2 ^ 20

abbrev pub most_memory : ℕ
most_memory = 2 ^ 40

-- events of one stream
abbrev pub most_events : ℕ
most_events = largest_limit

-- reports of one stream: each event has one at most
abbrev pub most_reports : ℕ
most_reports = most_events

-- bytes of one read
abbrev pub read_size : ℕ
read_size = 4096

-- events of one batch
abbrev pub batch_size : ℕ
batch_size = 64

-- the defaults: bytes of spans in a quarantine
abbrev pub usual_quarantine : ℕ
usual_quarantine = 2 ^ 28

-- items in a ring
abbrev pub usual_ring : ℕ
usual_ring = 1024

-- checkers of one call
abbrev pub usual_workers : ℕ
usual_workers = 2

-- events of one stream
abbrev pub usual_limit : ℕ
usual_limit = most_events
