use Rattle.std.proofs.Common.{◌≢◌, ℕ}
use Rattle.std.proofs.lemmas.List.Elements.{All-from_recursion}
use Rattle.text_laws.proofs.Feeds.{line_feed_is_last}
use Rattle.text_laws.proofs.laws.lines_end_with_their_line_feed.Goals as goal

pub returns : goal.returns
returns c l fits =
    let last = line_feed_is_last l fits in (last.0, last.1, All-from_recursion (λ (byte : ℕ). byte ≢ 10) last.0 last.2)
