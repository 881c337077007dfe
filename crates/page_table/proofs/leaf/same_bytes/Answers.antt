use Rattle.std.proofs.lemmas.List.{get_or-replicate}
use Rattle.page_table.specs.declared.leaf.TheConstants.{LEAF}
use Rattle.page_table.proofs.leaf.same_bytes.Goals as goal

pub returns : goal.returns
returns g c = λ index lt. rw c.in_ok-new.ensures.ok (get_or-replicate LEAF index c.args.byte 0 lt)
