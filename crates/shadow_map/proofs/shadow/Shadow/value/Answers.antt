use Rattle.shadow_map.proofs.Ends.{lift_past_the_end}
use Rattle.shadow_map.proofs.shadow.Shadow.value.Goals as goal

pub returns-then-granule-ge-GRANULES-clause-shown : goal.returns-then-granule-ge-GRANULES-clause-shown
returns-then-granule-ge-GRANULES-clause-shown g c marks shows =
    lift_past_the_end marks shows.are_marks c.args.granule c.if-granule-ge-GRANULES.true
