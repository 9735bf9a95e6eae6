use Rattle.graph_core.proofs.from_counting.Common.{subst, sym, Within}
use Rattle.two_ears.proofs.from_match_search.Instances.{first_in}
use Rattle.ear_core.proofs.stage.write_rows.Goals as goal

pub write_row-requires : goal.write_row-requires
write_row-requires c =
    let v = c.in-Some.v in
    subst (λ n. Within n v) (sym c.writing.invariant.long) (c.requires v (c.writing.invariant.part v (first_in c.writing.rest c.in-Some.others v c.in-Some.ensures.some)))
