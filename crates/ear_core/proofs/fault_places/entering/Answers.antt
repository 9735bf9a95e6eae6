use Rattle.graph_core.proofs.from_counting.Common.{rules, ◌≡◌, ◌==◌, ◌⊎◌, ◌∙◌, false, inl, inr, length, subst, sym, true, arith, Within, mem}
use Rattle.graph_core.proofs.Common.{size}
use Rattle.ear_core.proofs.FaultPlaces.{entering-past}
use Rattle.ear_core.proofs.FirstFaults.{first-item, items-behind}
use Rattle.ear_core.proofs.Mates.{other_end-within}
use Rattle.ear_core.proofs.fault_places.entering.Goals as goal
use Rattle.ear_core.proofs.fault_places.entering.Goals.{After-across-at, else-contains-via-then-contains+else-not-is_empty, else-contains-via-else-contains}

-- the vertex that the next edge leads to
at_within : (c : After-across-at) → Within c.args.g.now.order c.across-at.result
at_within c =
    let g = c.args.g.now in
    let edge = first-item (Within (size g)) c.in-Some.e.now c.edges.rest.now c.in-Some.others.now c.in-Some.ensures.cases.0 c.edges.invariant.edges in
    subst (Within g.order) (sym c.across-at.ensures) (other_end-within g c.keeps_limits.ensures.multigraph.ends c.in-Some.e.now c.edges.at edge)

pub contains-requires : goal.contains-requires
contains-requires c =
    let within = at_within (goal.at.contains-requires c).After-across-at in omega arith

pub edges-preserved : goal.edges-preserved
edges-preserved c =
    let g = c.args.g.now in
    let past : (mem c.args.taken c.across-at.result ≡ false) ⊎ ((length c.in-Some.others.now == 0) ≡ true) = elim c.else-contains.branch [
      | else-contains-via-then-contains+else-not-is_empty w ↦ inr (search rules)
      | else-contains-via-else-contains w ↦ inl (search rules)
    ] in
    record {
      same = c.edges.invariant.same ∙ entering-past g (mem c.args.taken) c.edges.at c.in-Some.e.now c.across-at.result c.edges.rest.now c.in-Some.others.now c.in-Some.ensures.cases.0 c.across-at.ensures past;
      at = at_within (goal.at.edges-preserved c).After-across-at;
      edges = items-behind (Within (size g)) c.in-Some.e.now c.edges.rest.now c.in-Some.others.now c.in-Some.ensures.cases.0 c.edges.invariant.edges;
    }
