use Rattle.std.proofs.Common.{◌∙◌, arith, ne_eqb}
use Rattle.flow_core.proofs.SearchTrees.{visits-le-nodes, search-ends}
use Rattle.flow_core.proofs.search.search.Goals as goal

pub scanning-init : goal.scanning-init
scanning-init c = record {
  search = record {
    tree = c.in_ok-reached.ensures.tree c.args.amounts.now;
    set = c.in_ok-reached.ensures.seen;
    unseen = c.in_ok-reached.ensures.only c.args.sink ∙ ne_eqb c.args.source c.args.sink c.requires.differ;
    scanned = λ j l. absurd (omega arith);
  };
  root = c.in_ok-reached.ensures.source;
}

pub scanning-smaller : goal.scanning-smaller
scanning-smaller c = grind (arith, visits-le-nodes c.args.net.now c.scanning.reached.visits.items c.scanning.reached.seen c.scanning.invariant.search.set)

pub returns : goal.returns
returns c = grind (arith, search-ends c.args.net.now c.args.amounts.now c.args.source c.args.sink c.scanning.head c.scanning.reached.visits.items c.scanning.reached.seen c.scanning.invariant.search)
