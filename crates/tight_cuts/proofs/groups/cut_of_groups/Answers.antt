use Rattle.graph_core.proofs.from_counting.Common.{ap, sym, subst, arith, Within}
use Rattle.tight_cuts.proofs.groups.cut_of_groups.Goals as goal

pub min_cut-requires-clause-source : goal.min_cut-requires-clause-source
min_cut-requires-clause-source c = subst (λ n. Within n c.args.groups.a) (ap (λ net. net.nodes) (sym c.in_ok-net.ensures)) c.requires.groups.source

pub min_cut-requires-clause-sink : goal.min_cut-requires-clause-sink
min_cut-requires-clause-sink c = subst (λ n. Within n c.args.groups.b) (ap (λ net. net.nodes) (sym c.in_ok-net.ensures)) c.requires.groups.sink

pub vertices_of-requires-clause-within : goal.vertices_of-requires-clause-within
vertices_of-requires-clause-within c v w = grind arith

pub returns-in-Cut : goal.returns-in-Cut
returns-in-Cut c = grind arith

pub returns : goal.returns
returns c = grind arith
