use Rattle.graph_core.proofs.from_counting.Common.{◌∙◌, sym, both_ways}
use Rattle.leaf_kinds.proofs.kinds.kind_by_cut.Goals as goal

pub returns-in-Some-clause-kind : goal.returns-in-Some-clause-kind
returns-in-Some-clause-kind c = c.requires.some c.in-Some.cut c.in-Some.is

pub returns-in-Some-clause-cut : goal.returns-in-Some-clause-cut
returns-in-Some-clause-cut c = sym c.in-Some.is ∙ c.requires.first

pub returns-in-Some-clause-brick : goal.returns-in-Some-clause-brick
returns-in-Some-clause-brick c = λ e. absurd cc

pub returns-then-is_bipartite-clause-kind : goal.returns-then-is_bipartite-clause-kind
returns-then-is_bipartite-clause-kind c = (c.is_bipartite.ensures.0 c.if-is_bipartite.true, c.requires.none.0 c.in_default.is)

pub returns-then-is_bipartite-clause-cut : goal.returns-then-is_bipartite-clause-cut
returns-then-is_bipartite-clause-cut c = sym c.in_default.is ∙ c.requires.first

pub returns-then-is_bipartite-clause-brick : goal.returns-then-is_bipartite-clause-brick
returns-then-is_bipartite-clause-brick c = λ e. absurd cc

pub returns-clause-kind : goal.returns-clause-kind
returns-clause-kind c = ((λ b. both_ways c.is_bipartite.result c.if-is_bipartite.false (c.is_bipartite.ensures.1 b)), c.requires.none.0 c.in_default.is)

pub returns-clause-cut : goal.returns-clause-cut
returns-clause-cut c = sym c.in_default.is ∙ c.requires.first

pub returns-clause-brick : goal.returns-clause-brick
returns-clause-brick c =
    let g = c.args.pairs.now in
    let is = c.keeps_covered.ensures.limits.multigraph in
    let covered = c.keeps_covered.ensures.covered in
    let kind = returns-clause-kind c in
    λ e. record {
      four = c.brick_conditions_law.ensures.four g is covered kind.0;
      bicritical = c.brick_conditions_law.ensures.bicritical g is covered kind.0 kind.1;
      connected = c.brick_conditions_law.ensures.connected g is covered kind.0 kind.1;
    }
