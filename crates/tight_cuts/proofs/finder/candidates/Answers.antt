use Rattle.std.proofs.Common.{◌∙◌, ap}
use Rattle.graph_core.proofs.Common.{Graph}
use Rattle.tight_cuts.specs.Common.{candidates}
use Rattle.tight_cuts.proofs.Completeness.{listed-apart, listed-cover, listed-none, listed-tight}
use Rattle.tight_cuts.proofs.finder.candidates.Goals as goal

pub returns-clause-tight : goal.returns-clause-tight
returns-clause-tight c = listed-tight c.args.g.now c.keeps_limits.ensures.multigraph.ends c.requires c.in_ok-list.list (c.in_ok-list.ensures.list ∙ ap (λ (g : Graph). candidates g) (c.of-pairs.ensures ∙ c.in_ok-covered.ensures))

pub returns-clause-once : goal.returns-clause-once
returns-clause-once c = listed-apart c.args.g.now c.keeps_limits.ensures.multigraph.ends c.requires c.in_ok-list.list (c.in_ok-list.ensures.list ∙ ap (λ (g : Graph). candidates g) (c.of-pairs.ensures ∙ c.in_ok-covered.ensures))

pub returns-clause-cover : goal.returns-clause-cover
returns-clause-cover c = listed-cover c.args.g.now c.keeps_limits.ensures.multigraph.ends c.requires c.in_ok-list.list (c.in_ok-list.ensures.list ∙ ap (λ (g : Graph). candidates g) (c.of-pairs.ensures ∙ c.in_ok-covered.ensures))

pub returns-clause-none : goal.returns-clause-none
returns-clause-none c = listed-none c.args.g.now c.keeps_limits.ensures.multigraph.ends c.requires c.in_ok-list.list (c.in_ok-list.ensures.list ∙ ap (λ (g : Graph). candidates g) (c.of-pairs.ensures ∙ c.in_ok-covered.ensures))
