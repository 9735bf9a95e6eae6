use Rattle.graph_core.proofs.from_counting.Common.{ℕ, ◌<◌, List, length, subst, sym, slice_index, Within}
use Rattle.contraction.proofs.LeastEdges.{least-within, some-least}
use Rattle.contraction.proofs.contracted.Contracted.least.Goals as goal

pub bounds-remembered-0 : goal.bounds-remembered-0
bounds-remembered-0 c = subst (λ (es : List ℕ). 0 < length es) (sym c.remembered.ensures.value) (some-least c.args.self.now c.args.e c.keeps_contraction.ensures c.requires)

pub returns-clause-within : goal.returns-clause-within
returns-clause-within c = subst (λ (es : List ℕ). Within c.args.self.now.size (slice_index es 0)) (sym c.remembered.ensures.value) (least-within c.args.self.now c.args.e c.keeps_contraction.ensures c.requires)
