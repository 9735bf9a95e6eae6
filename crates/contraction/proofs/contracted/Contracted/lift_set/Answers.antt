use Rattle.graph_core.proofs.from_counting.Common.{ap, ◌∙◌, arith, ℕ, List, length, ◌&&◌, mem, some}
use Rattle.graph_core.proofs.Common.{block}
use Rattle.contraction.specs.Contracted.{ContractedValue}
use Rattle.contraction.proofs.ContractedValues.{few-blocks, union-blocks}
use Rattle.contraction.proofs.contracted.Contracted.lift_set.Goals as goal

pub union_at-union-requires : goal.union_at-union-requires
union_at-union-requires c = grind (arith, few-blocks c.args.self.now c.keeps_contraction.ensures)

pub returns : goal.returns
returns c = λ g p is. union-blocks g p c.args.self.now c.union_at-union.result c.args.s c.keeps_contraction.ensures is c.rises.ensures
    (λ v. c.union_at-union.ensures v ∙ ap (λ (b : List (List ℕ)). some (length b) (λ i. mem c.args.s i && mem (block b i) v)) (c.deref.ensures.value ∙ ap (λ (q : ContractedValue). q.blocks) c.self.view_is))
