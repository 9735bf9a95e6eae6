use Rattle.vset_core.proofs.from_counting.Common.{◌≡◌, sym, ap, ◌∙◌, nat_le, ◌&&◌, Bool, false, arith, le-leb, lt-leb}
use Rattle.graph_core.proofs.CutLists.{length-in, nontrivial-length}
use Rattle.graph_core.proofs.cuts.is_nontrivial.Goals as goal

pub overflow_sub-result : goal.overflow_sub-result
overflow_sub-result c = length-in c.args.n c.len-inside.result c.args.shore c.requires.set c.len-inside.ensures

pub returns-then-inside-ge3 : goal.returns-then-inside-ge3
returns-then-inside-ge3 c = grind (arith, nat_le, le-leb, nontrivial-length)

narrow : (a b : Bool) → a ≡ false → a ≡ (a && b)
narrow a b h = h ∙ ap (λ x. x && b) (sym h)

pub returns-else-inside-ge3 : goal.returns-else-inside-ge3
returns-else-inside-ge3 c = grind (arith, narrow, nat_le, lt-leb, nontrivial-length)
