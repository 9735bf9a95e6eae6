use Rattle.graph_core.proofs.from_counting.Common.{arith, sym, ◌∙◌, both_ways, IfOk-weaker, mem, Set}
use Rattle.graph_core.proofs.Common.{Graph, IsGraph, AreRows}
use Rattle.match_search.specs.Common.{HasFrame, HasMates, HoldsMatching, numbers}
use Rattle.match_search.proofs.GreedyMates.{empty-mem, empty_frame}
use Rattle.match_search.proofs.best.enlarge.Goals as goal

pub returns-then-len-eq0 : goal.returns-then-len-eq0
returns-then-len-eq0 c = λ g f is rows has.
    empty_frame g is (mem c.args.removed) f c.args.mate.now has
    (λ v w out z. let each = rows.one_each in both_ways (mem c.args.exposed v) (empty-mem c.args.exposed (sym c.len.ensures ∙ c.if-len-eq0.true) v) (c.requires.exposed v (omega arith) out z))
    _ c.empty.ensures c.empty-then-len-eq0.ensures

pub returns : goal.returns
returns c = IfOk-weaker c.last_frame.result (λ sets. (g : Graph) (r f : Set) → HoldsMatching g r f c.in_ok-instance.instance c.args.mate.now → HasFrame g r c.last_frame.new.mate sets)
    (λ sets. (g : Graph) (f : Set) → IsGraph g → AreRows g c.args.rows.now → HasMates g (mem c.args.removed) f (numbers c.args.mate.now) → HasFrame g (mem c.args.removed) c.last_frame.new.mate sets)
    (λ sets framed g f is rows has. framed g (mem c.args.removed) f (record { instance_is = c.in_ok-instance.ensures g is rows; long = let long = c.requires.long in let each = rows.one_each in omega arith; mates = has })) c.last_frame.ensures.frame
