use Rattle.graph_core.proofs.from_counting.Common.{IsTrue, ap, arith, IfOk-weaker}
use Rattle.tree_core.proofs.Common.{IsCutAt, IsDerivationAt, shape_of}
use Rattle.tree_check.proofs.SoundMoves.{switched-here, switched-kept, switched-merged}
use Rattle.tree_check.specs.Common.{IsBlock}
use Rattle.tree_check.proofs.sound_moves.+is_sound_switch.Goals as goal

pub returns-in-None : goal.returns-in-None
returns-in-None t c =
    let g = c.args.p.now.graph in
    let p = c.args.p.now.blocks in
    IfOk-weaker c.exchanges_blocks.result
    (λ holds. IsTrue holds → IsBlock g.order p c.args.u × IsBlock g.order p c.args.v × IsCutAt g p c.in-Cut.shore)
    (λ sound. IsTrue sound → IsDerivationAt g p (shape_of c.args.made.now))
    (λ w found holds.
    switched-here g p c.args.path.now c.args.u c.args.v (shape_of c.args.made.now) c.in-Cut.shore (shape_of c.in-Cut.kept.value) (shape_of c.in-Cut.merged.value) c.keeps_place.ensures.limits.multigraph.ends c.keeps_place.ensures.partition
    c.keeps_place.ensures.covered c.in-None.ensures.cases (ap shape_of c.in-Cut.is) c.requires.switched (found holds))
    c.exchanges_blocks.ensures

pub is_sound_switch-requires : goal.is_sound_switch-requires
is_sound_switch-requires t c =
    let g = c.args.p.now.graph in
    let below = c.in_ok-below-in-Some-Kept-default in
    let arm = c.in-Some-Kept-default in
    let shorter = arm.ensures.cases.1 in
    let falls = c.decreases in
    grind (arith, switched-kept g c.args.p.now.blocks arm.rest.now c.args.u c.args.v c.in-Cut.shore (shape_of c.in-Cut.kept.value) (shape_of c.in-Cut.merged.value))

pub is_sound_switch-requires-in-Some-Merged-default : goal.is_sound_switch-requires-in-Some-Merged-default
is_sound_switch-requires-in-Some-Merged-default t c =
    let g = c.args.p.now.graph in
    let below = c.in_ok-below-in-Some-Merged-default in
    let arm = c.in-Some-Merged-default in
    let shorter = arm.ensures.cases.1 in
    let falls = c.decreases in
    grind (arith, switched-merged g c.args.p.now.blocks arm.rest.now c.args.u c.args.v c.in-Cut.shore (shape_of c.in-Cut.kept.value) (shape_of c.in-Cut.merged.value))
