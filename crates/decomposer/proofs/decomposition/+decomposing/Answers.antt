use Rattle.std.proofs.Common.{ap, arith, rules}
use Rattle.tree_core.proofs.Common.{cut_count, shape_of, blocks-below}
use Rattle.decomposer.proofs.Picking.{cut-finds}
use Rattle.decomposer.proofs.decomposition.+decomposing.Goals as goal

pub decompose_at-decompose_cut-requires : goal.decompose_at-decompose_cut-requires
decompose_at-decompose_cut-requires g t c κs within =
    let falls = c.decreases in
    (first_of (omega arith, search rules), (within, (c.in_ok-picked.ensures.picked.cut c.in-Some.shore c.in-Some.is, (c.in_ok-picked.ensures.picked.picked c.in-Some.shore c.in-Some.is, (c.requires.few, (c.in_ok-picked.ensures.clusters, c.requires.asked))))))

pub decompose_at-returns-in-Some-clause-few : goal.decompose_at-returns-in-Some-clause-few
decompose_at-returns-in-Some-clause-few g t c = grind arith

pub decompose_cut-decompose_at-requires-2 : goal.decompose_cut-decompose_at-requires-2
decompose_cut-decompose_at-requires-2 g t c κs within =
    let room = blocks-below c.args.place.now.graph c.args.place.now.blocks c.args.shore _ _ c.requires.cut c.in_ok-inside.ensures.length c.in_ok-outside.ensures.length in
    let sum = room.2 in
    let some = room.1 in
    let few = c.in_ok-kept.ensures.few room.0 in
    let after = c.in_ok-kept.ensures.made.cuts in
    let bound = c.requires.few in
    let falls = c.decreases in
    let graph = c.in_ok-outside.ensures.graph in
    (first_of (omega arith, search rules), (within, (omega arith, (grind arith, grind arith))))

pub decompose_cut-returns-clause-made : goal.decompose_cut-returns-clause-made
decompose_cut-returns-clause-made g t c =
    cut-finds (g.P.Picker.picks c.args.order.now) c.args.place.now c.in_ok-inside.inside c.in_ok-outside.outside c.args.shore c.args.before c.in_ok-kept.between c.in_ok-merged.after (shape_of c.in_ok-tree.tree) (shape_of c.in_ok-kept.kept) (shape_of c.in_ok-merged.merged)
    c.args.leaves.now.items c.decompose_at.new.leaves.items c.decompose_at-2.new.leaves.items
    (λ i. record { graph = c.in_ok-inside.ensures.graph i; blocks = c.in_ok-inside.ensures.blocks i })
    (λ i. record { graph = c.in_ok-outside.ensures.graph i; blocks = c.in_ok-outside.ensures.blocks i })
    c.in_ok-tree.ensures c.requires.cut c.requires.picked c.in_ok-kept.ensures.made c.in_ok-merged.ensures.made

pub decompose_cut-returns-clause-few : goal.decompose_cut-returns-clause-few
decompose_cut-returns-clause-few g t c =
    let room = blocks-below c.args.place.now.graph c.args.place.now.blocks c.args.shore _ _ c.requires.cut c.in_ok-inside.ensures.length c.in_ok-outside.ensures.length in
    let sum = room.2 in
    let kept = c.in_ok-kept.ensures.few room.0 in
    let merged = c.in_ok-merged.ensures.few room.1 in
    let is = ap cut_count c.in_ok-tree.ensures in
    omega arith
