use Rattle.std.proofs.Common.{◌*◌, ◌≤◌, ap, arith, length, refl, subst, sym, ℕ}
use Rattle.graph_core.proofs.Common.{Graph}
use Rattle.tree_core.proofs.Common.{IsDerivationAt, moves_of, cut_count, node_count, shape_of}
use Rattle.tree_core.specs.declared.tree.Tree.{Tree}
use Rattle.uncross.proofs.CompareSteps.{IsCompared, both_leaves, compared}
use Rattle.move_laws.specs.Common.{IsProperScript}
use Rattle.uncross.proofs.comparing.+compare_at.Goals as goal
use Rattle.uncross.proofs.comparing.+compare_at.Goals.{In_ok-brought-in-Cut, In_ok-moves-in-Cut}

-- the trees below the root shore of the second tree, which was brought to the root of the first
below_shore : (t : ℕ) (c : In_ok-brought-in-Cut t) →
    IsCompared c.args.p.now.graph c.args.p.now.blocks (shape_of c.args.first) (shape_of c.args.second.now) c.in-Cut.shore (shape_of c.in_ok-brought-in-Cut.brought.kept) (shape_of c.in_ok-brought-in-Cut.brought.merged) (shape_of c.in-Cut.kept.value) (shape_of c.in-Cut.merged.value) (moves_of c.in_ok-brought-in-Cut.brought.moves)
below_shore t c = grind (arith, compared)

abbrev nodes_of : Tree → ℕ
nodes_of tree = node_count (shape_of tree)

pub compare_at-requires : goal.compare_at-requires
compare_at-requires t c =
    let asks = (below_shore t (goal.at.compare_at-requires t c).In_ok-brought-in-Cut).kept c.in_ok-brought-in-Cut.brought.at.kept.blocks (shape_of c.in_ok-brought-in-Cut.brought.kept) (shape_of c.deref.result.now) c.in_ok-brought-in-Cut.ensures.kept.blocks refl (ap shape_of c.deref.ensures) in
    let below = ap nodes_of c.deref.ensures in let whole = ap nodes_of c.in-Cut.is in let size = c.decreases in
    (omega arith, subst (λ (h : Graph). IsDerivationAt h c.in_ok-brought-in-Cut.brought.at.kept.blocks (shape_of c.in_ok-brought-in-Cut.brought.kept) × IsDerivationAt h c.in_ok-brought-in-Cut.brought.at.kept.blocks (shape_of c.deref.result.now)) (sym c.in_ok-brought-in-Cut.ensures.kept.graph) asks)

pub compare_at-requires-in-Cut : goal.compare_at-requires-in-Cut
compare_at-requires-in-Cut t c =
    let asks = (below_shore t (goal.at.compare_at-requires-in-Cut t c).In_ok-brought-in-Cut).merged c.in_ok-brought-in-Cut.brought.at.merged.blocks (shape_of c.in_ok-brought-in-Cut.brought.merged) (shape_of c.deref-in-Cut.result.now) c.in_ok-brought-in-Cut.ensures.merged.blocks refl (ap shape_of c.deref-in-Cut.ensures) in
    let below = ap nodes_of c.deref-in-Cut.ensures in let whole = ap nodes_of c.in-Cut.is in let size = c.decreases in
    (omega arith, subst (λ (h : Graph). IsDerivationAt h c.in_ok-brought-in-Cut.brought.at.merged.blocks (shape_of c.in_ok-brought-in-Cut.brought.merged) × IsDerivationAt h c.in_ok-brought-in-Cut.brought.at.merged.blocks (shape_of c.deref-in-Cut.result.now)) (sym c.in_ok-brought-in-Cut.ensures.merged.graph) asks)

pub bring-requires-clause-shore : goal.bring-requires-clause-shore
bring-requires-clause-shore t c = (subst (λ (tree : Tree). IsDerivationAt c.args.p.now.graph c.args.p.now.blocks (shape_of tree)) c.in-Cut.is c.requires.second).0

pub returns-in-Leaf-clause-script : goal.returns-in-Leaf-clause-script
returns-in-Leaf-clause-script t c = grind (arith, both_leaves)

-- the moves put together
together : (t : ℕ) (c : In_ok-moves-in-Cut t) →
    IsCompared c.args.p.now.graph c.args.p.now.blocks (shape_of c.args.first) (shape_of c.args.second.now) c.in-Cut.shore (shape_of c.in_ok-brought-in-Cut.brought.kept) (shape_of c.in_ok-brought-in-Cut.brought.merged) (shape_of c.in-Cut.kept.value) (shape_of c.in-Cut.merged.value) (moves_of c.in_ok-brought-in-Cut.brought.moves) →
    IsProperScript c.args.p.now.graph c.args.p.now.blocks (shape_of c.args.first) (moves_of c.in_ok-moves-in-Cut.moves) (shape_of c.args.second.now) × (length (moves_of c.in_ok-moves-in-Cut.moves) ≤ 5 * (cut_count (shape_of c.args.first) * cut_count (shape_of c.args.first)))
together t c below_both =
    below_both.whole c.in_ok-brought-in-Cut.brought.at.kept.blocks c.in_ok-brought-in-Cut.brought.at.merged.blocks (moves_of c.in_ok-in_kept-in-Cut.in_kept) (moves_of c.in_ok-in_merged-in-Cut.in_merged)
    (shape_of c.in_ok-brought-in-Cut.brought.kept) (shape_of c.deref.result.now) (shape_of c.in_ok-brought-in-Cut.brought.merged) (shape_of c.deref-in-Cut.result.now)
    c.in_ok-brought-in-Cut.ensures.kept.blocks c.in_ok-brought-in-Cut.ensures.merged.blocks refl (ap shape_of c.deref.ensures) refl (ap shape_of c.deref-in-Cut.ensures)
    (subst (λ (h : Graph). IsProperScript h c.in_ok-brought-in-Cut.brought.at.kept.blocks (shape_of c.in_ok-brought-in-Cut.brought.kept) (moves_of c.in_ok-in_kept-in-Cut.in_kept) (shape_of c.deref.result.now)) c.in_ok-brought-in-Cut.ensures.kept.graph c.in_ok-in_kept-in-Cut.ensures.script)
    (subst (λ (h : Graph). IsProperScript h c.in_ok-brought-in-Cut.brought.at.merged.blocks (shape_of c.in_ok-brought-in-Cut.brought.merged) (moves_of c.in_ok-in_merged-in-Cut.in_merged) (shape_of c.deref-in-Cut.result.now)) c.in_ok-brought-in-Cut.ensures.merged.graph c.in_ok-in_merged-in-Cut.ensures.script)
    c.in_ok-in_kept-in-Cut.ensures.few c.in_ok-in_merged-in-Cut.ensures.few
    (moves_of c.in_ok-moves-in-Cut.moves) c.in_ok-moves-in-Cut.ensures

pub returns-in_ok-moves-in-Cut-clause-script : goal.returns-in_ok-moves-in-Cut-clause-script
returns-in_ok-moves-in-Cut-clause-script t c = (let at = goal.at.returns-in_ok-moves-in-Cut-clause-script t c in together t at.In_ok-moves-in-Cut (below_shore t at.In_ok-brought-in-Cut)).0

pub returns-in_ok-moves-in-Cut-clause-few : goal.returns-in_ok-moves-in-Cut-clause-few
returns-in_ok-moves-in-Cut-clause-few t c = (let at = goal.at.returns-in_ok-moves-in-Cut-clause-few t c in together t at.In_ok-moves-in-Cut (below_shore t at.In_ok-brought-in-Cut)).1
