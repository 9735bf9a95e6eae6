use Rattle.allowed_edges.proofs.from_counting.Common.{◌&&◌, ◌||◌, ◌∙◌, ap, arith, not, subst, sym, List, ℕ, Within, mem, or_false}
use Rattle.graph_core.proofs.Common.{row-adjacent}
use Rattle.graph_facts.proofs.Parities.{flood_end, flood_less, flood_start, flood_step}
use Rattle.graph_facts.proofs.layers.Layers.of.Goals as goal

pub flooding-init : goal.flooding-init
flooding-init c = grind (arith, flood_start c.args.g.now c.keeps_limits.ensures.multigraph (mem c.one.result) (mem c.empty.result) (mem c.one.result), or_false)

pub flooding-preserved : goal.flooding-preserved
flooding-preserved c =
    let v = c.in-Some.v in
    let v_open = c.in-Some.ensures.some.member in
    let flood = c.flooding.invariant in
    flood_step c.args.g.now c.keeps_limits.ensures.multigraph (mem c.index-rows-v.result) (mem c.minus-new.result) (mem c.flooding.layers.even) (mem c.flooding.layers.odd) (mem c.flooding.open)
    (mem c.after-layers.result.even) (mem c.after-layers.result.odd) (mem c.union-open.result) v flood v_open
    (λ u. row-adjacent c.args.g.now c.rows-rows.result.now c.index-rows-v.result v u c.rows-rows.ensures (subst (λ n. Within n v) (sym c.rows-rows.ensures.one_each) (flood.within v (flood.among v v_open))) c.index-rows-v.is)
    (λ u. c.minus-new.ensures u ∙ ap (λ b. b && not (mem c.flooding.layers.odd u)) (c.minus.ensures u)) c.after-layers.ensures.even c.after-layers.ensures.odd
    (λ u. c.union-open.ensures u ∙ ap (λ b. b || mem c.minus-new.result u) (c.without.ensures u))

pub flooding-smaller : goal.flooding-smaller
flooding-smaller c =
    let v = c.in-Some.v in
    let v_open = c.in-Some.ensures.some.member in
    let found = c.flooding.invariant.among v v_open in
    let less = flood_less c.args.g.now.order (mem c.index-rows-v.result) (mem c.minus-new.result) (mem c.flooding.layers.even) (mem c.flooding.layers.odd) (mem c.flooding.open)
    (mem c.after-layers.result.even) (mem c.after-layers.result.odd) (mem c.union-open.result) v (c.flooding.invariant.within v found) v_open found
    (λ u. c.minus-new.ensures u ∙ ap (λ b. b && not (mem c.flooding.layers.odd u)) (c.minus.ensures u)) c.after-layers.ensures.even c.after-layers.ensures.odd
    (λ u. c.union-open.ensures u ∙ ap (λ b. b || mem c.minus-new.result u) (c.without.ensures u)) in
    omega arith

pub returns : goal.returns
returns c = flood_end c.args.g.now c.keeps_limits.ensures.multigraph (mem c.flooding.layers.even) (mem c.flooding.layers.odd) (mem c.flooding.open) c.flooding.invariant (λ v. ap (λ (xs : List ℕ). mem xs v) c.in_default.ensures.none)
