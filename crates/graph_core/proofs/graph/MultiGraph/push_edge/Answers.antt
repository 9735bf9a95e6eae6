use Rattle.vset_core.proofs.from_counting.Common.{rules, ◌≡◌, ◌<◌, ◌∙◌, ◌++◌, ◌∷◌, [], ℕ, List, length, drop, take, ap, arith, subst, sym, take-append_seam, map-append, Within}
use Rattle.graph_core.specs.Common.{Graph, with_edge, AreRows, graph_of, pair_of, IsWithinLimits, size}
use Rattle.graph_core.specs.declared.ends.Ends.{Ends}
use Rattle.graph_core.proofs.OneMoreEdge.{limits-with_edge}
use Rattle.graph_core.proofs.graph.MultiGraph.push_edge.Goals as goal

-- the rows that are written back are the new rows
written_back : (len : ℕ) (new rows : List (List ℕ)) → length new ≡ len → take len (new ++ drop (length new) rows) ≡ new
written_back len new rows long = ap (λ k. take k (new ++ drop (length new) rows)) (sym long) ∙ take-append_seam new (drop (length new) rows)

-- the graph of the longer list has one more edge
graph_of-more : (n : ℕ) (items pushed : List Ends) (a b : ℕ) → pushed ≡ items ++ record { a = a; b = b } ∷ [] → with_edge (graph_of n items) a b ≡ graph_of n pushed
graph_of-more n items pushed a b more = grind (arith, map-append pair_of items)

pub invariant_of-self-2 : goal.invariant_of-self-2
invariant_of-self-2 c =
    let g = graph_of c.self.inside.order c.self.inside.edges.items in
    let kept = c.self.invariant.limits in
    let room : size g < 2048 = subst (λ g. size g < 2048) (sym c.self.view_is) c.requires.room in
    let first : Within g.order c.args.edge.a = subst (λ (g : Graph). Within g.order c.args.edge.a) (sym c.self.view_is) c.requires.first in
    let second : Within g.order c.args.edge.b = subst (λ (g : Graph). Within g.order c.args.edge.b) (sym c.self.view_is) c.requires.second in
    let pushed : c.push.new.self.items ≡ c.self.inside.edges.items ++ record { a = c.args.edge.a; b = c.args.edge.b } ∷ [] = search rules in
    let more = graph_of-more c.self.inside.order c.self.inside.edges.items c.push.new.self.items c.args.edge.a c.args.edge.b pushed in
    record {
      limits = subst IsWithinLimits more (limits-with_edge g c.args.edge.a c.args.edge.b kept first second c.requires.different room);
      neighbours = subst (AreRows (graph_of c.self.inside.order c.push.new.self.items)) (sym (written_back c.self.inside.rows.len c.join.new.rows c.self.inside.rows.items (c.join.auto.rows ∙ c.deref_mut.ensures.len)))
          (subst (λ g. AreRows g c.join.new.rows) more
          (c.join.ensures g (subst (AreRows g) (sym c.deref_mut.ensures.value) c.self.invariant.neighbours)));
    }
