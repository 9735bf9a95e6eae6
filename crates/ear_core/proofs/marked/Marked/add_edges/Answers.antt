use Rattle.graph_core.proofs.from_counting.Common.{◌||◌, ◌==◌, ◌∙◌, ap, sym, List, ℕ, or_assoc, mem, Within}
use Rattle.graph_core.proofs.Common.{size}
use Rattle.two_ears.specs.from_match_search.Common.{marks}
use Rattle.ear_core.proofs.FirstFaults.{items-behind}
use Rattle.ear_core.proofs.marked.Marked.add_edges.Goals as goal

pub edges-preserved : goal.edges-preserved
edges-preserved c =
    let old = marks c.edges.self.mark.items in
    let e = c.in-Some.e.now in
    let others = c.in-Some.others.now in
    let begins = c.in-Some.ensures.cases.0 in
    record {
      marked = c.add_edge.ensures.marked;
      each = λ i. ap (λ b. b || mem others i) (c.add_edge.ensures.each i) ∙ or_assoc (old i) (e == i) (mem others i) ∙ ap (λ (xs : List ℕ). old i || mem xs i) (sym begins) ∙ c.edges.invariant.each i;
      within = items-behind (Within (size c.args.g.now)) e c.edges.rest.now others begins c.edges.invariant.within;
    }
