use Rattle.std.proofs.Common.{◌<◌, length, subst, arith}
use Rattle.graph_core.proofs.Common.{Graph, Together}
use Rattle.tight_cuts.proofs.ApartRows.{apart_more}
use Rattle.tight_cuts.proofs.apart_edges.ApartEdges.note.Goals as goal

pub invariant_of-self : goal.invariant_of-self
invariant_of-self c =
    let g = c.self.inside.graph.now in
    let e = c.args.e in
    let first = c.self.inside.first.items in
    let second = c.self.inside.second.items in
    let in_first : e < length first = grind arith in
    let in_second : e < length second = grind arith in (
      apart_more g first e c.args.f in_first c.self.invariant.0 (λ w t. c.requires.apart (subst (λ (h : Graph). Together h e c.args.f) c.self.view_is t)),
      apart_more g second e _ in_second c.self.invariant.1 (λ w t. c.self.invariant.0 e _ w (grind arith) t),
    )
