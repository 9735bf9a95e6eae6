use Rattle.graph_core.proofs.from_counting.Common.{◌==◌, ◌∙◌, or_left, mem}
use Rattle.match_core.specs.Common.{edges_of}
use Rattle.allowed_edges.proofs.ShortPaths.{fewer_removed}
use Rattle.allowed_edges.proofs.short_paths.in_place_of.Goals as goal

pub with_edge-requires-clause-matching : goal.with_edge-requires-clause-matching
with_edge-requires-clause-matching c = record {
  of = c.in_ok-opened.ensures.of c.args.g.now c.requires.matching.of;
  within = c.requires.matching.within;
  matching = fewer_removed c.args.g.now (mem c.with-2.result) (mem c.args.met) (mem (edges_of c.in_ok-opened.opened))
      (λ v t. c.with-2.ensures v ∙ or_left (mem c.with.result v) (c.args.row.b == v) (c.with.ensures v ∙ or_left (mem c.args.met v) (c.args.row.a == v) t))
      (c.in_ok-opened.ensures.matching c.args.g.now c.requires.matching.of);
}
