use Rattle.std.proofs.Common.{rules}
use Rattle.two_ears.specs.from_match_search.Common.{marks}
use Rattle.two_ears.proofs.from_allowed_edges.Marking.{length-marked, marks-set}
use Rattle.ear_core.proofs.MarkedStages.{ends-added}
use Rattle.ear_core.proofs.marked.Marked.add_edge.Goals as goal

pub returns-clause-marked : goal.returns-clause-marked
returns-clause-marked c =
    let g = c.args.g.now in
    let items = c.args.self.now.mark.items in
    let e = c.args.e in
    record {
      long = search (rules, length-marked items e);
      met = λ v. ends-added g (marks items) _ e c.requires.edge (λ i. search (rules, marks-set items e i)) c.args.self.now.met c.with.result c.with-self.result c.ends-ends.result.a c.ends-ends.result.b c.ends-ends.ensures.first c.ends-ends.ensures.second c.requires.marked.met c.with.ensures c.with-self.ensures v;
    }
