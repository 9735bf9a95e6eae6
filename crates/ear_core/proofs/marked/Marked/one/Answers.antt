use Rattle.graph_core.proofs.from_counting.Common.{rules, ap, ◌∙◌, Bool, List, sym, mem}
use Rattle.two_ears.proofs.from_match_search.Marks.{no-marks}
use Rattle.two_ears.specs.from_match_search.Common.{marks}
use Rattle.ear_core.proofs.MarkedStages.{nothing-met}
use Rattle.ear_core.proofs.marked.Marked.one.Goals as goal

pub add_edge-requires-clause-marked : goal.add_edge-requires-clause-marked
add_edge-requires-clause-marked c =
    let blank = c.in_ok-mark.ensures.items_if_clones_equal (λ y q. q) in
    record {
      long = search rules;
      met = λ v. ap (λ (xs : _). mem xs v) c.empty-met.ensures ∙ sym (nothing-met c.args.g.now (marks c.in_ok-mark.mark.items) (λ i. ap (λ (xs : List Bool). marks xs i) blank ∙ no-marks _ i) v);
    }
