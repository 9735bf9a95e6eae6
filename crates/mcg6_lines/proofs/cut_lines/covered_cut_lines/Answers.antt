use Rattle.std.proofs.Common.{◌≡◌, ◌∙◌, List, ℕ, ap}
use Rattle.allowed_edges.proofs.from_counting.Common.{IfOk-weaker}
use Rattle.leaf_kinds.specs.from_tight_cuts.Common.{Candidate, candidates, candidates_at}
use Rattle.graph_core.proofs.Common.{Graph, IsCovered, IsMultigraph, singles}
use Rattle.tight_cuts.proofs.Completeness.{candidates_apart, candidates_cover, candidates_found, candidates_none}
use Rattle.tight_cuts.proofs.PartitionCandidates.{root-candidates}
use Rattle.mcg6_lines.specs.CutLines.{TellsCuts, cut_lines}
use Rattle.mcg6_lines.proofs.cut_lines.covered_cut_lines.Goals as goal

tells : (front : List ℕ) (g : Graph) (bytes : List ℕ) → IsMultigraph g → IsCovered g → bytes ≡ cut_lines front (candidates g) → TellsCuts front g bytes
tells front g bytes is cov lines = record {
  covered = cov;
  lines = lines;
  tight = candidates_found g is.ends cov;
  once = candidates_apart g;
  cover = candidates_cover g is.ends cov;
  none = candidates_none g is.ends cov;
}

pub returns : goal.returns
returns c =
    let g = c.args.c.now in
    let list : c.in_ok-list.list ≡ candidates g = c.in_ok-list.ensures.list ∙ (λ i. candidates_at (c.in_ok-root.ensures.graph i) (c.in_ok-root.ensures.blocks i)) ∙ root-candidates g in
    IfOk-weaker c.lines_of_cuts.result _ _ (λ lines is. tells c.args.front.now g lines.items c.keeps_covered.ensures.limits.multigraph c.keeps_covered.ensures.covered (is ∙ ap (cut_lines c.args.front.now) list)) c.lines_of_cuts.ensures
