use Rattle.graph_core.proofs.from_counting.Common.{◌∙◌, ◌||◌, ◌==◌, refl, sym, ap, subst, get_or_from_slice_get, mem}
use Rattle.graph_core.proofs.Common.{first_end}
use Rattle.barrier_kit.specs.from_match_core.Common.{IsRowOf, edges_of}
use Rattle.barrier_kit.proofs.from_allowed_edges.ListedBases.{edge_held}
use Rattle.tight_cuts.proofs.OneSided.{both_ends}
use Rattle.tight_cuts.proofs.quiet_edges.widened_at.Goals as goal

pub returns : goal.returns
returns c =
    let g = c.args.g.now in
    let f = c.row-f.result.edge in
    let kept = c.requires.kept in
    let is : IsRowOf g c.row-f.result = subst (IsRowOf g) (get_or_from_slice_get c.args.kept.now.rows c.args.i c.row-f.result c.row-f.result c.row-f.ensures) (kept.of.rows c.args.i c.row-f.result c.requires.row) in
    let held = edge_held c.args.kept.now.rows c.args.i c.row-f.result f c.row-f.ensures refl in
    both_ends g c.args.e f c.requires.edge is.edge c.if-f-e.false (mem (edges_of c.args.kept.now), kept.perfect, kept.held, held)
    (mem c.args.reach) c.requires.reach (sym c.is_in_cut.ensures ∙ c.if-not-is_in_cut.false) (mem c.with-2.result)
    (λ v. c.with-2.ensures v ∙ ap (λ b. b || (c.ends-ends.result.b == v)) (c.with.ensures v ∙ ap (λ a. mem c.args.reach v || (a == v)) c.ends-ends.ensures.first) ∙ ap (λ b. (mem c.args.reach v || (first_end g f == v)) || (b == v)) c.ends-ends.ensures.second)
