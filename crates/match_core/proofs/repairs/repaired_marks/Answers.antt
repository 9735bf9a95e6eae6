use Rattle.graph_core.proofs.from_counting.Common.{◌≡◌, ℕ, ◌+◌, ◌-◌, ◌/◌, Bool, true, List, length, sym, ap, ◌∙◌, subst, fun_ext, Set, put, mem}
use Rattle.graph_core.proofs.Common.{IsPerfect, graph_of}
use Rattle.match_search.specs.Common.{flipped, marks, numbers, part, DiffersByPath, IsRepairRow, Misses}
use Rattle.match_search.proofs.GraphRows.{row_graph}
use Rattle.match_core.proofs.RepairedPaths.{flipped_row, repaired_path}
use Rattle.match_core.proofs.repairs.repaired_marks.Goals as goal

pub returns-clause-perfect : goal.returns-clause-perfect
returns-clause-perfect c =
    let p = subst (λ (xs : List Bool). (x : ℕ) × Misses (graph_of c.args.n c.args.ends.now) (mem c.args.removed) (marks xs) x × IsRepairRow (graph_of c.args.n c.args.ends.now) (mem c.args.removed) (marks xs) x c.in_ok-edges.edges.items) c.deref.ensures.value c.in_ok-edges.ensures in
    let now : marks c.flipped_along.result.items ≡ put (flipped (marks c.args.mark.items) (numbers c.in_ok-edges.edges.items) p.2.pairs) (numbers c.in_ok-edges.edges.items (p.2.pairs + p.2.pairs)) true =
    fun_ext c.flipped_along.ensures.each ∙ ap (λ (row : List ℕ). put (flipped (marks c.args.mark.items) (part row 0) ((length row - 1) / 2)) (numbers row (length row - 1)) true) c.deref-2.ensures.value ∙ flipped_row (graph_of c.args.n c.args.ends.now) (mem c.args.removed) (marks c.args.mark.items) p.0 c.in_ok-edges.edges.items p.2 in
    subst (λ (s : Set). IsPerfect (graph_of c.args.n c.args.ends.now) (mem c.args.removed) s) (sym now) p.2.perfect

pub returns-clause-path : goal.returns-clause-path
returns-clause-path c =
    let p = subst (λ (xs : List Bool). (x : ℕ) × Misses (graph_of c.args.n c.args.ends.now) (mem c.args.removed) (marks xs) x × IsRepairRow (graph_of c.args.n c.args.ends.now) (mem c.args.removed) (marks xs) x c.in_ok-edges.edges.items) c.deref.ensures.value c.in_ok-edges.ensures in
    let now : marks c.flipped_along.result.items ≡ put (flipped (marks c.args.mark.items) (numbers c.in_ok-edges.edges.items) p.2.pairs) (numbers c.in_ok-edges.edges.items (p.2.pairs + p.2.pairs)) true =
    fun_ext c.flipped_along.ensures.each ∙ ap (λ (row : List ℕ). put (flipped (marks c.args.mark.items) (part row 0) ((length row - 1) / 2)) (numbers row (length row - 1)) true) c.deref-2.ensures.value ∙ flipped_row (graph_of c.args.n c.args.ends.now) (mem c.args.removed) (marks c.args.mark.items) p.0 c.in_ok-edges.edges.items p.2 in
    subst (λ (s : Set). DiffersByPath (graph_of c.args.n c.args.ends.now) (mem c.args.removed) (marks c.args.mark.items) s) (sym now) (repaired_path (graph_of c.args.n c.args.ends.now) (row_graph c.args.n c.args.ends.now c.requires.row.within) (mem c.args.removed) (marks c.args.mark.items) c.requires.matching p.0 p.1 c.in_ok-edges.edges.items p.2)
