use Rattle.graph_core.proofs.from_counting.Common.{◌≡◌, ℕ, Bool, false, ◌||◌, ◌==◌, List, ap, ◌∙◌, subst, sym, All, arith, list_any, IfOk-weaker, Within, mem}
use Rattle.graph_core.proofs.Common.{size, IsPerfectAt, lifted}
use Rattle.match_core.proofs.from_match_search.Marks.{no-marks}
use Rattle.match_core.specs.Common.{edges_of}
use Rattle.match_core.specs.from_match_search.Common.{marks}
use Rattle.match_core.specs.declared.matching.MatchRow.{MatchRow}
use Rattle.contraction.specs.LeastEdges.{least_at}
use Rattle.contraction.proofs.LeastEdges.{blocks-of, marked-lifted}
use Rattle.contraction.proofs.LiftedMatchings.{lifted-perfect}
use Rattle.contraction.proofs.lifting.lift.Goals as goal

pub returns-clause-edges : goal.returns-clause-edges
returns-clause-edges c g p is =
    let rows = c.args.m.now.rows in
    let all : All (λ (row : MatchRow). Within (size c.args.q.now.graph) row.edge) rows = λ k d h. (c.requires.rows k d h).edge in
    let none : (e : ℕ) → marks c.in_ok-mark.mark.items e ≡ false = λ e. ap (λ (row : List Bool). marks row e) (c.in_ok-mark.ensures.items_if_clones_equal (λ y q. q)) ∙ no-marks _ e in
    let each : (e : ℕ) → marks c.mark_least.new.mark.items e ≡ list_any (λ (row : MatchRow). least_at c.args.q.now row.edge == e) rows = λ e. c.mark_least.ensures.each e ∙ ap (λ b. b || list_any (λ (row : MatchRow). least_at c.args.q.now row.edge == e) rows) (none e) in
    grind (arith, marked-lifted g p c.args.q.now rows (marks c.mark_least.new.mark.items) is all each)

pub returns-clause-perfect : goal.returns-clause-perfect
returns-clause-perfect c g p graph is perfect =
    IfOk-weaker c.marked_numbers.result (λ (edges : List ℕ). edges ≡ lifted g p (mem (edges_of c.args.m.now))) (λ (edges : List ℕ). IsPerfectAt g p (mem edges))
    (λ edges q. subst (λ (es : List ℕ). IsPerfectAt g p (mem es)) (sym q) (lifted-perfect g p graph (blocks-of g p c.args.q.now c.keeps_contraction.ensures is) (mem (edges_of c.args.m.now)) perfect))
    (returns-clause-edges c g p is)
