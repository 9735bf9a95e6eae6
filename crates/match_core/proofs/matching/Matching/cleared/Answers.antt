use Rattle.graph_core.proofs.from_counting.Common.{◌≡◌, List, sym, subst, ap, ◌∙◌, filter, arith, mem}
use Rattle.match_core.specs.Common.{KeepsMatching, IsOf, MatchingValue, is_clear}
use Rattle.match_core.specs.declared.matching.MatchRow.{MatchRow}
use Rattle.match_core.proofs.ClearedMatchings.{cleared, cleared_edges, cleared_matching, cleared_of}
use Rattle.match_core.proofs.MatchingEdges.{keeps-filter}
use Rattle.match_core.proofs.matching.Matching.cleared.Goals as goal

pub invariant_of-result : goal.invariant_of-result
invariant_of-result c = subst (λ (rows : List MatchRow). KeepsMatching (record { order = c.self.inside.order; rows = rows })) (sym (c.in_ok-clear_rows.ensures ∙ ap (filter (is_clear (mem c.args.removed))) c.deref.ensures.value))
    (keeps-filter (is_clear (mem c.args.removed)) (record { order = c.self.inside.order; rows = c.self.inside.rows.items }) c.self.invariant)

pub returns-clause-of : goal.returns-clause-of
returns-clause-of c = λ g of.
    let rows = c.in_ok-clear_rows.ensures ∙ ap (filter (is_clear (mem c.args.removed))) c.deref.ensures.value in
    let made : MatchingValue = record { order = c.self.inside.order; rows = c.in_ok-clear_rows.field-0.items } in
    let is : made ≡ cleared (mem c.args.removed) c.args.self.now = ap (λ (rows : List MatchRow). let m : MatchingValue = record { order = c.self.inside.order; rows = rows } in m) rows ∙ ap (cleared (mem c.args.removed)) c.self.view_is in
    subst (λ (m : MatchingValue). IsOf g m) (sym is) (cleared_of g (mem c.args.removed) c.args.self.now of)

pub returns-clause-matching : goal.returns-clause-matching
returns-clause-matching c = grind (arith, cleared_matching)

pub returns-clause-edges : goal.returns-clause-edges
returns-clause-edges c = grind (arith, cleared_edges)
