use Rattle.graph_core.proofs.from_counting.Common.{◌≡◌, ℕ, List, ◌+◌, sym, ap, subst, ◌∙◌, Set, mem}
use Rattle.graph_core.proofs.Common.{Graph}
use Rattle.match_search.specs.Common.{HasMates, marks, numbers}
use Rattle.match_search.proofs.AugmentedMates.{framed_best}
use Rattle.match_search.proofs.WholeGraphs.{limits_row, whole_graph, whole_size}
use Rattle.match_search.proofs.best.find_best.Goals as goal

pub marks_of-requires-clause-row : goal.marks_of-requires-clause-row
marks_of-requires-clause-row c = limits_row c.args.g.now c.order.result c.edges.result.now c.order.ensures.is c.edges.ensures.edges c.edges.ensures.limits

pub returns : goal.returns
returns c =
    let g = c.args.g.now in
    let whole = whole_graph c.args.g.now c.order.result c.edges.result.now c.order.ensures.is c.edges.ensures.edges in
    let size = whole_size c.args.g.now c.order.result c.edges.result.now c.order.ensures.is c.edges.ensures.edges in
    let framed = c.in_ok-mate.ensures.frame in
    let limits = c.edges.ensures.limits in
    let passed : c.deref.result.now ≡ c.in_ok-mate.field-0.mate.items = cc in
    let pairs = λ (row : List ℕ) (m : Set). HasMates g (mem c.args.removed) m (numbers row) in
    let read = subst (λ (h : Graph). (r m : Set) → HasMates h r m (numbers c.deref.result.now) → HasMates h r (marks c.in_ok-mark.mark.items) (numbers c.deref.result.now)) whole c.in_ok-mark.ensures.mates in
    framed_best g limits.multigraph.ends (mem c.args.removed) c.in_ok-mate.field-0.mate.items (record { mark = c.in_ok-mark.mark; sets = c.in_ok-mate.field-0.sets }) framed
    (c.in_ok-mark.ensures.long ∙ ap (λ k. k + 1) size)
    (subst (λ (row : List ℕ). pairs row (marks c.in_ok-mark.mark.items)) passed (read (mem c.args.removed) framed.m (subst (λ (row : List ℕ). pairs row framed.m) (sym passed) framed.mates)))
