use Rattle.graph_core.proofs.from_counting.Common.{◌≡◌, ℕ, List, sym, ap, subst, ◌+◌, ◌∙◌, with_items_is, mem}
use Rattle.graph_core.proofs.Common.{graph_of}
use Rattle.match_search.specs.Common.{HasMates, marks, numbers}
use Rattle.match_search.proofs.AugmentedMates.{framed_best}
use Rattle.match_search.proofs.GraphRows.{row_graph, size_is}
use Rattle.match_search.proofs.best.best_from.Goals as goal
use Rattle.match_search.proofs.best.best_from.Goals.{After-deref_mut}

-- the row of mates as the search reads it
held : (c : After-deref_mut) → HasMates (graph_of c.args.n c.args.ends.now) (mem c.args.removed) (marks c.args.given.now) (numbers c.deref_mut.result.now)
held c = subst (λ (row : List ℕ). HasMates (graph_of c.args.n c.args.ends.now) (mem c.args.removed) (marks c.args.given.now) (numbers row)) (sym c.deref_mut.ensures.value) (c.in_ok-mate.ensures.mates (mem c.args.removed) c.requires.matching)

pub enlarge-requires-clause-holds : goal.enlarge-requires-clause-holds
enlarge-requires-clause-holds c = (graph_of c.args.n c.args.ends.now, marks c.args.given.now, row_graph c.args.n c.args.ends.now c.requires.row.within, c.requires.neighbours, held c)

pub returns : goal.returns
returns c =
    let g = graph_of c.args.n c.args.ends.now in
    let is = row_graph c.args.n c.args.ends.now c.requires.row.within in
    let framed = c.in_ok-sets.ensures g (marks c.args.given.now) is c.requires.neighbours (subst (λ (row : List ℕ). HasMates g (mem c.args.removed) (marks c.args.given.now) (numbers row)) (sym c.deref_mut.ensures.value) (c.in_ok-mate.ensures.mates (mem c.args.removed) c.requires.matching)) in
    let passed : c.deref-2.result.now ≡ c.enlarge.new.mate = c.deref-2.ensures.value ∙ with_items_is c.in_ok-mate.mate c.enlarge.new.mate (c.enlarge.auto.mate ∙ c.deref_mut.ensures.len) in
    framed_best g is (mem c.args.removed) c.enlarge.new.mate (record { mark = c.in_ok-mark.mark; sets = c.in_ok-sets.sets }) framed
    (c.in_ok-mark.ensures.long ∙ ap (λ k. k + 1) (sym (size_is c.args.n c.args.ends.now)))
    (subst (λ (row : List ℕ). HasMates g (mem c.args.removed) (marks c.in_ok-mark.mark.items) (numbers row)) passed (c.in_ok-mark.ensures.mates (mem c.args.removed) framed.m (subst (λ (row : List ℕ). HasMates g (mem c.args.removed) framed.m (numbers row)) (sym passed) framed.mates)))
