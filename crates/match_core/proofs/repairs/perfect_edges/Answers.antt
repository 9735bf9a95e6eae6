use Rattle.graph_core.proofs.from_counting.Common.{◌≡◌, ℕ, List, sym, ◌∙◌, subst, arith, with_items_is, mem}
use Rattle.graph_core.proofs.Common.{graph_of}
use Rattle.match_search.specs.Common.{HasMates, numbers}
use Rattle.match_search.proofs.GraphRows.{row_graph}
use Rattle.match_core.proofs.FrameFacts.{no_outer-mates_perfect, outer-mates_none}
use Rattle.match_core.specs.Common.{NamesPerfect}
use Rattle.match_core.proofs.repairs.perfect_edges.Goals as goal

pub enlarge-requires-clause-holds : goal.enlarge-requires-clause-holds
enlarge-requires-clause-holds c = grind (arith, graph_of, row_graph, mem)

pub returns-then-len-eq0-clause-perfect : goal.returns-then-len-eq0-clause-perfect
returns-then-len-eq0-clause-perfect c = λ at q.
    let g = graph_of c.args.n c.args.ends.now in
    let is = row_graph c.args.n c.args.ends.now c.requires.row.within in
    let framed = c.in_ok-sets.ensures g c.requires.mates.0 is c.requires.neighbours (subst (λ (row : List ℕ). HasMates g (mem c.args.removed) c.requires.mates.0 (numbers row)) (sym c.deref_mut.ensures.value) c.requires.mates.1) in
    let passed : c.deref-then-len-eq0.result.now ≡ c.enlarge.new.mate = c.deref-then-len-eq0.ensures.value ∙ with_items_is c.args.given c.enlarge.new.mate (c.enlarge.auto.mate ∙ c.deref_mut.ensures.len) in
    let named = c.in_ok-at.ensures.named (mem c.args.removed) framed.m (subst (λ (row : List ℕ). HasMates g (mem c.args.removed) framed.m (numbers row)) (sym passed) framed.mates) in
    let same : c.in_ok-at.at ≡ at = cc in
    subst (λ row. NamesPerfect c.args.n (mem c.args.removed) c.args.ends.now row.items) same record {
      m = named.0;
      long = c.in_ok-at.ensures.length;
      perfect = no_outer-mates_perfect g is (mem c.args.removed) c.enlarge.new.mate c.in_ok-sets.sets framed (sym c.len.ensures ∙ (grind arith)) named.0
          (subst (λ (row : List ℕ). HasMates g (mem c.args.removed) named.0 (numbers row)) passed named.1);
      named = named.2;
    }

pub returns-then-len-eq0-clause-none : goal.returns-then-len-eq0-clause-none
returns-then-len-eq0-clause-none c =
    let g = graph_of c.args.n c.args.ends.now in
    let is = row_graph c.args.n c.args.ends.now c.requires.row.within in
    let framed = c.in_ok-sets.ensures g c.requires.mates.0 is c.requires.neighbours (subst (λ (row : List ℕ). HasMates g (mem c.args.removed) c.requires.mates.0 (numbers row)) (sym c.deref_mut.ensures.value) c.requires.mates.1) in
    let passed : c.deref-then-len-eq0.result.now ≡ c.enlarge.new.mate = c.deref-then-len-eq0.ensures.value ∙ with_items_is c.args.given c.enlarge.new.mate (c.enlarge.auto.mate ∙ c.deref_mut.ensures.len) in
    let named = c.in_ok-at.ensures.named (mem c.args.removed) framed.m (subst (λ (row : List ℕ). HasMates g (mem c.args.removed) framed.m (numbers row)) (sym passed) framed.mates) in
    let perfect = no_outer-mates_perfect g is (mem c.args.removed) c.enlarge.new.mate c.in_ok-sets.sets framed (sym c.len.ensures ∙ (grind arith)) named.0
    (subst (λ (row : List ℕ). HasMates g (mem c.args.removed) named.0 (numbers row)) passed named.1) in
    ((λ q. absurd (cc)), (λ none. absurd (none (named.0, perfect))))

pub returns-clause-none : goal.returns-clause-none
returns-clause-none c = grind (arith, graph_of, row_graph, mem, outer-mates_none)
