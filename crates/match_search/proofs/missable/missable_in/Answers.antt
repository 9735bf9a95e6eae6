use Rattle.graph_core.proofs.from_counting.Common.{List, ℕ, sym, subst, ap, ◌∙◌, length, singleton, union}
use Rattle.match_search.specs.Common.{HoldsMatching, MayBeExposed}
use Rattle.match_search.proofs.Instances.{left_parts}
use Rattle.match_search.proofs.MissableRows.{exposed_without, held_without, serves_again, written_long}
use Rattle.match_search.proofs.missable.missable_in.Goals as goal

pub outer_of_one-requires-clause-holds : goal.outer_of_one-requires-clause-holds
outer_of_one-requires-clause-holds c =
    let q = c.requires.holds in
    let wu = (left_parts q.0 q.1 c.args.instance.now q.3.instance_is c.args.u c.requires.left).0 in
    let h = held_without q.0 q.1 q.2 c.args.u c.args.instance.now c.args.mate.now c.begin_row-candidates.new.self.own.items c.without-instance.result q.3 wu c.without-instance.ensures c.begin_row-candidates.ensures.long c.begin_row-candidates.ensures.own in
    (q.0, union q.1 (singleton c.args.u), h.0, subst (λ (row : List ℕ). HoldsMatching q.0 (union q.1 (singleton c.args.u)) h.0 (record c.args.instance.now { left = c.without-instance.result }) row) (sym c.deref_mut.ensures.value) h.1)

pub outer_of_one-requires-clause-candidates : goal.outer_of_one-requires-clause-candidates
outer_of_one-requires-clause-candidates c =
    let q = c.requires.holds in
    let exposed = exposed_without q.0 q.1 c.args.u c.args.instance.now c.args.mate.now c.begin_row-candidates.new.self.own.items c.without-instance.result c.args.space.now.exposed c.begin_row-candidates.result q.3.instance_is c.requires.space.exposed c.without-instance.ensures c.begin_row-candidates.ensures.own c.begin_row-candidates.ensures.before c.begin_row-candidates.ensures.mate in
    subst (λ (row : List ℕ). MayBeExposed c.without-instance.result row c.begin_row-candidates.result) (sym c.deref_mut.ensures.value) exposed

pub returns-clause-row : goal.returns-clause-row
returns-clause-row c = λ g r f held.
    let out = union r (singleton c.args.u) in
    let wu = (left_parts g r c.args.instance.now held.instance_is c.args.u c.requires.left).0 in
    let h = held_without g r f c.args.u c.args.instance.now c.args.mate.now c.begin_row-candidates.new.self.own.items c.without-instance.result held wu c.without-instance.ensures c.begin_row-candidates.ensures.long c.begin_row-candidates.ensures.own in
    let kept : HoldsMatching g out h.0 (record c.args.instance.now { left = c.without-instance.result }) c.deref_mut.result.now = subst (λ (row : List ℕ). HoldsMatching g out h.0 (record c.args.instance.now { left = c.without-instance.result }) row) (sym c.deref_mut.ensures.value) h.1 in
    c.in_ok-row.ensures.row g out h.0 kept

pub returns-clause-space : goal.returns-clause-space
returns-clause-space c =
    let q = c.requires.holds in
    serves_again q.0 q.1 q.2 c.args.instance.now c.args.mate.now c.args.space.now _ q.3 c.requires.space c.in_ok-row.ensures.sized (written_long c.begin_row-candidates.new.self.own.len c.outer_of_one.new.mate c.begin_row-candidates.new.self.own.items (length c.args.mate.now) (c.outer_of_one.auto.mate ∙ c.deref_mut.ensures.len) (sym c.deref_mut.ensures.len ∙ ap length c.deref_mut.ensures.value ∙ c.begin_row-candidates.ensures.long)) c.begin_row-candidates.ensures.exposed
