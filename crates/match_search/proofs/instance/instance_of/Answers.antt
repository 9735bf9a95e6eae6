use Rattle.graph_core.proofs.from_counting.Common.{◌≡◌, ℕ, sym, ◌∙◌, arith, length, subst, not, ◌&&◌, nat_lt, nat_le, mem}
use Rattle.graph_core.proofs.Common.{AreRows}
use Rattle.match_search.proofs.Instances.{full_left, whole_instance}
use Rattle.match_search.proofs.instance.instance_of.Goals as goal

pub returns : goal.returns
returns c = λ g is rows.
    let same = c.in_ok-rows.ensures.items_if_clones_equal (λ x y q. q) in
    let order : length c.args.rows.now ≡ g.order = rows.one_each in
    let few = c.requires in
    whole_instance g (mem c.args.removed) _ is (omega arith) (subst (AreRows g) (sym same) rows) (c.in_ok-members.ensures.one_each ∙ order) (λ v w. c.in_ok-members.ensures.single v (omega arith)) c.empty.ensures
    (subst (λ (n : ℕ). (v : ℕ) → mem c.minus.result v ≡ ((nat_lt 0 v && nat_le v n) && not (mem c.args.removed v))) order (full_left (length c.args.rows.now) (mem c.args.removed) c.full.result c.minus.result c.full.ensures.members c.minus.ensures))
