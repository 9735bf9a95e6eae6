use Rattle.graph_core.proofs.from_counting.Common.{sym, subst, ap, ◌∙◌, List, ℕ, Bool, not, ◌&&◌, Within, everything, mem, IsRisingIn, rising_list-rises}
use Rattle.graph_core.proofs.Common.{InD, InA}
use Rattle.gallai_edmonds.proofs.ThreeParts.{listed, rest_listed}
use Rattle.gallai_edmonds.proofs.three_sets.sets_of.Goals as goal

pub returns-clause-d : goal.returns-clause-d
returns-clause-d c = listed c.args.facts.now.order c.frame-frame.result.now.outer (InD c.args.facts.now) c.frame-frame.ensures.outer_in c.frame-frame.ensures.missed

pub returns-clause-a : goal.returns-clause-a
returns-clause-a c = listed c.args.facts.now.order c.frame-frame.result.now.inner (InA c.args.facts.now) c.frame-frame.ensures.inner_in c.frame-frame.ensures.next

pub returns-clause-c : goal.returns-clause-c
returns-clause-c c =
    rest_listed c.args.facts.now.order 128 c.full.result c.frame-frame.result.now.outer c.frame-frame.result.now.inner c.minus-rest.result (InD c.args.facts.now) (InA c.args.facts.now)
    c.rises.ensures
    (subst (λ (n : ℕ). IsRisingIn n c.full.result) c.order.ensures.is (subst (λ (xs : List ℕ). IsRisingIn c.order.result xs) (sym c.full.ensures.list) (rising_list-rises c.order.result everything)))
    (λ v. c.minus-rest.ensures v ∙ ap (λ (b : Bool). mem c.full.result v && not b) (c.union-met.ensures v))
    (λ v w. (c.full.ensures.members v).1 (subst (λ (n : ℕ). Within n v) (sym c.order.ensures.is) w))
    c.frame-frame.ensures.missed c.frame-frame.ensures.next
