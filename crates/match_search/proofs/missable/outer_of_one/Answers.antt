use Rattle.graph_core.proofs.from_counting.Common.{ℕ, List, refl, sym, ap, ◌∙◌, true≢false, mem}
use Rattle.match_search.proofs.AugmentedMates.{left_is}
use Rattle.match_search.proofs.Flowers.{outer_row, rooted_from}
use Rattle.match_search.proofs.MissableRows.{missable_row}
use Rattle.match_search.proofs.missable.outer_of_one.Goals as goal

pub outer_from-requires-clause-rooted : goal.outer_from-requires-clause-rooted
outer_from-requires-clause-rooted c =
    let q = c.requires.holds in
    (q.0, q.1, q.2, rooted_from q.0 q.1 q.2 c.args.instance.now c.args.mate.now c.exposed_in.result c.in-Some.root q.3 c.exposed_in.ensures (c.in-Some.ensures c.in-Some.root refl))

pub returns-in-Some-clause-row : goal.returns-in-Some-clause-row
returns-in-Some-clause-row c = λ g r f held.
    let rooted = rooted_from g r f c.args.instance.now c.args.mate.now c.exposed_in.result c.in-Some.root held c.exposed_in.ensures (c.in-Some.ensures c.in-Some.root refl) in
    outer_row g r f c.args.instance.now c.args.mate.now c.in-Some.root rooted c.outer_from.result (c.outer_from.ensures.outer g r f rooted)

pub returns-then-exposed_count-eq1-clause-row : goal.returns-then-exposed_count-eq1-clause-row
returns-then-exposed_count-eq1-clause-row c = λ g r f held.
    let framed = c.in_ok-sets.ensures.frame g r f held in
    missable_row g r c.last_frame.new.mate c.args.instance.now.left c.in_ok-sets.sets.outer c.in_ok-sets.sets framed (c.last_frame.auto.mate ∙ held.long) (left_is g r c.args.instance.now held.instance_is)
    c.exposed_count.result c.exposed_count.ensures (λ q. refl) (λ q. absurd (q c.if-exposed_count-eq1.true)) (λ v. (framed.vertices v).0)

pub returns-else-exposed_count-eq1-clause-row : goal.returns-else-exposed_count-eq1-clause-row
returns-else-exposed_count-eq1-clause-row c = λ g r f held.
    let framed = c.in_ok-sets.ensures.frame g r f held in
    missable_row g r c.last_frame.new.mate c.args.instance.now.left c.empty.result c.in_ok-sets.sets framed (c.last_frame.auto.mate ∙ held.long) (left_is g r c.args.instance.now held.instance_is)
    c.exposed_count.result c.exposed_count.ensures (λ q. absurd (c.if-exposed_count-eq1.false q)) (λ q. c.empty.ensures) (λ v t. absurd (true≢false (sym t ∙ ap (λ (xs : List ℕ). mem xs v) c.empty.ensures)))
