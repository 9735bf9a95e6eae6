use Rattle.graph_core.proofs.from_counting.Common.{◌≡◌, ℕ, List, true, sym, subst, arith, rules, Within, mem}
use Rattle.match_search.specs.Common.{ServesRows}
use Rattle.match_core.specs.Common.{are_partners}
use Rattle.match_core.proofs.HeldMates.{each_more, first_mates, mates_alike}
use Rattle.match_core.proofs.partner_table.rows_from.Goals as goal

pub loop-k-init : goal.loop-k-init
loop-k-init c = record {
  held = first_mates c.args.g.now (mem c.args.removed) c.in_ok-instance.instance c.args.mate.now (c.in_ok-instance.ensures c.args.g.now c.keeps_limits.ensures.multigraph.ends c.rows.ensures) c.requires.long c.requires.mates;
  space = c.in_ok-space.ensures;
  long = search rules;
  within = λ u v w. absurd (omega arith);
  row = λ u v w. absurd (omega arith);
}

pub loop-k-preserved : goal.loop-k-preserved
loop-k-preserved c = record {
  held = mates_alike c.args.g.now (mem c.args.removed) c.loop-k.instance c.partners_of.new.instance c.args.mate.now c.loop-k.invariant.held c.in_ok-row.ensures.restored;
  space = subst (λ (left : List ℕ). ServesRows left c.args.mate.now c.partners_of.new.space) (sym c.in_ok-row.ensures.restored.left) c.in_ok-row.ensures.space;
  long = search rules;
  within = λ u v w. each_more (λ u row. (v : ℕ) → mem row v ≡ true → Within c.args.g.now.order v) c.loop-k.k c.loop-k.rows.items c.push.new.self.items c.in_ok-row.row c.loop-k.invariant.long c.in_ok-push.ensures.items
      (λ u w v. c.loop-k.invariant.within u v w) c.in_ok-row.ensures.within u w v;
  row = λ u v w. each_more (λ u row. (v : ℕ) → Within c.args.g.now.order v → mem row v ≡ are_partners c.args.g.now (mem c.args.removed) u v) c.loop-k.k c.loop-k.rows.items c.push.new.self.items c.in_ok-row.row c.loop-k.invariant.long c.in_ok-push.ensures.items
      (λ u w v. c.loop-k.invariant.row u v w) c.in_ok-row.ensures.row u w v;
}

pub returns : goal.returns
returns c = grind arith
