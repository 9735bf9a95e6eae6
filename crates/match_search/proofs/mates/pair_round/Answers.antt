use Rattle.graph_core.proofs.from_counting.Common.{◌≡◌, ℕ, suc, ◌+◌, ◌-◌, ap, ◌∙◌, arith, cond, length, fun_ext}
use Rattle.match_search.specs.Common.{paired_round, with_pair, every_other, next, numbers}
use Rattle.match_search.proofs.mates.pair_round.Goals as goal

pub loop-i-preserved : goal.loop-i-preserved
loop-i-preserved c = record {
  same = c.pair_place.auto.mate ∙ c.loop-i.invariant.same;
  row = λ u. c.pair_place.ensures u
      ∙ ap (λ (m : ℕ → ℕ). cond (every_other c.args.tip (c.loop-i.i + 1)) (with_pair m (numbers c.args.cycle.now (c.loop-i.i + 1)) (numbers c.args.cycle.now (next (length c.args.cycle.now - 1) (c.loop-i.i + 1))) u) (m u)) (fun_ext c.loop-i.invariant.row)
      ∙ ap (λ (k : ℕ). cond (every_other c.args.tip k) (with_pair (paired_round (numbers c.args.mate.now) (length c.args.cycle.now - 1) (numbers c.args.cycle.now) c.args.tip c.loop-i.i) (numbers c.args.cycle.now k) (numbers c.args.cycle.now (next (length c.args.cycle.now - 1) k)) u)
      (paired_round (numbers c.args.mate.now) (length c.args.cycle.now - 1) (numbers c.args.cycle.now) c.args.tip c.loop-i.i u)) (omega arith)
      ∙ ap (λ (k : ℕ). paired_round (numbers c.args.mate.now) (length c.args.cycle.now - 1) (numbers c.args.cycle.now) c.args.tip k u) (back c.loop-i.i);
}
  where
    back : (i : ℕ) → suc i ≡ i + 1
    back i = omega arith
