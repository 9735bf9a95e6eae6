use Rattle.graph_core.proofs.from_counting.Common.{◌∙◌, refl, subst, sym, Within}
use Rattle.two_ears.specs.from_match_search.Common.{marks}
use Rattle.ear_core.proofs.LoneTables.{near-step}
use Rattle.ear_core.proofs.lone_tables.near_rows.Goals as goal

pub loop-k-preserved : goal.loop-k-preserved
loop-k-preserved c = record {
  long = c.join_off.ensures.long ∙ c.loop-k.invariant.long;
  each = λ u v wu. near-step c.args.g.now (marks c.args.mark.now) c.loop-k.k u v _ _ _ c.ends.result.a c.ends.result.b (c.join_off.ensures.each u v (subst (λ n. Within n u) (sym c.loop-k.invariant.long) wu)) (c.loop-k.invariant.each u v wu) refl c.ends.ensures.first c.ends.ensures.second;
}
