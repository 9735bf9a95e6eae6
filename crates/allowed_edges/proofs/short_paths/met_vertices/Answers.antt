use Rattle.graph_core.proofs.from_counting.Common.{◌==◌, ◌∙◌, arith, inl, inr, cases_eq, or_left, mem}
use Rattle.allowed_edges.proofs.ShortPaths.{ends_outside, get_below}
use Rattle.allowed_edges.proofs.short_paths.met_vertices.Goals as goal

pub loop-i-preserved : goal.loop-i-preserved
loop-i-preserved c = λ j row l h. elim (cases_eq j c.loop-i.i) [
  | inl q ↦ grind arith
  | inr d ↦
      let before = c.loop-i.invariant j row (omega arith) h in (
        c.with-met.ensures row.a ∙ or_left (mem c.with.result row.a) (c.row-row.result.b == row.a) (c.with.ensures row.a ∙ or_left (mem c.loop-i.met row.a) (c.row-row.result.a == row.a) before.0),
        c.with-met.ensures row.b ∙ or_left (mem c.with.result row.b) (c.row-row.result.b == row.b) (c.with.ensures row.b ∙ or_left (mem c.loop-i.met row.b) (c.row-row.result.a == row.b) before.1),
      )
]

pub returns : goal.returns
returns c = grind (arith, ends_outside (mem c.loop-i.met) c.args.m.now.rows, get_below c.args.m.now.rows)
