use Rattle.std.proofs.Common.{ap, subst, sym, ◌∙◌}
use Rattle.graph_core.specs.declared.verdict.Kind.{Kind}
use Rattle.leaf_kinds.specs.LeafKinds.{IsKind, cut_of}
use Rattle.mcg6_lines.proofs.SingleLeaves.{one_brace, one_brick}
use Rattle.mcg6_lines.proofs.leaf_counts.tally_of_kind.Goals as goal

pub returns-in-Brick : goal.returns-in-Brick
returns-in-Brick c = one_brick c.args.c.now c.keeps_covered.ensures.limits.multigraph c.keeps_covered.ensures.covered (subst (λ (k : Kind). IsKind c.args.c.now k) c.in-Brick.is c.requires.kind)

pub returns-in-Brace : goal.returns-in-Brace
returns-in-Brace c = one_brace c.args.c.now c.keeps_covered.ensures.limits.multigraph c.keeps_covered.ensures.covered (subst (λ (k : Kind). IsKind c.args.c.now k) c.in-Brace.is c.requires.kind)

pub counted_from_cut-requires : goal.counted_from_cut-requires
counted_from_cut-requires c = sym c.requires.cut ∙ ap cut_of c.in-Composite.is
