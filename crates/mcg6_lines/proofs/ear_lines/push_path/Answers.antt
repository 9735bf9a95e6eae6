use Rattle.std.proofs.Common.{List, ℕ, ◌++◌, ◌∙◌, All, ap, arith, decimal, subst, sym}
use Rattle.allowed_edges.proofs.from_counting.Common.{Within}
use Rattle.graph_core.proofs.Common.{size}
use Rattle.mcg6_lines.proofs.EarTexts.{all_after, begun, gone_on}
use Rattle.mcg6_lines.proofs.ear_lines.push_path.Goals as goal

pub edges-init : goal.edges-init
edges-init c = record {
  within = subst (λ (es : List ℕ). All (Within (size c.args.g.now)) es) (sym c.as_slice-rest.ensures) c.requires.1;
  whole = begun c.args.g.now c.args.ear.now.«from» c.args.ear.now.edges c.as_slice-rest.result.now c.args.line.now.items c.push_decimal.new.text.items c.as_slice-rest.ensures (c.in_ok-push_decimal.ensures ∙ ap (λ (v : ℕ). c.args.line.now.items ++ decimal v) c.from.ensures);
}

pub edges-preserved : goal.edges-preserved
edges-preserved c =
    let split = c.in-Some.ensures.cases.0 in
    record {
      within = all_after (size c.args.g.now) c.in-Some.e.now c.in-Some.others.now c.edges.rest.now split c.edges.invariant.within;
      whole = gone_on c.args.g.now c.edges.v c.across-v.result c.in-Some.e.now c.in-Some.others.now c.edges.rest.now _ c.edges.line.items c.push.new.self.items c.push_decimal-in-Some.new.text.items
          split c.across-v.ensures c.in_ok-push.ensures.items
          (c.in_ok-push_decimal-2.ensures ∙ ap (λ (v : ℕ). c.push.new.self.items ++ decimal v) c.from-in-Some.ensures) c.edges.invariant.whole;
    }
