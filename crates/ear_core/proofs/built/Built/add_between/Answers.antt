use Rattle.std.proofs.Common.{◌∙◌, arith, refl, subst, sym}
use Rattle.two_ears.specs.from_match_search.Common.{marks}
use Rattle.ear_core.proofs.GoingOn.{filled-first}
use Rattle.ear_core.specs.Common.{IsAsked}
use Rattle.ear_core.proofs.built.Built.add_between.Goals as goal

pub loop-k-init : goal.loop-k-init
loop-k-init c =
    let old = c.args.self.now in
    let added = c.in_ok-add_edge.ensures in
    record {
      same = refl;
      marked = added.marked;
      filled = λ n first built. added.filled n first (marks old.marked.mark.items) (filled-first c.args.g.now n first old built) c.requires.off c.requires.joins;
      fewer = added.fewer c.requires.off;
    }

pub loop-k-preserved : goal.loop-k-preserved
loop-k-preserved c =
    let added = c.in_ok-add_if_between.ensures in
    record {
      same = added.same ∙ c.loop-k.invariant.same;
      marked = added.marked;
      filled = λ n first built. added.filled n first (marks c.args.self.now.marked.mark.items) (subst (IsAsked c.args.g.now (marks c.args.self.now.marked.mark.items)) (sym c.loop-k.invariant.same) c.requires.asked) (c.loop-k.invariant.filled n first built);
      fewer = let less = added.fewer in omega arith;
    }

pub returns-clause-built : goal.returns-clause-built
returns-clause-built c = λ n first built. (c.loop-k.invariant.filled n first built).built
