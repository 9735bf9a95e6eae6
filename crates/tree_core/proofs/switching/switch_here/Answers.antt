use Rattle.std.proofs.Common.{sym, subst}
use Rattle.tree_core.specs.Common.{Fits, shape_of}
use Rattle.tree_core.specs.declared.tree.Tree.{Tree}
use Rattle.tree_core.proofs.SwitchSets.{all_wider, proper_outside-within, proper_part-within}
use Rattle.tree_core.proofs.switching.switch_here.Goals as goal

pub exchanged-requires-clause-exchange : goal.exchanged-requires-clause-exchange
exchanged-requires-clause-exchange c =
    let fits = subst (λ (t : Tree). Fits c.args.n (shape_of t)) c.in-Cut.is c.requires in record {
      greatest = c.holds_greatest.ensures;
      whole = all_wider c.args.n c.in-Cut.shore fits.0;
      part = proper_part-within c.args.n c.args.u c.in-Cut.shore (sym c.if-not-is_proper_part.ensures) fits.0;
      other = proper_outside-within c.args.n c.args.v c.in-Cut.shore (sym c.if-not-is_proper_outside.ensures);
    }
