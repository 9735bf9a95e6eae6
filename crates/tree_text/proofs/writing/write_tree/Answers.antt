use Rattle.std.proofs.Common.{subst, sym, string_bytes, arith}
use Rattle.graph_core.specs.from_line_text.Common.{Stands}
use Rattle.graph_core.proofs.from_line_text.ExactlyOne.{StandsAlone-stands}
use Rattle.tree_core.proofs.Common.{shape_of}
use Rattle.tree_text.specs.Common.{tree_format, IsWritable}
use Rattle.tree_text.proofs.TextSoFar.{tree_text-lines}
use Rattle.tree_text.proofs.TreeReadBack.{Stands-tree_text}
use Rattle.tree_text.proofs.writing.write_tree.Goals as goal

pub returns-clause-text : goal.returns-clause-text
returns-clause-text c = grind (arith, tree_text-lines, string_bytes)

pub returns-clause-stands : goal.returns-clause-stands
returns-clause-stands c =
    let n = c.args.n in
    let t = shape_of c.args.tree.now in
    let limit = c.requires.order in
    let is : IsWritable n t = record { order = omega arith; fits = c.requires.fits; vertices = c.requires.vertices; rising = c.in_ok-push_nodes.ensures.rising; few = c.requires.few } in
    subst (λ bytes. Stands (tree_format n) bytes t) (sym (returns-clause-text c)) (Stands-tree_text n t is)

pub returns-clause-alone : goal.returns-clause-alone
returns-clause-alone c = StandsAlone-stands (tree_format c.args.n) _ (shape_of c.args.tree.now) (returns-clause-stands c)
