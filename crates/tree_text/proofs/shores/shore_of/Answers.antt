use Rattle.tree_text.proofs.ShoreLists.{moved, all-behind, all_moved}
use Rattle.tree_text.proofs.shores.shore_of.Goals as goal

pub numbers-preserved : goal.numbers-preserved
numbers-preserved c =
    record {
      same = moved c.args.vertices.now c.numbers.shore c.with-shore.result c.in-Some.behind.now c.numbers.rest.now c.in-Some.v.now c.in-Some.ensures.cases.0 c.with-shore.ensures c.numbers.invariant.same;
      within = all-behind 128 c.numbers.rest.now c.in-Some.behind.now c.in-Some.v.now c.in-Some.ensures.cases.0 c.numbers.invariant.within;
    }

pub returns : goal.returns
returns c = all_moved c.args.vertices.now c.numbers.shore c.numbers.rest.now c.in_default.ensures.cases c.rises.ensures c.requires c.numbers.invariant.same
