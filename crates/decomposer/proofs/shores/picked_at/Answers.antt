use Rattle.std.proofs.Common.{rules}
use Rattle.tree_core.proofs.Common.{IsLeafAt}
use Rattle.decomposer.proofs.Picking.{first-picked}
use Rattle.decomposer.proofs.shores.picked_at.Goals as goal

pub listed_shore-requires-clause-candidates : goal.listed_shore-requires-clause-candidates
unfolding IsLeafAt
listed_shore-requires-clause-candidates g c = record {
  all = c.in_ok-list.ensures.list;
  each = c.in_ok-list.ensures.tight;
  leaf = c.in_ok-list.ensures.none.0;
}

pub returns-in_ok-first-clause-picked : goal.returns-in_ok-first-clause-picked
unfolding IsLeafAt
returns-in_ok-first-clause-picked g c =
    first-picked (g.P.Picker.picks c.args.order.now) c.args.place.now.graph c.args.place.now.blocks c.args.before c.shore_of.result (search rules)
    (c.shore_of.ensures c.args.place.now.graph c.args.place.now.blocks c.args.before (record {
      first = c.in_ok-first.ensures.first;
      some = c.in_ok-first.ensures.some;
      leaf = c.in_ok-first.ensures.none.0;
    }))
