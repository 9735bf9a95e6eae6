use Rattle.allowed_edges.proofs.from_counting.Common.{◌<◌, length, arith, drop_all, append-nil, get_or_read, length-map}
use Rattle.tree_core.proofs.Common.{place_of}
use Rattle.tree_core.specs.declared.tallies.LeafKind.TheVariants.{Brick}
use Rattle.mcg6_lines.proofs.LeafTexts.{lines_further}
use Rattle.mcg6_lines.proofs.leaf_lines.lines_of_leaves.Goals as goal

pub loop-i-init : goal.loop-i-init
loop-i-init c = λ g ps are. grind arith

pub index-requires : goal.index-requires
index-requires c = grind (arith, c.in_ok-kinds.ensures c.requires.0 c.requires.1 c.requires.2, length-map c.requires.1 (place_of c.requires.0))

pub loop-i-preserved : goal.loop-i-preserved
loop-i-preserved c = λ g ps are.
    let all = c.in_ok-kinds.ensures g ps are in
    let told : c.loop-i.i < length c.in_ok-kinds.kinds.items = grind (arith, length-map ps (place_of g)) in
    lines_further c.args.front.now g ps c.args.leaves.now c.in_ok-kinds.kinds.items c.loop-i.i c.index-leaves-i.result c.index.result.now c.loop-i.lines.items c.push_leaf.new.lines.items
    c.loop-i-test.true c.index-leaves-i.is are told (get_or_read c.in_ok-kinds.kinds.items c.loop-i.i c.index.result.now told c.index.ensures Brick) c.in_ok-push_leaf.ensures (c.loop-i.invariant g ps are)

pub returns : goal.returns
returns c = λ g ps are. record {
  kinds = c.in_ok-kinds.kinds.items;
  right = c.in_ok-kinds.ensures g ps are;
  lines = grind (arith, c.in_ok-kinds.ensures g ps are, length-map ps (place_of g), append-nil, drop_all, c.loop-i.invariant g ps are);
}
