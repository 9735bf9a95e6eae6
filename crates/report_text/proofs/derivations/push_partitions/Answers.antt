use Rattle.std.proofs.Common.{List, map, string_bytes, subst, sym, arith, ℕ, ◌+◌, ◌++◌, ◌≡◌, add-one}
use Rattle.contraction.specs.Partition.{PartitionValue}
use Rattle.report_text.specs.Common.{numbered_leaf_lines}
use Rattle.move_text.specs.from_tree_core.declared.tallies.LeafKind.{LeafKind}
use Rattle.report_text.proofs.LeafLines.{lines-more}
use Rattle.move_text.proofs.from_tree_core.Common.{kinds-all, kinds-next}
use Rattle.report_text.proofs.derivations.push_partitions.Goals as goal

pub loop-i-preserved : goal.loop-i-preserved
loop-i-preserved c =
    let ps : List (List (List ℕ)) = map (λ (p : PartitionValue). p.blocks) c.args.leaves.now in
    let i : ℕ = c.loop-i.i in
    let more = c.in_ok-push.ensures.items in
    let kinds = kinds-next c.args.g.now c.args.leaves.now i c.get.result.now c.loop-i.kinds.items c.push.new.self.items c.in_ok-kind.kind c.get.ensures more c.loop-i.invariant.so_many c.loop-i.invariant.right c.in_ok-kind.ensures.kind in
    record {
      so_many = kinds.0;
      right = kinds.1;
      lines = subst (λ (ks : List LeafKind). string_bytes c.push_quotient.new.text ≡ string_bytes c.args.text.now ++ numbered_leaf_lines c.args.g.now ps ks (i + 1)) (sym more)
          (rw add-one (lines-more c.args.g.now c.args.leaves.now c.loop-i.kinds.items i c.get.result.now c.in_ok-kind.kind (string_bytes c.args.text.now) (string_bytes c.loop-i.text) (string_bytes c.push_quotient.new.text) c.get.ensures c.loop-i.invariant.so_many c.loop-i.invariant.lines
          (rw add-one at c.in_ok-kind.ensures.lines)));
    }

pub returns-clause-kinds : goal.returns-clause-kinds
returns-clause-kinds c = kinds-all c.args.g.now c.args.leaves.now c.loop-i.i c.loop-i.kinds.items (omega arith) c.loop-i.invariant.so_many c.loop-i.invariant.right
