use Rattle.vset_core.proofs.from_counting.Common.{◌≡◌, ℕ, length, true, ◌==◌, ap, sym, ◌∙◌, arith, List, both_ways, false_from_ne_true, or_false, Within, mem}
use Rattle.graph_core.specs.Common.{Graph, IsGrowth, parent_at, depth_at}
use Rattle.graph_core.specs.declared.tree.TreeNode.{TreeNode}
use Rattle.graph_core.proofs.OneVertexLess.{count_lost, count_gained}
use Rattle.graph_core.proofs.FoundVertices.{growth_start, growth_step, growth_drop, growth_end}
use Rattle.graph_core.proofs.Rows.{none_left, one_left}
use Rattle.graph_core.proofs.search.grow.Goals as goal

-- a vertex that is open, or that is left, is a vertex of the graph
open_within : (n r : ℕ) (x left open_set : List ℕ) (g : Graph) (parent depth : ℕ → ℕ) → ((v : ℕ) → mem x v ≡ true → Within n v) → IsGrowth g (mem x) r (mem left) (mem open_set) parent depth → (v : ℕ) → mem open_set v ≡ true → Within n v
open_within n r x left open_set g parent depth vertices growth v o = vertices v (growth.found v o).0

left_within : (n r : ℕ) (x left open_set : List ℕ) (g : Graph) (parent depth : ℕ → ℕ) → ((v : ℕ) → mem x v ≡ true → Within n v) → IsGrowth g (mem x) r (mem left) (mem open_set) parent depth → (v : ℕ) → mem left v ≡ true → Within n v
left_within n r x left open_set g parent depth vertices growth v l = vertices v (growth.smaller v l)

pub growing-init : goal.growing-init
growing-init c = record {
  growth = λ g is are. growth_start g (mem c.args.within) c.args.root is (mem c.without-left.result) (mem c.one-open.result) (parent_at c.plant.new.nodes) (depth_at c.plant.new.nodes)
      (let e = are.one_each in let w = c.requires.vertices c.args.root c.requires.root in omega arith) c.requires.root c.without-left.ensures
      (λ v. ap (λ xs. mem xs v) c.one-open.ensures ∙ or_false (c.args.root == v)) c.plant.ensures.depth;
  kept = λ v w out. c.plant.ensures.others v (let e = c.requires.nodes in omega arith) (λ e. both_ways (mem c.args.within v) out (ap (mem c.args.within) (sym e) ∙ c.requires.root));
}

pub growing-smaller-in-None : goal.growing-smaller-in-None
growing-smaller-in-None c =
    let q = c.requires.graph in
    let growth = c.growing.invariant.growth q.0 q.1 q.2 in
    let member = c.in-Some.ensures.some.member in
    let w = open_within (length c.args.rows.now) c.args.root c.args.within c.growing.left c.growing.open q.0 (parent_at c.growing.nodes) (depth_at c.growing.nodes) c.requires.vertices growth c.in-Some.v member in
    let less = count_lost (length c.args.rows.now) (mem c.growing.open) (mem c.without-open.result) c.in-Some.v w member c.without-open.ensures in
    omega arith

pub growing-preserved-in-None : goal.growing-preserved-in-None
growing-preserved-in-None c = record {
  growth = λ g is are.
      let growth = c.growing.invariant.growth g is are in
      let w = open_within (length c.args.rows.now) c.args.root c.args.within c.growing.left c.growing.open g (parent_at c.growing.nodes) (depth_at c.growing.nodes) c.requires.vertices growth c.in-Some.v c.in-Some.ensures.some.member in
      growth_drop g (mem c.args.within) c.args.root is (mem c.growing.left) (mem c.growing.open) (mem c.without-open.result) (parent_at c.growing.nodes) (depth_at c.growing.nodes) c.in-Some.v growth
      (none_left g c.args.rows.now c.index-rows-v.result c.growing.left c.meet.result c.in-Some.v are w c.index-rows-v.is c.meet.ensures c.in-None.ensures.none) c.without-open.ensures;
  kept = c.growing.invariant.kept;
}

-- the vertex that is hung next is left, and adjacent to the open vertex
pub hang-requires-clause-first : goal.hang-requires-clause-first
hang-requires-clause-first c =
    let q = c.requires.graph in
    let growth = c.growing.invariant.growth q.0 q.1 q.2 in
    let w = open_within (length c.args.rows.now) c.args.root c.args.within c.growing.left c.growing.open q.0 (parent_at c.growing.nodes) (depth_at c.growing.nodes) c.requires.vertices growth c.in-Some.v c.in-Some.ensures.some.member in
    let one = one_left q.0 c.args.rows.now c.index-rows-v.result c.growing.left c.meet.result c.in-Some.v c.in-Some-first.w q.2 w c.index-rows-v.is c.meet.ensures c.in-Some-first.ensures.some.member in
    let u = left_within (length c.args.rows.now) c.args.root c.args.within c.growing.left c.growing.open q.0 (parent_at c.growing.nodes) (depth_at c.growing.nodes) c.requires.vertices growth c.in-Some-first.w one.1 in
    let e = c.requires.nodes in let a = c.growing.auto.nodes in omega arith

pub hang-requires-clause-shallow : goal.hang-requires-clause-shallow
hang-requires-clause-shallow c =
    let q = c.requires.graph in
    let growth = c.growing.invariant.growth q.0 q.1 q.2 in
    let w = open_within (length c.args.rows.now) c.args.root c.args.within c.growing.left c.growing.open q.0 (parent_at c.growing.nodes) (depth_at c.growing.nodes) c.requires.vertices growth c.in-Some.v c.in-Some.ensures.some.member in
    let f = growth.found c.in-Some.v c.in-Some.ensures.some.member in
    let e = q.2.one_each in
    let s = growth.shallow c.in-Some.v (omega arith) f.0 f.1 in
    let few = c.requires.few in omega arith

pub growing-smaller : goal.growing-smaller
growing-smaller c =
    let q = c.requires.graph in
    let growth = c.growing.invariant.growth q.0 q.1 q.2 in
    let w = open_within (length c.args.rows.now) c.args.root c.args.within c.growing.left c.growing.open q.0 (parent_at c.growing.nodes) (depth_at c.growing.nodes) c.requires.vertices growth c.in-Some.v c.in-Some.ensures.some.member in
    let one = one_left q.0 c.args.rows.now c.index-rows-v.result c.growing.left c.meet.result c.in-Some.v c.in-Some-first.w q.2 w c.index-rows-v.is c.meet.ensures c.in-Some-first.ensures.some.member in
    let u = left_within (length c.args.rows.now) c.args.root c.args.within c.growing.left c.growing.open q.0 (parent_at c.growing.nodes) (depth_at c.growing.nodes) c.requires.vertices growth c.in-Some-first.w one.1 in
    let less = count_lost (length c.args.rows.now) (mem c.growing.left) (mem c.without-left-in-Some-first.result) c.in-Some-first.w u one.1 c.without-left-in-Some-first.ensures in
    let more = count_gained (length c.args.rows.now) (mem c.growing.open) (mem c.with-open.result) c.in-Some-first.w u
    (false_from_ne_true (mem c.growing.open c.in-Some-first.w) (λ o. both_ways (mem c.growing.left c.in-Some-first.w) (growth.found c.in-Some-first.w o).1 one.1)) c.with-open.ensures in
    omega arith

pub growing-preserved : goal.growing-preserved
growing-preserved c = record {
  growth = λ g is are.
      let growth = c.growing.invariant.growth g is are in
      let w = open_within (length c.args.rows.now) c.args.root c.args.within c.growing.left c.growing.open g (parent_at c.growing.nodes) (depth_at c.growing.nodes) c.requires.vertices growth c.in-Some.v c.in-Some.ensures.some.member in
      let one = one_left g c.args.rows.now c.index-rows-v.result c.growing.left c.meet.result c.in-Some.v c.in-Some-first.w are w c.index-rows-v.is c.meet.ensures c.in-Some-first.ensures.some.member in
      growth_step g (mem c.args.within) c.args.root is (mem c.growing.left) (mem c.without-left-in-Some-first.result) (mem c.growing.open) (mem c.with-open.result)
      (parent_at c.growing.nodes) (parent_at c.hang.new.nodes) (depth_at c.growing.nodes) (depth_at c.hang.new.nodes) c.in-Some.v c.in-Some-first.w growth c.in-Some.ensures.some.member one.0 one.1
      c.without-left-in-Some-first.ensures c.with-open.ensures c.hang.ensures.parent c.hang.ensures.depth
      (λ u wu d. let e = c.hang.ensures.others u (let a = c.growing.auto.nodes in let b = are.one_each in let n = c.requires.nodes in omega arith) d in
      (ap (λ (node : TreeNode). node.parent) e, ap (λ (node : TreeNode). node.depth) e));
  kept = λ v wv out.
      let q = c.requires.graph in
      let growth = c.growing.invariant.growth q.0 q.1 q.2 in
      let w = open_within (length c.args.rows.now) c.args.root c.args.within c.growing.left c.growing.open q.0 (parent_at c.growing.nodes) (depth_at c.growing.nodes) c.requires.vertices growth c.in-Some.v c.in-Some.ensures.some.member in
      let one = one_left q.0 c.args.rows.now c.index-rows-v.result c.growing.left c.meet.result c.in-Some.v c.in-Some-first.w q.2 w c.index-rows-v.is c.meet.ensures c.in-Some-first.ensures.some.member in
      let u = growth.smaller c.in-Some-first.w one.1 in
      c.hang.ensures.others v (let a = c.growing.auto.nodes in let n = c.requires.nodes in omega arith) (λ e. both_ways (mem c.args.within v) out (ap (mem c.args.within) (sym e) ∙ u))
      ∙ c.growing.invariant.kept v wv out;
}

pub returns-clause-grown : goal.returns-clause-grown
returns-clause-grown c = λ g is are.
    let growth = c.growing.invariant.growth g is are in
    record {
      smaller = growth.smaller;
      taken = growth_end g (mem c.args.within) c.args.root is (mem c.growing.left) (mem c.growing.open) (parent_at c.growing.nodes) (depth_at c.growing.nodes) growth
          (λ v. ap (λ xs. mem xs v) c.in_default.ensures.none) (let e = are.one_each in let w = c.requires.vertices c.args.root c.requires.root in omega arith);
      tree = growth.tree;
    }
