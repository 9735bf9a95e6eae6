use Rattle.std.proofs.Common.{List, ℕ, subst, subst₂, sym}
use Rattle.graph_core.proofs.Common.{Graph}
use Rattle.tree_core.proofs.Common.{IsLeafAt, IsLeafKind, PlaceValue}
use Rattle.tree_check.proofs.KnownValues.{place-is}
use Rattle.tree_check.proofs.leaf.scan_leaf.Goals as goal

pub returns-in-Some-clause-scanned : goal.returns-in-Some-clause-scanned
returns-in-Some-clause-scanned c =
    let same = place-is c.args.known.now c.partition.result.now.blocks c.in-Some.found.now c.args.p c.in-Some.ensures.0 c.requires c.partition.ensures.blocks in
    c.passed.ensures c.args.p.graph c.args.p.blocks c.args.node (
      subst₂ (λ (g : Graph) (bs : List (List ℕ)). IsLeafAt g bs) (sym c.requires) c.partition.ensures.blocks c.in-Some.ensures.1,
      subst (λ (q : PlaceValue). IsLeafKind q.graph q.blocks c.kind.result) same c.kind.ensures,
    )

pub returns-in_ok-add_leaf-in-None-clause-scanned : goal.returns-in_ok-add_leaf-in-None-clause-scanned
returns-in_ok-add_leaf-in-None-clause-scanned c =
    c.passed-in-None.ensures c.args.p.graph c.args.p.blocks c.args.node (
      subst (λ (q : PlaceValue). IsLeafAt q.graph q.blocks) c.in_ok-place.ensures (c.in_ok-fault.ensures.none c.in-None.is),
      subst (λ (q : PlaceValue). IsLeafKind q.graph q.blocks c.kind-kind.result) c.in_ok-place.ensures c.kind-kind.ensures,
    )
