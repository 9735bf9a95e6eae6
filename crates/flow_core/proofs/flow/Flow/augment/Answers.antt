-- Each step back along the path keeps what `IsPushed` says, by the lemmas on pushing.
use Rattle.std.proofs.Common.{◌-◌, List, length, set, sym, subst, ap, ◌∙◌, arith, w64, ℤ}
use Rattle.std.proofs.lemmas.Int.{to_z-of_z}
use Rattle.flow_core.specs.Common.{visit_at}
use Rattle.flow_core.proofs.Duality.{FitsCapacities-length}
use Rattle.flow_core.proofs.SearchTrees.{room-below}
use Rattle.flow_core.proofs.Pushing.{IsPushed, IsPushed-step, pushed-flow, flow-below}
use Rattle.flow_core.proofs.flow.Flow.augment.Goals as goal

pub sent_over-amount-requires-clause-small : goal.sent_over-amount-requires-clause-small
sent_over-amount-requires-clause-small c = room-below c.args.net.now c.args.self.now.on c.args.visits.now c.requires.tree (length c.args.visits.now - 1) (let s = c.requires.tree.some in omega arith)

pub set-requires : goal.set-requires
set-requires c =
    let p = c.pushing.invariant.pushed in
    let step = (c.requires.tree.each c.pushing.at c.pushing-test.true p.long).step.is_arc in
    let l = FitsCapacities-length c.args.net.now.arcs c.pushing.self.on p.fits in omega arith

pub pushing-preserved : goal.pushing-preserved
pushing-preserved c = record {
  pushed =
      let visits = c.args.visits.now in
      let visit = visit_at visits c.pushing.at in
      let more = (visit_at visits (length visits - 1)).room in
      subst (λ (amounts : List ℤ). IsPushed c.args.net.now c.args.self.now.on amounts visits more visit.parent)
      (sym (c.set.ensures ∙ ap (set c.pushing.self.on visit.arc) (to_z-of_z w64 c.sent_over-amount.result (record { sfits = c.sent_over-amount.type_inv }) ∙ c.sent_over-amount.ensures)))
      (IsPushed-step c.args.net.now c.requires.bounded.arcs c.args.self.now.on c.pushing.self.on visits c.requires.tree more c.pushing.at c.pushing.invariant.pushed c.pushing-test.true);
  value = c.pushing.invariant.value;
}

pub overflow_add-self : goal.overflow_add-self
overflow_add-self c = grind (arith, pushed-flow, flow-below)
