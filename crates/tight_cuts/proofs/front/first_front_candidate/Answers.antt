use Rattle.std.proofs.Common.{sym, ap, ◌∙◌, arith, option_map}
use Rattle.barrier_kit.proofs.Common.{bicritical_no_cuts}
use Rattle.quick_kinds.proofs.from_separation_kit.SeparationFacts.{equivalent-none}
use Rattle.graph_core.specs.Common.{pair_of}
use Rattle.tight_cuts.proofs.FrontCandidates.{front-barriers, front-separations, order-small, equivalent-some}
use Rattle.tight_cuts.proofs.front.first_front_candidate.Goals as goal

pub first_separation_candidate-requires-clause-bicritical : goal.first_separation_candidate-requires-clause-bicritical
first_separation_candidate-requires-clause-bicritical c = (equivalent-none c.args.pairs.now).0 (sym c.equivalent.ensures ∙ ap (option_map pair_of) c.in_default.is)

pub returns : goal.returns
returns c = grind (arith, front-separations, bicritical_no_cuts, equivalent-none)

pub returns-in-Some : goal.returns-in-Some
returns-in-Some c = grind (arith, front-barriers, equivalent-some)

pub returns-then-order-lt4 : goal.returns-then-order-lt4
returns-then-order-lt4 c = grind (arith, front-barriers c.args.pairs.now, order-small c.args.pairs.now)
