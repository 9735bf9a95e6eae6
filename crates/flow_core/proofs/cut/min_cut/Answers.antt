-- A closed search gives the least minimum cut; a flow above the bound rules out each cut within it.
use Rattle.vset_core.proofs.from_counting.Common.{arith, mem}
use Rattle.flow_core.proofs.Duality.{flow-le-value_of}
use Rattle.flow_core.proofs.cut.min_cut.Goals as goal

pub grow_above-requires-clause-flow : goal.grow_above-requires-clause-flow
grow_above-requires-clause-flow c = c.in_ok-flow.ensures.flow c.args.source c.args.sink

pub returns-in-Some-clause-exactly : goal.returns-in-Some-clause-exactly
returns-in-Some-clause-exactly c =
    let least = c.in_ok-set.ensures.closed c.in-Some.set c.in-Some.is in
    (λ _. record { set = mem c.in-Some.set; separates = least.0.separates; within = let e = least.0.is in let t = least.1 in omega arith }, λ _. tt)

pub returns-in-Some-clause-cut : goal.returns-in-Some-clause-cut
returns-in-Some-clause-cut c = c.in_ok-set.ensures.closed c.in-Some.set c.in-Some.is

pub returns-clause-exactly : goal.returns-clause-exactly
returns-clause-exactly c = (
  λ none. absurd none,
  λ cut.
      let bound = flow-le-value_of c.args.net.now c.args.source c.args.sink c.grow_above.new.flow.on c.grow_above.new.flow.value c.in_ok-incidence.ensures.bounded.arcs c.requires.source c.in_ok-set.ensures.flow cut.set cut.separates in
      let within = cut.within in
      let above = c.in_ok-set.ensures.above c.in-None.is in omega arith,
)

pub returns-clause-exceeds : goal.returns-clause-exceeds
returns-clause-exceeds c = (c.in_ok-set.ensures.flow, c.in_ok-set.ensures.above c.in-None.is)
