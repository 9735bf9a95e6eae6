use Rattle.graph_core.proofs.from_counting.Common.{◌≡◌, ℕ, suc, ◌+◌, ◌-◌, ◌<◌, refl, sym, ap, arith, subst, length, List, Within}
use Rattle.match_search.specs.Common.{numbers}
use Rattle.match_search.proofs.ClosedCycles.{cycle_exposes, blossom_cycle_holds, cycle_within, stem_half}
use Rattle.match_search.proofs.ClosingPairs.{second_in}
use Rattle.match_search.proofs.blossom.blossom_of.Goals as goal

pub members_of-members-requires-clause-within : goal.members_of-members-requires-clause-within
members_of-members-requires-clause-within c =
    let q = c.requires.paths in
    let long = c.in_ok-cycle.ensures.length in
    let few = q.3.few in
    subst (λ (row : List ℕ). (i : ℕ) → Within (length row - 1) i → Within 128 (numbers row i)) (sym c.deref-2.ensures.value)
    (λ i w. let v = cycle_within c.args.paths.now c.args.meeting c.requires.last c.deref.result.now c.in_ok-cycle.cycle.items c.deref.ensures.value c.in_ok-cycle.ensures.low c.in_ok-cycle.ensures.high q.0 q.1 q.2 c.args.mate.now q.3 i (omega arith) in (v.0, omega arith))

pub flip-requires-clause-in_mates : goal.flip-requires-clause-in_mates
flip-requires-clause-in_mates c =
    let q = c.requires.paths in
    let half = stem_half c.args.paths.now c.args.meeting c.requires.last c.deref.result.now c.in_ok-cycle.cycle.items c.deref.ensures.value c.in_ok-cycle.ensures.low c.in_ok-cycle.ensures.high q.0 q.1 q.2 c.args.mate.now q.3 in
    let last = c.requires.last.j_in in
    λ j b. let l = second_in q.0 q.1 q.2 c.args.mate.now c.args.paths.now q.3 j (omega arith) in
    subst (λ (row : List ℕ). numbers row (c.args.paths.now.first + c.args.paths.now.first + 1 + j) < length c.args.mate.now) (sym c.deref-3.ensures.value)
    (let s = ap (numbers c.args.paths.now.row.items) (begin (c.args.paths.now.first + c.args.paths.now.first) j) in omega arith)
  where
    begin : (a j : ℕ) → a + 1 + j ≡ suc a + j
    begin a j = omega arith

pub clear-requires-clause-in_mates : goal.clear-requires-clause-in_mates
clear-requires-clause-in_mates c =
    let q = c.requires.paths in
    let long = c.in_ok-cycle.ensures.length in
    let same = c.flip.auto.mate in
    let mates = q.3.long in
    subst (λ (row : List ℕ). (i : ℕ) → Within (length row - 1) i → numbers row i < length c.flip.new.mate) (sym c.deref-4.ensures.value)
    (λ i w. let v = cycle_within c.args.paths.now c.args.meeting c.requires.last c.deref.result.now c.in_ok-cycle.cycle.items c.deref.ensures.value c.in_ok-cycle.ensures.low c.in_ok-cycle.ensures.high q.0 q.1 q.2 c.args.mate.now q.3 i (omega arith) in omega arith)

pub returns-clause-holds : goal.returns-clause-holds
returns-clause-holds c = λ g r f is.
    blossom_cycle_holds c.args.paths.now c.args.meeting c.requires.last c.deref.result.now c.in_ok-cycle.cycle.items c.deref.ensures.value c.in_ok-cycle.ensures.low c.in_ok-cycle.ensures.high g r f c.args.mate.now is (record { cycle = c.in_ok-cycle.cycle; members = c.members_of-members.result }) refl c.in_ok-cycle.ensures.length
    c.deref-2.result.now c.deref-2.ensures.value c.members_of-members.ensures c.deref-3.result.now c.deref-3.ensures.value c.flip.new.mate c.flip.ensures c.deref-4.result.now c.deref-4.ensures.value c.clear.new.mate c.clear.ensures

pub returns-clause-exposed : goal.returns-clause-exposed
returns-clause-exposed c =
    let q = c.requires.paths in
    cycle_exposes c.args.paths.now c.args.meeting c.requires.last c.deref.result.now c.in_ok-cycle.cycle.items c.deref.ensures.value c.in_ok-cycle.ensures.low c.in_ok-cycle.ensures.high q.0 q.1 q.2 c.args.mate.now q.3 (record { cycle = c.in_ok-cycle.cycle; members = c.members_of-members.result }) refl c.in_ok-cycle.ensures.length
    c.deref-2.result.now c.deref-2.ensures.value c.members_of-members.ensures c.deref-3.result.now c.deref-3.ensures.value c.flip.new.mate c.flip.ensures c.deref-4.result.now c.deref-4.ensures.value c.clear.new.mate c.clear.ensures
