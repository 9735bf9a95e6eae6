use Rattle.graph_core.proofs.from_counting.Common.{◌≡◌, ℕ, ap, sym, ◌∙◌, List, [], Option, Some, subst, unwrap_or, arith, option_map, mem}
use Rattle.graph_core.proofs.Common.{IsNontrivial, IsTight}
use Rattle.tight_cuts.specs.Common.{Candidate, candidates, first_of, first_shore, candidate_of}
use Rattle.tight_cuts.proofs.finder.first_cut.Goals as goal

pub returns-in-Some-clause-some : goal.returns-in-Some-clause-some
returns-in-Some-clause-some c s is =
    let t = c.in_ok-candidate.ensures.some c.in-Some.candidate c.in-Some.is in
    subst (λ (x : List ℕ). IsTight c.args.pairs.now (mem x) × IsNontrivial c.args.pairs.now.order (mem x)) (ap (λ (o : Option (List ℕ)). unwrap_or o []) is) (t.tight, t.nontrivial)

-- the shore of the first candidate is the first shore
shore-first : (list : List Candidate) (c : Candidate) → Some c ≡ first_of list → Some c.shore ≡ first_shore list
shore-first list c e = grind arith

pub returns-in-Some-clause-first : goal.returns-in-Some-clause-first
returns-in-Some-clause-first c = shore-first (candidates c.args.pairs.now) (candidate_of c.in-Some.candidate) (sym (ap (option_map candidate_of) c.in-Some.is) ∙ c.in_ok-candidate.ensures.first)
