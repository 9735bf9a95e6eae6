use Rattle.graph_core.proofs.from_counting.Common.{ap, ◌∙◌, arith, Result, IfOk, OnOk, List, ℕ, length, item, mem}
use Rattle.contraction.proofs.JoinedPairs.{rows-joined}
use Rattle.contraction.proofs.place_pairs.pairs_joined.Goals as goal

both : {T E : Type 0} (r : Result T E) {P Q : T → Type 0} {R : Type 0} → IfOk r P → OnOk r R → ((x : T) → P x → R → Q x) → IfOk r Q
both h p r f = grind arith

pub returns : goal.returns
returns c =
    let read = c.deref.ensures.value in
    both c.row_pairs.result c.row_pairs.ensures.pairs c.row_pairs.ensures.rising (λ pairs made rising.
    made ∙ rows-joined c.args.n 128 c.args.ends.now c.deref.result.now c.requires.graph c.requires.few (ap length read ∙ c.in_ok-rows.ensures.each)
    (λ i w. rising i (let l = ap length read in let e = c.in_ok-rows.ensures.each in omega arith))
    (λ i j w. ap (λ (rows : List (List ℕ)). mem (item rows i) j) read ∙ c.in_ok-rows.ensures.later i j w))
