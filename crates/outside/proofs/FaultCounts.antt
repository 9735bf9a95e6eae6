-- A count of errors never decreases, so if it increases in one call of a chain, it increases over
-- the whole chain, and if it does not increase over the whole chain, it does not in any call. All
-- of it is linear arithmetic on the counts.
use Rattle.std.proofs.Common.{◌≡◌, ℕ, ◌<◌, arith}
use Rattle.std.proofs.lemmas.Bool.Decides.{nat_tests}
use Rattle.outside.specs.Common.{Rose, next_fault, faults_after}

-- after a count has gone up, it rose
pub Rose-next_fault : (before now : ℕ) → now ≡ next_fault before → Rose before now
Rose-next_fault before now counted = omega arith

-- after a write that took nothing of a piece that is not empty, the count rose
pub Rose-faults_after :
    (before now count size : ℕ) → now ≡ faults_after before count size → count ≡ 0 → 0 < size → Rose before now
Rose-faults_after before now count size counted none some = grind (arith, nat_tests)
