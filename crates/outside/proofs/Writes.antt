-- A chain of writes takes one more: the piece that is written is all that is left of the bytes,
-- since nothing follows it.
use Rattle.std.proofs.Common.{◌≡◌, ℕ, suc, ◌+◌, ◌-◌, ◌<◌, List, length, take, drop, refl, subst, arith, length-drop, take_all}
use Rattle.outside.specs.Common.{WritesTake}

-- what is left, as a slice names it
left_piece : (bytes : List ℕ) (done : ℕ) → take (length bytes - done) (drop done bytes) ≡ drop done bytes
left_piece bytes done = take_all (length bytes - done) (drop done bytes) (omega (arith, length-drop done bytes))

-- nothing is written yet
pub writes_none :
    {K : Type 0} (writes : K → List ℕ → ℕ → K → Type 0) (bytes : List ℕ) (first : K) →
    (calls : ℕ) × WritesTake writes bytes calls 0 first first
writes_none writes bytes first = (0, (refl, refl))

-- one more write, which took some
pub writes_more :
    {K : Type 0} (writes : K → List ℕ → ℕ → K → Type 0) (bytes : List ℕ) (done count : ℕ) (first mid last : K) →
    (calls : ℕ) × WritesTake writes bytes calls done first mid → 0 < count →
    writes mid (take (length bytes - done) (drop done bytes)) count last →
    (calls : ℕ) × WritesTake writes bytes calls (done + count) first last
writes_more writes bytes done count first mid last so_far some one = (
  suc so_far.0,
  (
    done,
    count,
    mid,
    so_far.1,
    some,
    refl,
    subst (λ (p : List ℕ). writes mid p count last) (left_piece bytes done) one,
  ),
)
