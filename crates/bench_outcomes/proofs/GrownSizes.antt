-- A graph grown from at most sixteen pieces has at most 64 vertices: the numbers of vertices are
-- those of the pieces, each less two, wherever these are spliced. And it has few edges, as each
-- graph on the way.
use Rattle.tree_check.proofs.from_counting.Common.{◌≡◌, ℕ, zero, suc, ◌+◌, ◌-◌, ◌≤◌, nat_le, true, refl, sym, subst, arith, leb-true, every_true}
use Rattle.graph_core.proofs.Common.{IsMultigraph, size}
use Rattle.rand_pcg.specs.Lcg.{Lcg, started, increment_of}
use Rattle.rand_pcg.specs.Pcg.{multiplier_64, pcg32}
use Rattle.bench_tasks.specs.from_grow_gen.Common.{Growth, first_growth, growth_from, grown, with_piece, further_piece, piece_order, splice}
use Rattle.bench_tasks.proofs.from_grow_gen.SoundGrowth.{IsSound, sound-first, sound-next}

-- a number of vertices with so many pieces from piece i on
order_from : ℕ → ℕ → ℕ → ℕ
order_from i zero k = k
order_from i (suc n) k = order_from (i + 1) n (k + piece_order (further_piece i) - 2)

growth-order : (i n : ℕ) (words : Lcg) (s : Growth) → (growth_from i n words s).graph.order ≡ order_from i n s.graph.order
unfolding growth_from with_piece splice order_from
growth-order i zero words s = refl
growth-order i (suc n) words s = growth-order (i + 1) n (pcg32 (pcg32 words).1).1 (with_piece s (further_piece i) (pcg32 words).0 (pcg32 (pcg32 words).1).0)

-- up to fifteen further pieces
few-further : (n : ℕ) → n ≤ 15 → order_from 0 n 6 ≤ 64
unfolding order_from
few-further n few = leb-true _ _ (at n few)
  where
    at : (n : ℕ) → n ≤ 15 → nat_le (order_from 0 n 6) 64 ≡ true
    at zero few = refl
    at (suc n) few = every_true 15 (λ k. nat_le (order_from 0 k 6) 64) refl (suc n) (omega arith, omega arith)

pub few-vertices : (seed pieces : ℕ) → 1 ≤ pieces → pieces ≤ 16 → (grown seed pieces).order ≤ 64
unfolding grown
few-vertices seed pieces some few =
    subst (λ (k : ℕ). k ≤ 64) (sym (growth-order 0 (pieces - 1) (started 64 multiplier_64 seed (increment_of 64 1)) first_growth)) (few-further (pieces - 1) (omega arith))

-- what is true of each graph on the way
pub sound-from : (i n : ℕ) (words : Lcg) (s : Growth) → IsSound i s → IsSound (i + n) (growth_from i n words s)
unfolding growth_from
sound-from i zero words s is = subst (λ (k : ℕ). IsSound k s) (let e : i ≡ i + zero = omega arith in e) is
sound-from i (suc n) words s is =
    let next = with_piece s (further_piece i) (pcg32 words).0 (pcg32 (pcg32 words).1).0 in
    subst (λ (k : ℕ). IsSound k (growth_from (i + 1) n (pcg32 (pcg32 words).1).1 next)) (let e : i + 1 + n ≡ i + suc n = omega arith in e)
    (sound-from (i + 1) n (pcg32 (pcg32 words).1).1 next (sound-next i s is (pcg32 words).0 (pcg32 (pcg32 words).1).0))

pub few-edges : (seed pieces : ℕ) → 1 ≤ pieces → pieces ≤ 16 → size (grown seed pieces) ≤ 512
unfolding grown
few-edges seed pieces some few =
    let sound = sound-from 0 (pieces - 1) (started 64 multiplier_64 seed (increment_of 64 1)) first_growth sound-first in
    let edges = sound.edges in
    omega (arith, edges)

-- it is a multigraph
pub grown-multigraph : (seed pieces : ℕ) → IsMultigraph (grown seed pieces)
unfolding grown
grown-multigraph seed pieces = (sound-from 0 (pieces - 1) (started 64 multiplier_64 seed (increment_of 64 1)) first_growth sound-first).multigraph
