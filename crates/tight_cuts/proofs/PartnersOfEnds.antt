-- Two edges that share no end lie together in a perfect matching only if the ends of the second
-- are partners in the graph without the ends of the first: what the matching has besides the two
-- is perfect without the four ends.
use Rattle.graph_core.proofs.from_counting.Common.{◌≡◌, ℕ, ◌==◌, ◌||◌, false, refl, arith, Within, Set, none}
use Rattle.graph_core.proofs.Common.{Graph, IsMultigraph, first_end, second_end, size, Together, has_perfect_found}
use Rattle.barrier_kit.specs.from_allowed_edges.Leaving.{ShareNone, share_end}
use Rattle.barrier_kit.proofs.from_allowed_edges.ThroughEdges.{ends_free, two_cut}
use Rattle.tight_cuts.specs.Common.{AreEndsPartners}

-- the test of a common end tells
share_none : (g : Graph) (e f : ℕ) → share_end g e f ≡ false → ShareNone g e f
share_none g e f unshared v a b = grind arith

module _ (g : Graph) (is : IsMultigraph g) (e f : ℕ) (we : Within (size g) e) (wf : Within (size g) f) (unshared : share_end g e f ≡ false) (r : Set) (ends : (v : ℕ) → r v ≡ ((first_end g e == v) || (second_end g e == v))) where
  apart : ShareNone g e f
  apart = share_none g e f unshared

  first_adds : (v : ℕ) → r v ≡ ((none v || (first_end g e == v)) || (second_end g e == v))
  first_adds v = grind (arith, ends v)

  free : (r (first_end g f) ≡ false) × (r (second_end g f) ≡ false)
  free = ends_free g e f none r (λ v. refl) first_adds apart

  pub together_partners : Together g e f → AreEndsPartners g r f
  together_partners together = grind (arith, two_cut g is e f we wf apart none r, first_adds, free, has_perfect_found, is.no_loop f wf)
