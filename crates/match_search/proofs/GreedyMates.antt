-- The mates that the search begins with, and the frame of a perfect matching. An edge between two
-- free vertices makes them a pair; where no vertex is exposed, the frame is empty.
use Rattle.graph_core.proofs.from_counting.Common.{◌≡◌, ◌≢◌, ℕ, zero, suc, replicate, ◌≤◌, length, ◌∷◌, true, false, refl, ap, ◌∙◌, arith, inl, inr, ne_eqb, List, ◌||◌, ◌&&◌, ◌==◌, not, [], both_ways, cases_Bool, cases_eq, total_none, Within, bit, Set, none, put, mem}
use Rattle.graph_core.proofs.Common.{missed_edges, Graph, HasEnds, IsGraph, degree, size, missed_count}
use Rattle.match_search.specs.Common.{HasFrame, HasMates, numbers, with_pair}
use Rattle.match_search.specs.declared.answer.FinalSets.{FinalSets}
use Rattle.match_search.proofs.ClosingPairs.{degree_elsewhere}
use Rattle.match_search.proofs.FirstMarks.{added_edge, empty_degree, empty_matching}
use Rattle.match_search.proofs.Forests.{met}
use Rattle.match_search.proofs.MatePairs.{joined_pairs, with_here, with_there}

-- in a new row each vertex is exposed
pub no-mates : (n v : ℕ) → numbers (replicate n 0) v ≡ 0
no-mates zero v = refl
no-mates (suc n) zero = refl
no-mates (suc n) (suc v) = no-mates n v

-- no pair at all
pub empty_mates : (g : Graph) (r : Set) (mate : ℕ → ℕ) → ((v : ℕ) → mate v ≡ 0) → HasMates g r none mate
empty_mates g r mate zeros = grind (arith, empty_matching, none, empty_degree)

-- an edge between two free vertices makes them a pair
pub added_pair : (g : Graph) (r m met met' : Set) (mate : ℕ → ℕ) (e x y : ℕ) → HasMates g r m mate → ((v : ℕ) → Within g.order v → met v ≡ false → (r v ≡ false) × (degree g m v ≡ 0)) →
    Within (size g) e → Within g.order x → Within g.order y → HasEnds g e x y → x ≢ y → met x ≡ false → met y ≡ false → ((v : ℕ) → met' v ≡ ((met v || (x == v)) || (y == v))) →
    HasMates g r (put m e true) (with_pair mate x y) × ((v : ℕ) → Within g.order v → met' v ≡ false → (r v ≡ false) × (degree g (put m e true) v ≡ 0))
added_pair g r m met met' mate e x y has free we wx wy ends xy mx my met'_is =
    let added = added_edge g r m met met' e x y has.matching free we wx wy ends xy mx my met'_is in
    (joined_pairs g r m mate e x y has added.0 we ends xy (degree_elsewhere g m e x y we ends) wx wy, added.1)

-- a vertex that is not in the new pair, and has no mate, is not met
pub pair_free : (mate : ℕ → ℕ) (met met' : Set) (a b v : ℕ) → 1 ≤ a → 1 ≤ b → met' v ≡ ((met v || (a == v)) || (b == v)) → (mate v ≡ 0 → met v ≡ false) → with_pair mate a b v ≡ 0 → met' v ≡ false
pair_free mate met met' a b v la lb met'_is free z = grind (arith, cases_eq, with_here, with_there, ne_eqb)

module _ (g : Graph) (is : IsGraph g) (r m : Set) (mate : List ℕ) (has : HasMates g r m (numbers mate)) where
  module _ (paired : (v : ℕ) → Within g.order v → r v ≡ false → numbers mate v ≢ 0) where
    -- no vertex is missed
    none_missed : (v : ℕ) → Within g.order v → bit (not (r v) && (degree g m v == 0)) ≡ 0
    none_missed v w = elim (cases_Bool (r v)) [
      | inl t ↦ ap (λ b. bit (not b && (degree g m v == 0))) t
      | inr f ↦ let d = has.paired v w (paired v w f) in let one = (met g m d.0 v (numbers mate v) d.1 d.2 d.3).0 in
          ap (λ b. bit (not b && (degree g m v == 0))) f ∙ ap bit (ne_eqb (degree g m v) 0 (λ z. absurd (omega arith)))
    ]

    missed_none : missed_count g r m ≡ 0
    unfolding missed_count
    missed_none = total_none g.order (λ v. bit (not (r v) && (degree g m v == 0))) none_missed

    -- the frame of a perfect matching is empty
    pub empty_frame : (sets : FinalSets) → sets.outer ≡ [] → sets.inner ≡ [] → HasFrame g r mate sets
    empty_frame sets no_outer no_inner = record {
      m = m;
      mates = has;
      frame = record {
        label = λ v. 0;
        classes = 0;
        certificate = record {
          outside = λ v w t. absurd (both_ways (mem sets.inner v) (inner v) t);
          labels = record {
            low = λ v w. omega arith;
            away = λ v w t. refl;
            along = λ e w a b. refl;
            odd = λ j w. absurd (omega arith);
          };
          sizes = let a = missed_edges g r m is has.matching in let b = missed_none in let c = total_none g.order (λ v. bit (mem sets.inner v)) (λ v w. ap bit (inner v)) in omega arith;
        };
        labelled = λ v w. outer v;
        missable = λ v w t. absurd (both_ways (mem sets.outer v) (outer v) t);
        seen = λ v w t. absurd (both_ways (mem sets.inner v) (inner v) t);
      };
      vertices = λ v. ((λ t. absurd (both_ways (mem sets.outer v) (outer v) t)), (λ t. absurd (both_ways (mem sets.inner v) (inner v) t)));
    }
      where
        outer : (v : ℕ) → mem sets.outer v ≡ false
        outer v = ap (λ (xs : List ℕ). mem xs v) no_outer

        inner : (v : ℕ) → mem sets.inner v ≡ false
        inner v = ap (λ (xs : List ℕ). mem xs v) no_inner

-- an empty list has no members
pub empty-mem : (xs : List ℕ) → length xs ≡ 0 → (v : ℕ) → mem xs v ≡ false
empty-mem [] l v = refl
empty-mem (x ∷ xs) l v = absurd (omega arith)
