-- What the search for a maximum matching returns: the mates are those of a maximum matching, as a
-- list of edges, and its frame gives the Gallai-Edmonds sets. The vertices without a mate and twice
-- the edges make all vertices.
use Rattle.allowed_edges.proofs.from_counting.Common.{◌≡◌, ◌∙◌, ◌==◌, ◌&&◌, ◌||◌, ◌+◌, ◌*◌, ℕ, List, [], true, not, refl, ap, sym, subst, arith, count, count_complement, total_zero, fun_ext, mem, none, everything, rising_list, rising_list-rises, IsRisingIn, Within, Set}
use Rattle.graph_core.proofs.Common.{Graph, InA, InD, IsGraph, degree, degree_congr, size}
use Rattle.allowed_edges.specs.from_match_search.Common.{HasFrame, HasMates, numbers}
use Rattle.allowed_edges.specs.from_match_search.declared.answer.FinalSets.{FinalSets}
use Rattle.allowed_edges.proofs.from_match_search.SameMates.{exposed_mates, mates_degree}
use Rattle.allowed_edges.proofs.from_match_core.FrameFacts.{best_attains, best_maximum, best_missed, best_next, inner_rises, listed_marks, outer_rises}
use Rattle.gallai_edmonds.proofs.ThreeParts.{listed, rest_listed}
use Rattle.mcg6_lines.specs.MatchingLines.{IsMatchedWith}

-- the marks of a matching as a list of edges have the mates that any matching has which has those
-- of this one
module _ (g : Graph) (m : Set) (mate : ℕ → ℕ) (has : HasMates g none m mate) where
  same_degree : (v : ℕ) → degree g (mem (rising_list (size g) m)) v ≡ degree g m v
  same_degree v = degree_congr g (mem (rising_list (size g) m)) m v (listed_marks g m)

  pub listed_mates : (r f : Set) → HasMates g r f mate → HasMates g r (mem (rising_list (size g) m)) mate
  listed_mates r f other = record {
    matching = record {
      once = λ v w. let d = same_degree v in let o = has.matching.once v w in omega arith;
      away = λ v w removed. same_degree v ∙ mates_degree g none m mate has v w ∙ sym (mates_degree g r f mate other v w) ∙ other.matching.away v w removed;
    };
    exposed = λ v w zero. same_degree v ∙ has.exposed v w zero;
    paired = λ v w some. let e = has.paired v w some in (e.0, e.1, listed_marks g m e.0 e.1 ∙ e.2, e.3);
  }

module _ (g : Graph) (is : IsGraph g) (removed : List ℕ) (mate : List ℕ) (sets : FinalSets) (nothing : removed ≡ []) (framed : HasFrame g (mem removed) mate sets) where
  whole : HasFrame g none mate sets
  whole = subst (λ (r : Set). HasFrame g r mate sets) (fun_ext (λ v. ap (λ s. mem s v) nothing)) framed

  abbrev es : List ℕ
  es = rising_list (size g) whole.m

  paired : (r f : Set) → HasMates g r f (numbers mate) → HasMates g r (mem es) (numbers mate)
  paired = listed_mates g whole.m (numbers mate) whole.mates

  has : HasMates g none (mem es) (numbers mate)
  has = paired none whole.m whole.mates

  -- the vertices without a mate, and twice the edges
  exposed_and_paired : count g.order (λ v. numbers mate v == 0) + 2 * count (size g) (mem es) ≡ g.order
  exposed_and_paired =
      let a = exposed_mates g is none (mem es) (numbers mate) has in
      let b = count_complement g.order none in
      let c = total_zero g.order in
      omega arith

  pub half_paired : (k : ℕ) × (count g.order (λ v. numbers mate v == 0) + 2 * k ≡ g.order)
  half_paired = (count (size g) (mem es), exposed_and_paired)

  -- the rest of the vertices is C
  module _ (all rest : List ℕ) (edges : ℕ) (outer_in : IsRisingIn 128 sets.outer) (inner_in : IsRisingIn 128 sets.inner) (rest_in : IsRisingIn 128 rest)
      (all_is : all ≡ rising_list g.order everything) (full : (v : ℕ) → Within g.order v → mem all v ≡ true)
      (rest_is : (v : ℕ) → mem rest v ≡ (mem all v && not (mem sets.outer v || mem sets.inner v)))
      (exposed : ℕ) (exposed_is : exposed ≡ count g.order (λ v. numbers mate v == 0)) (half : exposed + 2 * edges ≡ g.order) where
    pub matched_with : IsMatchedWith g edges (numbers mate) sets.outer sets.inner rest
    matched_with = record {
      matching = mem es;
      mates = has;
      maximum = best_maximum g is removed mate sets nothing framed mate refl es paired;
      size_is = let e = exposed_and_paired in omega arith;
      attains = best_attains g is removed mate sets nothing framed mate refl es paired;
      lists_d = listed g.order sets.outer (InD g) (outer_rises g is removed mate sets nothing framed mate refl es paired outer_in) (best_missed g is removed mate sets nothing framed mate refl es paired);
      lists_a = listed g.order sets.inner (InA g) (inner_rises g is removed mate sets nothing framed mate refl es paired inner_in) (best_next g is removed mate sets nothing framed mate refl es paired);
      lists_c =
          rest_listed g.order 128 all sets.outer sets.inner rest (InD g) (InA g) rest_in
          (subst (IsRisingIn g.order) (sym all_is) (rising_list-rises g.order everything))
          rest_is full
          (best_missed g is removed mate sets nothing framed mate refl es paired) (best_next g is removed mate sets nothing framed mate refl es paired);
    }
