-- The candidates of a quotient as candidates of the graph. A union of blocks holds a vertex exactly
-- when its set of places holds the vertex's place, so blocks in it are those of the set, and it is
-- tight at the partition if the set is tight in the quotient.
use Rattle.graph_core.proofs.from_counting.Common.{◌≡◌, ℕ, ◌≤◌, Bool, true, false, not, ◌&&◌, List, [], ◌∷◌, map, length, refl, sym, ap, ◌∙◌, arith, subst, ◌↔◌, All, get_or, zero, suc, ◌<◌, eq-eqb, ne_eqb, ◌≢◌, if◌then◌else◌, and_parts, and_from, both_ways, cases_Bool, count_congr, count_le, mem-rising_list, rising_list-rises, some_true, true_some, Within, count, mem, Set, complement, some}
use Rattle.tree_core.proofs.from_contraction.QuotientLaws.{covered_down, tight_at_down, tight_at_up}
use Rattle.graph_core.proofs.Common.{place_in, place_is, at_rep, rep, rep_in, rep_place, quotient_graph, tight-same, nontrivial-same, blocks-singles, contracted-singles, singles-tight, tight-singles, length-singles, singles-partition, IsCovered, Graph, IsGraph, AreBlocks, IsPartition, block, place, singles, quotient, union_of_blocks, IsTightAt, IsUnion, blocks_in, IsNontrivial, IsTight}
use Rattle.tree_core.proofs.SingleVertices.{as_many-singles, last-place}
use Rattle.tight_cuts.specs.Common.{Candidate, IsTightCandidate, candidates, IsCandidateAt, candidates_at, lifted_candidate}

pub map-none : {X Y : Type 0} (f : X → Y) (xs : List X) → map f xs ≡ [] → xs ≡ []
map-none f [] e = refl
map-none f (x ∷ xs) e = absurd (let l = ap length e in omega arith)

-- the candidates of a list, one by one
all-lifted : (g : Graph) (p : List (List ℕ)) (Q : Candidate → Type 0) → ((c : Candidate) → Q c → IsCandidateAt g p (lifted_candidate g p c)) → (list : List Candidate) → All Q list → All (IsCandidateAt g p) (map (lifted_candidate g p) list)
all-lifted g p Q each list all k d l = go list all k l
  where
    go : (list : List Candidate) → All Q list → (k : ℕ) → k < length (map (lifted_candidate g p) list) → IsCandidateAt g p (get_or (map (lifted_candidate g p) list) k d)
    go [] all k l = absurd (omega arith)
    go (c ∷ list) all zero l = each c (all 0 c (omega arith))
    go (c ∷ list) all (suc k) l = go list (λ j e m. all (suc j) e (omega arith)) k (omega arith)

module _ (g : Graph) (p : List (List ℕ)) (is : IsGraph g) (pp : IsPartition g.order p) where
  blocks : AreBlocks g.order p
  blocks = pp.partition

  pub order_q : (quotient g p).order ≡ length p
  unfolding quotient
  order_q = refl

  -- the union of the blocks at the places in x holds v if x holds the place of v
  pub union-holds : (x : Set) (v : ℕ) → Within g.order v → mem (union_of_blocks g p x) v ≡ x (place p v)
  union-holds x v w = mem-rising_list g.order (λ v. some (length p) (λ i. x i && mem (block p i) v)) v w ∙ held (x (place p v)) refl
    where
      held : (b : Bool) → x (place p v) ≡ b → some (length p) (λ i. x i && mem (block p i) v) ≡ x (place p v)
      held true h = let r = place_in g.order p blocks v w in true_some (length p) (λ i. x i && mem (block p i) v) (place p v) r.0 (and_from (x (place p v)) (mem (block p (place p v)) v) h r.1) ∙ sym h
      held false h = grind (arith, cases_Bool, some_true (length p), and_parts, both_ways (x (place p v)) h, place_is g.order p blocks v)

  pub union-union : (x : Set) → IsUnion g.order p (mem (union_of_blocks g p x))
  union-union x u v wu wv e = union-holds x u wu ∙ ap x e ∙ sym (union-holds x v wv)

  -- its blocks are those of x
  pub union-blocks : (x : Set) (i : ℕ) → Within (length p) i → x i ≡ blocks_in p (mem (union_of_blocks g p x)) i
  union-blocks x i w = grind (arith, at_rep, union-union, union-holds, rep, rep_in, rep_place)

  pub union-tight : (x : Set) → IsTight (quotient g p) x → IsTightAt g p (mem (union_of_blocks g p x))
  union-tight x t = tight_at_down g p is blocks (mem (union_of_blocks g p x)) (union-union x)
      (tight-same (quotient g p) x (blocks_in p (mem (union_of_blocks g p x))) (quotient_graph g p is blocks) (λ i w. union-blocks x i (subst (λ n. Within n i) order_q w)) t)

  pub union-nontrivial : (x : Set) → IsNontrivial (quotient g p).order x → IsNontrivial (length p) (blocks_in p (mem (union_of_blocks g p x)))
  union-nontrivial x t = nontrivial-same (length p) x (blocks_in p (mem (union_of_blocks g p x))) (union-blocks x) (subst (λ n. IsNontrivial n x) order_q t)

  one-lifted : (c : Candidate) → IsTightCandidate (quotient g p) c → IsCandidateAt g p (lifted_candidate g p c)
  one-lifted c t = record {
    rising = rising_list-rises g.order _;
    tight = union-tight (mem c.shore) t.tight;
    nontrivial = union-nontrivial (mem c.shore) t.nontrivial;
    canonical = union-holds (mem c.shore) g.order (positive, omega arith) ∙ ap (mem c.shore) (last-place g.order p pp positive ∙ sym order_q) ∙ t.canonical;
    inside = t.inside ∙ ap (λ n. count n (mem c.shore)) order_q ∙ count_congr (length p) _ _ (union-blocks (mem c.shore));
    outside = t.outside ∙ ap (λ n. count n (complement (mem c.shore))) order_q ∙ count_congr (length p) _ _ (λ i w. ap not (union-blocks (mem c.shore) i w));
  }
    where
      positive : 1 ≤ g.order
      positive = grind (arith, count_le, order_q)

  pub quotient-found : (list : List Candidate) → All (IsTightCandidate (quotient g p)) list → All (IsCandidateAt g p) (map (lifted_candidate g p) list)
  quotient-found = all-lifted g p (IsTightCandidate (quotient g p)) one-lifted

  pub quotient-none : (list : List Candidate) → ((list ≡ []) ↔ ((x : Set) → IsTight (quotient g p) x → IsNontrivial (quotient g p).order x → ⊥)) →
      (map (lifted_candidate g p) list ≡ []) ↔ ((x : Set) → IsTightAt g p x → IsNontrivial (length p) (blocks_in p x) → ⊥)
  quotient-none list none = (
    λ e x t some. none.0 (map-none (lifted_candidate g p) list e) (blocks_in p x) (tight_at_up g p is blocks x t) (subst (λ n. IsNontrivial n (blocks_in p x)) (sym order_q) some),
    λ h. ap (map (lifted_candidate g p)) (none.1 (λ x t some. h (mem (union_of_blocks g p x)) (union-tight x t) (union-nontrivial x some))),
  )

-- at single vertices the candidates are those of the graph
module _ (g : Graph) (is : IsGraph g) where
  pub single-nontrivial : (x : Set) → IsNontrivial g.order x → IsNontrivial (length (singles g.order)) (blocks_in (singles g.order) x)
  single-nontrivial x t = subst (λ n. IsNontrivial n (blocks_in (singles g.order) x)) (sym (length-singles g.order)) (nontrivial-same g.order x (blocks_in (singles g.order) x) (λ v w. sym (blocks-singles g.order x v w)) t)

  pub nontrivial-single : (x : Set) → IsNontrivial (length (singles g.order)) (blocks_in (singles g.order) x) → IsNontrivial g.order x
  nontrivial-single x t = nontrivial-same g.order (blocks_in (singles g.order) x) x (blocks-singles g.order x) (subst (λ n. IsNontrivial n (blocks_in (singles g.order) x)) (length-singles g.order) t)

  one-single : (c : Candidate) → IsTightCandidate g c → IsCandidateAt g (singles g.order) c
  one-single c t = record {
    rising = t.rising;
    tight = singles-tight g (mem c.shore) is t.tight;
    nontrivial = single-nontrivial (mem c.shore) t.nontrivial;
    canonical = t.canonical;
    inside = t.inside ∙ sym (count_congr g.order _ _ (blocks-singles g.order (mem c.shore))) ∙ ap (λ n. count n (blocks_in (singles g.order) (mem c.shore))) (sym (length-singles g.order));
    outside = t.outside ∙ sym (count_congr g.order _ _ (λ v w. ap not (blocks-singles g.order (mem c.shore) v w))) ∙ ap (λ n. count n (complement (blocks_in (singles g.order) (mem c.shore)))) (sym (length-singles g.order));
  }

  pub singles-found : (p : List (List ℕ)) → IsPartition g.order p → length p ≡ g.order → (list : List Candidate) → All (IsTightCandidate g) list → All (IsCandidateAt g p) list
  singles-found p pp many list all = subst (λ (q : List (List ℕ)). All (IsCandidateAt g q) list) (sym (as_many-singles g.order p pp many)) (λ k d l. one-single (get_or list k d) (all k d l))

  pub singles-none : (p : List (List ℕ)) → IsPartition g.order p → length p ≡ g.order → (list : List Candidate) → ((list ≡ []) ↔ ((x : Set) → IsTight g x → IsNontrivial g.order x → ⊥)) →
      (list ≡ []) ↔ ((x : Set) → IsTightAt g p x → IsNontrivial (length p) (blocks_in p x) → ⊥)
  singles-none p pp many list none = subst (λ (q : List (List ℕ)). (list ≡ []) ↔ ((x : Set) → IsTightAt g q x → IsNontrivial (length q) (blocks_in q x) → ⊥)) (sym (as_many-singles g.order p pp many)) (
    λ e x t some. none.0 e x (tight-singles g x is t) (nontrivial-single x some),
    λ h. none.1 (λ x t some. h x (singles-tight g x is t) (single-nontrivial x some)),
  )

-- which of the two lists stands at p
pub at-vertices : (g : Graph) (p : List (List ℕ)) → length p ≡ g.order → candidates_at g p ≡ candidates g
unfolding candidates_at
at-vertices g p e = ap (λ b. if b then candidates g else map (lifted_candidate g p) (candidates (quotient g p))) (eq-eqb (length p) g.order e)

pub at-blocks : (g : Graph) (p : List (List ℕ)) → length p ≢ g.order → candidates_at g p ≡ map (lifted_candidate g p) (candidates (quotient g p))
unfolding candidates_at
at-blocks g p e = ap (λ b. if b then candidates g else map (lifted_candidate g p) (candidates (quotient g p))) (ne_eqb (length p) g.order e)

-- a graph is covered if its quotient at single vertices is
pub covered-single : (g : Graph) (p : List (List ℕ)) → IsGraph g → IsPartition g.order p → length p ≡ g.order → IsCovered (quotient g p) → IsCovered g
covered-single g p is pp many cov =
    subst IsCovered (contracted-singles g is) (covered_down g (singles g.order) is (singles-partition g.order).partition (subst (λ (q : List (List ℕ)). IsCovered (quotient g q)) (as_many-singles g.order p pp many) cov))
