-- What the rules of a cut show. The test of tightness is made on the quotient, at the places of
-- the blocks in the shore: a cut that is tight there is tight at the partition, and a perfect
-- matching with two edges in it is lifted to one at the partition.
use Rattle.graph_core.proofs.from_counting.Common.{◌≡◌, ◌≢◌, ◌⊎◌, ◌↔◌, IsTrue, ◌%◌, ◌==◌, Option, Some, unwrap_or, ℕ, zero, suc, ◌+◌, ◌*◌, ◌-◌, ◌≤◌, Bool, true, false, not, ◌&&◌, ◌||◌, List, length, refl, sym, ap, ap₂, ◌∙◌, arith, subst, inl, inr, list_all, both_ways, cases_Bool, count_complement, count_congr, count_mem_length, is_odd_remainder, odd-double, length-rising_list, mem-outside, mem-rising_list, rising_list-rises, set-wider, Within, count, is_odd, IsRisingIn, mem, rising_list, Set, none}
use Rattle.move_laws.proofs.from_contraction.BlockUnions.{in_or_apart, test-from_union, union-from_test}
use Rattle.move_laws.proofs.from_contraction.LiftedMatchings.{lifted-perfect, perfect-congr}
use Rattle.move_laws.proofs.from_contraction.ProjectedMatchings.{lifted-cut}
use Rattle.move_laws.proofs.from_contraction.QuotientLaws.{covered_down, tight_at_down}
use Rattle.move_laws.specs.from_contraction.Partition.{IsUnionAt, PartitionValue}
use Rattle.graph_core.proofs.Common.{blocks-singles, length-singles, singles-tight, contracted-graph, contracted-order, contracted-size, tight_from_cut, covered_perfect, tight_or_not, parity, quotient_graph, quotient-order, tight-same, edges-in-cut-at, IsCovered, Graph, IsGraph, edges_in_cut, first_end, in_cut, inside, second_end, size, IsPartition, IsPerfect, AreBlocks, contracted, lifted, quotient, singles, IsTightAt, IsUnion, block_count, blocks_in, IsNontrivial, IsTight}
use Rattle.match_core.specs.Common.{MatchingValue, edges_of}
use Rattle.tight_cuts.specs.Common.{CrossesTwice}
use Rattle.tree_core.proofs.Common.{as_many-singles, IsCutAt}
use Rattle.tree_check.specs.Common.{why_of, BreaksCut, CrossesAt, Why, not_blocks, even, trivial, not_tight, not_leaf, without_matching}
use Rattle.tree_check.specs.declared.judgement.Why.{Why as StoredWhy}

-- and have as many edges in their cuts
cut-same : (g : Graph) (m x y : Set) → IsGraph g → ((v : ℕ) → Within g.order v → x v ≡ y v) → edges_in_cut g m x ≡ edges_in_cut g m y
cut-same g m x y is h = count_congr (size g) _ _ (λ e w. ap₂ (λ a b. m e && ((a && not b) || (not a && b))) (h (first_end g e) (is e w).0) (h (second_end g e) (is e w).1))

-- a canonical nontrivial shore that is tight
pub is-cut : (g : Graph) (p : List (List ℕ)) (x : List ℕ) → IsRisingIn (g.order - 1) x → IsTightAt g p (mem x) → IsNontrivial (length p) (blocks_in p (mem x)) → IsCutAt g p x
is-cut g p x rises tight nontrivial = grind (arith, set-wider (g.order - 1) g.order x, mem-outside (g.order - 1) x rises g.order)

module _ (g : Graph) (p : List (List ℕ)) (x : Set) (is : IsGraph g) (pp : AreBlocks g.order p) where
  -- the places of the blocks in the shore are an odd set of vertices of the quotient if their
  -- number is odd
  pub places-rise : IsRisingIn (quotient g p).order (rising_list (length p) (blocks_in p x))
  places-rise = subst (λ n. IsRisingIn n (rising_list (length p) (blocks_in p x))) (sym (quotient-order g p)) (rising_list-rises (length p) (blocks_in p x))

  pub places-odd : is_odd (block_count p x) ≡ true → is_odd (length (rising_list (length p) (blocks_in p x))) ≡ true
  places-odd odd = ap is_odd (length-rising_list (length p) (blocks_in p x)) ∙ odd

  places-tell : (i : ℕ) → Within (quotient g p).order i → mem (rising_list (length p) (blocks_in p x)) i ≡ blocks_in p x i
  places-tell i w = mem-rising_list (length p) (blocks_in p x) i (subst (λ n. Within n i) (quotient-order g p) w)

  module _ (union : IsUnion g.order p x) where
    -- what the test of the quotient shows
    pub tight-shown : IsTight (quotient g p) (mem (rising_list (length p) (blocks_in p x))) → IsTightAt g p x
    tight-shown t = tight_at_down g p is pp x union (tight-same (quotient g p) (mem (rising_list (length p) (blocks_in p x))) (blocks_in p x) (quotient_graph g p is pp) places-tell t)

    pub crossing-shown : (m : MatchingValue) (edges : List ℕ) → CrossesTwice (quotient g p) (mem (rising_list (length p) (blocks_in p x))) m → edges ≡ lifted g p (mem (edges_of m)) → CrossesAt g p x edges
    crossing-shown m edges crosses same = subst (CrossesAt g p x) (sym same) (record {
      rising = rising_list-rises (size g) _;
      perfect = lifted-perfect g p is pp (mem (edges_of m)) crosses.perfect;
      twice = subst (λ k. 2 ≤ k)
          (cut-same (quotient g p) (mem (edges_of m)) (mem (rising_list (length p) (blocks_in p x))) (blocks_in p x) (quotient_graph g p is pp) places-tell
          ∙ sym (lifted-cut g p is pp (mem (edges_of m)) crosses.perfect (blocks_in p x))
          ∙ edges-in-cut-at g p x is pp union (mem (lifted g p (mem (edges_of m)))))
          crosses.twice;
    })

    -- a shore that a perfect matching crosses twice is not tight
    pub crossed-not_tight : (m : List ℕ) → CrossesAt g p x m → IsTightAt g p x → ⊥
    crossed-not_tight m crosses tight = grind (arith, edges-in-cut-at g p x is pp union (mem m))

    -- an odd shore is tight, or a perfect matching crosses it twice
    pub tight-or_crossed : IsCovered (quotient g p) → is_odd (block_count p x) ≡ true → IsTightAt g p x ⊎ ((m : List ℕ) × CrossesAt g p x m)
    tight-or_crossed covered odd = elim (tight_or_not (contracted g p) (blocks_in p x)) [
      | inl t ↦ let m = covered_perfect (contracted g p) (contracted-graph g p is pp) (covered_down g p is pp covered) in
          inl (record { union = union; tight = tight_from_cut (contracted g p) (blocks_in p x) m.0 (contracted-graph g p is pp) m.1 t })
      | inr m ↦ inr (rising_list (size g) m.0, shown m.0 m.1 m.2)
    ]
      where
        listed : (m : Set) (e : ℕ) → Within (size (contracted g p)) e → m e ≡ mem (rising_list (size g) m) e
        listed m e w = sym (mem-rising_list (size g) m e (subst (λ n. Within n e) (contracted-size g p) w))

        double : (b : ℕ) → block_count p x ≡ 0 + 2 * b → block_count p x ≡ b + b
        double b sum = omega arith

        -- the number of blocks inside is that of the edges in the cut and twice that of those
        -- inside
        at_least_two : (a b : ℕ) → a ≢ 1 → block_count p x ≡ a + 2 * b → 2 ≤ a
        at_least_two zero b other sum = absurd (both_ways (is_odd (block_count p x)) (ap is_odd (double b sum) ∙ odd-double b) odd)
        at_least_two (suc zero) b other sum = absurd (other refl)
        at_least_two (suc (suc a)) b other sum = omega arith

        shown : (m : Set) → IsPerfect (contracted g p) none m → edges_in_cut (contracted g p) m (blocks_in p x) ≢ 1 → CrossesAt g p x (rising_list (size g) m)
        shown m perfect other = record {
          rising = rising_list-rises (size g) m;
          perfect = perfect-congr (contracted g p) m (mem (rising_list (size g) m)) (listed m) perfect;
          twice = subst (λ k. 2 ≤ k)
              (count_congr (size (contracted g p)) _ _ (λ e w. ap (λ b. b && in_cut (contracted g p) (blocks_in p x) e) (listed m e w))
              ∙ edges-in-cut-at g p x is pp union (mem (rising_list (size g) m)))
              (at_least_two (edges_in_cut (contracted g p) m (blocks_in p x)) (count (size (contracted g p)) (λ e. m e && inside (contracted g p) (blocks_in p x) e)) other
              (sym (ap (λ n. count n (blocks_in p x)) (contracted-order g p)) ∙ parity (contracted g p) (contracted-graph g p is pp) m (blocks_in p x) perfect));
        }

-- at single vertices the test is made on the graph itself
module _ (g : Graph) (p : List (List ℕ)) (x : List ℕ) (pp : IsPartition g.order p) (many : length p ≡ g.order) where
  pub odd-single : IsRisingIn g.order x → is_odd (block_count p (mem x)) ≡ true → is_odd (length x) ≡ true
  odd-single rises odd =
      let n = g.order in
      let counted = ap (λ k. count k (blocks_in (singles n) (mem x))) (length-singles n) ∙ count_congr n _ _ (blocks-singles n (mem x)) ∙ count_mem_length n x rises in
      ap is_odd (sym counted) ∙ subst (λ (q : List (List ℕ)). is_odd (block_count q (mem x)) ≡ true) (as_many-singles n p pp many) odd

  pub tight-single : IsGraph g → IsTight g (mem x) → IsTightAt g p (mem x)
  tight-single is t = subst (λ (q : List (List ℕ)). IsTightAt g q (mem x)) (sym (as_many-singles g.order p pp many)) (singles-tight g (mem x) is t)

-- at least three blocks inside, and three outside
pub nontrivial-shown : (p : List (List ℕ)) (x : Set) (inside all : ℕ) → inside ≡ block_count p x → all ≡ length p → 3 ≤ inside → inside + 3 ≤ all → IsNontrivial (length p) (blocks_in p x)
nontrivial-shown p x inside all counted sized few rest = grind (arith, count_complement (length p) (blocks_in p x))

nontrivial_or_not : (n : ℕ) (x : Set) → IsNontrivial n x ⊎ (IsNontrivial n x → ⊥)
nontrivial_or_not n x = grind arith

module _ (g : Graph) (p : List (List ℕ)) (x : List ℕ) (is : IsGraph g) (pp : AreBlocks g.order p) where
  -- a canonical nontrivial tight shore breaks no rule
  pub broken-not_cut : (why : Why) → BreaksCut g p (mem x) why → IsCutAt g p x → ⊥
  broken-not_cut not_blocks b cuts = b cuts.tight.union
  broken-not_cut even b cuts = both_ways (is_odd (block_count p (mem x))) b.1 (sym (ap (λ n. is_odd (count n (blocks_in p (mem x)))) (contracted-order g p)) ∙ cuts.tight.tight.odd)
  broken-not_cut trivial b cuts = b.2 cuts.nontrivial
  broken-not_cut (not_tight m) b cuts = crossed-not_tight g p (mem x) is pp b.0 m b.3 cuts.tight
  broken-not_cut (not_leaf c) b cuts = b

  -- and another set below the greatest vertex breaks one
  pub cut-or_broken : IsCovered (quotient g p) → IsRisingIn (g.order - 1) x → IsCutAt g p x ⊎ ((why : Why) × BreaksCut g p (mem x) why)
  cut-or_broken covered rises = elim (cases_Bool (list_all (in_or_apart x) p)) [
    | inr fails ↦ inr (not_blocks, λ union. both_ways (list_all (in_or_apart x) p) fails (test-from_union g.order p x pp union))
    | inl passes ↦ of_union (union-from_test g.order p x pp passes)
  ]
    where
      of_union : IsUnion g.order p (mem x) → IsCutAt g p x ⊎ ((why : Why) × BreaksCut g p (mem x) why)
      of_union union = elim (cases_Bool (is_odd (block_count p (mem x)))) [
        | inr other ↦ inr (even, (union, other))
        | inl odd ↦ elim (nontrivial_or_not (length p) (blocks_in p (mem x))) [
          | inr small ↦ inr (trivial, (union, odd, small))
          | inl some ↦ elim (tight-or_crossed g p (mem x) is pp union covered odd) [
            | inl tight ↦ inl (is-cut g p x rises tight some)
            | inr m ↦ inr (not_tight m.0, (union, odd, some, m.1))
          ]
        ]
      ]

-- a cut breaks one first rule
pub broken-once : (g : Graph) (p : List (List ℕ)) (x : Set) (a b : Why) → BreaksCut g p x a → BreaksCut g p x b → without_matching a ≡ without_matching b
broken-once g p x not_blocks not_blocks s t = refl
broken-once g p x not_blocks even s t = absurd (s t.0)
broken-once g p x not_blocks trivial s t = absurd (s t.0)
broken-once g p x not_blocks (not_tight m) s t = absurd (s t.0)
broken-once g p x not_blocks (not_leaf c) s t = absurd t
broken-once g p x even not_blocks s t = absurd (t s.0)
broken-once g p x even even s t = refl
broken-once g p x even trivial s t = absurd (both_ways (is_odd (block_count p x)) s.1 t.1)
broken-once g p x even (not_tight m) s t = absurd (both_ways (is_odd (block_count p x)) s.1 t.1)
broken-once g p x even (not_leaf c) s t = absurd t
broken-once g p x trivial not_blocks s t = absurd (t s.0)
broken-once g p x trivial even s t = absurd (both_ways (is_odd (block_count p x)) t.1 s.1)
broken-once g p x trivial trivial s t = refl
broken-once g p x trivial (not_tight m) s t = absurd (s.2 t.2)
broken-once g p x trivial (not_leaf c) s t = absurd t
broken-once g p x (not_tight m) not_blocks s t = absurd (t s.0)
broken-once g p x (not_tight m) even s t = absurd (both_ways (is_odd (block_count p x)) t.1 s.1)
broken-once g p x (not_tight m) trivial s t = absurd (t.2 s.2)
broken-once g p x (not_tight m) (not_tight k) s t = refl
broken-once g p x (not_tight m) (not_leaf c) s t = absurd t
broken-once g p x (not_leaf c) b s t = absurd s

-- what the tests of the code say of a partition of the graph with these blocks
module _ (g : Graph) (q : PartitionValue) (p : List (List ℕ)) (x : List ℕ) (test : Bool) (order : q.order ≡ g.order) (same : q.blocks ≡ p) (says : IsTrue test ↔ IsUnionAt q x) where
  pub union-at : test ≡ true → IsUnion g.order p (mem x)
  union-at holds = subst (λ (bs : List (List ℕ)). IsUnion g.order bs (mem x)) same (subst (λ n. IsUnion n q.blocks (mem x)) order (says.0 holds).union)

pub even-count : (i n : ℕ) → i ≡ n → i % 2 ≡ 0 → is_odd n ≡ false
even-count i n same half = ap is_odd (sym same) ∙ is_odd_remainder i ∙ ap (λ r. r == 1) half

pub odd-count : (i n : ℕ) → i ≡ n → i % 2 ≢ 0 → is_odd n ≡ true
odd-count i n same half = grind (arith, is_odd_remainder i)

pub breaks-some : (g : Graph) (p : List (List ℕ)) (x : Set) (a b : StoredWhy) → Some a ≡ Some b → BreaksCut g p x (why_of a) → BreaksCut g p x (why_of b)
breaks-some g p x a b is breaks = subst (λ w. BreaksCut g p x (why_of w)) (ap (λ (o : Option StoredWhy). unwrap_or o a) is) breaks
