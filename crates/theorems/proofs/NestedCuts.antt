-- Cuts at a stage of a decomposition and at the two stages below it: what comes down, what comes
-- up, and what is nested. A union of merged blocks holds the new block or is apart from it, so
-- each cut below is nested with the shore that was merged.
use Rattle.tree_check.proofs.from_counting.Common.{◌≡◌, ◌⊎◌, ℕ, ◌≤◌, Bool, true, false, not, ◌&&◌, List, length, refl, sym, ap, ◌∙◌, arith, inl, inr, subst, and_parts, both_ways, cases_Bool, false_from_ne_true, not-true, same_tests, mem-rising_list, rising_list-rises, same_rising_list, some_none, some_true, Within, count, mem, rising_list, Set, complement, minus, some}
use Rattle.graph_core.proofs.Common.{block_count_congr, block_count_rest, tight_congr, tight_rest, union_rest, mem-complement_of, Apart, Below, block_count_new, inside_or_apart, Graph, AreBlocks, complement_of, merged, IsTightAt, block_count, blocks_in, IsNontrivial}
use Rattle.tree_core.proofs.Common.{kept_at, merged_at}
use Rattle.tree_check.proofs.from_move_laws.BigShores.{Big, Stage, big_merge, big_rest, big_some, big_y, rest_rest, stage_merged}
use Rattle.tree_check.proofs.from_move_laws.CarriedCuts.{some_of}
use Rattle.tree_check.proofs.from_move_laws.NestedShores.{stays_big}
use Rattle.theorems.specs.TightCuts.{Cross}

-- one of x and y is inside the other, or they are apart
abbrev pub Nested : ℕ → Set → Set → Type 0
Nested n x y = Below n x y ⊎ (Below n y x ⊎ Apart n x y)

pub apart_turned : (n : ℕ) (x y : Set) → Apart n x y → Apart n y x
apart_turned n x y a v w t = false_from_ne_true (x v) (λ s. both_ways (y v) (a v w s) t)

pub nested_turned : (n : ℕ) (x y : Set) → Nested n x y → Nested n y x
nested_turned n x y h = elim h [ inl b ↦ inr (inl b) | inr k ↦ elim k [ inl b ↦ inl b | inr a ↦ inr (inr (apart_turned n x y a)) ] ]

pub nested_self : (n : ℕ) (x : Set) → Nested n x x
nested_self n x = inl (λ v w t. t)

-- what is nested does not cross
pub nested-uncrossed : (n : ℕ) (x y : Set) → Nested n x y → Cross n x y → ⊥
nested-uncrossed n x y h c = grind arith

-- a vertex of x that is not in y, or x is inside y
pub over_or_below : (n : ℕ) (x y : Set) → ((v : ℕ) × Within n v × (x v ≡ true) × (y v ≡ false)) ⊎ Below n x y
over_or_below n x y = elim (cases_Bool (some n (minus x y))) [
  | inl t ↦ let r = some_true n (minus x y) t in let q = and_parts (x r.0) (not (y r.0)) r.2 in inl (r.0, r.1, q.0, not-true (y r.0) q.1)
  | inr f ↦ inr (λ v w t. implied (x v) (y v) (some_none n (minus x y) f v w) t)
]
  where
    implied : (a b : Bool) → (a && not b) ≡ false → a ≡ true → b ≡ true
    implied a b h k = grind arith

-- two sets without n that do not cross are nested
pub uncrossed-nested : (n : ℕ) (x y : Set) → Within n n → x n ≡ false → y n ≡ false → (Cross n x y → ⊥) → Nested n x y
uncrossed-nested n x y w nx ny h = elim (over_or_below n x y) [
  | inr b ↦ inl b
  | inl l ↦ elim (over_or_below n y x) [
    | inr b ↦ inr (inl b)
    | inl r ↦ inr (inr (λ v wv t. false_from_ne_true (y v) (λ s. h (record { both = (v, wv, t, s); first = l; second = (r.0, r.1, r.3, r.2); neither = (n, w, nx, ny) }))))
  ]
]

-- a cut at p, by its canonical shore
pub record CutAt (g : Graph) (p : List (List ℕ)) (x : List ℕ) : Type 0 where
  pub big : Big g p x
  pub canonical : mem x g.order ≡ false

-- two shores that hold each other are one list
pub same_shores : (g : Graph) (p : List (List ℕ)) (x y : List ℕ) → CutAt g p x → CutAt g p y → Below g.order (mem x) (mem y) → Below g.order (mem y) (mem x) → x ≡ y
same_shores g p x y cx cy a b = same_rising_list g.order x y cx.big.shore cy.big.shore (λ v w. same_tests (mem x v) (mem y v) (a v w) (b v w))

module _ (g : Graph) (p : List (List ℕ)) (st : Stage g p) (x : List ℕ) (cx : CutAt g p x) where
  n_within : Within g.order g.order
  n_within = let s = big_some g p st x cx.big in let w = s.1 in (omega arith, omega arith)

  rx : Big g p (complement_of g.order x)
  rx = big_rest g p st x cx.big

  pub kept_stage : Stage g (kept_at g.order p x)
  kept_stage = stage_merged g p st (complement_of g.order x) rx

  pub merged_stage : Stage g (merged_at g.order p x)
  merged_stage = stage_merged g p st x cx.big

  -- a cut of the kept side is a cut at p inside x, and another one
  pub kept_down : (y : List ℕ) → CutAt g (kept_at g.order p x) y → CutAt g p y × Below g.order (mem y) (mem x) × ((v : ℕ) × Within g.order v × (mem x v ≡ true) × (mem y v ≡ false))
  kept_down y cy = (
    record { big = big_y g p st (complement_of g.order x) y rx cy.big away; canonical = cy.canonical },
    inside,
    elim (over_or_below g.order (mem x) (mem y)) [ inl h ↦ h | inr b ↦ absurd (not_all b) ],
  )
    where
      away : Apart g.order (mem (complement_of g.order x)) (mem y)
      away = elim (inside_or_apart g.order p (kept_at g.order p x) (mem (complement_of g.order x)) st.list.partition rx.tight.union (big_merge g p st (complement_of g.order x) rx) (big_some g p st (complement_of g.order x) rx) (mem y) cy.big.tight.union) [
        | inr a ↦ a
        | inl b ↦ absurd (both_ways (mem y g.order) cy.canonical (b g.order n_within (mem-complement_of g.order x g.order n_within ∙ ap not cx.canonical)))
      ]

      inside : Below g.order (mem y) (mem x)
      inside v w t = elim (cases_Bool (mem x v)) [ inl s ↦ s | inr f ↦ absurd (both_ways (mem y v) (away v w (mem-complement_of g.order x v w ∙ ap not f)) t) ]

      -- else the complement of y would be one block
      not_all : Below g.order (mem x) (mem y) → ⊥
      not_all b =
          let same : x ≡ y = same_rising_list g.order x y cx.big.shore cy.big.shore (λ v w. same_tests (mem x v) (mem y v) (b v w) (inside v w)) in
          let one = block_count_new g.order p (kept_at g.order p x) (mem (complement_of g.order x)) st.list.partition rx.tight.union (big_merge g p st (complement_of g.order x) rx) (big_some g p st (complement_of g.order x) rx) in
          let three : 3 ≤ block_count (kept_at g.order p x) (mem (complement_of g.order x)) = subst (λ z. 3 ≤ block_count (kept_at g.order p x) (mem (complement_of g.order z))) (sym same) cy.big.outside in absurd (omega arith)

  -- a cut of the merged side is a cut at p that holds x or is apart from it, and another one
  pub merged_down : (y : List ℕ) → CutAt g (merged_at g.order p x) y → CutAt g p y × (Below g.order (mem x) (mem y) ⊎ Apart g.order (mem x) (mem y)) × ((v : ℕ) × Within g.order v × (mem y v ≡ true) × (mem x v ≡ false))
  merged_down y cy = (
    record { big = elim sides [ inl b ↦ over b | inr a ↦ big_y g p st x y cx.big cy.big a ]; canonical = cy.canonical },
    sides,
    elim (over_or_below g.order (mem y) (mem x)) [ inl h ↦ h | inr b ↦ absurd (not_all b) ],
  )
    where
      sides : Below g.order (mem x) (mem y) ⊎ Apart g.order (mem x) (mem y)
      sides = inside_or_apart g.order p (merged_at g.order p x) (mem x) st.list.partition cx.big.tight.union (big_merge g p st x cx.big) (big_some g p st x cx.big) (mem y) cy.big.tight.union

      over : Below g.order (mem x) (mem y) → Big g p y
      over b =
          let r = big_y g p st x (complement_of g.order y) cx.big (big_rest g (merged_at g.order p x) merged_stage y cy.big) (λ v w t. mem-complement_of g.order y v w ∙ ap not (b v w t)) in
          subst (Big g p) (rest_rest g.order y cy.big.shore) (big_rest g p st (complement_of g.order y) r)

      -- else y would be x, one block, or empty
      not_all : Below g.order (mem y) (mem x) → ⊥
      not_all b = elim sides [
        | inl a ↦
            let same : x ≡ y = same_rising_list g.order x y cx.big.shore cy.big.shore (λ v w. same_tests (mem x v) (mem y v) (a v w) (b v w)) in
            let one = block_count_new g.order p (merged_at g.order p x) (mem x) st.list.partition cx.big.tight.union (big_merge g p st x cx.big) (big_some g p st x cx.big) in
            let three : 3 ≤ block_count (merged_at g.order p x) (mem x) = subst (λ z. 3 ≤ block_count (merged_at g.order p x) (mem z)) (sym same) cy.big.inside in absurd (omega arith)
        | inr a ↦ let s = big_some g (merged_at g.order p x) merged_stage y cy.big in both_ways (mem y s.0) (a s.0 s.1 (b s.0 s.1 s.2)) s.2
      ]

  -- a cut at p inside x, other than x, is one of the kept side
  pub kept_up : (y : List ℕ) → CutAt g p y → Below g.order (mem y) (mem x) → ((v : ℕ) × Within g.order v × (mem x v ≡ true) × (mem y v ≡ false)) → CutAt g (kept_at g.order p x) y
  kept_up y cy b o = record {
    big = stays_big g p st (complement_of g.order x) y rx cy.big
        (λ v w t. false_from_ne_true (mem y v) (λ s. both_ways (mem x v) (not-true (mem x v) (sym (mem-complement_of g.order x v w) ∙ t)) (b v w s)))
        (o.0, o.1, mem-complement_of g.order x o.0 o.1 ∙ ap not o.2, o.3);
    canonical = cy.canonical;
  }

  -- a cut at p that holds x and more, or is apart from x, is one of the merged side
  pub over_up : (y : List ℕ) → CutAt g p y → Below g.order (mem x) (mem y) → ((v : ℕ) × Within g.order v × (mem y v ≡ true) × (mem x v ≡ false)) → CutAt g (merged_at g.order p x) y
  over_up y cy b o =
      let r = stays_big g p st x (complement_of g.order y) cx.big (big_rest g p st y cy.big) (λ v w t. mem-complement_of g.order y v w ∙ ap not (b v w t)) (o.0, o.1, o.3, mem-complement_of g.order y o.0 o.1 ∙ ap not o.2) in
      record { big = subst (Big g (merged p x)) (rest_rest g.order y cy.big.shore) (big_rest g (merged p x) merged_stage (complement_of g.order y) r); canonical = cy.canonical }

  pub apart_up : (y : List ℕ) → CutAt g p y → Apart g.order (mem x) (mem y) → CutAt g (merged_at g.order p x) y
  apart_up y cy a = record { big = stays_big g p st x y cx.big cy.big a (g.order, n_within, cx.canonical, cy.canonical); canonical = cy.canonical }

-- a tight and nontrivial set gives a cut by its canonical shore
pub cut_of_set : (g : Graph) (p : List (List ℕ)) → Stage g p → (x : Set) → IsTightAt g p x → IsNontrivial (length p) (blocks_in p x) → (y : List ℕ) × CutAt g p y
cut_of_set g p st x t h = elim (cases_Bool (x g.order)) [
  | inr f ↦ canonical x f t h.inside (rest x t h.outside)
  | inl s ↦ canonical (complement x) (ap not s) (tight_rest g st.graph p pp x t) (rest x t h.outside) (subst (λ k. 3 ≤ k) (block_count_congr g.order p pp x (complement (complement x)) (λ v w. twice (x v)) t.union) h.inside)
]
  where
    pp : AreBlocks g.order p
    pp = st.list.partition

    twice : (b : Bool) → b ≡ not (not b)
    twice true = refl
    twice false = refl

    rest : (x : Set) → IsTightAt g p x → 3 ≤ count (length p) (complement (blocks_in p x)) → 3 ≤ block_count p (complement x)
    rest x t o = let a = block_count_rest g.order p pp x t.union in omega arith

    canonical : (x : Set) → x g.order ≡ false → IsTightAt g p x → 3 ≤ block_count p x → 3 ≤ block_count p (complement x) → (y : List ℕ) × CutAt g p y
    canonical x nx t i o =
        let y = rising_list g.order x in
        let same : (v : ℕ) → Within g.order v → x v ≡ mem y v = λ v w. sym (mem-rising_list g.order x v w) in (
          y,
          record {
            big = record {
              shore = rising_list-rises g.order x;
              tight = tight_congr g st.graph p pp x (mem y) same t;
              inside = subst (λ k. 3 ≤ k) (block_count_congr g.order p pp x (mem y) same t.union) i;
              outside = subst (λ k. 3 ≤ k) (block_count_congr g.order p pp (complement x) (mem (complement_of g.order y)) (λ v w. ap not (same v w) ∙ sym (mem-complement_of g.order y v w)) (union_rest g.order p pp x t.union)) o;
            };
            canonical = let s = some_of g.order p pp x t.union (omega arith) in let w = s.1 in mem-rising_list g.order x g.order (omega arith, omega arith) ∙ nx;
          },
        )
