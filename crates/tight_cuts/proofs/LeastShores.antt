-- The intersection of all tight sets that separate two pairs is one of them.
-- Idea: the meet of two of them is odd by one matching with the edge, so a least one lies in each.
use Rattle.graph_core.proofs.from_counting.Common.{◌≡◌, ℕ, suc, zero, ◌≤◌, ◌≢◌, Bool, true, false, sym, ap, ap₂, arith, ◌&&◌, ◌||◌, not, inl, inr, nat_lt, lt-ltb, ltb-true, same_tests, cases_lt, and_parts, and_from, or_parts, or_from, both_ways, not-true, Respects, choose_set, some_set_found, each_passes, none_fails, set_found, count_congr, two_members, odd_three, total_tight, bit, count, Within, Set, meet, complement, pair_set, some_set}
use Rattle.graph_core.proofs.Common.{is_tight_says, is_tight_found, tight-same, meet_tight, IsCovered, Graph, size, first_end, second_end, IsGraph, has_ends, Allowed, IsNontrivial}
use Rattle.tight_cuts.proofs.PairsOfEdges.{odd_sides, others_stay, cut_between}
use Rattle.tight_cuts.specs.Common.{separates_tightly, is_separated, common_shore, SeparatesTightly}

-- the test and the record
pub parts_says : (g : Graph) (a b : ℕ) (k : ℕ × ℕ) (z : Set) → separates_tightly g a b k z ≡ true → SeparatesTightly g a b k z
parts_says g a b k z h = grind (arith, and_parts, or_parts, not-true, is_tight_says)

pub parts_found : (g : Graph) (a b : ℕ) (k : ℕ × ℕ) (z : Set) → SeparatesTightly g a b k z → separates_tightly g a b k z ≡ true
parts_found g a b k z p = grind (arith, and_from, is_tight_found, or_from)

module _ (g : Graph) (is : IsGraph g) (a b : ℕ) (k : ℕ × ℕ) (wa : Within g.order a) (wb : Within g.order b) (wx : Within g.order k.0) (wy : Within g.order k.1) where
  pub parts_congr : (z w : Set) → ((v : ℕ) → Within g.order v → z v ≡ w v) → SeparatesTightly g a b k z → SeparatesTightly g a b k w
  parts_congr z w h p = grind (arith, tight-same g z w is h p.tight)

  pub parts_same : (z w : Set) → ((v : ℕ) → Within g.order v → z v ≡ w v) → separates_tightly g a b k z ≡ separates_tightly g a b k w
  parts_same z w h = same_tests (separates_tightly g a b k z) (separates_tightly g a b k w)
      (λ t. parts_found g a b k w (parts_congr z w h (parts_says g a b k z t)))
      (λ t. parts_found g a b k z (parts_congr w z (λ v u. sym (h v u)) (parts_says g a b k w t)))

  pub parts_respects : Respects g.order (separates_tightly g a b k)
  parts_respects = record { same = parts_same }

  -- a smaller one is looked for until there is none
  pub least_parts : (d : ℕ) (z : Set) → SeparatesTightly g a b k z → count g.order z ≤ d → (w : Set) × SeparatesTightly g a b k w × ((v : Set) → SeparatesTightly g a b k v → count g.order w ≤ count g.order v)
  least_parts zero z p l = (z, p, λ v q. omega arith)
  least_parts (suc d) z p l =
      elim (choose_set g.order (λ v. separates_tightly g a b k v && nat_lt (count g.order v) (count g.order z)) (record { same = λ v w h. ap₂ ◌&&◌ (parts_same v w h) (ap (λ c. nat_lt c (count g.order z)) (count_congr g.order v w h)) })) [
        | inl f ↦ let q = and_parts (separates_tightly g a b k f.0) (nat_lt (count g.order f.0) (count g.order z)) f.1 in
            let s = ltb-true (count g.order f.0) (count g.order z) q.1 in
            least_parts d f.0 (parts_says g a b k f.0 q.0) (omega arith)
        | inr f ↦ grind (arith, cases_lt, both_ways, nat_lt, and_from, parts_found g a b k, lt-ltb)
      ]

  -- v is in the common shore if it is in each
  pub common_in : (v : ℕ) → Within g.order v → common_shore g a b k v ≡ true → (z : Set) → SeparatesTightly g a b k z → z v ≡ true
  common_in v w h z p = implied (separates_tightly g a b k z) (z v) (each_passes g.order (λ z. not (separates_tightly g a b k z) || z v) (record { same = λ s t e. ap₂ (λ c d. not c || d) (parts_same s t e) (e v w) }) h z) (parts_found g a b k z p)
    where
      implied : (c d : Bool) → (not c || d) ≡ true → c ≡ true → d ≡ true
      implied c d h p = grind arith

  pub common_from : (v : ℕ) → ((z : Set) → SeparatesTightly g a b k z → z v ≡ true) → common_shore g a b k v ≡ true
  common_from v h = none_fails g.order (λ z. not (separates_tightly g a b k z) || z v) (λ z. implies (separates_tightly g a b k z) (z v) (λ t. h z (parts_says g a b k z t)))
    where
      implies : (c d : Bool) → (c ≡ true → d ≡ true) → (not c || d) ≡ true
      implies c d h = grind arith

  module _ (cov : IsCovered g) (e : ℕ) (we : Within (size g) e) (ends : has_ends g a b e ≡ true) (al : Allowed g e) where
    -- the meet of two
    pub meet_parts : (z w : Set) → SeparatesTightly g a b k z → SeparatesTightly g a b k w → SeparatesTightly g a b k (meet z w)
    meet_parts z w p q = record {
      tight = meet_tight g is cov z w p.tight q.tight (odd_sides g (meet z w) e is we al
          (cut_between g (meet z w) a b e ends in_a out_b)
          (λ f wf d t. both (z (first_end g f)) (z (second_end g f)) (w (first_end g f)) (w (second_end g f))
          (others_stay g z e f p.tight we wf d t (cut_between g z a b e ends p.has_a p.lacks_b))
          (others_stay g w e f q.tight we wf d t (cut_between g w a b e ends q.has_a q.lacks_b)))).0;
      has_a = in_a;
      has_x = and_from (z k.0) (w k.0) p.has_x q.has_x;
      lacks_b = out_b;
      lacks_y = ap (λ s. s && w k.1) p.lacks_y;
    }
      where
        in_a : meet z w a ≡ true
        in_a = and_from (z a) (w a) p.has_a q.has_a

        out_b : meet z w b ≡ false
        out_b = ap (λ s. s && w b) p.lacks_b

        both : (s t u v : Bool) → ((s && not t) || (not s && t)) ≡ false → ((u && not v) || (not u && v)) ≡ false → (((s && u) && not (t && v)) || (not (s && u) && (t && v))) ≡ false
        both s t u v h i = grind arith

    -- a least one lies in each
    pub least_in : (w : Set) → SeparatesTightly g a b k w → ((v : Set) → SeparatesTightly g a b k v → count g.order w ≤ count g.order v) → (z : Set) → SeparatesTightly g a b k z → (v : ℕ) → Within g.order v → w v ≡ true → z v ≡ true
    least_in w p least z q v u h = second (w v) (z v) h (total_tight g.order (λ v. bit (w v)) (λ v. bit (meet w z v)) (λ v u. grind arith) (least (meet w z) (meet_parts w z p q)) v u)
      where
        second : (c d : Bool) → c ≡ true → bit c ≡ bit (c && d) → d ≡ true
        second c d h e = grind arith

    -- so the common shore is a least one
    pub common_least : (z : Set) → SeparatesTightly g a b k z → (w : Set) × SeparatesTightly g a b k w × ((v : ℕ) → Within g.order v → common_shore g a b k v ≡ w v)
    common_least z p =
        let l = least_parts (count g.order z) z p (omega arith) in
        (l.0, l.1, λ v u. same_tests (common_shore g a b k v) (l.0 v) (λ t. common_in v u t l.0 l.1) (λ t. common_from v (λ s q. least_in l.0 l.1 l.2 s q v u t)))

    -- the common shore is tight and separates the pairs
    pub common_parts : (z : Set) → SeparatesTightly g a b k z → SeparatesTightly g a b k (common_shore g a b k)
    common_parts z p = let l = common_least z p in parts_congr l.0 (common_shore g a b k) (λ v u. sym (l.2 v u)) l.1

-- it has three vertices on both sides
pub parts_nontrivial : (g : Graph) (a b : ℕ) (k : ℕ × ℕ) (z : Set) → Within g.order a → Within g.order b → Within g.order k.0 → Within g.order k.1 → a ≢ k.0 → b ≢ k.1 → SeparatesTightly g a b k z → IsNontrivial g.order z
parts_nontrivial g a b k z wa wb wx wy dx dy p = record {
  inside = odd_three (count g.order z) p.tight.odd (two_members g.order z a k.0 wa wx dx p.has_a p.has_x);
  outside = odd_three (count g.order (complement z)) p.tight.odd_complement (two_members g.order (complement z) b k.1 wb wy dy (ap not p.lacks_b) (ap not p.lacks_y));
}

-- a pair that is separated, and a set that separates it
pub separated_says : (g : Graph) (a b : ℕ) (k : ℕ × ℕ) → is_separated g a b k ≡ true → (pair_set a b k.0 ≡ false) × (pair_set a b k.1 ≡ false) × ((z : Set) × SeparatesTightly g a b k z)
separated_says g a b k h = grind (arith, and_parts, or_parts, not-true, some_set_found, parts_says)

pub separated_found : (g : Graph) (a b : ℕ) (k : ℕ × ℕ) (z : Set) → IsGraph g → Within g.order a → Within g.order b → Within g.order k.0 → Within g.order k.1 → pair_set a b k.0 ≡ false → pair_set a b k.1 ≡ false → SeparatesTightly g a b k z → is_separated g a b k ≡ true
separated_found g a b k z is wa wb wx wy ox oy p =
    and_from (not (pair_set a b k.0 || pair_set a b k.1)) (some_set g.order (separates_tightly g a b k))
    (ap not (or_from (pair_set a b k.0) (pair_set a b k.1) ox oy))
    (set_found g.order (separates_tightly g a b k) (parts_respects g is a b k wa wb wx wy) z (parts_found g a b k z p))
