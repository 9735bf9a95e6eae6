-- What is true of the cuts that shores give: each is a canonical nontrivial shore, tight where the
-- shores are, and there is none if and only if each shore is trivial. Inductions over the shores; a
-- step appends at most one canonical shore.
use Rattle.graph_core.proofs.from_counting.Common.{◌≡◌, ℕ, ◌≤◌, Bool, true, false, refl, sym, ap, ◌∙◌, arith, ◌&&◌, not, cond, List, [], ◌∷◌, ◌++◌, fold, length, nat_le, leb-true, inl, inr, All, All-append, and_from, and_parts, cases_Bool, le-leb, length-append, All-cons, All-head, All-nil, All-tail, mem-rising_list, rising_list-rises, Within, count, mem, rising_list, Set, complement}
use Rattle.graph_core.proofs.Common.{nontrivial-same, tight-same, Graph, IsGraph, IsNontrivial, IsTight, canonical_shore, is_nontrivial, IsCanonicalCut, canonical_list, cuts_of, is_listed, with_cut}

-- a step keeps what is in the list
step-length : (n : ℕ) (cuts : List (List ℕ)) (s : List ℕ) → length cuts ≤ length (with_cut n cuts s)
step-length n cuts s = grind (arith, length-append cuts (canonical_list n s ∷ []))

cuts-length : (n : ℕ) (cuts shores : List (List ℕ)) → length cuts ≤ length (fold (with_cut n) cuts shores)
cuts-length n cuts [] = omega arith
cuts-length n cuts (s ∷ shores) = let a = step-length n cuts s in let b = cuts-length n (with_cut n cuts s) shores in omega arith

-- what is true of each canonical nontrivial shore is true of each cut
cuts-keep : (n : ℕ) (P : List ℕ → Type 0) (cuts shores : List (List ℕ)) → All P cuts → All (λ s. is_nontrivial n (canonical_shore n (mem s)) ≡ true → P (canonical_list n s)) shores → All P (fold (with_cut n) cuts shores)
cuts-keep n P cuts [] kept each = kept
cuts-keep n P cuts (s ∷ shores) kept each =
    cuts-keep n P (with_cut n cuts s) shores
    (go (is_nontrivial n (canonical_shore n (mem s))) (not (is_listed cuts (canonical_list n s))) refl)
    (All-tail (λ s. is_nontrivial n (canonical_shore n (mem s)) ≡ true → P (canonical_list n s)) s shores each)
  where
    go : (a b : Bool) → is_nontrivial n (canonical_shore n (mem s)) ≡ a → All P (cond (a && b) (cuts ++ canonical_list n s ∷ []) cuts)
    go true true e = All-append P cuts (canonical_list n s ∷ []) kept (All-cons P (canonical_list n s) [] (All-head (λ s. is_nontrivial n (canonical_shore n (mem s)) ≡ true → P (canonical_list n s)) s shores each e) (All-nil P))
    go true false e = kept
    go false b e = kept

-- no cut comes of trivial shores
pub cuts-none : (n : ℕ) (shores : List (List ℕ)) → All (λ s. is_nontrivial n (canonical_shore n (mem s)) ≡ false) shores → cuts_of n shores ≡ []
cuts-none n [] each = refl
cuts-none n (s ∷ shores) each =
    ap (λ b. fold (with_cut n) (cond (b && not (is_listed [] (canonical_list n s))) (canonical_list n s ∷ []) []) shores) (All-head (λ s. is_nontrivial n (canonical_shore n (mem s)) ≡ false) s shores each)
    ∙ cuts-none n shores (All-tail (λ s. is_nontrivial n (canonical_shore n (mem s)) ≡ false) s shores each)

-- and a nontrivial shore gives one
pub cuts-some : (n : ℕ) (shores : List (List ℕ)) → cuts_of n shores ≡ [] → All (λ s. is_nontrivial n (canonical_shore n (mem s)) ≡ false) shores
cuts-some n [] e = All-nil (λ s. is_nontrivial n (canonical_shore n (mem s)) ≡ false)
cuts-some n (s ∷ shores) e = elim (cases_Bool (is_nontrivial n (canonical_shore n (mem s)))) [
  | inl t ↦ grind (arith, cuts-length n (with_cut n [] s) shores)
  | inr f ↦
      let first : with_cut n [] s ≡ [] = ap (λ b. cond (b && true) (canonical_list n s ∷ []) []) f in
      All-cons (λ s. is_nontrivial n (canonical_shore n (mem s)) ≡ false) s shores f (cuts-some n shores (ap (λ cuts. fold (with_cut n) cuts shores) (sym first) ∙ e))
]

-- nontrivial as a test
pub nontrivial-true : (n : ℕ) (x : Set) → is_nontrivial n x ≡ true → IsNontrivial n x
nontrivial-true n x t = let p = and_parts (nat_le 3 (count n x)) (nat_le 3 (count n (complement x))) t in record { inside = leb-true 3 (count n x) p.0; outside = leb-true 3 (count n (complement x)) p.1 }

pub true-nontrivial : (n : ℕ) (x : Set) → IsNontrivial n x → is_nontrivial n x ≡ true
true-nontrivial n x t = and_from (nat_le 3 (count n x)) (nat_le 3 (count n (complement x))) (le-leb 3 (count n x) t.inside) (le-leb 3 (count n (complement x)) t.outside)

-- a set with the same cut: the set or its complement
pub nontrivial-turned : (n : ℕ) (x : Set) → IsNontrivial n x → IsNontrivial n (complement x)
nontrivial-turned n x t = grind arith

pub tight-turned : (g : Graph) (x : Set) → IsTight g x → IsTight g (complement x)
tight-turned g x t = grind arith

-- the canonical shore of a cut is the set or its complement
pub canonical-is : (P : Set → Type 0) (n : ℕ) (x : Set) → ((y z : Set) → ((v : ℕ) → y v ≡ z v) → P y → P z) → P x → P (complement x) → P (canonical_shore n x)
canonical-is P n x same kept turned = go (x n) refl
  where
    go : (b : Bool) → x n ≡ b → P (canonical_shore n x)
    go true e = same (complement x) (canonical_shore n x) (λ v. ap (λ b. cond b (not (x v)) (x v)) (sym e)) turned
    go false e = same x (canonical_shore n x) (λ v. ap (λ b. cond b (not (x v)) (x v)) (sym e)) kept

pub canonical-tight : (g : Graph) (x : Set) → IsGraph g → IsTight g x → IsTight g (canonical_shore g.order x)
canonical-tight g x is t = canonical-is (IsTight g) g.order x (λ y z h. tight-same g y z is (λ v w. h v)) t (tight-turned g x t)

pub canonical-wide : (n : ℕ) (x : Set) → IsNontrivial n x → IsNontrivial n (canonical_shore n x)
canonical-wide n x t = canonical-is (IsNontrivial n) n x (λ y z h. nontrivial-same n y z (λ v w. h v)) t (nontrivial-turned n x t)

pub wide-canonical : (n : ℕ) (x : Set) → IsNontrivial n (canonical_shore n x) → IsNontrivial n x
wide-canonical n x t = grind arith

pub canonical-out : (n : ℕ) (x : Set) → canonical_shore n x n ≡ false
canonical-out n x = grind arith

-- the cuts of tight shores
pub cuts-canonical : (g : Graph) (shores : List (List ℕ)) → IsGraph g → 1 ≤ g.order → All (λ s. IsTight g (mem s)) shores → All (IsCanonicalCut g) (cuts_of g.order shores)
cuts-canonical g shores is some tight =
    cuts-keep g.order (IsCanonicalCut g) [] shores (All-nil (IsCanonicalCut g)) (λ i d l wide. canonical_cut _ (tight i d l) wide)
  where
    canonical_cut : (s : List ℕ) → IsTight g (mem s) → is_nontrivial g.order (canonical_shore g.order (mem s)) ≡ true → IsCanonicalCut g (canonical_list g.order s)
    canonical_cut s t wide =
        let x = canonical_shore g.order (mem s) in
        let same : (v : ℕ) → Within g.order v → x v ≡ mem (rising_list g.order x) v = λ v w. sym (mem-rising_list g.order x v w) in
        record {
          rising = rising_list-rises g.order x;
          canonical = sym (same g.order (omega arith)) ∙ canonical-out g.order (mem s);
          nontrivial = nontrivial-same g.order x (mem (rising_list g.order x)) same (nontrivial-true g.order x wide);
          tight = tight-same g x (mem (rising_list g.order x)) is same (canonical-tight g (mem s) is t);
        }
