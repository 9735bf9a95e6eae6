-- What a tree has, by the paths from its root: by induction along the path, or down the tree.
-- Idea: the lists of a cut are those of its two parts joined, and the first step of a path says
-- which part.
use Rattle.graph_core.proofs.from_counting.Common.{◌≡◌, ℕ, suc, ◌+◌, ◌≤◌, List, [], ◌∷◌, ◌++◌, length, refl, sym, ap, subst, arith, inl, inr, ◌⊎◌, Any, cases_lt}
use Rattle.tree_core.specs.Common.{kept_at, merged_at, LeadsTo, leaves_at, Shape, cut, depth, leaf, shores}
use Rattle.tree_core.specs.declared.path.Side.{Side}
use Rattle.tree_core.specs.declared.path.Side.TheVariants.{Kept, Merged}

module _ {X : Type 0} (P : X → Type 0) where
  any-none : Any P [] → ⊥
  any-none a = let less = a.2 in omega arith

  any-here : (x : X) (xs : List X) → P x → Any P (x ∷ xs)
  any-here x xs holds = (0, x, omega arith, refl, holds)

  any-there : (x : X) (xs : List X) → Any P xs → Any P (x ∷ xs)
  any-there x xs a = let less = a.2 in (suc a.0, a.1, omega arith, a.3, a.4)

  any-cases : (x : X) (xs : List X) → Any P (x ∷ xs) → P x ⊎ Any P xs
  any-cases x xs a = grind arith

  any-left : (xs ys : List X) → Any P xs → Any P (xs ++ ys)
  any-left [] ys a = absurd (any-none a)
  any-left (x ∷ xs) ys a = elim (any-cases x xs a) [
    | inl holds ↦ any-here x (xs ++ ys) holds
    | inr rest ↦ any-there x (xs ++ ys) (any-left xs ys rest)
  ]

  any-right : (xs ys : List X) → Any P ys → Any P (xs ++ ys)
  any-right [] ys a = a
  any-right (x ∷ xs) ys a = any-there x (xs ++ ys) (any-right xs ys a)

  any-split : (xs ys : List X) → Any P (xs ++ ys) → Any P xs ⊎ Any P ys
  any-split [] ys a = inr a
  any-split (x ∷ xs) ys a = elim (any-cases x (xs ++ ys) a) [
    | inl holds ↦ inl (any-here x xs holds)
    | inr rest ↦ elim (any-split xs ys rest) [ inl b ↦ inl (any-there x xs b) | inr b ↦ inr b ]
  ]

-- a partition or a shore is the given one
abbrev pub IsThe : {X : Type 0} → X → X → Type 0
IsThe q p = p ≡ q

pub leaf-path : (n : ℕ) (p : List (List ℕ)) (t : Shape) (q : List (List ℕ)) → Any (IsThe q) (leaves_at n p t) → (path : List Side) × LeadsTo n path p t q leaf
leaf-path n p leaf q a = elim (any-cases (IsThe q) p [] a) [ inl same ↦ ([], (same, refl)) | inr rest ↦ absurd (any-none (IsThe q) rest) ]
leaf-path n p (cut x k m) q a = elim (any-split (IsThe q) (leaves_at n (kept_at n p x) k) (leaves_at n (merged_at n p x) m) a) [
  | inl b ↦ let r = leaf-path n (kept_at n p x) k q b in (Kept ∷ r.0, r.1)
  | inr b ↦ let r = leaf-path n (merged_at n p x) m q b in (Merged ∷ r.0, r.1)
]

pub path-leaf : (n : ℕ) (path : List Side) (p : List (List ℕ)) (t : Shape) (q : List (List ℕ)) → LeadsTo n path p t q leaf → Any (IsThe q) (leaves_at n p t)
path-leaf n [] p t q leads = subst (λ s. Any (IsThe q) (leaves_at n p s)) (sym leads.1) (any-here (IsThe q) p [] leads.0)
path-leaf n (side ∷ path) p leaf q leads = absurd leads
path-leaf n (Kept ∷ path) p (cut x k m) q leads = any-left (IsThe q) (leaves_at n (kept_at n p x) k) (leaves_at n (merged_at n p x) m) (path-leaf n path (kept_at n p x) k q leads)
path-leaf n (Merged ∷ path) p (cut x k m) q leads = any-right (IsThe q) (leaves_at n (kept_at n p x) k) (leaves_at n (merged_at n p x) m) (path-leaf n path (merged_at n p x) m q leads)

-- the path leads to a cut with the shore x
abbrev pub LeadsToCut : ℕ → List (List ℕ) → Shape → List ℕ → Type 0
LeadsToCut n p t x = (path : List Side) × (q : List (List ℕ)) × (k : Shape) × (m : Shape) × LeadsTo n path p t q (cut x k m)

pub shore-path : (n : ℕ) (p : List (List ℕ)) (t : Shape) (x : List ℕ) → Any (IsThe x) (shores t) → LeadsToCut n p t x
shore-path n p leaf x a = absurd (any-none (IsThe x) a)
shore-path n p (cut y k m) x a = elim (any-cases (IsThe x) y (shores k ++ shores m) a) [
  | inl same ↦ ([], p, k, m, (refl, ap (λ z. cut z k m) same))
  | inr rest ↦ elim (any-split (IsThe x) (shores k) (shores m) rest) [
    | inl b ↦ let r = shore-path n (kept_at n p y) k x b in (Kept ∷ r.0, r.1, r.2, r.3, r.4)
    | inr b ↦ let r = shore-path n (merged_at n p y) m x b in (Merged ∷ r.0, r.1, r.2, r.3, r.4)
  ]
]

pub path-shore : (n : ℕ) (path : List Side) (p : List (List ℕ)) (t : Shape) (x : List ℕ) (q : List (List ℕ)) (k m : Shape) → LeadsTo n path p t q (cut x k m) → Any (IsThe x) (shores t)
path-shore n [] p t x q k m leads = subst (λ s. Any (IsThe x) (shores s)) (sym leads.1) (any-here (IsThe x) x (shores k ++ shores m) refl)
path-shore n (side ∷ path) p leaf x q k m leads = absurd leads
path-shore n (Kept ∷ path) p (cut y a b) x q k m leads = any-there (IsThe x) y (shores a ++ shores b) (any-left (IsThe x) (shores a) (shores b) (path-shore n path (kept_at n p y) a x q k m leads))
path-shore n (Merged ∷ path) p (cut y a b) x q k m leads = any-there (IsThe x) y (shores a ++ shores b) (any-right (IsThe x) (shores a) (shores b) (path-shore n path (merged_at n p y) b x q k m leads))

-- no path to a leaf is longer than the depth
pub within-depth : (n : ℕ) (path : List Side) (p : List (List ℕ)) (t : Shape) (q : List (List ℕ)) → LeadsTo n path p t q leaf → length path + 1 ≤ depth t
within-depth n [] p t q leads = let is = ap depth leads.1 in omega arith
within-depth n (side ∷ path) p leaf q leads = absurd leads
within-depth n (Kept ∷ path) p (cut x k m) q leads = let below = within-depth n path (kept_at n p x) k q leads in omega arith
within-depth n (Merged ∷ path) p (cut x k m) q leads = let below = within-depth n path (merged_at n p x) m q leads in omega arith

-- and some path is so long
pub deepest-path : (n : ℕ) (p : List (List ℕ)) (t : Shape) → (path : List Side) × (q : List (List ℕ)) × LeadsTo n path p t q leaf × (length path + 1 ≡ depth t)
deepest-path n p leaf = ([], p, (refl, refl), omega arith)
deepest-path n p (cut x k m) = elim (cases_lt (depth k) (depth m)) [
  | inl less ↦ let r = deepest-path n (merged_at n p x) m in let e = r.3 in (Merged ∷ r.0, r.1, r.2, omega arith)
  | inr rest ↦ let r = deepest-path n (kept_at n p x) k in let e = r.3 in (Kept ∷ r.0, r.1, r.2, omega arith)
]
