-- The paths to the nodes of a tree, listed down the tree: first the path that ends at the root,
-- then those that go to `kept`, and then those that go to `merged`.
use Rattle.tree_check.proofs.from_counting.Common.{◌≡◌, ℕ, ◌+◌, List, [], ◌∷◌, ◌++◌, length, map, refl, sym, ap, ap₂, ◌∙◌, subst, inl, inr, ◌⊎◌, arith, AllZip, length-append, length-map, IsIn}
use Rattle.tree_core.proofs.Common.{kept_at, merged_at, LeadsTo, leaves_at, Shape, cut, cut_count, leaf, leaf_count, node_count, shores}
use Rattle.tree_core.specs.declared.path.Side.{Side}
use Rattle.tree_core.specs.declared.path.Side.TheVariants.{Kept, Merged}
use Rattle.theorems.specs.Preorder.{AreInPreorder, IsEarlier, ListsPaths}

-- an item of two lists in a row
in-left : {A : Type 0} (x : A) (xs ys : List A) → IsIn x xs → IsIn x (xs ++ ys)
in-left x [] ys i = absurd i
in-left x (y ∷ xs) ys (inl e) = inl e
in-left x (y ∷ xs) ys (inr i) = inr (in-left x xs ys i)

in-right : {A : Type 0} (x : A) (xs ys : List A) → IsIn x ys → IsIn x (xs ++ ys)
in-right x [] ys i = i
in-right x (y ∷ xs) ys i = inr (in-right x xs ys i)

in-split : {A : Type 0} (x : A) (xs ys : List A) → IsIn x (xs ++ ys) → IsIn x xs ⊎ IsIn x ys
in-split x [] ys i = inr i
in-split x (y ∷ xs) ys (inl e) = inl (inl e)
in-split x (y ∷ xs) ys (inr i) = elim (in-split x xs ys i) [ inl j ↦ inl (inr j) | inr j ↦ inr j ]

-- the paths with one more step at their begin
abbrev behind : Side → List (List Side) → List (List Side)
behind side paths = map (λ path. side ∷ path) paths

-- the paths of the two trees of a cut
abbrev below : List (List Side) → List (List Side) → List (List Side)
below ks ms = behind Kept ks ++ behind Merged ms

in-behind : (side : Side) (paths : List (List Side)) (a : List Side) → IsIn a paths → IsIn (side ∷ a) (behind side paths)
in-behind side [] a i = absurd i
in-behind side (b ∷ paths) a (inl e) = inl (ap (λ path. side ∷ path) e)
in-behind side (b ∷ paths) a (inr i) = inr (in-behind side paths a i)

behind-in : (side : Side) (paths : List (List Side)) (a : List Side) → IsIn a (behind side paths) → (b : List Side) × IsIn b paths × (a ≡ side ∷ b)
behind-in side [] a i = absurd i
behind-in side (b ∷ paths) a (inl e) = (b, inl refl, e)
behind-in side (b ∷ paths) a (inr i) = let r = behind-in side paths a i in (r.0, inr r.1, r.2)

-- one more step changes no order
step-earlier : (side : Side) (a b : List Side) → IsEarlier a b → IsEarlier (side ∷ a) (side ∷ b)
step-earlier Kept a b h = h
step-earlier Merged a b h = h

behind-order : (side : Side) (paths : List (List Side)) → AreInPreorder paths → AreInPreorder (behind side paths)
behind-order side [] h = tt
behind-order side (a ∷ paths) h = (
  λ b i. let r = behind-in side paths b i in subst (IsEarlier (side ∷ a)) (sym r.2) (step-earlier side a r.0 (h.0 r.0 r.1)),
  behind-order side paths h.1,
)

append-order : (xs ys : List (List Side)) → AreInPreorder xs → AreInPreorder ys → ((a b : List Side) → IsIn a xs → IsIn b ys → IsEarlier a b) → AreInPreorder (xs ++ ys)
append-order [] ys h k before = k
append-order (x ∷ xs) ys h k before = (
  λ b i. elim (in-split b xs ys i) [ inl j ↦ h.0 b j | inr j ↦ before x b (inl refl) j ],
  append-order xs ys h.1 k (λ a b i j. before a b (inr i) j),
)

below-order : (ks ms : List (List Side)) → AreInPreorder ks → AreInPreorder ms → AreInPreorder (below ks ms)
below-order ks ms h k = grind (arith, append-order, behind-order, behind-in)

below-sound : (P : List Side → Type 0) (ks ms : List (List Side)) → ListsPaths ks (λ a. P (Kept ∷ a)) → ListsPaths ms (λ a. P (Merged ∷ a)) → (a : List Side) → IsIn a (below ks ms) → P a
below-sound P ks ms k m a i = elim (in-split a (behind Kept ks) (behind Merged ms) i) [
  | inl j ↦ let r = behind-in Kept ks a j in subst P (sym r.2) (k.sound r.0 r.1)
  | inr j ↦ let r = behind-in Merged ms a j in subst P (sym r.2) (m.sound r.0 r.1)
]

below-kept : (ks ms : List (List Side)) (a : List Side) → IsIn a ks → IsIn (Kept ∷ a) (below ks ms)
below-kept ks ms a i = in-left (Kept ∷ a) (behind Kept ks) (behind Merged ms) (in-behind Kept ks a i)

below-merged : (ks ms : List (List Side)) (a : List Side) → IsIn a ms → IsIn (Merged ∷ a) (below ks ms)
below-merged ks ms a i = in-right (Merged ∷ a) (behind Kept ks) (behind Merged ms) (in-behind Merged ms a i)

-- the paths to the nodes of a cut of which P holds, if the root is none of them, and if it
-- is one
lists-below : (P : List Side → Type 0) (ks ms : List (List Side)) → (P [] → ⊥) → ListsPaths ks (λ a. P (Kept ∷ a)) → ListsPaths ms (λ a. P (Merged ∷ a)) → ListsPaths (below ks ms) P
lists-below P ks ms none k m = record {
  order = below-order ks ms k.order m.order;
  sound = below-sound P ks ms k m;
  complete = found;
}
  where
    found : (a : List Side) → P a → IsIn a (below ks ms)
    found [] h = absurd (none h)
    found (Kept ∷ a) h = below-kept ks ms a (k.complete a h)
    found (Merged ∷ a) h = below-merged ks ms a (m.complete a h)

-- the path that ends at the root comes before those that go on
root-first : (ks ms : List (List Side)) (b : List Side) → IsIn b (below ks ms) → IsEarlier [] b
root-first ks ms b i = elim (in-split b (behind Kept ks) (behind Merged ms) i) [
  | inl j ↦ let r = behind-in Kept ks b j in subst (IsEarlier []) (sym r.2) tt
  | inr j ↦ let r = behind-in Merged ms b j in subst (IsEarlier []) (sym r.2) tt
]

lists-root : (P : List Side → Type 0) (ks ms : List (List Side)) → P [] → ListsPaths ks (λ a. P (Kept ∷ a)) → ListsPaths ms (λ a. P (Merged ∷ a)) → ListsPaths ([] ∷ below ks ms) P
lists-root P ks ms here k m = record {
  order = (root-first ks ms, below-order ks ms k.order m.order);
  sound = λ a i. elim i [ inl e ↦ subst P (sym e) here | inr j ↦ below-sound P ks ms k m a j ];
  complete = found;
}
  where
    found : (a : List Side) → P a → IsIn a ([] ∷ below ks ms)
    found [] h = inl refl
    found (Kept ∷ a) h = inr (below-kept ks ms a (k.complete a h))
    found (Merged ∷ a) h = inr (below-merged ks ms a (m.complete a h))

-- the path that ends at the root alone
lists-one : (P : List Side → Type 0) → P [] → ((side : Side) (a : List Side) → P (side ∷ a) → ⊥) → ListsPaths ([] ∷ []) P
lists-one P here none = record {
  order = (λ b i. absurd i, tt);
  sound = λ a i. elim i [ inl e ↦ subst P (sym e) here | inr j ↦ absurd j ];
  complete = found;
}
  where
    found : (a : List Side) → P a → IsIn a ([] ∷ [])
    found [] h = inl refl
    found (side ∷ a) h = absurd (none side a h)

-- what two lists have place by place, in a row and after one more step
zip-append : {A B : Type 0} (R : A → B → Type 0) (xs ys : List A) (us vs : List B) → AllZip R xs us → AllZip R ys vs → AllZip R (xs ++ ys) (us ++ vs)
zip-append R [] ys [] vs h k = k
zip-append R [] ys (u ∷ us) vs h k = absurd h
zip-append R (x ∷ xs) ys [] vs h k = absurd h
zip-append R (x ∷ xs) ys (u ∷ us) vs h k = (h.0, zip-append R xs ys us vs h.1 k)

zip-behind : {B : Type 0} (R : List Side → B → Type 0) (side : Side) (paths : List (List Side)) (us : List B) → AllZip (λ a u. R (side ∷ a) u) paths us → AllZip R (behind side paths) us
zip-behind R side [] [] h = tt
zip-behind R side [] (u ∷ us) h = absurd h
zip-behind R side (a ∷ paths) [] h = absurd h
zip-behind R side (a ∷ paths) (u ∷ us) h = (h.0, zip-behind R side paths us h.1)

length-below : (ks ms : List (List Side)) → length (below ks ms) ≡ length ks + length ms
length-below ks ms = length-append (behind Kept ks) (behind Merged ms) ∙ ap₂ (λ i j. i + j) (length-map ks (λ path. Kept ∷ path)) (length-map ms (λ path. Merged ∷ path))

-- the paths to all nodes, to the leaves and to the cuts
abbrev pub node_paths : Shape → List (List Side)
node_paths leaf = [] ∷ []
node_paths (cut x k m) = [] ∷ below (node_paths k) (node_paths m)

abbrev pub leaf_paths : Shape → List (List Side)
leaf_paths leaf = [] ∷ []
leaf_paths (cut x k m) = below (leaf_paths k) (leaf_paths m)

abbrev pub cut_paths : Shape → List (List Side)
cut_paths leaf = []
cut_paths (cut x k m) = [] ∷ below (cut_paths k) (cut_paths m)

pub length-node_paths : (t : Shape) → length (node_paths t) ≡ node_count t
length-node_paths leaf = refl
length-node_paths (cut x k m) = let l = length-below (node_paths k) (node_paths m) in let a = length-node_paths k in let b = length-node_paths m in omega arith

pub length-leaf_paths : (t : Shape) → length (leaf_paths t) ≡ leaf_count t
length-leaf_paths leaf = refl
length-leaf_paths (cut x k m) = let l = length-below (leaf_paths k) (leaf_paths m) in let a = length-leaf_paths k in let b = length-leaf_paths m in omega arith

pub length-cut_paths : (t : Shape) → length (cut_paths t) ≡ cut_count t
length-cut_paths leaf = refl
length-cut_paths (cut x k m) = let l = length-below (cut_paths k) (cut_paths m) in let a = length-cut_paths k in let b = length-cut_paths m in omega arith

pub node_paths-lists : (n : ℕ) (p : List (List ℕ)) (t : Shape) → ListsPaths (node_paths t) (λ path. (q : List (List ℕ)) × (s : Shape) × LeadsTo n path p t q s)
node_paths-lists n p leaf = lists-one (λ path. (q : List (List ℕ)) × (s : Shape) × LeadsTo n path p leaf q s) (p, leaf, (refl, refl)) (λ side a h. h.2)
node_paths-lists n p (cut x k m) =
    lists-root (λ path. (q : List (List ℕ)) × (s : Shape) × LeadsTo n path p (cut x k m) q s) (node_paths k) (node_paths m) (p, cut x k m, (refl, refl))
    (node_paths-lists n (kept_at n p x) k) (node_paths-lists n (merged_at n p x) m)

-- a leaf is not a cut
leaf-cut : (x : List ℕ) (k m : Shape) → cut x k m ≡ leaf → ⊥
leaf-cut x k m e = cc

pub leaf_paths-lists : (n : ℕ) (p : List (List ℕ)) (t : Shape) → ListsPaths (leaf_paths t) (λ path. (q : List (List ℕ)) × LeadsTo n path p t q leaf)
leaf_paths-lists n p leaf = lists-one (λ path. (q : List (List ℕ)) × LeadsTo n path p leaf q leaf) (p, (refl, refl)) (λ side a h. h.1)
leaf_paths-lists n p (cut x k m) =
    lists-below (λ path. (q : List (List ℕ)) × LeadsTo n path p (cut x k m) q leaf) (leaf_paths k) (leaf_paths m) (λ h. leaf-cut x k m h.1.1)
    (leaf_paths-lists n (kept_at n p x) k) (leaf_paths-lists n (merged_at n p x) m)

pub leaf_paths-leaves : (n : ℕ) (p : List (List ℕ)) (t : Shape) → AllZip (λ path q. LeadsTo n path p t q leaf) (leaf_paths t) (leaves_at n p t)
leaf_paths-leaves n p leaf = ((refl, refl), tt)
leaf_paths-leaves n p (cut x k m) = grind (arith, zip-append, cut, leaf, leaves_at, kept_at, merged_at, zip-behind, leaf_paths-leaves n (kept_at n p x) k, leaf_paths-leaves n (merged_at n p x) m)

-- the path leads to a cut, and to one by the shore y
abbrev LeadsToCut : ℕ → List (List ℕ) → Shape → List Side → Type 0
LeadsToCut n p t path = (y : List ℕ) × (q : List (List ℕ)) × (k : Shape) × (m : Shape) × LeadsTo n path p t q (cut y k m)

pub cut_paths-lists : (n : ℕ) (p : List (List ℕ)) (t : Shape) → ListsPaths (cut_paths t) (λ path. (y : List ℕ) × (q : List (List ℕ)) × (k : Shape) × (m : Shape) × LeadsTo n path p t q (cut y k m))
cut_paths-lists n p leaf = record { order = tt; sound = λ a i. absurd i; complete = none }
  where
    none : (a : List Side) → LeadsToCut n p leaf a → IsIn a []
    none [] h = leaf-cut h.0 h.2 h.3 (sym h.4.1)
    none (side ∷ a) h = h.4
cut_paths-lists n p (cut x k m) =
    lists-root (LeadsToCut n p (cut x k m)) (cut_paths k) (cut_paths m) (x, p, k, m, (refl, refl))
    (cut_paths-lists n (kept_at n p x) k) (cut_paths-lists n (merged_at n p x) m)

pub cut_paths-shores : (n : ℕ) (p : List (List ℕ)) (t : Shape) → AllZip (λ path y. (q : List (List ℕ)) × (k : Shape) × (m : Shape) × LeadsTo n path p t q (cut y k m)) (cut_paths t) (shores t)
cut_paths-shores n p leaf = tt
cut_paths-shores n p (cut x k m) = grind (arith, zip-append, cut, shores, zip-behind, kept_at, merged_at, cut_paths-shores n (kept_at n p x) k, cut_paths-shores n (merged_at n p x) m)
