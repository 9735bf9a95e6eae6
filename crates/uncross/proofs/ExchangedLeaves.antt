-- The names of images under a Switch, leaf by leaf: below its node they are those of the images
-- there, and elsewhere each block is its own image. The leaf maps of a move are made of them.
use Rattle.std.proofs.Common.{◌≡◌, ℕ, zero, suc, ◌+◌, ◌≤◌, ◌<◌, Bool, true, false, ◌⊎◌, inl, inr, if◌then◌else◌, nat_lt, List, [], ◌∷◌, ◌++◌, length, map, get_or, refl, ap, ap₂, ◌∙◌, arith, le-ltb, lt-ltb}
use Rattle.graph_core.proofs.Common.{names_of}
use Rattle.tree_core.proofs.Common.{length-leaves_at, kept_at, merged_at, PlainLeafMap, maps_from, names_at, position, leaves_at, Shape, cut, leaf, leaf_count}
use Rattle.tree_core.specs.declared.path.Side.{Side}
use Rattle.tree_core.specs.declared.path.Side.TheVariants.{Kept, Merged}
use Rattle.uncross.specs.Common.{exchange_at, images_at, image_name}
use Rattle.uncross.specs.declared.block_images.Images.{Images}
use Rattle.uncross.specs.declared.block_images.Images.TheVariants.{Own}
use Rattle.uncross.specs.declared.exchanges.Exchange.{Exchange}

-- the names of the images of the blocks of the leaves ps, of which the first is leaf k + 1
abbrev pub names_by : ℕ → Exchange → ℕ → List (List (List ℕ)) → List (List ℕ)
names_by n e k [] = []
names_by n e k (p ∷ ps) = map (image_name n (images_at e (k + 1))) p ∷ names_by n e (k + 1) ps

-- the leaf maps that are made of them
pub maps_by-at : (o : List ℕ) (n : ℕ) (e : Exchange) (k : ℕ) (ps : List (List (List ℕ))) (j : ℕ) (d : PlainLeafMap) → j < length ps →
    get_or (maps_from o k (names_by n e k ps)) j d ≡ record { to = position o (k + j + 1); images = map (image_name n (images_at e (k + j + 1))) (get_or ps j []) }
maps_by-at o n e k [] j d l = absurd (omega arith)
maps_by-at o n e k (p ∷ ps) zero d l = grind arith
maps_by-at o n e k (p ∷ ps) (suc j) d l = grind (arith, maps_by-at o n e (k + 1) ps j d (omega arith))

names_by-append : (n : ℕ) (e : Exchange) (k j : ℕ) (ps qs : List (List (List ℕ))) → j ≡ k + length ps → names_by n e k (ps ++ qs) ≡ names_by n e k ps ++ names_by n e j qs
names_by-append n e k j [] qs is = let same : k ≡ j = omega arith in ap (λ i. names_by n e i qs) same
names_by-append n e k j (p ∷ ps) qs is = ap (λ (rest : List (List ℕ)). map (image_name n (images_at e (k + 1))) p ∷ rest) (names_by-append n e (k + 1) j ps qs (omega arith))

-- where all leaves have the same images
names_by-same : (n : ℕ) (e : Exchange) (images : Images) (k : ℕ) (ps : List (List (List ℕ))) → ((i : ℕ) → k < i → i ≤ k + length ps → images_at e i ≡ images) → names_by n e k ps ≡ map (λ q. map (image_name n images) q) ps
names_by-same n e images k [] same = refl
names_by-same n e images k (p ∷ ps) same =
    ap₂ (λ (i : Images) (rest : List (List ℕ)). map (image_name n i) p ∷ rest) (same (k + 1) (omega arith) (omega arith)) (names_by-same n e images (k + 1) ps (λ i l u. same i (omega arith) (omega arith)))

-- the images of a leaf, by its place
tested : (e : Exchange) (i : ℕ) (a b c : Bool) → nat_lt e.last i ≡ a → nat_lt e.middle i ≡ b → nat_lt e.before i ≡ c → images_at e i ≡ (if a then Own else (if b then e.merged else (if c then e.kept else Own)))
tested e i a b c ea eb ec = grind arith

-- the numbers of an exchange, of a tree with count leaves after k others
abbrev IsWithin : Exchange → ℕ → ℕ → Type 0
IsWithin e k count = (k ≤ e.before) × (e.before ≤ e.middle) × (e.middle ≤ e.last) × (e.last ≤ k + count)

bounds : (n : ℕ) (path : List Side) (u v : List ℕ) (k : ℕ) (t : Shape) → IsWithin (exchange_at n path u v k t) k (leaf_count t)
bounds n path u v k leaf = (omega arith, omega arith, omega arith, omega arith)
bounds n [] u v k (cut x a b) = (omega arith, omega arith, omega arith, omega arith)
bounds n (Kept ∷ path) u v k (cut x a b) = let w = bounds n path u v k a in (w.0, w.1, w.2, omega arith)
bounds n (Merged ∷ path) u v k (cut x a b) = let w = bounds n path u v (k + leaf_count a) b in (omega arith, w.1, w.2, omega arith)

-- the leaves of a tree that the Switch leaves alone
own-names : (n : ℕ) (e : Exchange) (k j count : ℕ) (p : List (List ℕ)) (t : Shape) → IsWithin e k count → (j + leaf_count t ≤ k) ⊎ (k + count ≤ j) → names_by n e j (leaves_at n p t) ≡ map (λ q. map (image_name n Own) q) (leaves_at n p t)
own-names n e k j count p t w (inl before) = grind (arith, length-leaves_at n p t, names_by-same n e Own j (leaves_at n p t), tested e, le-ltb e.last, le-ltb e.middle, le-ltb e.before)
own-names n e k j count p t w (inr after) = grind (arith, names_by-same n e Own j (leaves_at n p t), tested e, nat_lt e.middle, nat_lt e.before, lt-ltb e.last)

-- where no leaf is below a Switch
abbrev pub nowhere : ℕ → Exchange
nowhere k = record { before = k; middle = k; last = k; kept = Own; merged = Own }

pub nowhere-own : (k i : ℕ) → k < i → images_at (nowhere k) i ≡ Own
nowhere-own k i l = tested (nowhere k) i true (nat_lt k i) (nat_lt k i) (lt-ltb k i l) refl refl

pub names_nowhere : (n : ℕ) (ps : List (List (List ℕ))) → names_by n (nowhere 0) 0 ps ≡ map names_of ps
names_nowhere n ps = names_by-same n (nowhere 0) Own 0 ps (λ i l h. nowhere-own 0 i l)

-- the names of a Switch
pub exchanged : (n : ℕ) (path : List Side) (u v : List ℕ) (k : ℕ) (p : List (List ℕ)) (t : Shape) → names_by n (exchange_at n path u v k t) k (leaves_at n p t) ≡ names_at n u v path p t
exchanged n [] u v k p leaf = ap (λ (i : Images). map (image_name n i) p ∷ []) (nowhere-own k (k + 1) (omega arith))
exchanged n (side ∷ path) u v k p leaf = ap (λ (i : Images). map (image_name n i) p ∷ []) (nowhere-own k (k + 1) (omega arith))
exchanged n [] u v k p (cut x a b) =
    let e = exchange_at n [] u v k (cut x a b) in
    let ka = length-leaves_at n (kept_at n p x) a in let kb = length-leaves_at n (merged_at n p x) b in
    names_by-append n e k (k + leaf_count a) (leaves_at n (kept_at n p x) a) (leaves_at n (merged_at n p x) b) (omega arith)
    ∙ ap₂ (λ (ns ms : List (List ℕ)). ns ++ ms)
    (names_by-same n e e.kept k (leaves_at n (kept_at n p x) a) (λ i l h. tested e i false false true (le-ltb e.last i (omega arith)) (le-ltb e.middle i (omega arith)) (lt-ltb e.before i (omega arith))))
    (names_by-same n e e.merged (k + leaf_count a) (leaves_at n (merged_at n p x) b) (λ i l h. tested e i false true (nat_lt e.before i) (le-ltb e.last i (omega arith)) (lt-ltb e.middle i (omega arith)) refl))
exchanged n (Kept ∷ path) u v k p (cut x a b) =
    let e = exchange_at n path u v k a in let ka = length-leaves_at n (kept_at n p x) a in
    names_by-append n e k (k + leaf_count a) (leaves_at n (kept_at n p x) a) (leaves_at n (merged_at n p x) b) (omega arith)
    ∙ ap₂ (λ (ns ms : List (List ℕ)). ns ++ ms) (exchanged n path u v k (kept_at n p x) a) (own-names n e k (k + leaf_count a) (leaf_count a) (merged_at n p x) b (bounds n path u v k a) (inr (omega arith)))
exchanged n (Merged ∷ path) u v k p (cut x a b) =
    let e = exchange_at n path u v (k + leaf_count a) b in let ka = length-leaves_at n (kept_at n p x) a in
    names_by-append n e k (k + leaf_count a) (leaves_at n (kept_at n p x) a) (leaves_at n (merged_at n p x) b) (omega arith)
    ∙ ap₂ (λ (ns ms : List (List ℕ)). ns ++ ms) (own-names n e (k + leaf_count a) k (leaf_count b) (kept_at n p x) a (bounds n path u v (k + leaf_count a) b) (inl (omega arith))) (exchanged n path u v (k + leaf_count a) (merged_at n p x) b)
