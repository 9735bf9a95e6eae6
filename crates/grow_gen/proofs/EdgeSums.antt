-- Sums over the edges of a graph, taken along the list of edges with a list of marks for a set of
-- edges. Idea: a sum from 1 on is its first term and the sum that begins one later, so it follows
-- the list.
use Rattle.graph_core.proofs.from_counting.Common.{◌≡◌, ℕ, suc, zero, ◌+◌, ◌-◌, ◌≤◌, ◌<◌, Bool, true, false, cond, ◌==◌, ◌&&◌, List, [], ◌∷◌, ◌++◌, length, filter, refl, sym, ap, ap₂, ◌∙◌, arith, subst, slice_index_or, get_or-append-add, get_or_append_left, total_add, total_congr, total-first, Within, bit, total, Set}
use Rattle.graph_core.proofs.Common.{Graph, size, first_end, second_end, degree, degree_congr}

-- what is true for both values of a test is true for its value
pub by_test : (b : Bool) (P : Bool → Type 0) → (b ≡ true → P true) → (b ≡ false → P false) → P b
by_test b P h k = grind arith

-- each item has the property
abbrev pub Each : {A : Type 0} → (A → Type 0) → List A → Type 0
Each P [] = Unit {0}
Each P (x ∷ xs) = P x × Each P xs

-- the sum of what the edges give, each with its mark
abbrev pub sum_edges : (Bool → ℕ × ℕ → ℕ) → List Bool → List (ℕ × ℕ) → ℕ
sum_edges f bs [] = 0
sum_edges f [] (e ∷ es) = 0
sum_edges f (b ∷ bs) (e ∷ es) = f b e + sum_edges f bs es

-- the set of edges that are marked
abbrev pub marked : List Bool → Set
marked bs e = slice_index_or bs (e - 1) false

-- the marks of the edges that pass
abbrev pub marks_where : (ℕ × ℕ → Bool) → List Bool → List (ℕ × ℕ) → List Bool
marks_where p bs [] = []
marks_where p [] (e ∷ es) = []
marks_where p (b ∷ bs) (e ∷ es) = cond (p e) (b ∷ marks_where p bs es) (marks_where p bs es)

-- the marks of a set at the n numbers after k
abbrev pub marks_from : ℕ → ℕ → Set → List Bool
marks_from k zero m = []
marks_from k (suc n) m = m (k + 1) ∷ marks_from (k + 1) n m

pub length-marks_from : (k n : ℕ) (m : Set) → length (marks_from k n m) ≡ n
length-marks_from k zero m = refl
length-marks_from k (suc n) m = let h = length-marks_from (k + 1) n m in omega arith

-- the item after the first one
pub item-next : {A : Type 0} (x d : A) (xs : List A) (i : ℕ) → 1 ≤ i → slice_index_or (x ∷ xs) (i + 1 - 1) d ≡ slice_index_or xs (i - 1) d
item-next x d xs i h = grind arith

pub marked-marks_from : (k n : ℕ) (m : Set) (e : ℕ) → Within n e → marked (marks_from k n m) e ≡ m (k + e)
marked-marks_from k zero m e w = absurd (omega arith)
marked-marks_from k (suc n) m zero w = absurd (omega arith)
marked-marks_from k (suc n) m (suc zero) w = refl
marked-marks_from k (suc n) m (suc (suc e)) w =
    let a : suc (suc e) - 1 ≡ suc e = omega arith in
    let b : suc e - 1 ≡ e = omega arith in
    let c : k + 1 + suc e ≡ k + suc (suc e) = omega arith in
    ap (λ j. slice_index_or (m (k + 1) ∷ marks_from (k + 1) n m) j false) a ∙ sym (ap (λ j. slice_index_or (marks_from (k + 1) n m) j false) b) ∙ marked-marks_from (k + 1) n m (suc e) (omega arith) ∙ ap m c

-- a sum over the numbers of the edges is the sum along the list
pub total-edges : (f : Bool → ℕ × ℕ → ℕ) (bs : List Bool) (es : List (ℕ × ℕ)) → length bs ≡ length es → total (length es) (λ i. f (marked bs i) (slice_index_or es (i - 1) (0, 0))) ≡ sum_edges f bs es
total-edges f bs [] h = refl
total-edges f [] (e ∷ es) h = absurd (omega arith)
total-edges f (b ∷ bs) (e ∷ es) h =
    total-first (length es) (λ i. f (marked (b ∷ bs) i) (slice_index_or (e ∷ es) (i - 1) (0, 0)))
    ∙ ap (λ k. f b e + k) (total_congr (length es) _ _ (λ i w. ap₂ f (item-next b false bs i w.0) (item-next e (0, 0) es i w.0)) ∙ total-edges f bs es (omega arith))

-- how many ends at v an edge of the set has
abbrev pub ends_at : ℕ → Bool → ℕ × ℕ → ℕ
ends_at v b e = bit (b && (e.0 == v)) + bit (b && (e.1 == v))

pub degree-marked : (g : Graph) (bs : List Bool) (v : ℕ) → length bs ≡ size g → degree g (marked bs) v ≡ sum_edges (ends_at v) bs g.ends
degree-marked g bs v h = sym (total_add (size g) (λ e. bit (marked bs e && (first_end g e == v))) (λ e. bit (marked bs e && (second_end g e == v)))) ∙ total-edges (ends_at v) bs g.ends h

-- a set and its marks
pub degree-marks : (g : Graph) (m : Set) (v : ℕ) → degree g m v ≡ sum_edges (ends_at v) (marks_from 0 (size g) m) g.ends
degree-marks g m v = degree_congr g m (marked (marks_from 0 (size g) m)) v (λ e w. sym (marked-marks_from 0 (size g) m e w ∙ ap m (let q : 0 + e ≡ e = omega arith in q))) ∙ degree-marked g (marks_from 0 (size g) m) v (length-marks_from 0 (size g) m)

pub sum_edges-append : (f : Bool → ℕ × ℕ → ℕ) (bs cs : List Bool) (es fs : List (ℕ × ℕ)) → length bs ≡ length es → sum_edges f (bs ++ cs) (es ++ fs) ≡ sum_edges f bs es + sum_edges f cs fs
sum_edges-append f [] cs [] fs h = omega arith
sum_edges-append f [] cs (e ∷ es) fs h = absurd (omega arith)
sum_edges-append f (b ∷ bs) cs [] fs h = absurd (omega arith)
sum_edges-append f (b ∷ bs) cs (e ∷ es) fs h = let q : length bs ≡ length es = omega arith in omega (arith, sum_edges-append f bs cs es fs q)

-- the edges one by one, and by number
pub each-edge : (P : ℕ × ℕ → Type 0) (es : List (ℕ × ℕ)) → ((i : ℕ) → Within (length es) i → P (slice_index_or es (i - 1) (0, 0))) → Each P es
each-edge P [] h = tt
each-edge P (e ∷ es) h = (h 1 (omega arith), each-edge P es (λ i w. subst P (item-next e (0, 0) es i w.0) (h (i + 1) (omega arith))))

pub edge-at : (P : ℕ × ℕ → Type 0) (es : List (ℕ × ℕ)) → Each P es → (i : ℕ) → Within (length es) i → P (slice_index_or es (i - 1) (0, 0))
edge-at P [] h i w = absurd (omega arith)
edge-at P (e ∷ es) h zero w = absurd (omega arith)
edge-at P (e ∷ es) h (suc zero) w = h.0
edge-at P (e ∷ es) h (suc (suc i)) w = grind (arith, item-next e (0, 0) es (suc i), slice_index_or (e ∷ es), edge-at P es h.1 (suc i) (omega arith))

pub each-append : {A : Type 0} (P : A → Type 0) (xs ys : List A) → Each P xs → Each P ys → Each P (xs ++ ys)
each-append P [] ys c d = d
each-append P (x ∷ xs) ys c d = (c.0, each-append P xs ys c.1 d)

pub each-split : {A : Type 0} (P : A → Type 0) (xs ys : List A) → Each P (xs ++ ys) → Each P xs × Each P ys
each-split P [] ys c = (tt, c)
each-split P (x ∷ xs) ys c = let r = each-split P xs ys c.1 in ((c.0, r.0), r.1)

-- the marks of two lists joined
pub marked-front : (bs cs : List Bool) (e : ℕ) → Within (length bs) e → marked (bs ++ cs) e ≡ marked bs e
marked-front bs cs e w = get_or_append_left bs cs false (e - 1) (omega arith)

pub marked-back : (bs cs : List Bool) (e : ℕ) → 1 ≤ e → marked (bs ++ cs) (length bs + e) ≡ marked cs e
marked-back bs cs e w = let q : length bs + e - 1 ≡ length bs + (e - 1) = omega arith in ap (λ k. slice_index_or (bs ++ cs) k false) q ∙ get_or-append-add bs cs (e - 1) false

pub each-weaker : {A : Type 0} (P Q : A → Type 0) (xs : List A) → ((x : A) → P x → Q x) → Each P xs → Each Q xs
each-weaker P Q [] h c = tt
each-weaker P Q (x ∷ xs) h c = (h x c.0, each-weaker P Q xs h c.1)

pub length-marks_where : (p : ℕ × ℕ → Bool) (bs : List Bool) (es : List (ℕ × ℕ)) → length bs ≡ length es → length (marks_where p bs es) ≡ length (filter p es)
length-marks_where p bs [] l = refl
length-marks_where p [] (e ∷ es) l = absurd (omega arith)
length-marks_where p (b ∷ bs) (e ∷ es) l = grind (arith, by_test (p e), length-marks_where p bs es (omega arith))

-- edge i is at place c, counted from 0, among those that pass
abbrev pub StandsAt : (ℕ × ℕ → Bool) → List (ℕ × ℕ) → ℕ → ℕ → Type 0
StandsAt p es c i = Within (length es) i × ((bs : List Bool) → length bs ≡ length es → slice_index_or (marks_where p bs es) c false ≡ marked bs i)

-- the same after one more edge, of which the test is known
abbrev StandsBehind : (ℕ × ℕ → Bool) → List (ℕ × ℕ) → ℕ → ℕ → Bool → Type 0
StandsBehind p es c i s = Within (suc (length es)) i × ((b : Bool) (bs : List Bool) → length bs ≡ length es → slice_index_or (cond s (b ∷ marks_where p bs es) (marks_where p bs es)) c false ≡ marked (b ∷ bs) i)

stands-behind : (p : ℕ × ℕ → Bool) (e : ℕ × ℕ) (es : List (ℕ × ℕ)) (c i : ℕ) → StandsBehind p es c i (p e) → StandsAt p (e ∷ es) c i
stands-behind p e es c i h = grind arith

-- at each place there is an edge
pub edge-at_place : (p : ℕ × ℕ → Bool) (es : List (ℕ × ℕ)) (c : ℕ) → c < length (filter p es) → (i : ℕ) × StandsAt p es c i
edge-at_place p [] c l = absurd (omega arith)
edge-at_place p (e ∷ es) zero l =
    let r = by_test (p e) (λ s. 0 < length (cond s (e ∷ filter p es) (filter p es)) → (i : ℕ) × StandsBehind p es 0 i s)
    (λ s k. (1, (omega arith, λ b bs q. refl)))
    (λ s k. let h = edge-at_place p es 0 k in let w = h.1.0 in (h.0 + 1, ((omega arith, omega arith), λ b bs q. h.1.1 bs q ∙ sym (item-next b false bs h.0 w.0))))
    l in
    (r.0, stands-behind p e es 0 r.0 r.1)
edge-at_place p (e ∷ es) (suc c) l =
    let r = by_test (p e) (λ s. suc c < length (cond s (e ∷ filter p es) (filter p es)) → (i : ℕ) × StandsBehind p es (suc c) i s)
    (λ s k. let h = edge-at_place p es c (omega arith) in let w = h.1.0 in (h.0 + 1, ((omega arith, omega arith), λ b bs q. h.1.1 bs q ∙ sym (item-next b false bs h.0 w.0))))
    (λ s k. let h = edge-at_place p es (suc c) k in let w = h.1.0 in (h.0 + 1, ((omega arith, omega arith), λ b bs q. h.1.1 bs q ∙ sym (item-next b false bs h.0 w.0))))
    l in
    (r.0, stands-behind p e es (suc c) r.0 r.1)
