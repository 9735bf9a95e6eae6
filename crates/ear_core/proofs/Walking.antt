-- Walking along an ear edge by edge, with the inner vertices so far at hand: what is left of the
-- ear goes on as a path if each edge is at the vertex reached, the next vertex is new, and
-- only the last may be the first.
use Rattle.std.proofs.Common.{◌≡◌, ℕ, suc, Bool, true, false, ◌==◌, refl, sym, ap, ap₂, ◌∙◌, arith, ◌&&◌, ◌||◌, not, nat_le, eqb-true, le-leb, [], ◌∷◌, List, length, All}
use Rattle.graph_core.proofs.from_counting.Common.{fun_ext, true≢false, or_assoc_back, Within, mem, Set, none}
use Rattle.graph_core.proofs.Common.{Graph, size, first_end, second_end}
use Rattle.ear_core.specs.Common.{other_end, trail, last_vertex, is_path, follows, front, inner_vertices, repeats, no_member}

-- x with w
abbrev with_one : Set → ℕ → Set
with_one x w v = x v || (w == v)

-- the edges go on from v as those of a path that began at u and has passed x
unfoldable pub goes_on : Graph → ℕ → Set → ℕ → List ℕ → Bool
goes_on g u x v [] = false
goes_on g u x v (e ∷ []) = (first_end g e == v || second_end g e == v) && not (x (other_end g e v))
goes_on g u x v (e ∷ d ∷ es) =
    (first_end g e == v || second_end g e == v) && (not (x (other_end g e v)) && (not (other_end g e v == u) && goes_on g u (with_one x (other_end g e v)) (other_end g e v) (d ∷ es)))

eqb-back : (a b : ℕ) → (a == b) ≡ (b == a)
eqb-back a b = grind arith

-- the inner vertices of two edges or more begin with the next vertex
front-more : (g : Graph) (w v : ℕ) (es : List ℕ) → front (w ∷ trail g v es) ≡ w ∷ front (trail g v es)
front-more g w v [] = refl
front-more g w v (e ∷ es) = refl

pub inner-more : (g : Graph) (v e d : ℕ) (es : List ℕ) → inner_vertices g v (e ∷ d ∷ es) ≡ other_end g e v ∷ inner_vertices g (other_end g e v) (d ∷ es)
inner-more g v e d es = front-more g (other_end g e v) (other_end g d (other_end g e v)) es

-- the test of a path as the walk goes: no inner vertex that is left is u or was passed
abbrev test : Graph → ℕ → Set → ℕ → List ℕ → Bool
test g u x v es =
    follows g v es && ((not (repeats (inner_vertices g v es)) && no_member (λ w. (w == u) || x w) (inner_vertices g v es))
    && not (x (last_vertex g v es) || mem (inner_vertices g v es) (last_vertex g v es)))

no_member-more : (u w : ℕ) (x : Set) (xs : List ℕ) → no_member (λ v. (v == u) || with_one x w v) xs ≡ (no_member (λ v. (v == u) || x v) xs && not (mem xs w))
no_member-more u w x [] = refl
no_member-more u w x (y ∷ xs) = split (y == u) (x y) (w == y) (y == w) (no_member (λ v. (v == u) || with_one x w v) xs) (no_member (λ v. (v == u) || x v) xs) (mem xs w) (eqb-back w y) (no_member-more u w x xs)
  where
    split : (a b c d n m k : Bool) → c ≡ d → n ≡ (m && not k) → (not (a || (b || c)) && n) ≡ ((not (a || b) && m) && not (d || k))
    split a b c d n m k h i = grind arith

abbrev pub joins : Graph → ℕ → ℕ → Bool
joins g e v = first_end g e == v || second_end g e == v

pub in_range : (g : Graph) (e : ℕ) → Within (size g) e → (nat_le 1 e && nat_le e (size g)) ≡ true
in_range g e w = ap₂ ◌&&◌ (le-leb 1 e w.0) (le-leb e (size g) w.1)

pub all-behind : (n e : ℕ) (es : List ℕ) → All (Within n) (e ∷ es) → All (Within n) es
all-behind n e es all k d less = all (suc k) d (omega arith)

shuffle : (r a f m p s t n n2 x w l : Bool) → r ≡ true → n2 ≡ (n && not m) → (((r && a) && f) && ((not (m || p) && (not (s || t) && n)) && not (x || (w || l)))) ≡ (a && (not t && (not s && (f && ((not p && n2) && not ((x || w) || l))))))
shuffle r a f m p s t n n2 x w l one two = grind arith

alone : (r a s : Bool) → r ≡ true → (((r && a) && true) && (true && not (s || false))) ≡ (a && not s)
alone r a s h = grind arith

test-goes : (g : Graph) (u : ℕ) (x : Set) (v e : ℕ) (es : List ℕ) → All (Within (size g)) (e ∷ es) → test g u x v (e ∷ es) ≡ goes_on g u x v (e ∷ es)
unfolding goes_on
test-goes g u x v e [] all = alone (nat_le 1 e && nat_le e (size g)) (joins g e v) (x (other_end g e v)) (in_range g e (all 0 0 (omega arith)))
test-goes g u x v e (d ∷ es) all =
    let w : ℕ = other_end g e v in
    let inner : List ℕ = inner_vertices g w (d ∷ es) in
    let end : ℕ = last_vertex g w (d ∷ es) in
    ap (λ i. follows g v (e ∷ d ∷ es) && ((not (repeats i) && no_member (λ y. (y == u) || x y) i) && not (x end || mem i end))) (inner-more g v e d es)
    ∙ shuffle (nat_le 1 e && nat_le e (size g)) (joins g e v) (follows g w (d ∷ es)) (mem inner w) (repeats inner) (w == u) (x w) (no_member (λ y. (y == u) || x y) inner) (no_member (λ y. (y == u) || with_one x w y) inner) (x end) (w == end) (mem inner end)
    (in_range g e (all 0 0 (omega arith))) (no_member-more u w x inner)
    ∙ ap (λ b. joins g e v && (not (x w) && (not (w == u) && b))) (test-goes g u (with_one x w) w d es (all-behind (size g) e (d ∷ es) all))

none-of : (v : ℕ) (xs : List ℕ) → no_member (λ w. (w == v) || none w) xs ≡ not (mem xs v)
none-of v [] = refl
none-of v (x ∷ xs) = ap (λ b. not ((x == v) || false) && b) (none-of v xs) ∙ (grind arith)

-- the test of a path
pub path-goes : (g : Graph) (v : ℕ) (es : List ℕ) → All (Within (size g)) es → is_path g v es ≡ goes_on g v none v es
unfolding goes_on
path-goes g v [] all = refl
path-goes g v (e ∷ es) all = grind (arith, turn, none-of v, test-goes g v none v e es all)
  where
    turn : (m p n : Bool) → n ≡ not m → not (m || p) ≡ (not p && n)
    turn m p n h = grind arith

-- where a walk ends
pub not_joined : (g : Graph) (u : ℕ) (x : Set) (v e : ℕ) (rest others : List ℕ) → rest ≡ e ∷ others → joins g e v ≡ false → goes_on g u x v rest ≡ false
unfolding goes_on
not_joined g u x v e rest others begins h = grind arith

pub passed_before : (g : Graph) (u : ℕ) (x : Set) (v e w : ℕ) (rest others : List ℕ) → rest ≡ e ∷ others → w ≡ other_end g e v → x w ≡ true → goes_on g u x v rest ≡ false
unfolding goes_on
passed_before g u x v e w rest others begins is h = grind arith

pub first_again : (g : Graph) (u : ℕ) (x : Set) (v e w : ℕ) (rest others : List ℕ) → rest ≡ e ∷ others → w ≡ other_end g e v → (length others == 0) ≡ false → w ≡ u → goes_on g u x v rest ≡ false
unfolding goes_on
first_again g u x v e w rest others begins is long same = grind arith

pub walk_ends : (g : Graph) (u : ℕ) (x : Set) (v e w : ℕ) (rest others : List ℕ) → rest ≡ e ∷ others → joins g e v ≡ true → w ≡ other_end g e v → (length others == 0) ≡ true → x w ≡ false →
    (goes_on g u x v rest ≡ true) × (last_vertex g v rest ≡ w) × ((y : ℕ) → mem (inner_vertices g v rest) y ≡ false)
unfolding goes_on
walk_ends g u x v e w rest (d ∷ es) begins h is short new = let z = eqb-true (length (d ∷ es)) 0 short in absurd (omega arith)
walk_ends g u x v e w rest [] begins h is short new = grind arith

-- and how it goes on
pub walk_on : (g : Graph) (u : ℕ) (x next : Set) (v e w : ℕ) (rest others : List ℕ) → rest ≡ e ∷ others → joins g e v ≡ true → w ≡ other_end g e v → (length others == 0) ≡ false → x w ≡ false → (w == u) ≡ false → ((y : ℕ) → next y ≡ (x y || w == y)) →
    (goes_on g u x v rest ≡ goes_on g u next w others) × (last_vertex g v rest ≡ last_vertex g w others) × ((y : ℕ) → (x y || mem (inner_vertices g v rest) y) ≡ (next y || mem (inner_vertices g w others) y))
unfolding goes_on
walk_on g u x next v e w rest [] begins h is long new other gains = absurd (true≢false long)
walk_on g u x next v e w rest (d ∷ es) begins h is long new other gains = (
  ap (goes_on g u x v) begins ∙ rw (sym is) (rw (h, new, other) (ap (λ y. goes_on g u y w (d ∷ es)) (fun_ext (λ y. sym (gains y))))),
  ap (last_vertex g v) begins ∙ ap (λ y. last_vertex g y (d ∷ es)) (sym is),
  λ y. ap (λ es. x y || mem (inner_vertices g v es) y) begins ∙ ap (λ i. x y || mem i y) (inner-more g v e d es)
      ∙ ap (λ z. x y || ((z == y) || mem (inner_vertices g z (d ∷ es)) y)) (sym is) ∙ or_assoc_back (x y) (w == y) (mem (inner_vertices g w (d ∷ es)) y) ∙ ap (λ b. b || mem (inner_vertices g w (d ∷ es)) y) (sym (gains y)),
)

pub nothing_left : (g : Graph) (u : ℕ) (x : Set) (v : ℕ) (rest : List ℕ) → length rest ≡ 0 → goes_on g u x v rest ≡ false
unfolding goes_on
nothing_left g u x v [] none = refl
nothing_left g u x v (e ∷ rest) none = absurd (omega arith)
