-- Perfect matchings through given edges: edges that share no vertex, with a perfect matching of
-- the graph without their ends. Degrees add where the sets of edges have none in common, and the
-- two meet each vertex in turn.
use Rattle.graph_core.proofs.from_counting.Common.{◌≡◌, ℕ, suc, zero, ◌+◌, ◌≤◌, ◌<◌, ◌≢◌, Bool, true, false, ◌==◌, ◌||◌, ◌&&◌, not, refl, sym, ap, ◌∙◌, arith, inl, inr, eq-eqb, eqb-true, List, [], ◌∷◌, length, take, get_or, subst, All, both_ways, cases_Bool, or_left, or_right, true≢false, take_more, take_all, mem-append, or_false, Within, bit, Set, none, put, union, minus, mem}
use Rattle.graph_core.proofs.Common.{degree_put, edge_at, ends_le_degree, ends_of, ends_of_is, two_ends_le_degree, bit_same, Graph, HasEnds, IsGraph, degree, size, first_end, second_end, IsMatching, IsPerfect}
use Rattle.match_search.specs.Common.{MeetOnce}
use Rattle.match_search.proofs.Forests.{met as met_ends}
use Rattle.match_search.proofs.NearPerfectSets.{degree_split, bit_minus, bit_union}

-- an edge outside c with two free ends is added
pub meet_more : (g : Graph) (c met met' : Set) (e a b : ℕ) → Within (size g) e → HasEnds g e a b → a ≢ b → c e ≡ false → MeetOnce g c met → met a ≡ false → met b ≡ false → ((v : ℕ) → met' v ≡ ((met v || (a == v)) || (b == v))) → MeetOnce g (put c e true) met'
meet_more g c met met' e a b we ends ab ce once ma mb met'_is v w = grind (arith, degree_put, ends_of_is, cases_Bool, both_ways, eqb-true, ends_of)

-- an edge that is a loop, or has an end on an edge of c, lies in no matching with these
pub meet_none : (g : Graph) (c met : Set) (e a b : ℕ) → IsGraph g → Within (size g) e → HasEnds g e a b → Within g.order a → Within g.order b → c e ≡ false → MeetOnce g c met → (not (a == b) && (not (met a) && not (met b))) ≡ false →
    (m : Set) → IsMatching g none m → ((i : ℕ) → c i ≡ true → m i ≡ true) → m e ≡ true → ⊥
meet_none g c met e a b is we ends wa wb ce once closed m mm holds me = go (a == b) (met a) (met b) closed refl refl refl
  where
    at : (x : ℕ) → Within g.order x → 1 ≤ ends_of g e x → met x ≡ true → ⊥
    at x wx ex mx =
        let o = once x wx in
        let q = ap bit mx in
        let d = edge_at g c x (omega arith) in
        let s = ends_of_is g d.0 x d.3.0 d.3.1 x in
        let t = bit_same x in
        let two = two_ends_le_degree g m e d.0 x we d.1 (λ y. both_ways (c e) ce (ap c y ∙ d.2)) me (holds d.0 d.2) in
        let l = mm.once x wx in absurd (omega arith)

    ends_a : 1 ≤ ends_of g e a
    ends_a = let s = ends_of_is g e a b ends a in let t = bit_same a in omega arith

    ends_b : 1 ≤ ends_of g e b
    ends_b = let s = ends_of_is g e a b ends b in let t = bit_same b in omega arith

    go : (s t u : Bool) → (not s && (not t && not u)) ≡ false → (a == b) ≡ s → met a ≡ t → met b ≡ u → ⊥
    go true t u h p q k = grind (arith, ends_of_is g e a b ends a, bit_same a, eq-eqb b a (sym (eqb-true a b p)), eqb-true a b p, ends_le_degree g m e a we me)
    go false true u h p q k = at a wa ends_a q
    go false false true h p q k = at b wb ends_b k
    go false false false h p q k = absurd (true≢false h)

-- the union of a perfect matching of G - V(c) and c
pub glued : (g : Graph) (c met p : Set) → IsGraph g → MeetOnce g c met → IsPerfect g met p → IsPerfect g none (union p c)
glued g c met p is once perfect = record { once = λ v w q. both v w; away = λ v w q. absurd (true≢false (sym q)) }
  where
    apart : (i : ℕ) → Within (size g) i → p i ≡ true → c i ≡ true → ⊥
    apart i w pi ci = grind (arith, met_ends g c i (first_end g i) (second_end g i) w ci, met_ends g p i (first_end g i) (second_end g i) w pi, cases_Bool)

    both : (v : ℕ) → Within g.order v → degree g (union p c) v ≡ 1
    both v w =
        let s = degree_split g (union p c) p c v (λ i wi. bit_union (p i) (c i) (apart i wi)) in
        let o = once v w in
        grind arith

-- a perfect matching that contains c, without c
pub cut_off : (g : Graph) (c met m : Set) → MeetOnce g c met → IsPerfect g none m → ((i : ℕ) → c i ≡ true → m i ≡ true) → IsPerfect g met (minus m c)
cut_off g c met m once perfect holds = grind (arith, degree_split g m (minus m c) c, bit_minus)

-- the first items of a list, one more of them, and an item of it
pub mem-more : (xs : List ℕ) (k v : ℕ) → k < length xs → mem (take (k + 1) xs) v ≡ (mem (take k xs) v || (get_or xs k 0 == v))
mem-more xs k v l = ap (λ ys. mem ys v) (take_more xs k 0 l) ∙ mem-append (take k xs) (get_or xs k 0 ∷ []) v ∙ ap (λ b. mem (take k xs) v || b) (or_false (get_or xs k 0 == v))

pub mem-take : (xs : List ℕ) (k v : ℕ) → mem (take k xs) v ≡ true → mem xs v ≡ true
mem-take [] zero v h = h
mem-take [] (suc k) v h = h
mem-take (x ∷ xs) zero v h = absurd (true≢false (sym h))
mem-take (x ∷ xs) (suc k) v h = elim (Rattle.std.proofs.lemmas.Bool.or_cases (x == v) (mem (take k xs) v) h) [
  | inl q ↦ or_left (x == v) (mem xs v) q
  | inr q ↦ or_right (x == v) (mem xs v) (mem-take xs k v q)
]

-- an item that is there already changes nothing
pub mem-again : (x : Set) (v w : ℕ) → x v ≡ true → (x w || (v == w)) ≡ x w
mem-again x v w h = grind arith

-- all items of a list
pub mem-take_all : (xs : List ℕ) (k v : ℕ) → length xs ≤ k → mem (take k xs) v ≡ mem xs v
mem-take_all xs k v l = ap (λ ys. mem ys v) (take_all k xs l)

-- what is true of each item is true of each member
pub mem-holds : (P : ℕ → Type 0) (xs : List ℕ) (v : ℕ) → All P xs → mem xs v ≡ true → P v
mem-holds P [] v all h = absurd (true≢false (sym h))
mem-holds P (x ∷ xs) v all h = elim (Rattle.std.proofs.lemmas.Bool.or_cases (x == v) (mem xs v) h) [
  | inl q ↦ subst P (eqb-true x v q) (all 0 x (omega arith))
  | inr q ↦ mem-holds P xs v (λ k d l. all (suc k) d (omega arith)) q
]
