-- The edge at which an ear shows that it fails a test is one of its edges, and there is one unless
-- the ear has no edges, or fails only because their number is even.
use Rattle.graph_core.proofs.from_counting.Common.{◌≡◌, ◌⊎◌, ℕ, zero, suc, ◌-◌, ◌<◌, Bool, true, false, ◌==◌, ◌&&◌, ◌||◌, not, nat_le, ◌∙◌, sym, ap, arith, [], ◌∷◌, List, length, Option, Some, None, refl, inl, inr, All, if◌then◌else◌, eq-eqb, leb-true, option_and_then, is_none, slice_get, find, both_ways, or_left, or_right, mem, none, singleton, union, Set, Within}
use Rattle.graph_core.proofs.Common.{Graph, size}
use Rattle.ear_core.specs.Common.{PlainWhy, not_path, even_length, bad_ends, inner_on_stage, edge_used, stage_not_covered, ends_early, astray, ear_fault, edge_of_fault, entering, fault_edge, follows, has_free_inner, has_good_ends, has_new_edges, has_odd_length, inner_vertices, is_empty, is_met, is_path, no_member, other_end, wrong_end}
use Rattle.ear_core.proofs.FaultPlaces.{none-found}
use Rattle.ear_core.proofs.Refusing.{which}
use Rattle.ear_core.proofs.Walking.{goes_on, inner-more, joins, path-goes}

-- an item or what is found behind it
here-or-behind : (c : Bool) (d e : ℕ) (es : List ℕ) (rest : Option ℕ) → (rest ≡ Some e → mem es e ≡ true) → (if c then Some d else rest) ≡ Some e → mem (d ∷ es) e ≡ true
here-or-behind true d e es rest behind h = or_left (d == e) (mem es e) (eq-eqb d e cc)
here-or-behind false d e es rest behind h = or_right (d == e) (mem es e) (behind h)

behind-or-here : (c : Bool) (d e : ℕ) (es : List ℕ) (rest : Option ℕ) → (rest ≡ Some e → mem es e ≡ true) → (if c then rest else Some d) ≡ Some e → mem (d ∷ es) e ≡ true
behind-or-here true d e es rest behind h = or_right (d == e) (mem es e) (behind h)
behind-or-here false d e es rest behind h = or_left (d == e) (mem es e) (eq-eqb d e cc)

get-in : (xs : List ℕ) (i e : ℕ) → slice_get xs i ≡ Some e → mem xs e ≡ true
get-in [] i e h = cc
get-in (x ∷ xs) zero e h = or_left (x == e) (mem xs e) (eq-eqb x e cc)
get-in (x ∷ xs) (suc i) e h = or_right (x == e) (mem xs e) (get-in xs i e h)

find-in : (p : ℕ → Bool) (xs : List ℕ) (e : ℕ) → find p xs ≡ Some e → mem xs e ≡ true
find-in p [] e h = cc
find-in p (x ∷ xs) e h = here-or-behind (p x) x e xs (find p xs) (find-in p xs e) h

entering-in : (g : Graph) (x : Set) (v : ℕ) (es : List ℕ) (e : ℕ) → entering g x v es ≡ Some e → mem es e ≡ true
entering-in g x v [] e h = cc
entering-in g x v (d ∷ es) e h = here-or-behind _ d e es (entering g x (other_end g d v) es) (entering-in g x (other_end g d v) es e) h

astray-in : (g : Graph) (u : ℕ) (x : Set) (v : ℕ) (es : List ℕ) (e : ℕ) → astray g u x v es ≡ Some e → mem es e ≡ true
astray-in g u x v [] e h = cc
astray-in g u x v (d ∷ es) e h = behind-or-here _ d e es (astray g u (union x (singleton (other_end g d v))) (other_end g d v) es) (astray-in g u (union x (singleton (other_end g d v))) (other_end g d v) es e) h

wrong-in : (g : Graph) (f : Set) (v : ℕ) (es : List ℕ) (e : ℕ) → wrong_end g f v es ≡ Some e → mem es e ≡ true
wrong-in g f v es e h = of_two (is_met g f v) h
  where
    of_two : (b : Bool) → (if b then slice_get es (length es - 1) else slice_get es 0) ≡ Some e → mem es e ≡ true
    of_two true h = get-in es (length es - 1) e h
    of_two false h = get-in es 0 e h

-- the edge is one of the ear
pub named : (g : Graph) (f : Set) (xs ds : List ℕ) (v : ℕ) (es : List ℕ) (e : ℕ) → fault_edge g f xs ds v es ≡ Some e → mem es e ≡ true
named g f xs ds v es e h = of_fault (ear_fault g f xs ds v es) h
  where
    of_fault : (fault : Option PlainWhy) → option_and_then (edge_of_fault g f xs ds v es) fault ≡ Some e → mem es e ≡ true
    of_fault None h = cc
    of_fault (Some not_path) h = astray-in g v none v es e h
    of_fault (Some even_length) h = cc
    of_fault (Some bad_ends) h = wrong-in g f v es e h
    of_fault (Some inner_on_stage) h = entering-in g (λ w. is_met g f w || mem xs w) v es e h
    of_fault (Some edge_used) h = find-in (λ d. f d || mem ds d) es e h
    of_fault (Some (stage_not_covered d)) h = cc
    of_fault (Some (ends_early d)) h = cc

-- no edge goes astray
goes-well : (c : Bool) (d : ℕ) (rest : Option ℕ) → (if c then rest else Some d) ≡ None → (c ≡ true) × (rest ≡ None)
goes-well true d rest h = (refl, h)
goes-well false d rest h = cc

all-first : (n e : ℕ) (es : List ℕ) → Within n e → All (Within n) es → All (Within n) (e ∷ es)
all-first n e es w all zero d less = w
all-first n e es w all (suc k) d less = all k d (omega arith)

-- what the test of one edge says
edge-test : (a b j x s t : Bool) → (((a && b) && j) && true && not (x || (s && t))) ≡ true → (a ≡ true) × (b ≡ true) × (j ≡ true) × (x ≡ false) × ((s && t) ≡ false)
edge-test a b j x s t h = grind arith

walks : (g : Graph) (u : ℕ) (x : Set) (v e : ℕ) (es : List ℕ) → astray g u x v (e ∷ es) ≡ None → (goes_on g u x v (e ∷ es) ≡ true) × All (Within (size g)) (e ∷ es)
unfolding goes_on
walks g u x v e [] h =
    let t = goes-well (follows g v (e ∷ []) && not (x (other_end g e v) || (other_end g e v == u && not (is_empty [])))) e None h in
    let r = edge-test (nat_le 1 e) (nat_le e (size g)) (joins g e v) (x (other_end g e v)) (other_end g e v == u) (not (is_empty [])) t.0 in
    (rw (r.2, r.3) refl, all-first (size g) e [] (leb-true 1 e r.0, leb-true e (size g) r.1) (λ k d less. omega arith))
walks g u x v e (d ∷ es) h =
    let w : ℕ = other_end g e v in
    let t = goes-well (follows g v (e ∷ []) && not (x w || (w == u && not (is_empty (d ∷ es))))) e (astray g u (union x (singleton w)) w (d ∷ es)) h in
    let r = edge-test (nat_le 1 e) (nat_le e (size g)) (joins g e v) (x w) (w == u) (not (is_empty (d ∷ es))) t.0 in
    let behind = walks g u (union x (singleton w)) w d es t.1 in
    (on (joins g e v) (x w) (w == u) (goes_on g u (union x (singleton w)) w (d ∷ es)) r.2 r.3 r.4 behind.0, all-first (size g) e (d ∷ es) (leb-true 1 e r.0, leb-true e (size g) r.1) behind.1)
  where
    on : (j b s rest : Bool) → j ≡ true → b ≡ false → (s && not false) ≡ false → rest ≡ true → (j && (not b && (not s && rest))) ≡ true
    on j b s rest one two three four = grind arith

-- no edge enters
entering-none : (g : Graph) (x : Set) (v : ℕ) (es : List ℕ) → entering g x v es ≡ None → no_member x (inner_vertices g v es) ≡ true
entering-none g x v [] h = refl
entering-none g x v (e ∷ []) h = refl
entering-none g x v (e ∷ d ∷ es) h =
    ap (no_member x) (inner-more g v e d es) ∙ passes (x (other_end g e v)) (entering g x (other_end g e v) (d ∷ es)) h (entering-none g x (other_end g e v) (d ∷ es))
  where
    passes : (b : Bool) (rest : Option ℕ) → (if b && not false then Some e else rest) ≡ None → (rest ≡ None → no_member x (inner_vertices g (other_end g e v) (d ∷ es)) ≡ true) → (not b && no_member x (inner_vertices g (other_end g e v) (d ∷ es))) ≡ true
    passes true rest h behind = cc
    passes false rest h behind = behind h

-- an item is found at each place
get-none : (xs : List ℕ) (i : ℕ) → i < length xs → slice_get xs i ≡ None → ⊥
get-none [] i less h = omega arith
get-none (x ∷ xs) zero less h = cc
get-none (x ∷ xs) (suc i) less h = get-none xs i (omega arith) h

wrong-none : (g : Graph) (f : Set) (v e : ℕ) (es : List ℕ) → wrong_end g f v (e ∷ es) ≡ None → ⊥
wrong-none g f v e es h = of_two (is_met g f v) h
  where
    of_two : (b : Bool) → (if b then slice_get (e ∷ es) (length (e ∷ es) - 1) else slice_get (e ∷ es) 0) ≡ None → ⊥
    of_two true h = get-none (e ∷ es) (length (e ∷ es) - 1) (omega arith) h
    of_two false h = get-none (e ∷ es) 0 (omega arith) h

-- what the first test that fails says
module _ (b1 b2 b3 b4 b5 : Bool) where
  path-fails : which b1 b2 b3 b4 b5 ≡ Some not_path → b1 ≡ false
  path-fails h = grind arith

  inner-fails : which b1 b2 b3 b4 b5 ≡ Some inner_on_stage → b4 ≡ false
  inner-fails h = grind arith

  new-fails : which b1 b2 b3 b4 b5 ≡ Some edge_used → b5 ≡ false
  new-fails h = grind arith

  no-stage : (e : ℕ) → which b1 b2 b3 b4 b5 ≡ Some (stage_not_covered e) → ⊥
  no-stage e h = grind arith

  no-end : (e : ℕ) → which b1 b2 b3 b4 b5 ≡ Some (ends_early e) → ⊥
  no-end e h = grind arith

-- an ear that fails a test shows it at an edge, unless it has none or fails by their number
pub shown : (g : Graph) (f : Set) (xs ds : List ℕ) (v : ℕ) (es : List ℕ) → fault_edge g f xs ds v es ≡ None → (es ≡ []) ⊎ ((ear_fault g f xs ds v es ≡ None) ⊎ (ear_fault g f xs ds v es ≡ Some even_length))
shown g f xs ds v [] h = inl refl
shown g f xs ds v (e ∷ es) h = inr (of_fault (is_path g v (e ∷ es)) (has_odd_length (e ∷ es)) (has_good_ends g f v (e ∷ es)) (has_free_inner g f xs v (e ∷ es)) (has_new_edges f ds (e ∷ es)) refl refl refl (ear_fault g f xs ds v (e ∷ es)) refl h)
  where
    of_fault : (b1 b2 b3 b4 b5 : Bool) → b1 ≡ is_path g v (e ∷ es) → b4 ≡ has_free_inner g f xs v (e ∷ es) → b5 ≡ has_new_edges f ds (e ∷ es) →
        (fault : Option PlainWhy) → which b1 b2 b3 b4 b5 ≡ fault → option_and_then (edge_of_fault g f xs ds v (e ∷ es)) fault ≡ None → (fault ≡ None) ⊎ (fault ≡ Some even_length)
    of_fault b1 b2 b3 b4 b5 p q r None is h = inl refl
    of_fault b1 b2 b3 b4 b5 p q r (Some not_path) is h = let z = walks g v none v e es h in absurd (both_ways b1 (path-fails b1 b2 b3 b4 b5 is) (p ∙ path-goes g v (e ∷ es) z.1 ∙ z.0))
    of_fault b1 b2 b3 b4 b5 p q r (Some even_length) is h = inr refl
    of_fault b1 b2 b3 b4 b5 p q r (Some bad_ends) is h = absurd (wrong-none g f v e es h)
    of_fault b1 b2 b3 b4 b5 p q r (Some inner_on_stage) is h = absurd (both_ways b4 (inner-fails b1 b2 b3 b4 b5 is) (q ∙ entering-none g (λ w. is_met g f w || mem xs w) v (e ∷ es) h))
    of_fault b1 b2 b3 b4 b5 p q r (Some edge_used) is h = absurd (both_ways b5 (new-fails b1 b2 b3 b4 b5 is) (r ∙ sym (none-found (λ d. f d || mem ds d) (e ∷ es)) ∙ ap is_none h))
    of_fault b1 b2 b3 b4 b5 p q r (Some (stage_not_covered d)) is h = absurd (no-stage b1 b2 b3 b4 b5 d is)
    of_fault b1 b2 b3 b4 b5 p q r (Some (ends_early d)) is h = absurd (no-end b1 b2 b3 b4 b5 d is)
