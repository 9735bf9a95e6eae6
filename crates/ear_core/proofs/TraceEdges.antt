-- How often do the edges of a trace meet a vertex? The odd ones meet each vertex of the trace
-- once, and the even ones each but its two ends; the degree of a list of different edges is the
-- number of their ends.
use Rattle.graph_core.proofs.from_counting.Common.{◌≡◌, ℕ, suc, ◌+◌, ◌*◌, ◌≤◌, true, false, ◌==◌, refl, sym, ap, ap₂, arith, ◌||◌, not, eq-eqb, ne_eqb, eqb-true, ◌⊎◌, inl, inr, subst, [], ◌∷◌, List, length, cases_eq, cases_Bool, true≢false, false_from_ne_true, not-false, or_left, or_right, or_cases, total_congr, total_add, total_le, total_none, bit, Within, is_odd, mem, times, Set, none, put}
use Rattle.ear_core.specs.Common.{other_end, Follow, trail, last_vertex, odds, evens, is_met}
use Rattle.graph_core.proofs.Common.{degree_congr, ends_of, degree_sum, degree_put, Graph, size, first_end, second_end, degree}

-- how many ends at v the edges of the list have
unfoldable pub list_ends : Graph → List ℕ → ℕ → ℕ
list_ends g [] v = 0
list_ends g (e ∷ es) v = ends_of g e v + list_ends g es v

pub ends_of-other_end : (g : Graph) (e v w : ℕ) → (first_end g e == v || second_end g e == v) ≡ true → ends_of g e w ≡ bit (v == w) + bit (other_end g e v == w)
unfolding ends_of
ends_of-other_end g e v w h = grind arith

pub two_less_odd : (k : ℕ) → is_odd (suc (suc k)) ≡ true → is_odd k ≡ true
two_less_odd k h = grind arith

-- the odd edges of a trace meet each of its vertices once, the even ones each but the two ends
pub odds_ends : (g : Graph) (v : ℕ) (es : List ℕ) (w : ℕ) → Follow g v es → is_odd (length es) ≡ true → list_ends g (odds es) w ≡ times (trail g v es) w
unfolding list_ends
odds_ends g v [] w t o = absurd (true≢false (sym o))
odds_ends g v (e ∷ []) w t o = let a = ends_of-other_end g e v w t.0.1 in omega arith
odds_ends g v (e ∷ d ∷ es) w t o = grind (arith, ends_of-other_end g e v w t.0.1, odds_ends g (other_end g d (other_end g e v)) es w t.1.1 (two_less_odd (length es) o), two_less_odd (length es) o)

pub evens_ends : (g : Graph) (v : ℕ) (es : List ℕ) (w : ℕ) → Follow g v es → is_odd (length es) ≡ true → list_ends g (evens es) w + (bit (v == w) + bit (last_vertex g v es == w)) ≡ times (trail g v es) w
unfolding list_ends
evens_ends g v [] w t o = absurd (true≢false (sym o))
evens_ends g v (e ∷ []) w t o = omega arith
evens_ends g v (e ∷ d ∷ es) w t o =
    let a = ends_of-other_end g d (other_end g e v) w t.1.0.1 in
    let b = evens_ends g (other_end g d (other_end g e v)) es w t.1.1 (two_less_odd (length es) o) in omega arith

pub mem_times : (xs : List ℕ) (v : ℕ) → mem xs v ≡ true → 1 ≤ times xs v
mem_times [] v h = absurd (true≢false (sym h))
mem_times (x ∷ xs) v h = elim (or_cases (x == v) (mem xs v) h) [
  | inl a ↦ let b = ap bit a in omega arith
  | inr a ↦ let b = mem_times xs v a in omega arith
]

pub times_ends : (g : Graph) (es : List ℕ) (e : ℕ) → times es e ≤ list_ends g es (first_end g e)
unfolding list_ends ends_of
times_ends g [] e = omega arith
times_ends g (d ∷ es) e = grind (arith, times_ends g es e, cases_eq d e, eq-eqb (first_end g d) (first_end g e), eq-eqb d e, ne_eqb d e)

pub zero_degree : (g : Graph) (v : ℕ) → degree g none v ≡ 0
zero_degree g v = ap₂ ◌+◌ (total_none (size g) _ (λ e w. refl)) (total_none (size g) _ (λ e w. refl))

-- the degree of a list of different edges
pub mem_degree : (g : Graph) (es : List ℕ) (v : ℕ) → ((e : ℕ) → mem es e ≡ true → Within (size g) e) → ((e : ℕ) → times es e ≤ 1) → degree g (mem es) v ≡ list_ends g es v
unfolding list_ends
mem_degree g [] v w h = zero_degree g v
mem_degree g (e ∷ es) v w h =
    let t = h e in
    let own = ap bit (eq-eqb e e refl) in
    let out = ap bit (false_from_ne_true (mem es e) (λ m. let a = mem_times es e m in omega arith)) in
    let i = mem_degree g es v (λ d m. w d (or_right (e == d) (mem es d) m)) (λ d. let a = h d in omega arith) in
    let a = degree_put g (mem es) e true v (w e (or_left (e == e) (mem es e) (eq-eqb e e refl))) in
    let b = degree_congr g (mem (e ∷ es)) (put (mem es) e true) v (λ d wd. grind arith) in
    let c = ap (λ k. k * ends_of g e v) out in omega arith

pub degree_or : (g : Graph) (m k : Set) (v : ℕ) → ((e : ℕ) → Within (size g) e → m e ≡ true → k e ≡ false) → degree g (λ e. m e || k e) v ≡ degree g m v + degree g k v
degree_or g m k v h =
    let a = degree_sum g (λ e. m e || k e) v in
    let b = degree_sum g m v in
    let c = degree_sum g k v in
    let d = total_add (size g) (λ e. bit (m e) * ends_of g e v) (λ e. bit (k e) * ends_of g e v) in
    let e = total_congr (size g) (λ e. bit (m e || k e) * ends_of g e v) (λ e. bit (m e) * ends_of g e v + bit (k e) * ends_of g e v) (λ e w. grind arith) in omega arith

pub degree_le : (g : Graph) (m k : Set) (v : ℕ) → ((e : ℕ) → Within (size g) e → m e ≡ true → k e ≡ true) → degree g m v ≤ degree g k v
degree_le g m k v h = grind (arith, degree_sum, total_le, true≢false)

pub met-some : (g : Graph) (f : Set) (v : ℕ) → is_met g f v ≡ true → 1 ≤ degree g f v
met-some g f v t = grind arith

pub some-met : (g : Graph) (f : Set) (v : ℕ) → 1 ≤ degree g f v → is_met g f v ≡ true
some-met g f v l = ap not (ne_eqb (degree g f v) 0 (λ e. omega arith))

pub unmet : (g : Graph) (f : Set) (v : ℕ) → is_met g f v ≡ false → degree g f v ≡ 0
unmet g f v t = eqb-true (degree g f v) 0 (not-false (degree g f v == 0) t)

pub edges-within : (g : Graph) (v : ℕ) (es : List ℕ) → Follow g v es → (e : ℕ) → mem es e ≡ true → Within (size g) e
edges-within g v [] t e m = absurd (true≢false (sym m))
edges-within g v (d ∷ es) t e m = elim (or_cases (d == e) (mem es e) m) [
  | inl i ↦ subst (Within (size g)) (eqb-true d e i) t.0.0
  | inr i ↦ edges-within g (other_end g d v) es t.1 e i
]

pub start_mem : (g : Graph) (v : ℕ) (es : List ℕ) → mem (trail g v es) v ≡ true
start_mem g v [] = or_left (v == v) false (eq-eqb v v refl)
start_mem g v (e ∷ es) = or_left (v == v) _ (eq-eqb v v refl)

-- an end of an edge of a trace is one of its vertices
pub trail_has : (g : Graph) (v : ℕ) (es : List ℕ) → Follow g v es → (e w : ℕ) → mem es e ≡ true → 1 ≤ ends_of g e w → mem (trail g v es) w ≡ true
trail_has g v [] t e w m l = absurd (true≢false (sym m))
trail_has g v (d ∷ es) t e w m l = elim (or_cases (d == e) (mem es e) m) [
  | inl i ↦
      let a = ends_of-other_end g d v w t.0.1 in
      let b = ap (λ k. ends_of g k w) (eqb-true d e i) in
      grind (arith, cases_Bool (v == w), or_left (v == w), cases_eq (other_end g d v) w, or_right (v == w), start_mem g (other_end g d v) es, ne_eqb (other_end g d v) w)
  | inr i ↦ or_right (v == w) _ (trail_has g (other_end g d v) es t.1 e w i l)
]

pub mem_odds : (es : List ℕ) (e : ℕ) → mem (odds es) e ≡ true → mem es e ≡ true
mem_odds [] e h = h
mem_odds (d ∷ []) e h = h
mem_odds (d ∷ c ∷ es) e h = elim (or_cases (d == e) (mem (odds es) e) h) [
  | inl i ↦ or_left (d == e) _ i
  | inr i ↦ or_right (d == e) _ (or_right (c == e) (mem es e) (mem_odds es e i))
]

pub mem_evens : (es : List ℕ) (e : ℕ) → mem (evens es) e ≡ true → mem es e ≡ true
mem_evens [] e h = h
mem_evens (d ∷ []) e h = absurd (true≢false (sym h))
mem_evens (d ∷ c ∷ es) e h = elim (or_cases (c == e) (mem (evens es) e) h) [
  | inl i ↦ or_right (d == e) _ (or_left (c == e) (mem es e) i)
  | inr i ↦ or_right (d == e) _ (or_right (c == e) (mem es e) (mem_evens es e i))
]

pub mem_parts : (es : List ℕ) (e : ℕ) → mem es e ≡ true → (mem (odds es) e ≡ true) ⊎ (mem (evens es) e ≡ true)
mem_parts [] e h = inl h
mem_parts (d ∷ []) e h = inl h
mem_parts (d ∷ c ∷ es) e h = elim (or_cases (d == e) (mem (c ∷ es) e) h) [
  | inl i ↦ inl (or_left (d == e) _ i)
  | inr i ↦ elim (or_cases (c == e) (mem es e) i) [
    | inl j ↦ inr (or_left (c == e) _ j)
    | inr j ↦ elim (mem_parts es e j) [ inl k ↦ inl (or_right (d == e) _ k) | inr k ↦ inr (or_right (c == e) _ k) ]
  ]
]
