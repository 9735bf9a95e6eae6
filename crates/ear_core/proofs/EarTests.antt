-- The tests of an ear say that it is an ear, and those of the second ear of a step that the two
-- are a pair. A vertex is counted along the ear: the first, the inner ones and the last.
use Rattle.std.proofs.Common.{◌≡◌, ℕ, ◌+◌, ◌≤◌, Bool, true, false, ◌==◌, refl, sym, ap, ◌∙◌, arith, ◌&&◌, ◌||◌, not, eq-eqb, ne_eqb, eqb-true, inl, inr, nat_le, leb-true, le-leb, subst, [], ◌∷◌, List, length, ◌↔◌}
use Rattle.graph_core.proofs.from_counting.Common.{true_from_ne_false, cases_eq, and_parts, and_from, both_ways, true≢false, false_from_ne_true, not-true, or_left, or_right, or_parts, or_cases, or_from, times_mem, bit, is_odd, mem, times, Set}
use Rattle.ear_core.proofs.TraceEdges.{mem_times}
use Rattle.ear_core.specs.Common.{follows, front, inner_vertices, repeats, no_member, is_empty, Passes, other_end, Follow, trail, last_vertex, IsEar, IsEarPair, is_met}
use Rattle.graph_core.proofs.Common.{Graph, size, first_end, second_end}

trace_true : (g : Graph) (v : ℕ) (es : List ℕ) → follows g v es ≡ true → Follow g v es
trace_true g v [] h = tt
trace_true g v (e ∷ es) h =
    let a = and_parts ((nat_le 1 e && nat_le e (size g)) && (first_end g e == v || second_end g e == v)) (follows g (other_end g e v) es) h in
    let b = and_parts (nat_le 1 e && nat_le e (size g)) (first_end g e == v || second_end g e == v) a.0 in
    let c = and_parts (nat_le 1 e) (nat_le e (size g)) b.0 in
    (((leb-true 1 e c.0, leb-true e (size g) c.1), b.1), trace_true g (other_end g e v) es a.1)

true_trace : (g : Graph) (v : ℕ) (es : List ℕ) → Follow g v es → follows g v es ≡ true
true_trace g v [] t = refl
true_trace g v (e ∷ es) t = grind (arith, and_from, nat_le, size, first_end, second_end, le-leb, true_trace g (other_end g e v) es t.1)

times_front : (g : Graph) (v : ℕ) (es : List ℕ) (w : ℕ) → times (trail g v es) w ≡ times (front (trail g v es)) w + bit (last_vertex g v es == w)
times_front g v [] w = omega arith
times_front g v (e ∷ []) w = omega arith
times_front g v (e ∷ d ∷ es) w = let a = times_front g (other_end g e v) (d ∷ es) w in omega arith

-- the vertices of an ear are its first, its inner ones and its last
pub times_parts : (g : Graph) (v : ℕ) (es : List ℕ) (w : ℕ) → is_empty es ≡ false → times (trail g v es) w ≡ bit (v == w) + (times (inner_vertices g v es) w + bit (last_vertex g v es == w))
times_parts g v es w h = grind (arith, true≢false, times_front)

repeats_times : (xs : List ℕ) → repeats xs ≡ false → (w : ℕ) → times xs w ≤ 1
repeats_times [] h w = omega arith
repeats_times (x ∷ xs) h w =
    let b = or_parts (mem xs x) (repeats xs) h in
    let i = repeats_times xs b.1 w in
    grind (arith, cases_eq x w, ne_eqb x w, eq-eqb x w, cases_eq (times xs w) 0, both_ways (mem xs x) b.0, times_mem xs w)

times_repeats : (xs : List ℕ) → ((w : ℕ) → times xs w ≤ 1) → repeats xs ≡ false
times_repeats [] h = refl
times_repeats (x ∷ xs) h = or_from (mem xs x) (repeats xs)
    (false_from_ne_true (mem xs x) (λ m. let a = mem_times xs x m in let b = h x in let c = ap bit (eq-eqb x x refl) in omega arith))
    (times_repeats xs (λ w. let b = h w in omega arith))

pub no_member_at : (p : ℕ → Bool) (xs : List ℕ) → no_member p xs ≡ true → (w : ℕ) → mem xs w ≡ true → p w ≡ false
no_member_at p [] h w m = absurd (true≢false (sym m))
no_member_at p (x ∷ xs) h w m =
    let b = and_parts (not (p x)) (no_member p xs) h in
    elim (or_cases (x == w) (mem xs w) m) [
      | inl e ↦ ap p (sym (eqb-true x w e)) ∙ not-true (p x) b.0
      | inr i ↦ no_member_at p xs b.1 w i
    ]

pub at_no_member : (p : ℕ → Bool) (xs : List ℕ) → ((w : ℕ) → mem xs w ≡ true → p w ≡ false) → no_member p xs ≡ true
at_no_member p [] h = refl
at_no_member p (x ∷ xs) h = and_from (not (p x)) (no_member p xs) (ap not (h x (or_left (x == x) _ (eq-eqb x x refl)))) (at_no_member p xs (λ w m. h w (or_right (x == w) _ m)))

odd_filled : (es : List ℕ) → is_odd (length es) ≡ true → is_empty es ≡ false
odd_filled es h = grind arith

-- what an ear that passes is
pub record Clean (g : Graph) (f : Set) (xs ds : List ℕ) (v : ℕ) (es : List ℕ) : Type 0 where
  pub ear : IsEar g f v es
  pub inner : (w : ℕ) → mem (inner_vertices g v es) w ≡ true → mem xs w ≡ false
  pub edges : (e : ℕ) → mem es e ≡ true → mem ds e ≡ false

pub passes_clean : (g : Graph) (f : Set) (xs ds : List ℕ) (v : ℕ) (es : List ℕ) → Passes g f xs ds v es → Clean g f xs ds v es
passes_clean g f xs ds v es p =
    let a = and_parts (not (is_empty es)) _ p.path in
    let b = and_parts (follows g v es) (not (repeats (v ∷ inner_vertices g v es)) && not (mem (inner_vertices g v es) (last_vertex g v es))) a.1 in
    let c = and_parts (not (repeats (v ∷ inner_vertices g v es))) (not (mem (inner_vertices g v es) (last_vertex g v es))) b.1 in
    let d = and_parts (is_met g f v) (is_met g f (last_vertex g v es) && not (v == last_vertex g v es)) p.ends in
    let e = and_parts (is_met g f (last_vertex g v es)) (not (v == last_vertex g v es)) d.1 in
    let filled = not-true (is_empty es) a.0 in
    let once = repeats_times (v ∷ inner_vertices g v es) (not-true (repeats (v ∷ inner_vertices g v es)) c.0) in
    record {
      ear = record {
        follow = trace_true g v es b.0;
        once = λ w. let x = times_parts g v es w filled in let y = once w in elim (cases_eq (last_vertex g v es) w) [
          | inr i ↦ let z = ap bit (ne_eqb (last_vertex g v es) w i) in omega arith
          | inl i ↦ grind (arith, eq-eqb, ne_eqb, both_ways, not-true, cases_eq, times_mem)
        ];
        odd = p.odd;
        start = d.0;
        end = e.0;
        inner = λ w m nv nf.
            let x = times_parts g v es w filled in
            let y = mem_times (trail g v es) w m in
            let z = ap bit (ne_eqb v w (λ i. nv (sym i))) in
            let u = ap bit (ne_eqb (last_vertex g v es) w (λ i. nf (sym i))) in
            (or_parts (is_met g f w) (mem xs w) (no_member_at (λ w. is_met g f w || mem xs w) (inner_vertices g v es) p.inner w (times_mem (inner_vertices g v es) w (omega arith)))).0;
        new = λ d m. (or_parts (f d) (mem ds d) (no_member_at (λ e. f e || mem ds e) es p.new d m)).0;
      };
      inner = λ w m. (or_parts (is_met g f w) (mem xs w) (no_member_at (λ w. is_met g f w || mem xs w) (inner_vertices g v es) p.inner w m)).1;
      edges = λ d m. (or_parts (f d) (mem ds d) (no_member_at (λ e. f e || mem ds e) es p.new d m)).1;
    }

-- an inner vertex of an ear is off the stage, and on the ear
inner_off : (g : Graph) (f : Set) (v : ℕ) (es : List ℕ) → IsEar g f v es → (w : ℕ) → mem (inner_vertices g v es) w ≡ true → (is_met g f w ≡ false) × (mem (trail g v es) w ≡ true)
inner_off g f v es ear w m = grind (arith, times_parts, odd_filled, mem_times, times_mem, eq-eqb)

pub clean_passes : (g : Graph) (f : Set) (xs ds : List ℕ) (v : ℕ) (es : List ℕ) → Clean g f xs ds v es → Passes g f xs ds v es
clean_passes g f xs ds v es c =
    let filled = odd_filled es c.ear.odd in
    record {
      path = and_from (not (is_empty es)) _ (ap not filled) (and_from (follows g v es) _ (true_trace g v es c.ear.follow)
          (and_from (not (repeats (v ∷ inner_vertices g v es))) (not (mem (inner_vertices g v es) (last_vertex g v es)))
          (ap not (times_repeats (v ∷ inner_vertices g v es) (λ w. let x = times_parts g v es w filled in let o = c.ear.once w in omega arith)))
          (ap not (false_from_ne_true (mem (inner_vertices g v es) (last_vertex g v es)) (λ m. let x = times_parts g v es (last_vertex g v es) filled in let o = c.ear.once (last_vertex g v es) in let y = mem_times (inner_vertices g v es) (last_vertex g v es) m in let z = ap bit (eq-eqb (last_vertex g v es) (last_vertex g v es) refl) in omega arith)))));
      odd = c.ear.odd;
      ends = and_from (is_met g f v) _ c.ear.start (and_from (is_met g f (last_vertex g v es)) (not (v == last_vertex g v es)) c.ear.end
          (ap not (ne_eqb v (last_vertex g v es) (λ i. let x = times_parts g v es (last_vertex g v es) filled in let o = c.ear.once (last_vertex g v es) in let y = ap bit (eq-eqb v (last_vertex g v es) i) in let z = ap bit (eq-eqb (last_vertex g v es) (last_vertex g v es) refl) in omega arith))));
      inner = at_no_member (λ w. is_met g f w || mem xs w) (inner_vertices g v es) (λ w m. or_from (is_met g f w) (mem xs w) (inner_off g f v es c.ear w m).0 (c.inner w m));
      new = at_no_member (λ e. f e || mem ds e) es (λ e m. or_from (f e) (mem ds e) (c.ear.new e m) (c.edges e m));
    }

-- the tests of a step's first ear say that it is an ear
pub first_passes : (g : Graph) (f : Set) (v : ℕ) (es : List ℕ) → Passes g f [] [] v es ↔ IsEar g f v es
first_passes g f v es = (λ p. (passes_clean g f [] [] v es p).ear, λ ear. clean_passes g f [] [] v es (record { ear = ear; inner = λ w m. refl; edges = λ e m. refl }))

-- and those of the second that the two are a pair
pub second_passes : (g : Graph) (f : Set) (v : ℕ) (es : List ℕ) (w : ℕ) (ds : List ℕ) → IsEar g f v es → Passes g f (inner_vertices g v es) es w ds ↔ IsEarPair g f v es w ds
second_passes g f v es w ds ear = (there, back)
  where
    on_trail : (v : ℕ) (es : List ℕ) → IsEar g f v es → (x : ℕ) → mem (trail g v es) x ≡ true → is_met g f x ≡ false → mem (inner_vertices g v es) x ≡ true
    on_trail v es ear x m o =
        let a = times_parts g v es x (odd_filled es ear.odd) in
        let b = mem_times (trail g v es) x m in
        let c = ap bit (ne_eqb v x (λ i. both_ways (is_met g f x) o (subst (λ k. is_met g f k ≡ true) i ear.start))) in
        let d = ap bit (ne_eqb (last_vertex g v es) x (λ i. both_ways (is_met g f x) o (subst (λ k. is_met g f k ≡ true) i ear.end))) in
        times_mem (inner_vertices g v es) x (omega arith)

    there : Passes g f (inner_vertices g v es) es w ds → IsEarPair g f v es w ds
    there p = grind (arith, passes_clean g f (inner_vertices g v es) es w ds p, true_from_ne_false, both_ways, on_trail w ds, on_trail v es ear, false_from_ne_true)

    back : IsEarPair g f v es w ds → Passes g f (inner_vertices g v es) es w ds
    back p = grind (arith, clean_passes g f (inner_vertices g v es) es w ds, inner_off g f w ds p.second, false_from_ne_true, both_ways, inner_off g f v es ear)
