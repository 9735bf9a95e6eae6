-- The partners on a stage. Those in its graph tell them; partners stay partners when ears are
-- added, since the even edges of an ear match its inner vertices; and an edge that joins two
-- partners is an ear that serves.
use Rattle.graph_core.proofs.from_counting.Common.{◌≡◌, ◌≢◌, ◌↔◌, ℕ, ◌≤◌, ◌+◌, Bool, true, false, cond, ◌==◌, ◌&&◌, ◌||◌, refl, sym, ap, ◌∙◌, arith, eq-eqb, eqb-true, ne_eqb, inl, inr, subst, List, [], ◌∷◌, and_from, and_parts, both_ways, not-true, not-false, or_cases, or_left, same_tests, bit, Within, Set, mem, pair_set, union}
use Rattle.graph_core.proofs.Common.{has_perfect_found, has_perfect_says, Graph, IsGraph, first_end, has_perfect, second_end, size, HasPerfect}
use Rattle.two_ears.specs.from_match_core.Common.{are_partners}
use Rattle.ear_core.proofs.AddedEars.{even_on, new-met}
use Rattle.ear_core.proofs.EngineGraphs.{asked-perfect}
use Rattle.ear_core.proofs.LoneMatchings.{ends-differ}
use Rattle.ear_core.proofs.NextStages.{met-within, second_ear}
use Rattle.ear_core.proofs.ServingEars.{one-serves}
use Rattle.ear_core.proofs.Stepping.{ear-keeps, still-met}
use Rattle.ear_core.specs.Common.{ArePartnersOn, GoesOn, IsAsked, IsEar, IsStage, IsStep, KeepsMates, PairsAll, PlainEar, PlainStep, Serves, ends_of_ear, evens, is_met, last_vertex, next_stage, one, other_end, trail, two, with_edges}
use Rattle.ear_core.specs.declared.asking.Asked.{Asked}

pub four : (a b c d : Bool) → (((a && b) && c) && d) ≡ true → (a ≡ true) × (b ≡ true) × (c ≡ true) × (d ≡ true)
four a b c d h = let p = and_parts ((a && b) && c) d h in let q = and_parts (a && b) c p.0 in let r = and_parts a b q.0 in (r.0, r.1, q.1, p.1)

pub all-four : (a b c d : Bool) → a ≡ true → b ≡ true → c ≡ true → d ≡ true → (((a && b) && c) && d) ≡ true
all-four a b c d p q r s = and_from ((a && b) && c) d (and_from (a && b) c (and_from a b p q) r) s

module _ (g : Graph) (is : IsGraph g) (f : Set) (asked : Asked) (asks : IsAsked g f asked) (u : ℕ) (su : Within asked.stage.order u) (v : ℕ) where
  abbrev out : Set
  out = mem asked.outside

  wu : Within g.order u
  wu = subst (λ n. Within n u) asks.order su

  pair-serves : HasPerfect asked.stage (union out (pair_set u v)) ↔ Serves g f (pair_set u v)
  pair-serves = asked-perfect g f asked asks (union out (pair_set u v)) (pair_set u v) (λ w ww. refl)

  -- partners in the graph of a stage are partners on the stage
  pub asked-says : Within asked.stage.order v → are_partners asked.stage out u v ≡ true → ArePartnersOn g f u v
  asked-says sv h = grind (arith, four, has_perfect, union, pair_set, both_ways, not-true, eq-eqb, not-false, wu, pair-serves, has_perfect_says)

  -- and the other way
  pub says-asked : ArePartnersOn g f u v → are_partners asked.stage out u v ≡ true
  says-asked q = grind (arith, met-within, all-four, has_perfect, union, pair_set, wu, ne_eqb, has_perfect_found, pair-serves)

-- a row of partners in the graph of a stage has the partners on the stage
pub partners-on : (g : Graph) → IsGraph g → (f : Set) (asked : Asked) → IsAsked g f asked → (u : ℕ) → Within asked.stage.order u → (row : Set) → ((v : ℕ) → row v ≡ true → Within asked.stage.order v) → ((v : ℕ) → Within asked.stage.order v → row v ≡ are_partners asked.stage (mem asked.outside) u v) → (v : ℕ) →
    (row v ≡ true) ↔ ArePartnersOn g f u v
partners-on g is f asked asks u su row within is_row v = (
  λ h. let sv = within v h in asked-says g is f asked asks u su v sv (sym (is_row v sv) ∙ h),
  λ q. is_row v (subst (λ n. Within n v) (sym asks.order) (met-within g is f v q.2)) ∙ says-asked g is f asked asks u su v q,
)

-- partners on a stage are partners on the stage with an ear
ear-partners : (g : Graph) (f : Set) (v : ℕ) (es : List ℕ) → IsEar g f v es → (a b : ℕ) → ArePartnersOn g f a b → ArePartnersOn g (with_edges f es) a b
ear-partners g f v es ear a b p =
    (p.0, still-met g f es a p.1, still-met g f es b p.2, (with_edges p.3.0 (evens es), even_on g f v es ear (pair_set a b) p.3.0 on p.3.1))
  where
    on : (w : ℕ) → Within g.order w → pair_set a b w ≡ true → is_met g f w ≡ true
    on w ww t = elim (or_cases (a == w) (b == w) t) [ inl i ↦ subst (λ k. is_met g f k ≡ true) (eqb-true a w i) p.1 | inr i ↦ subst (λ k. is_met g f k ≡ true) (eqb-true b w i) p.2 ]

-- and on the next stage
pub step-partners : (g : Graph) (f : Set) (s : PlainStep) → IsStep g f s → (a b : ℕ) → ArePartnersOn g f a b → ArePartnersOn g (next_stage f s) a b
step-partners g f (one c) ear a b p = ear-partners g f c.begin c.edges ear a b p
step-partners g f (two c d) pair a b p = ear-partners g (with_edges f c.edges) d.begin d.edges (second_ear g f c.begin c.edges d.begin d.edges pair) a b (ear-partners g f c.begin c.edges pair.first a b p)

-- an edge off the stage that joins two partners
module _ (g : Graph) (is : IsGraph g) (f : Set) (e : ℕ) (we : Within (size g) e) (off : f e ≡ false) (joins : ArePartnersOn g f (first_end g e) (second_end g e)) where
  abbrev x : ℕ
  x = first_end g e

  abbrev y : ℕ
  y = second_end g e

  own-end : other_end g e x ≡ y
  own-end = ap (λ b. cond b y x) (eq-eqb x x refl)

  on-trail : (w : ℕ) → mem (trail g x (e ∷ [])) w ≡ true → is_met g f w ≡ true
  on-trail w t = ends x y (other_end g e x) w own-end joins.1 joins.2 t
    where
      ends : (x y z w : ℕ) → z ≡ y → is_met g f x ≡ true → is_met g f y ≡ true → (x == w || (z == w || false)) ≡ true → is_met g f w ≡ true
      ends x y z w i p q t = grind (arith, or_cases, eqb-true)

  -- is an ear
  pub edge-ear : IsEar g f x (e ∷ [])
  edge-ear = record {
    follow = ((we, or_left (x == x) (y == x) (eq-eqb x x refl)), tt);
    once = λ w. twice x (other_end g e x) w (λ i. joins.0 (i ∙ own-end));
    odd = refl;
    start = joins.1;
    end = subst (λ k. is_met g f k ≡ true) (sym own-end) joins.2;
    inner = λ w t d n. absurd (among x (other_end g e x) w t d n);
    new = λ d t. alone d t;
  }
    where
      twice : (a b w : ℕ) → a ≢ b → bit (a == w) + (bit (b == w) + 0) ≤ 1
      twice a b w d = grind arith

      among : (a b w : ℕ) → (a == w || (b == w || false)) ≡ true → w ≢ a → w ≢ b → ⊥
      among a b w t d n = grind arith

      alone : (d : ℕ) → mem (e ∷ []) d ≡ true → f d ≡ false
      alone d t = grind (arith, off)

  pub ends-serve-edge : Serves g f (pair_set x (last_vertex g x (e ∷ [])))
  ends-serve-edge = subst (λ k. Serves g f (pair_set x k)) (sym own-end) joins.3

  -- the stage with it is matching covered, and has the same vertices
  pub edge-stage : IsStage g f → IsStage g (with_edges f (e ∷ []))
  edge-stage stage = one-serves g is f x (e ∷ []) stage edge-ear ends-serve-edge.0 ends-serve-edge.1

  pub edge-met : (w : ℕ) → is_met g (with_edges f (e ∷ [])) w ≡ is_met g f w
  edge-met w = same_tests (is_met g (with_edges f (e ∷ [])) w) (is_met g f w)
      (λ t. elim (new-met g f x (e ∷ []) edge-ear w t) [ inl i ↦ i | inr i ↦ on-trail w i ])
      (λ t. still-met g f (e ∷ []) w t)

  edge-mates : (n : ℕ → ℕ) → KeepsMates g n (is_met g f) → KeepsMates g n (is_met g (with_edges f (e ∷ [])))
  edge-mates n keeps = ear-keeps g f n x (e ∷ []) edge-ear (λ w t o. absurd (both_ways (is_met g f w) o (on-trail w t))) keeps

  -- so the list goes on by it
  pub edge-goes : (n : ℕ → ℕ) → IsStage g f → KeepsMates g n (is_met g f) → GoesOn g n f (one (record { begin = x; edges = e ∷ [] }))
  edge-goes n stage keeps = record { step = edge-ear; stage = edge-stage stage; mates = edge-mates n keeps; needed = tt; forced = tt; single = λ sides. tt }

-- where any two vertices are partners, each edge that is left is an ear that serves, and so on
pub all-partners : (g : Graph) → IsGraph g → (f : Set) → IsStage g f → PairsAll g f → (e : ℕ) → Within (size g) e → f e ≡ false → first_end g e ≢ second_end g e →
    IsEar g f (first_end g e) (e ∷ []) × IsStage g (with_edges f (e ∷ [])) × PairsAll g (with_edges f (e ∷ []))
all-partners g is f stage all e we off differ =
    let joins = all.pairs (first_end g e) (second_end g e) (is e we).0 (is e we).1 differ in
    let ear = edge-ear g is f e we off joins in (
      ear,
      edge-stage g is f e we off joins stage,
      record { meets = λ v w. still-met g f (e ∷ []) v (all.meets v w); pairs = λ u v wu wv d. ear-partners g f (first_end g e) (e ∷ []) ear u v (all.pairs u v wu wv d) },
    )

-- an ear serves alone where its ends are partners
pub alone-serves : (g : Graph) (f : Set) (a : PlainEar) (last : ℕ) → last ≡ last_vertex g a.begin a.edges → ArePartnersOn g f a.begin last → Serves g f (ends_of_ear g a)
alone-serves g f a last is p = subst (λ k. Serves g f (pair_set a.begin k)) is p.3

pub serves-alone : (g : Graph) (f : Set) (a : PlainEar) (last : ℕ) → last ≡ last_vertex g a.begin a.edges → IsEar g f a.begin a.edges → Serves g f (ends_of_ear g a) → ArePartnersOn g f a.begin last
serves-alone g f a last is ear q = subst (λ k. ArePartnersOn g f a.begin k) (sym is) (ends-differ g f a.begin a.edges ear, ear.start, ear.end, q)
