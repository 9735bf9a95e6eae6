-- Of the candidates for a step one serves or two do, by the two-ear theorem on the graph of the
-- stage, and then it is a step to a stage.
use Rattle.graph_core.proofs.from_counting.Common.{◌≡◌, ◌≢◌, ℕ, ◌+◌, ◌≤◌, true, false, ◌==◌, refl, sym, ap, ap₂, arith, eq-eqb, eqb-true, inl, inr, subst, [], ◌∷◌, List, false_from_ne_true, or_left, or_right, or_cases, bit, mem, IsIn, Set, union}
use Rattle.graph_core.proofs.Common.{ends_of, Graph, first_end, IsGraph}
use Rattle.two_ears.specs.VertexPairs.{pairs_at, set_of_pair}
use Rattle.ear_core.specs.Common.{ends_of_ears, AreCandidates, Serves, ends_of_ear, PlainEar, other_end, trail, last_vertex, IsEar, IsEarPair, is_met, IsStage, with_edges}
use Rattle.ear_core.proofs.TraceEdges.{start_mem, trail_has}
use Rattle.ear_core.proofs.RankedStages.{pairs-serve}
use Rattle.ear_core.proofs.ServingEars.{one-serves, two-serve, off-same}

among-pairs : (g : Graph) (ears : List PlainEar) (p : ℕ × ℕ) → IsIn p (ends_of_ears g ears) → (a : PlainEar) × IsIn a ears × (p ≡ (a.begin, last_vertex g a.begin a.edges))
among-pairs g [] p i = absurd i
among-pairs g (a ∷ ears) p i = elim i [
  | inl j ↦ (a, inl refl, j)
  | inr j ↦ let r = among-pairs g ears p j in (r.0, inr r.1, r.2)
]

end_mem : (g : Graph) (v : ℕ) (es : List ℕ) → mem (trail g v es) (last_vertex g v es) ≡ true
end_mem g v [] = or_left (v == v) false (eq-eqb v v refl)
end_mem g v (e ∷ es) = or_right (v == last_vertex g (other_end g e v) es) _ (end_mem g (other_end g e v) es)

module _ (g : Graph) (is : IsGraph g) (f : Set) (stage : IsStage g f) where
  -- one ear that serves
  pub serving-one : (a : PlainEar) → IsEar g f a.begin a.edges → Serves g f (ends_of_ear g a) → IsStage g (with_edges f a.edges)
  serving-one a ear q = one-serves g is f a.begin a.edges stage ear q.0 q.1

  -- two ears apart
  pub apart-pair : (a b : PlainEar) → IsEar g f a.begin a.edges → IsEar g f b.begin b.edges → ((w : ℕ) → mem (trail g a.begin a.edges) w ≡ true → mem (trail g b.begin b.edges) w ≡ true → ⊥) → IsEarPair g f a.begin a.edges b.begin b.edges
  unfolding ends_of
  apart-pair a b ea eb d = record {
    first = ea;
    second = eb;
    vertices = λ w i j. absurd (d w i j);
    edges = λ e i. false_from_ne_true (mem b.edges e) (λ j. let one : 1 ≤ ends_of g e (first_end g e) = (let x = ap bit (eq-eqb (first_end g e) (first_end g e) refl) in omega arith) in
        d (first_end g e) (trail_has g a.begin a.edges ea.follow e (first_end g e) i one) (trail_has g b.begin b.edges eb.follow e (first_end g e) j one));
  }

  pub serving-two : (a b : PlainEar) → IsEar g f a.begin a.edges → IsEar g f b.begin b.edges → ((w : ℕ) → mem (trail g a.begin a.edges) w ≡ true → mem (trail g b.begin b.edges) w ≡ true → ⊥) → Serves g f (union (ends_of_ear g a) (ends_of_ear g b)) → IsStage g (with_edges (with_edges f a.edges) b.edges)
  serving-two a b ea eb d q =
      two-serve g is f a.begin a.edges b.begin b.edges stage (apart-pair a b ea eb d) (differ a.begin (start_mem g a.begin a.edges)) (differ (last_vertex g a.begin a.edges) (end_mem g a.begin a.edges)) q.0 q.1
    where
      differ : (w : ℕ) → mem (trail g a.begin a.edges) w ≡ true → ends_of_ear g b w ≡ false
      differ w i = grind (arith, false_from_ne_true, or_cases, eqb-true, start_mem, end_mem)

  -- of candidates two serve, or one does
  pub some-serve : (ears : List PlainEar) → AreCandidates g f ears → (a b : PlainEar) × IsIn a ears × IsIn b ears × Serves g f (union (ends_of_ear g a) (ends_of_ear g b))
  some-serve ears c =
      let x = pairs-serve g is f stage (ends_of_ears g ears) (filled ears c.some) (λ q i. let r = among-pairs g ears q i in let h = c.each r.0 r.1 in
      (subst (λ (z : ℕ × ℕ). is_met g f z.0 ≡ true) (sym r.2) h.start, subst (λ (z : ℕ × ℕ). is_met g f z.1 ≡ true) (sym r.2) h.end))
      (λ w ww. c.once w) c.serve.0 c.serve.1 in
      let a = among-pairs g ears x.0 x.2 in
      let b = among-pairs g ears x.1 x.3 in
      (a.0, b.0, a.1, b.1, (x.4.0, off-same g f (union (set_of_pair x.0) (set_of_pair x.1)) (union (ends_of_ear g a.0) (ends_of_ear g b.0)) x.4.0 (λ w. ap₂ (λ (c d : ℕ × ℕ). union (set_of_pair c) (set_of_pair d) w) a.2 b.2) x.4.1))
    where
      filled : (ears : List PlainEar) → ears ≢ [] → ends_of_ears g ears ≢ []
      filled [] d = λ e. d refl
      filled (a ∷ ears) d = λ e. absurd (not_empty (ap (λ (ps : List (ℕ × ℕ)). pairs_at ps a.begin) e))
        where
          not_empty : (bit (a.begin == a.begin) + bit (last_vertex g a.begin a.edges == a.begin)) + pairs_at (ends_of_ears g ears) a.begin ≡ 0 → ⊥
          not_empty e = let x = ap bit (eq-eqb a.begin a.begin refl) in omega arith

  -- one serves twice
  pub serve-twice : (a : PlainEar) → Serves g f (union (ends_of_ear g a) (ends_of_ear g a)) → Serves g f (ends_of_ear g a)
  serve-twice a q = grind arith
