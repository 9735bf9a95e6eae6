-- Ears of bipartite graphs. An ear has its ends on opposite sides, since its length is odd; so it
-- serves, and single ears do.
use Rattle.graph_core.proofs.from_counting.Common.{◌≡◌, ℕ, true, refl, sym, ap, ◌∙◌, arith, not, inl, [], ◌∷◌, List, length, true≢false, not_not, Within, is_odd, Set, pair_set}
use Rattle.graph_core.proofs.Common.{Graph, IsBipartite, IsGraph, in_cut, size}
use Rattle.ear_core.proofs.OppositeEnds.{opposite-serve}
use Rattle.ear_core.proofs.TraceEdges.{two_less_odd}
use Rattle.ear_core.specs.Common.{Serves, AreCandidates, NoneServes, PlainEar, Follow, IsEar, last_vertex, other_end, IsStage}
use Rattle.ear_core.proofs.Walking.{joins}

-- the ends of an odd trace are on opposite sides
other_end-side : (g : Graph) (a : Set) (e v : ℕ) → in_cut g a e ≡ true → joins g e v ≡ true → a (other_end g e v) ≡ not (a v)
other_end-side g a e v c h = grind arith

pub last_vertex-side : (g : Graph) (a : Set) → ((e : ℕ) → Within (size g) e → in_cut g a e ≡ true) → (v : ℕ) (es : List ℕ) → Follow g v es → is_odd (length es) ≡ true → a (last_vertex g v es) ≡ not (a v)
last_vertex-side g a sides v [] t o = absurd (true≢false (sym o))
last_vertex-side g a sides v (e ∷ []) t o = other_end-side g a e v (sides e t.0.0) t.0.1
last_vertex-side g a sides v (e ∷ d ∷ es) t o =
    last_vertex-side g a sides (other_end g d (other_end g e v)) es t.1.1 (two_less_odd (length es) o)
    ∙ ap not (other_end-side g a d (other_end g e v) (sides d t.1.0.0) t.1.0.1 ∙ ap not (other_end-side g a e v (sides e t.0.0) t.0.1))
    ∙ ap not (not_not (a v))

-- each ear of a stage serves
pub bipartite-serves : (g : Graph) → IsGraph g → (a : Set) → ((e : ℕ) → Within (size g) e → in_cut g a e ≡ true) → (f : Set) → IsStage g f → (v : ℕ) (es : List ℕ) → IsEar g f v es → Serves g f (pair_set v (last_vertex g v es))
bipartite-serves g is a sides f s v es ear = grind (arith, opposite-serve g is f a, last_vertex-side g a sides v es ear.follow ear.odd)

-- so among candidates one serves
pub bipartite-found : (g : Graph) → IsGraph g → IsBipartite g → (f : Set) → IsStage g f → (ears : List PlainEar) → AreCandidates g f ears → NoneServes g f ears → ⊥
bipartite-found g is sides f stage [] c never = c.some refl
bipartite-found g is sides f stage (a ∷ ears) c never = never a (inl refl) (bipartite-serves g is sides.0 sides.1 f stage a.begin a.edges (c.each a (inl refl)))
