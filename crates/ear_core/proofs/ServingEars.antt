-- Ears whose ends serve. If the stage has a perfect matching without the ends of an ear, the
-- odd edges of the ear complete it to one of the new stage, so each of its edges lies in one; two
-- ears whose ends serve together are added one after the other.
use Rattle.graph_core.proofs.from_counting.Common.{◌≡◌, ℕ, true, false, refl, sym, ◌∙◌, ◌||◌, inl, inr, List, arith, true≢false, or_left, or_right, or_cases, or_false_back, mem, Set, none, union, pair_set}
use Rattle.graph_core.proofs.Common.{Graph, IsGraph}
use Rattle.ear_core.specs.Common.{IsPerfectOf, IsPerfectOff, IsStage, with_edges, last_vertex, IsEar, IsEarPair, odds, IsNearlyStage}
use Rattle.ear_core.proofs.AddedEars.{odd_on, none_but, grow}
use Rattle.ear_core.proofs.NextStages.{nearly, met-within, second_ear}

-- a perfect matching that holds all edges that are left to ask makes a stage
with-perfect : (g : Graph) (f o m : Set) → IsNearlyStage g f o → IsPerfectOf g f m → ((e : ℕ) → o e ≡ true → m e ≡ true) → IsStage g f
with-perfect g f o m near perfect holds = grind arith

pub off-same : (g : Graph) (f r k m : Set) → ((v : ℕ) → r v ≡ k v) → IsPerfectOff g f r m → IsPerfectOff g f k m
off-same g f r k m e p = record { part = p.part; once = λ v w t o. p.once v w t (e v ∙ o); away = λ v w o. p.away v w (e v ∙ o) }

-- an ear whose ends serve may be added
pub one-serves : (g : Graph) → IsGraph g → (f : Set) (v : ℕ) (es : List ℕ) → IsStage g f → IsEar g f v es → (q : Set) → IsPerfectOff g f (pair_set v (last_vertex g v es)) q → IsStage g (with_edges f es)
one-serves g is f v es stage ear q p =
    with-perfect g (with_edges f es) (λ e. none e || mem (odds es) e) (with_edges q (odds es)) (grow g is f none v es ear (met-within g is f v ear.start) (nearly g f stage))
    (none_but g (with_edges f es) (with_edges q (odds es)) (odd_on g f v es ear none q (λ w ww t. absurd (true≢false (sym t))) refl refl
    (off-same g f (pair_set v (last_vertex g v es)) (union (pair_set v (last_vertex g v es)) none) q (λ w. or_false_back (pair_set v (last_vertex g v es) w)) p)))
    (λ e t. or_right (q e) (mem (odds es) e) t)

-- two ears whose ends differ and serve together may be added
pub two-serve : (g : Graph) → IsGraph g → (f : Set) (v : ℕ) (es : List ℕ) (w : ℕ) (ds : List ℕ) → IsStage g f → IsEarPair g f v es w ds → pair_set w (last_vertex g w ds) v ≡ false → pair_set w (last_vertex g w ds) (last_vertex g v es) ≡ false →
    (q : Set) → IsPerfectOff g f (union (pair_set v (last_vertex g v es)) (pair_set w (last_vertex g w ds))) q → IsStage g (with_edges (with_edges f es) ds)
two-serve g is f v es w ds stage pair d0 d1 q p =
    with-perfect g (with_edges (with_edges f es) ds) (λ e. (none e || mem (odds es) e) || mem (odds ds) e) (with_edges (with_edges q (odds es)) (odds ds))
    (grow g is (with_edges f es) (λ e. none e || mem (odds es) e) w ds second (met-within g is (with_edges f es) w second.start) (grow g is f none v es pair.first (met-within g is f v pair.first.start) (nearly g f stage)))
    (none_but g (with_edges (with_edges f es) ds) (with_edges (with_edges q (odds es)) (odds ds)) both_odd)
    (λ e t. elim (or_cases (mem (odds es) e) (mem (odds ds) e) t) [
      | inl i ↦ or_left (with_edges q (odds es) e) (mem (odds ds) e) (or_right (q e) (mem (odds es) e) i)
      | inr i ↦ or_right (with_edges q (odds es) e) (mem (odds ds) e) i
    ])
  where
    second : IsEar g (with_edges f es) w ds
    second = second_ear g f v es w ds pair

    first_odd : IsPerfectOff g (with_edges f es) (pair_set w (last_vertex g w ds)) (with_edges q (odds es))
    first_odd = odd_on g f v es pair.first (pair_set w (last_vertex g w ds)) q (λ x wx t. grind arith) d0 d1 p

    both_odd : IsPerfectOff g (with_edges (with_edges f es) ds) none (with_edges (with_edges q (odds es)) (odds ds))
    both_odd = odd_on g (with_edges f es) w ds second none (with_edges q (odds es)) (λ x wx t. absurd (true≢false (sym t))) refl refl
        (off-same g (with_edges f es) (pair_set w (last_vertex g w ds)) (union (pair_set w (last_vertex g w ds)) none) (with_edges q (odds es)) (λ x. or_false_back (pair_set w (last_vertex g w ds) x)) first_odd)
