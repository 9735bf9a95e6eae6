-- The least edges of the pairs of mates are a matching with these mates. Each pair has an edge,
-- so one of its ends is seen in the end; a marked edge joins mates, and the mate of a mate is the
-- vertex itself, so that edge is the one of the pair.
use Rattle.graph_core.proofs.from_counting.Common.{◌≡◌, ◌≢◌, ℕ, suc, ◌==◌, ◌||◌, ◌⊎◌, true, false, refl, sym, ap, ◌∙◌, arith, inl, inr, subst, eq-eqb, both_ways, cases_eq, cases_Bool, or_left, or_right, Within, Set, none, put}
use Rattle.graph_core.proofs.Common.{bit_same, ends_le_degree, ends_of_is, Graph, HasEnds, IsGraph, degree, first_end, second_end, size, IsMatching}
use Rattle.match_search.specs.Common.{HasMates, JoinsMates, MarksMates}
use Rattle.match_search.proofs.AlternatingPaths.{put_at}
use Rattle.match_search.proofs.FirstMarks.{added_edge, empty_degree, empty_matching}
use Rattle.match_search.proofs.Forests.{turned}
use Rattle.match_search.proofs.LongerPaths.{end_within}
use Rattle.match_search.proofs.MatePairs.{mate_back, removed_mate}

-- before the first edge nothing is marked
pub marks_none : (g : Graph) (mate : ℕ → ℕ) (m seen : Set) → ((e : ℕ) → m e ≡ false) → ((v : ℕ) → seen v ≡ false) → MarksMates g mate m seen 0
marks_none g mate m seen unmarked unseen = grind (arith, empty_matching g none m unmarked, unmarked, empty_degree g m unmarked, both_ways)

module _ (g : Graph) (mate : ℕ → ℕ) (m seen : Set) (k : ℕ) (before : MarksMates g mate m seen k) where
  abbrev x : ℕ
  x = first_end g (suc k)

  abbrev y : ℕ
  y = second_end g (suc k)

  -- an edge that joins mates which are not seen is marked
  pub marks_more : (seen' : Set) → Within (size g) (suc k) → Within g.order x → Within g.order y → x ≢ y → mate x ≡ y → seen x ≡ false → seen y ≡ false → ((v : ℕ) → seen' v ≡ ((seen v || (x == v)) || (y == v))) → MarksMates g mate (put m (suc k) true) seen' (suc k)
  marks_more seen' real wx wy different pair fx fy seen'_is = record {
    matching = added.0;
    free = added.1;
    marked = marked;
    covered = λ e w p n. elim (cases_eq e (suc k)) [
      | inl q ↦ inl (subst (λ (d : ℕ). seen' (first_end g d) ≡ true) (sym q) (seen'_is x ∙ or_left (seen x || (x == x)) (y == x) (or_right (seen x) (x == x) (eq-eqb x x refl))))
      | inr q ↦ elim (before.covered e (omega arith) p n) [ inl t ↦ inl (more (first_end g e) t) | inr t ↦ inr (more (second_end g e) t) ]
    ];
  }
    where
      added : IsMatching g none (put m (suc k) true) × ((v : ℕ) → Within g.order v → seen' v ≡ false → (none v ≡ false) × (degree g (put m (suc k) true) v ≡ 0))
      added = added_edge g none m seen seen' (suc k) x y before.matching before.free real wx wy (inl (refl, refl)) different fx fy seen'_is

      more : (v : ℕ) → seen v ≡ true → seen' v ≡ true
      more v t = seen'_is v ∙ or_left (seen v || (x == v)) (y == v) (or_left (seen v) (x == v) t)

      marked : (v : ℕ) → seen' v ≡ true → JoinsMates g mate (put m (suc k) true) v
      marked v t = elim (cases_eq x v) [
        | inl q ↦ subst (JoinsMates g mate (put m (suc k) true)) q (suc k, y, real, put_at m (suc k) true, inl (refl, refl), inl pair)
        | inr nx ↦ grind arith
      ]

module _ (g : Graph) (is : IsGraph g) (r f m seen : Set) (mate : ℕ → ℕ) (has : HasMates g r f mate) (all : MarksMates g mate m seen (size g)) where
  -- a seen vertex has a marked edge to its mate
  own : (v : ℕ) → seen v ≡ true → (mate v ≢ 0) × ((e : ℕ) × Within (size g) e × (m e ≡ true) × HasEnds g e v (mate v))
  own v t = grind (arith, end_within g is, turned g, mate_back g is r f mate has)

  unmarked : (v : ℕ) → Within g.order v → mate v ≡ 0 → degree g m v ≡ 0
  unmarked v w z = grind (arith, cases_Bool, own)

  paired : (v : ℕ) → Within g.order v → mate v ≢ 0 → (e : ℕ) × Within (size g) e × (m e ≡ true) × HasEnds g e v (mate v)
  paired v w n = elim one [
    | inl t ↦ (own v t).1
    | inr t ↦ let o = (own (mate v) t).1 in (o.0, o.1, o.2, turned g o.0 (mate v) v (subst (λ (u : ℕ). HasEnds g o.0 (mate v) u) back.1 o.3))
  ]
    where
      back : Within g.order (mate v) × (mate (mate v) ≡ v)
      back = mate_back g is r f mate has v w n

      h : (e : ℕ) × Within (size g) e × (f e ≡ true) × HasEnds g e v (mate v)
      h = has.paired v w n

      different : v ≢ mate v
      different q = grind (arith, ends_le_degree g f h.0 v h.1 h.2, ends_of_is g h.0 v (mate v) h.3 v, bit_same v, eq-eqb (mate v) v (sym q))

      one : (seen v ≡ true) ⊎ (seen (mate v) ≡ true)
      one = elim h.3 [
        | inl q ↦ elim (all.covered h.0 h.1 (ap mate q.0 ∙ sym q.1) (λ z. different (sym q.0 ∙ z ∙ q.1))) [ inl t ↦ inl (ap seen (sym q.0) ∙ t) | inr t ↦ inr (ap seen (sym q.1) ∙ t) ]
        | inr q ↦ elim (all.covered h.0 h.1 (ap mate q.0 ∙ back.1 ∙ sym q.1) (λ z. different (sym (sym q.0 ∙ z ∙ q.1)))) [ inl t ↦ inr (ap seen (sym q.0) ∙ t) | inr t ↦ inl (ap seen (sym q.1) ∙ t) ]
      ]

  -- the marked edges are a matching with these mates
  pub marked_mates : HasMates g r m mate
  marked_mates = record {
    matching = record { once = all.matching.once; away = λ v w t. unmarked v w (removed_mate g is r f mate has v w t) };
    exposed = unmarked;
    paired = paired;
  }
