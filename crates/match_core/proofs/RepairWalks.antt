-- The walk from one missed vertex to the other, edge by edge of a perfect matching and of the
-- given one in turn, in rows: how does it go on, and where does it end? Each turn makes the path
-- longer by two edges; where the given matching ends, the path is whole and repairs it.
use Rattle.graph_core.proofs.from_counting.Common.{◌≡◌, ℕ, suc, zero, ◌+◌, ◌<◌, ◌≢◌, true, false, ◌==◌, ◌&&◌, not, refl, sym, ap, ap₂, ◌∙◌, arith, List, [], ◌∷◌, ◌++◌, length, inl, inr, ◌⊎◌, subst, get_or-append, cases_eq, cases_lt, cases_order, false_from_ne_true, and_right, length-append, two_le_total, total_add, total_congr, total_at, Within, bit, count, total, Set, put}
use Rattle.std.proofs.lemmas.List.{get_or-append_right}
use Rattle.match_search.proofs.Forests.{met, turned}
use Rattle.match_search.proofs.LongerPaths.{end_within, longer, longer_below, longer_at, longer_after}
use Rattle.graph_core.proofs.Common.{Graph, HasEnds, IsGraph, degree, size, IsMatching, IsPerfect, missed_count, graph_of}
use Rattle.graph_core.specs.declared.ends.Ends.{Ends}
use Rattle.match_core.specs.Common.{StartsWalk}
use Rattle.match_search.proofs.GraphRows.{row_graph}
use Rattle.match_search.specs.Common.{flipped, numbers, IsRepairRow, IsWalk, Misses}
use Rattle.match_search.proofs.Alike.{path_alike}
use Rattle.match_search.proofs.SymmetricDifference.{further, further_other, m_a, mended, path_short, w_off}

-- where two pass, a third does not
pub no_third_passes : (n : ℕ) (p : Set) (a b : ℕ) → count n p ≡ 2 → Within n a → Within n b → a ≢ b → p a ≡ true → p b ≡ true → (u : ℕ) → Within n u → p u ≡ true → (u ≡ a) ⊎ (u ≡ b)
no_third_passes n p a b two wa wb ab pa pb u wu pu = grind (arith, cases_eq u a, cases_eq u b, too_many)
  where
    split : count n p ≡ total n (λ v. bit (p v && not (a == v))) + total n (λ v. bit (p v && (a == v)))
    split = total_congr n _ _ (λ v w. grind arith) ∙ total_add n (λ v. bit (p v && not (a == v))) (λ v. bit (p v && (a == v)))

    one : total n (λ v. bit (p v && (a == v))) ≡ 1
    one = total_at n (λ v. bit (p v && (a == v))) a wa (λ v w d. ap bit (and_right (p v) (a == v) (Rattle.std.proofs.Common.ne_eqb a v (λ q. d (sym q))))) ∙ ap₂ (λ s t. bit (s && t)) pa (Rattle.std.proofs.Common.eq-eqb a a refl)

    in_rest : (v : ℕ) → v ≢ a → p v ≡ true → bit (p v && not (a == v)) ≡ 1
    in_rest v d q = ap₂ (λ s t. bit (s && not t)) q (Rattle.std.proofs.Common.ne_eqb a v (λ h. d (sym h)))

    too_many : u ≢ a → u ≢ b → ⊥
    too_many ua ub =
        let x = in_rest u ua pu in
        let y = in_rest b (λ q. ab (sym q)) pb in
        let s = split in
        let o = one in
        elim (cases_order u b) [
          | inl q ↦ ub q
          | inr q ↦ elim q [
            | inl l ↦ let z = two_le_total n (λ v. bit (p v && not (a == v))) u b wu wb l in absurd (omega arith)
            | inr l ↦ let z = two_le_total n (λ v. bit (p v && not (a == v))) b u wb wu l in absurd (omega arith)
          ]
        ]

-- where m misses two vertices in all, these are the two
pub only_two_missed : (g : Graph) (r m : Set) (x y : ℕ) → missed_count g r m ≡ 2 → Misses g r m x → Misses g r m y → x ≢ y → (u : ℕ) → Within g.order u → r u ≡ false → degree g m u ≡ 0 → (u ≡ x) ⊎ (u ≡ y)
unfolding missed_count
only_two_missed g r m x y two mx my xy u wu ru du = no_third_passes g.order (λ v. not (r v) && (degree g m v == 0)) x y two mx.within my.within xy (passes x mx.outside mx.missed) (passes y my.outside my.missed) u wu (passes u ru du)
  where
    passes : (v : ℕ) → r v ≡ false → degree g m v ≡ 0 → (not (r v) && (degree g m v == 0)) ≡ true
    passes v a b = rw (a, b) refl

-- the marks along paths that agree
pub flipped_alike : (f : Set) (e e' : ℕ → ℕ) (k : ℕ) → ((j : ℕ) → j < k + k → e' j ≡ e j) → flipped f e' k ≡ flipped f e k
flipped_alike f e e' zero h = refl
flipped_alike f e e' (suc k) h =
    ap (λ (s : Set). put (put s (e' (k + k)) true) (e' (suc (k + k))) false) (flipped_alike f e e' k (λ j l. h j (omega arith)))
    ∙ ap₂ (λ a b. put (put (flipped f e k) a true) b false) (h (k + k) (omega arith)) (h (suc (k + k)) (omega arith))

-- a row with one more number
pub appended_below : (es : List ℕ) (a j : ℕ) → j < length es → numbers (es ++ a ∷ []) j ≡ numbers es j
appended_below es a j l = get_or-append es (a ∷ []) 0 j l

pub appended_at : (es : List ℕ) (a j : ℕ) → j ≡ length es → numbers (es ++ a ∷ []) j ≡ a
appended_at es a j q = grind (arith, get_or-append_right es (a ∷ []) (length es) j 0 refl)

pub appended_length : (es : List ℕ) (a : ℕ) → length (es ++ a ∷ []) ≡ suc (length es)
appended_length es a = grind (arith, length-append es (a ∷ []))

module _ (g : Graph) (is : IsGraph g) (r m n : Set) (mm : IsMatching g r m) (perfect : IsPerfect g r n) (x : ℕ) where
  pub walk_start : Misses g r m x → IsWalk g r m n x [] x
  walk_start mx = record {
    pairs = 0;
    vertex = λ i. x;
    long = omega arith;
    path = record {
      path = record {
        apart = λ i j li lj q. omega arith;
        within = λ i l. mx.within;
        outside = λ i l. mx.outside;
        real = λ i l. absurd (omega arith);
        ends = λ i l. absurd (omega arith);
      };
      free = mx.missed;
      turns = λ i l. absurd (omega arith);
    };
    other = λ i l. absurd (omega arith);
    start = refl;
    here = refl;
  }

  module _ (es : List ℕ) (v : ℕ) (walk : IsWalk g r m n x es v) where
    pub walk_within : Within g.order v
    walk_within = subst (Within g.order) walk.here (walk.path.path.within (walk.pairs + walk.pairs) (omega arith))

    pub walk_outside : r v ≡ false
    walk_outside = sym (ap r walk.here) ∙ walk.path.path.outside (walk.pairs + walk.pairs) (omega arith)

    pub walk_short : length es < g.order
    walk_short = let a = path_short g r walk.pairs walk.vertex (numbers es) walk.path.path in let b = walk.long in omega arith

    module _ (a w : ℕ) (wa : Within (size g) a) (na : n a ≡ true) (ends : HasEnds g a v w) where
      at_end : HasEnds g a (walk.vertex (walk.pairs + walk.pairs)) w
      at_end = subst (λ z. HasEnds g a z w) (sym walk.here) ends

      pub next_within : Within g.order w
      next_within = end_within g is a w v wa (turned g a v w ends)

      pub next_outside : r w ≡ false
      next_outside = false_from_ne_true (r w) (λ t. let z = perfect.away w next_within t in let o = (met g n a v w wa na ends).1 in absurd (omega arith))

      pub walk_more : (d y : ℕ) → Within (size g) d → m d ≡ true → HasEnds g d w y → IsWalk g r m n x ((es ++ a ∷ []) ++ d ∷ []) y
      walk_more d y wd md pair = record {
        pairs = suc walk.pairs;
        vertex = longer (suc (walk.pairs + walk.pairs)) walk.vertex w y;
        long = appended_length (es ++ a ∷ []) d ∙ ap suc (appended_length es a) ∙ (let l = walk.long in omega arith);
        path = path_alike g r m (suc walk.pairs) (longer (suc (walk.pairs + walk.pairs)) walk.vertex w y) (longer (walk.pairs + walk.pairs) (numbers es) a d) (longer (suc (walk.pairs + walk.pairs)) walk.vertex w y) (numbers ((es ++ a ∷ []) ++ d ∷ []))
            (λ j l. refl) row (further g is r m n mm perfect walk.pairs walk.vertex (numbers es) walk.path walk.other a w wa na at_end d y wd md pair);
        other = λ i l. ap n (row i l) ∙ further_other g is r m n mm perfect walk.pairs walk.vertex (numbers es) walk.path walk.other a w wa na at_end d y wd md pair i l;
        start = longer_below (suc (walk.pairs + walk.pairs)) walk.vertex w y 0 (omega arith) ∙ walk.start;
        here = longer_after (suc (walk.pairs + walk.pairs)) walk.vertex w y (suc walk.pairs + suc walk.pairs) (omega arith);
      }
        where
          row : (j : ℕ) → j < suc walk.pairs + suc walk.pairs → numbers ((es ++ a ∷ []) ++ d ∷ []) j ≡ longer (walk.pairs + walk.pairs) (numbers es) a d j
          row j l =
              let long = walk.long in
              let more = appended_length es a in
              elim (cases_lt j (walk.pairs + walk.pairs)) [
                | inl s ↦ appended_below (es ++ a ∷ []) d j (omega arith) ∙ appended_below es a j (omega arith) ∙ sym (longer_below (walk.pairs + walk.pairs) (numbers es) a d j s)
                | inr s ↦ elim (cases_eq j (walk.pairs + walk.pairs)) [
                  | inl q ↦ appended_below (es ++ a ∷ []) d j (omega arith) ∙ appended_at es a j (omega arith) ∙ sym (longer_at (walk.pairs + walk.pairs) (numbers es) a d j q)
                  | inr q ↦ appended_at (es ++ a ∷ []) d j (omega arith) ∙ sym (longer_after (walk.pairs + walk.pairs) (numbers es) a d j (omega arith))
                ]
              ]

      pub walk_end : missed_count g r m ≡ 2 → Misses g r m x → Misses g r m w → IsRepairRow g r m x (es ++ a ∷ [])
      walk_end two mx mw = record {
        y = w;
        missed = mw;
        pairs = walk.pairs;
        long = appended_length es a ∙ ap suc walk.long;
        vertex = walk.vertex;
        path = path_alike g r m walk.pairs walk.vertex (numbers es) walk.vertex (numbers (es ++ a ∷ [])) (λ j l. refl) low walk.path;
        start = walk.start;
        real = subst (Within (size g)) (sym last) wa;
        ends = subst (λ (d : ℕ). HasEnds g d (walk.vertex (walk.pairs + walk.pairs)) w) (sym last) at_end;
        apart = λ i l. w_off g is r m n mm perfect walk.pairs walk.vertex (numbers es) walk.path walk.other a w wa na at_end i l;
        off = ap m last ∙ m_a g is r m n mm perfect walk.pairs walk.vertex (numbers es) walk.path walk.other a w wa na at_end;
        perfect = subst (λ (s : Set). IsPerfect g r s) (sym (ap₂ (λ (s : Set) (d : ℕ). put s d true) (flipped_alike m (numbers es) (numbers (es ++ a ∷ [])) walk.pairs low) last))
            (mended g is r m n mm perfect walk.pairs walk.vertex (numbers es) walk.path walk.other a w wa na at_end mw.missed (λ u wu ru du. elim (only_two_missed g r m x w two mx mw apart u wu ru du) [ inl q ↦ inl (q ∙ sym walk.start) | inr q ↦ inr q ]));
      }
        where
          low : (j : ℕ) → j < walk.pairs + walk.pairs → numbers (es ++ a ∷ []) j ≡ numbers es j
          low j l = appended_below es a j (let long = walk.long in omega arith)

          last : numbers (es ++ a ∷ []) (walk.pairs + walk.pairs) ≡ a
          last = appended_at es a (walk.pairs + walk.pairs) (sym walk.long)

          apart : x ≢ w
          apart q = w_off g is r m n mm perfect walk.pairs walk.vertex (numbers es) walk.path walk.other a w wa na at_end 0 (omega arith) (walk.start ∙ q)

-- where a walk has come to, by the rows it reads
module _ (n : ℕ) (r m w : Set) (ends : List Ends) (at other : List ℕ) (x : ℕ) (h : StartsWalk n r m w ends at other x) (es : List ℕ) (v : ℕ) (walk : IsWalk (graph_of n ends) r m w x es v) where
  pub here_within : Within n v
  here_within = walk_within (graph_of n ends) (row_graph n ends h.row.within) r m w h.matching h.perfect x es v walk

  pub here_outside : r v ≡ false
  here_outside = walk_outside (graph_of n ends) (row_graph n ends h.row.within) r m w h.matching h.perfect x es v walk

  pub here_short : length es < n
  here_short = walk_short (graph_of n ends) (row_graph n ends h.row.within) r m w h.matching h.perfect x es v walk
