-- The plan for exposing a shore is carried out: what is exposed first in the two trees is a cut
-- there, and then the root is the shore.
use Rattle.graph_core.proofs.from_counting.Common.{◌≡◌, ℕ, ◌≤◌, ◌<◌, Bool, true, false, not, List, [], ◌∷◌, ◌++◌, map, Option, Some, None, ◌⊎◌, inl, inr, refl, sym, ap, ap₂, ◌∙◌, arith, subst, not-true, false_all_in, all_in_true, Within, is_apart, is_subset, mem, everything, minus}
use Rattle.graph_core.proofs.Common.{mem-complement_of, Apart, Below, Graph, complement_of, merged, block_count}
use Rattle.tree_core.proofs.Common.{IsCutAt, IsDerivationAt, kept_at, merged_at, IsBlockOf, PlainMove, below, rotate_at, meet_list, Shape, cut}
use Rattle.tree_core.specs.declared.path.Side.TheVariants.{Kept, Merged}
use Rattle.move_laws.proofs.BigShores.{Big, Stage, big_cut, big_rest, big_some, stage_merged, rest_rest}
use Rattle.move_laws.proofs.Exchange.{block_count-one}
use Rattle.move_laws.proofs.Corners.{Corners, inner_single_or_big, outer_single_or_big}
use Rattle.move_laws.proofs.CornerSwitch.{Kind}
use Rattle.move_laws.proofs.CrossingShores.{corners_of}
use Rattle.move_laws.proofs.OverInnerCorner.{InnerTurned, inner_below, inner_canonical, outer_shore_big, over_inner_to}
use Rattle.move_laws.proofs.OverOuterCorner.{OuterTurned, raised_merged_is}
use Rattle.move_laws.proofs.NestedShores.{Cross, raised, stays_big}
use Rattle.move_laws.proofs.Scripts.{length_below, length_join, script_end, script_join, script_kept, script_merged, script_rotate}
use Rattle.move_laws.proofs.Rising.{bounds}
use Rattle.move_laws.specs.Common.{outer_of, outer_shore, partner, PlainTurned, over_inner, AreRising}
use Rattle.uncross.specs.Common.{CutIf, IsExposed, IsPlan, PlainPlan, crossing, first_kept_shore, here, if_big, in_kept, in_merged, plan_result, second_shore}

-- a root shore and another, at a stage
module _ (g : Graph) (p : List (List ℕ)) (st : Stage g p) (x y : List ℕ) (bx : Big g p x) (by : Big g p y) (nx : mem x g.order ≡ false) (ny : mem y g.order ≡ false) where
  greatest : Within g.order g.order
  greatest = let z = big_some g p st x bx in let w = z.1 in (omega arith, omega arith)

  -- y inside x is a cut in `kept`
  pub cut_in_kept : is_subset y x ≡ true → is_subset x y ≡ false → IsCutAt g (kept_at g.order p x) y
  cut_in_kept h k =
      let rx = big_rest g p st x bx in
      let o = false_all_in x (mem y) k in let wo = bounds bx.shore o.0 o.1 in
      big_cut g (kept_at g.order p x) (stage_merged g p st (complement_of g.order x) rx) y
      (stays_big g p st (complement_of g.order x) y rx by (λ w ww m. out (mem x w) (mem y w) (all_in_true y (mem x) h w) (not-true (mem x w) (sym (mem-complement_of g.order x w ww) ∙ m))) (o.0, wo, mem-complement_of g.order x o.0 wo ∙ ap not o.1, o.2)) ny
    where
      out : (a b : Bool) → (b ≡ true → a ≡ true) → a ≡ false → b ≡ false
      out a b h k = grind arith

  apart_says : is_apart x y ≡ true → Apart g.order (mem x) (mem y)
  apart_says h w ww m = not-true (mem y w) (all_in_true x (minus everything (mem y)) h w m)

  -- x inside y, or the two apart: y is a cut in `merged`
  pub cut_in_merged : is_subset y x ≡ false → (is_subset x y ≡ true) ⊎ (is_apart x y ≡ true) → IsCutAt g (merged_at g.order p x) y
  cut_in_merged h (inl k) =
      let ry = big_rest g p st y by in let sx = stage_merged g p st x bx in
      let o = false_all_in y (mem x) h in let wo = bounds by.shore o.0 o.1 in
      let big = stays_big g p st x (complement_of g.order y) bx ry (λ w ww m. mem-complement_of g.order y w ww ∙ ap not (all_in_true x (mem y) k w m)) (o.0, wo, o.2, mem-complement_of g.order y o.0 wo ∙ ap not o.1) in
      big_cut g (merged p x) sx y (subst (Big g (merged p x)) (rest_rest g.order y by.shore) (big_rest g (merged p x) sx (complement_of g.order y) big)) ny
  cut_in_merged h (inr k) = big_cut g (merged p x) (stage_merged g p st x bx) y (stays_big g p st x y bx by (apart_says k) (g.order, greatest, nx, ny)) ny

  -- the two cross
  pub cross_of : is_subset y x ≡ false → is_subset x y ≡ false → is_apart x y ≡ false → Cross g.order (mem x) (mem y)
  cross_of h k a = grind (arith, false_all_in y (mem x) h, false_all_in x (mem y) k, false_all_in x (minus everything (mem y)) a, bounds bx.shore, bounds by.shore)

-- a shore has three blocks or more, or fewer
big_or_none : (p : List (List ℕ)) (u shore : List ℕ) → ((block_count p (mem u) < 3) × (if_big p u shore ≡ None)) ⊎ ((3 ≤ block_count p (mem u)) × (if_big p u shore ≡ Some shore))
big_or_none p u shore = grind arith

-- if nothing is to be exposed no moves are made, and the tree is as it was
exposed_nothing : (g : Graph) (q : List (List ℕ)) (a t : Shape) (m : Option (List PlainMove)) → IsExposed g q a None t m → (m ≡ None) × (t ≡ a)
exposed_nothing g q a t m e = grind arith

-- and if a shore is to be exposed moves are made
exposed_shore : (g : Graph) (q : List (List ℕ)) (a t : Shape) (m : Option (List PlainMove)) (y : List ℕ) → IsExposed g q a (Some y) t m → (ms : List PlainMove) × (m ≡ Some ms) × IsExposed g q a (Some y) t (Some ms)
exposed_shore g q a t m y e = grind arith

-- what the plan exposes first is a cut where it is exposed
module _ (g : Graph) (p : List (List ℕ)) (st : Stage g p) (x y : List ℕ) (bx : Big g p x) (by : Big g p y) (nx : mem x g.order ≡ false) (ny : mem y g.order ≡ false) where
  crossing_corners : is_subset y x ≡ false → is_subset x y ≡ false → is_apart x y ≡ false → Corners g p x (partner g.order p x y) × Kind g.order y (partner g.order p x y)
  crossing_corners h k a = corners_of g p st x y bx by nx ny (cross_of g p st x y bx by nx ny h k a)

  inner_case : (c : Corners g p x (partner g.order p x y)) → ((if_big p (meet_list g.order x (partner g.order p x y)) (meet_list g.order x (partner g.order p x y)) ≡ None) × ((t : ℕ) × IsBlockOf g.order p (mem (meet_list g.order x (partner g.order p x y))) t)) ⊎
      ((if_big p (meet_list g.order x (partner g.order p x y)) (meet_list g.order x (partner g.order p x y)) ≡ Some (meet_list g.order x (partner g.order p x y))) × Big g p (meet_list g.order x (partner g.order p x y)))
  inner_case c = elim (big_or_none p (meet_list g.order x (partner g.order p x y)) (meet_list g.order x (partner g.order p x y))) [
    | inl s ↦ inl (s.1, elim (inner_single_or_big g p x (partner g.order p x y) c) [ inl b ↦ b | inr b ↦ let i = b.inside in let j = s.0 in absurd (omega arith) ])
    | inr s ↦ inr (s.1, elim (inner_single_or_big g p x (partner g.order p x y) c) [ inr b ↦ b | inl b ↦ let i = block_count-one g.order p st.list.partition (mem (meet_list g.order x (partner g.order p x y))) b.0 b.1 in let j = s.0 in absurd (omega arith) ])
  ]

  outer_case : (c : Corners g p x (partner g.order p x y)) → ((if_big p (outer_of g.order x (partner g.order p x y)) (outer_shore g.order (outer_of g.order x (partner g.order p x y))) ≡ None) × ((t : ℕ) × IsBlockOf g.order p (mem (outer_of g.order x (partner g.order p x y))) t)) ⊎
      ((if_big p (outer_of g.order x (partner g.order p x y)) (outer_shore g.order (outer_of g.order x (partner g.order p x y))) ≡ Some (outer_shore g.order (outer_of g.order x (partner g.order p x y)))) × Big g p (outer_of g.order x (partner g.order p x y)))
  outer_case c = elim (big_or_none p (outer_of g.order x (partner g.order p x y)) (outer_shore g.order (outer_of g.order x (partner g.order p x y)))) [
    | inl s ↦ inl (s.1, elim (outer_single_or_big g p x (partner g.order p x y) c) [ inl b ↦ b | inr b ↦ let i = b.inside in let j = s.0 in absurd (omega arith) ])
    | inr s ↦ inr (s.1, elim (outer_single_or_big g p x (partner g.order p x y) c) [ inr b ↦ b | inl b ↦ let i = block_count-one g.order p st.list.partition (mem (outer_of g.order x (partner g.order p x y))) b.0 b.1 in let j = s.0 in absurd (omega arith) ])
  ]

  kept_stage : Stage g (kept_at g.order p x)
  kept_stage = stage_merged g p st (complement_of g.order x) (big_rest g p st x bx)

  merged_stage : Stage g (merged_at g.order p x)
  merged_stage = stage_merged g p st x bx

  -- what is exposed first in `kept` is a cut there
  pub first_is_cut : (plan : PlainPlan) → IsPlan g.order p x y plan → CutIf g (kept_at g.order p x) (first_kept_shore y plan)
  first_is_cut here is = tt
  first_is_cut in_kept is = cut_in_kept g p st x y bx by nx ny is.0 is.1
  first_is_cut in_merged is = tt
  first_is_cut (crossing u v i o) is = grind (arith, crossing_corners is.0 is.1 is.2, inner_case, big_cut g (kept_at g.order p x) kept_stage, kept_stage, inner_below g p x, inner_canonical g p x)

  -- and in `merged`
  pub second_is_cut : (plan : PlainPlan) → IsPlan g.order p x y plan → CutIf g (merged_at g.order p x) (second_shore y plan)
  second_is_cut here is = tt
  second_is_cut in_kept is = tt
  second_is_cut in_merged is = cut_in_merged g p st x y bx by nx ny is.0 is.1
  second_is_cut (crossing u v i o) is = grind (arith, crossing_corners is.0 is.1 is.2, outer_case, outer_shore_big g p x, big_cut g (merged_at g.order p x) merged_stage, merged_stage)

  -- the two trees with their corners exposed
  inner_turned : (c : Corners g p x (partner g.order p x y)) (a ta : Shape) (mi : Option (List PlainMove)) → IsExposed g (kept_at g.order p x) a (if_big p (meet_list g.order x (partner g.order p x y)) (meet_list g.order x (partner g.order p x y))) ta mi → InnerTurned g p x (partner g.order p x y) a ta mi
  inner_turned c a ta mi e = grind (arith, inner_case c, exposed_nothing g (kept_at g.order p x) a ta mi, exposed_shore g (kept_at g.order p x) a ta mi (meet_list g.order x (partner g.order p x y)))

  outer_turned : (c : Corners g p x (partner g.order p x y)) (b tb : Shape) (mo : Option (List PlainMove)) → IsExposed g (merged_at g.order p x) b (if_big p (outer_of g.order x (partner g.order p x y)) (outer_shore g.order (outer_of g.order x (partner g.order p x y)))) tb mo → OuterTurned g p x (partner g.order p x y) b tb mo
  outer_turned c b tb mo e = grind (arith, outer_case, exposed_nothing, exposed_shore)

  -- the plan carried out
  abbrev Done : Shape → Option PlainTurned → Type 0
  Done t made = (s : PlainTurned) × (made ≡ Some s) × IsExposed g p t (Some y) s.tree (Some s.moves)

  module _ (a b : Shape) (f : AreRising g.order (cut x a b)) (d : IsDerivationAt g p (cut x a b)) where
    at_here : x ≡ y → (ta tb : Shape) → ta ≡ a → tb ≡ b → Done (cut x a b) (Some (record { tree = cut x ta tb; moves = [] }))
    at_here e ta tb ea eb = (record { tree = cut x ta tb; moves = [] }, refl, (a, b, ap₂ (cut x) ea eb ∙ ap (λ z. cut z a b) e, ap (λ z. cut z a b) e, omega arith))

    at_kept : (ta tb : Shape) (ms : List PlainMove) → IsExposed g (kept_at g.order p x) a (Some y) ta (Some ms) → tb ≡ b → Done (cut x a b) (plan_result g.order x in_kept ta tb (Some ms) None)
    at_kept ta tb ms e eb =
        let k = e.0 in let l = e.1 in
        let w = script_kept g p x a b ms (cut y k l) d f e.3 in
        let q = script_end g p (cut x a b) (map (below Kept) ms) (cut x (cut y k l) b) d f w in
        let r = script_rotate g p Kept (cut x (cut y k l) b) (cut y k (cut x l b)) st q.0 q.1 refl in
        let n = length_join (map (below Kept) ms) (rotate_at (Kept ∷ []) ∷ []) in let m = length_below Kept ms in let z = e.4 in (
          record { tree = cut y k (cut x l b); moves = map (below Kept) ms ++ rotate_at (Kept ∷ []) ∷ [] },
          ap₂ (λ (t u : Shape). plan_result g.order x in_kept t u (Some ms) None) e.2 eb,
          (
            k,
            cut x l b,
            refl,
            script_join g p (cut x a b) (map (below Kept) ms) (rotate_at (Kept ∷ []) ∷ []) (cut x (cut y k l) b) (cut y k (cut x l b)) w r,
            omega arith,
          ),
        )

    at_merged : Below g.order (mem x) (mem y) ⊎ Apart g.order (mem x) (mem y) → (ta tb : Shape) (ms : List PlainMove) → IsExposed g (merged_at g.order p x) b (Some y) tb (Some ms) → ta ≡ a → Done (cut x a b) (plan_result g.order x in_merged ta tb None (Some ms))
    at_merged how ta tb ms e ea =
        let k = e.0 in let l = e.1 in
        let w = script_merged g p x a b ms (cut y k l) d f e.3 in
        let q = script_end g p (cut x a b) (map (below Merged) ms) (cut x a (cut y k l)) d f w in
        let s = raised g p st x a b f d y ny k l how in
        let r = script_rotate g p Merged (cut x a (cut y k l)) (cut y s.0 s.1) st q.0 q.1 s.2 in
        let n = length_join (map (below Merged) ms) (rotate_at (Merged ∷ []) ∷ []) in let m = length_below Merged ms in let z = e.4 in (
          record { tree = cut y s.0 s.1; moves = map (below Merged) ms ++ rotate_at (Merged ∷ []) ∷ [] },
          ap₂ (λ (t u : Shape). plan_result g.order x in_merged t u None (Some ms)) ea e.2 ∙ raised_merged_is x a (cut y k l) (cut y s.0 s.1) ms s.2,
          (
            s.0,
            s.1,
            refl,
            script_join g p (cut x a b) (map (below Merged) ms) (rotate_at (Merged ∷ []) ∷ []) (cut x a (cut y k l)) (cut y s.0 s.1) w r,
            omega arith,
          ),
        )

    pub plan_done : (plan : PlainPlan) → IsPlan g.order p x y plan → (ta tb : Shape) (mi mo : Option (List PlainMove)) → IsExposed g (kept_at g.order p x) a (first_kept_shore y plan) ta mi → IsExposed g (merged_at g.order p x) b (second_shore y plan) tb mo →
        (s : PlainTurned) × (plan_result g.order x plan ta tb mi mo ≡ Some s) × IsExposed g p (cut x a b) (Some y) s.tree (Some s.moves)
    plan_done here is ta tb None None ea eb = at_here is ta tb ea eb
    plan_done here is ta tb None (Some ms) ea eb = absurd eb
    plan_done here is ta tb (Some ms) mo ea eb = absurd ea
    plan_done in_kept is ta tb (Some ms) None ea eb = at_kept ta tb ms ea eb
    plan_done in_kept is ta tb (Some ms) (Some ns) ea eb = absurd eb
    plan_done in_kept is ta tb None mo ea eb = absurd ea
    plan_done in_merged is ta tb None (Some ms) ea eb = at_merged (grind (arith, all_in_true x (mem y), apart_says g p st x y bx by nx ny)) ta tb ms eb ea
    plan_done in_merged is ta tb None None ea eb = absurd eb
    plan_done in_merged is ta tb (Some ms) mo ea eb = absurd ea
    plan_done (crossing u v i o) is ta tb mi mo ea eb =
        let c = crossing_corners is.0 is.1 is.2 in let z = partner g.order p x y in
        let ia = inner_turned c.0 a ta mi (subst (λ o. IsExposed g (kept_at g.order p x) a o ta mi) (is.5 ∙ ap (λ (u : List ℕ). if_big p u u) is.3) ea) in
        let ob = outer_turned c.0 b tb mo (subst (λ o. IsExposed g (merged_at g.order p x) b o tb mo) (is.6 ∙ ap (λ (v : List ℕ). if_big p v (outer_shore g.order v)) is.4) eb) in
        let r = over_inner_to g p x z y c.0 by.shore nx ny c.1 a b ta tb f d mi mo ia ob in let l = r.5 in (
          record { tree = cut y r.1 r.2; moves = r.0 },
          ap₂ (λ (u v : List ℕ). over_inner g.order x u v ta tb mi mo) is.3 is.4 ∙ r.3,
          (
            r.1,
            r.2,
            refl,
            r.4,
            omega arith,
          ),
        )
