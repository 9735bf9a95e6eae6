-- A crossing shore is brought above both corners: after the inner one was brought to the root of
-- `kept`, above the outer one below it, and back.
use Rattle.graph_core.proofs.from_counting.Common.{Bool, List, None, Some, [], ap, arith, false, if◌then◌else◌, inl, inr, length, map, not, refl, subst, sym, true, ℕ, ◌&&◌, ◌*◌, ◌++◌, ◌+◌, ◌||◌, ◌∙◌, ◌∷◌, ◌≡◌, ◌≤◌, Option, option_and_then, and_left, and_right, not-true, rising_list-rises, true_all_in, all_in_false, and_second, nor_left, nor_right, Within, IsRisingIn, mem, meet}
use Rattle.graph_core.proofs.Common.{mem-complement_of, Apart, Graph, complement_of, merged}
use Rattle.tree_core.proofs.Common.{IsDerivationAt, kept_at, merged_at, IsBlockOf, PlainMove, below, rotate_at, rotate_result_at, meet_list, Shape, cut, cut_count}
use Rattle.tree_core.specs.declared.path.Side.TheVariants.{Kept, Merged}
use Rattle.move_laws.proofs.BigShores.{Big, big_rest, big_some, rest_rest, stage_merged, same_number, swallowed}
use Rattle.move_laws.proofs.CornerSwitch.{Kind}
use Rattle.move_laws.proofs.Corners.{Corners, inner_mem, merged_inner, outer_mem, outer_single_or_big, o_tight}
use Rattle.move_laws.proofs.Exchange.{block_count-one}
use Rattle.move_laws.proofs.NestedShores.{stays_big}
use Rattle.move_laws.proofs.OverOuterCorner.{OuterTurned, TurnedTo, raised_merged_is, over_outer_to, script_then}
use Rattle.move_laws.proofs.Rising.{bounds}
use Rattle.move_laws.proofs.Scripts.{length_below, length_join, script_end, script_join, script_kept, script_merged}
use Rattle.move_laws.proofs.TurningTests.{rotate-inside, rotate-apart, apart_test}
use Rattle.move_laws.specs.Common.{outer_of, outer_shore, AreRising, IsProperScript, followed, over_inner, over_outer, raised_merged}

-- the inner corner is one block, or was brought to the root of `kept`
abbrev pub InnerTurned : Graph → List (List ℕ) → (x z : List ℕ) → Shape → Shape → Option (List PlainMove) → Type 0
InnerTurned g p x z a c None = (c ≡ a) × ((s : ℕ) × IsBlockOf g.order p (mem (meet_list g.order x z)) s)
InnerTurned g p x z a c (Some ms) = Big g p (meet_list g.order x z) × (k : Shape) × (l : Shape) × (c ≡ cut (meet_list g.order x z) k l) × IsProperScript g (kept_at g.order p x) a ms (cut (meet_list g.order x z) k l) × (length ms + 2 ≤ 3 * cut_count a)

-- a corner below its side of the root
module _ (g : Graph) (p : List (List ℕ)) (x z : List ℕ) (c : Corners g p x z) (nx : mem x g.order ≡ false) where
  greatest : Within g.order g.order
  greatest = let r = big_some g p c.stage x c.first in let w = r.1 in (omega arith, omega arith)

  pub inner_below : Big g p (meet_list g.order x z) → Big g (kept_at g.order p x) (meet_list g.order x z)
  inner_below inner_big =
      let l = c.left in
      stays_big g p c.stage (complement_of g.order x) (meet_list g.order x z) (big_rest g p c.stage x c.first) inner_big (λ v wv h. inner_mem g p x z c v wv ∙ and_left (mem x v) (mem z v) (not-true (mem x v) (sym (mem-complement_of g.order x v wv) ∙ h)))
      (l.0, l.1, mem-complement_of g.order x l.0 l.1 ∙ ap not l.2, inner_mem g p x z c l.0 l.1 ∙ and_right (mem x l.0) (mem z l.0) l.3)

  pub inner_canonical : mem (meet_list g.order x z) g.order ≡ false
  inner_canonical = inner_mem g p x z c g.order greatest ∙ and_left (mem x g.order) (mem z g.order) nx

  pub outer_below_x : Big g p (outer_of g.order x z) → Big g (merged_at g.order p x) (outer_of g.order x z)
  outer_below_x outer_big =
      let r = c.right in
      stays_big g p c.stage x (outer_of g.order x z) c.first outer_big (λ v wv h. outer_mem g p x z c v wv ∙ nor_left (mem x v) (mem z v) h) (r.0, r.1, r.2, outer_mem g p x z c r.0 r.1 ∙ nor_right (mem x r.0) (mem z r.0) r.3)

  pub outer_shore_big : Big g p (outer_of g.order x z) → Big g (merged_at g.order p x) (outer_shore g.order (outer_of g.order x z)) × (mem (outer_shore g.order (outer_of g.order x z)) g.order ≡ false)
  outer_shore_big outer_big = go (mem (outer_of g.order x z) g.order) refl
    where
      outer_corner : List ℕ
      outer_corner = outer_of g.order x z

      go : (m : Bool) → mem (outer_of g.order x z) g.order ≡ m → Big g (merged_at g.order p x) (if m then complement_of g.order (outer_of g.order x z) else outer_of g.order x z) × (mem (if m then complement_of g.order (outer_of g.order x z) else outer_of g.order x z) g.order ≡ false)
      go true h = (big_rest g (merged_at g.order p x) (stage_merged g p c.stage x c.first) (outer_of g.order x z) (outer_below_x outer_big), mem-complement_of g.order (outer_of g.order x z) g.order greatest ∙ ap not h)
      go false h = (outer_below_x outer_big, h)

-- the inner corner: one block, or with moves to it in `kept`; then over the outer one, and back
pub over_inner_to : (g : Graph) (p : List (List ℕ)) (x z y : List ℕ) (c : Corners g p x z) → IsRisingIn g.order y → mem x g.order ≡ false → mem y g.order ≡ false → Kind g.order y z →
    (a b a' b' : Shape) → AreRising g.order (cut x a b) → IsDerivationAt g p (cut x a b) → (mi mo : Option (List PlainMove)) → InnerTurned g p x z a a' mi → OuterTurned g p x z b b' mo →
    TurnedTo g p (cut x a b) y (3 * cut_count a + 3 * cut_count b + 1) (over_inner g.order x (meet_list g.order x z) (outer_of g.order x z) a' b' mi mo)
over_inner_to g p x z y c sy nx ny kind a b a' b' f d None mo inner outer =
    let r = over_outer_to g p x z y c sy nx ny kind inner.1.0 inner.1.1 a b b' f d mo outer in let l = r.5 in
    (r.0, r.1, r.2, ap (λ k. over_outer g.order x (meet_list g.order x z) (outer_of g.order x z) k b' mo) inner.0 ∙ r.3, r.4, omega arith)
over_inner_to g p x z y c sy nx ny kind a b a' b' f d (Some ms) mo inner outer = deep inner.0
  where
    inner-rises : IsRisingIn g.order (meet_list g.order x z)
    inner-rises = rising_list-rises g.order (meet (mem x) (mem z))

    -- the partition with the inner corner merged
    inner_same : Big g p (meet_list g.order x z) → merged (merged p (meet_list g.order x z)) x ≡ merged p x
    inner_same inner_big =
        let inner_corner = meet_list g.order x z in let rx = big_rest g p c.stage x c.first in
        let m = merged_inner g p x z c inner_big in
        let rxi = big_rest g (merged p inner_corner) m.0.stage x m.0.first in
        let back = rest_rest g.order x c.first.shore in
        ap (merged (merged p inner_corner)) (sym back) ∙ swallowed g p c.stage inner_corner (complement_of g.order x) inner_big rx rxi (inner_below g p x z c nx inner_big) (λ v wv h. mem-complement_of g.order x v wv ∙ ap not (in_x (mem x v) (mem z v) (sym (inner_mem g p x z c v wv) ∙ h))) ∙ ap (merged p) back
      where
        in_x : (a b : Bool) → (a && b) ≡ true → a ≡ true
        in_x a b h = grind arith

    apart : Apart g.order (mem (meet_list g.order x z)) (mem (outer_of g.order x z))
    apart v wv h = outer_mem g p x z c v wv ∙ bits (mem x v) (mem z v) (sym (inner_mem g p x z c v wv) ∙ h)
      where
        bits : (a b : Bool) → (a && b) ≡ true → not (a || b) ≡ false
        bits a b h = grind arith

    -- the outer corner there
    outer_moved : (inner_big : Big g p (meet_list g.order x z)) → (mo : Option (List PlainMove)) → OuterTurned g p x z b b' mo → OuterTurned g (merged p (meet_list g.order x z)) x z b b' mo
    outer_moved inner_big None out =
        let m = merged_inner g p x z c inner_big in (
          out.0,
          elim (outer_single_or_big g (merged p (meet_list g.order x z)) x z m.0) [
            | inl outer_big ↦ outer_big
            | inr outer_big ↦
                let n = same_number g p c.stage (meet_list g.order x z) (outer_of g.order x z) inner_big (o_tight g p x z c).union apart in
                let k = block_count-one g.order p c.stage.list.partition (mem (outer_of g.order x z)) out.1.0 out.1.1 in let q = outer_big.inside in
                absurd (omega arith)
          ],
        )
    outer_moved inner_big (Some mo) out =
        let l = c.left in (
          stays_big g p c.stage (meet_list g.order x z) (outer_of g.order x z) inner_big out.0 apart (l.0, l.1, inner_mem g p x z c l.0 l.1 ∙ and_right (mem x l.0) (mem z l.0) l.3, outer_mem g p x z c l.0 l.1 ∙ in_x (mem x l.0) (mem z l.0) l.2),
          out.1,
          out.2,
          out.3,
          subst (λ r. IsProperScript g r b mo (cut (outer_shore g.order (outer_of g.order x z)) out.1 out.2)) (sym (inner_same inner_big)) out.4,
          out.5,
        )
      where
        in_x : (a b : Bool) → a ≡ true → not (a || b) ≡ false
        in_x a b h = grind arith

    returned : (a' b' c' : Shape) → Big g p (meet_list g.order x z) → (k : Shape) × (l : Shape) × (rotate_result_at Merged (cut (meet_list g.order x z) a' (cut y b' c')) ≡ Some (cut y k l))
    returned a' b' c' inner_big = elim kind [
      | inl h ↦ (cut (meet_list g.order x z) a' b', c', rotate-inside (meet_list g.order x z) y a' b' c' (true_all_in (meet_list g.order x z) (mem y) (λ v k. let wv = (bounds inner-rises) v k in sym (h v wv) ∙ and_second (mem x v) (mem z v) (sym (inner_mem g p x z c v wv) ∙ k))))
      | inr h ↦
          let some = big_some g p c.stage (meet_list g.order x z) inner_big in
          let off : Apart g.order (mem (meet_list g.order x z)) (mem y) = λ v wv k. not_y (mem x v) (mem z v) (mem y v) (h v wv) (sym (inner_mem g p x z c v wv) ∙ k) in
          (b', cut (meet_list g.order x z) a' c', rotate-apart (meet_list g.order x z) y a' b' c' (all_in_false (meet_list g.order x z) (mem y) some.0 some.2 (off some.0 some.1 some.2)) (apart_test g.order (meet_list g.order x z) y inner-rises off))
    ]
      where
        not_y : (a b y : Bool) → b ≡ not y → (a && b) ≡ true → y ≡ false
        not_y a b y h k = grind arith

    deep : Big g p (meet_list g.order x z) → TurnedTo g p (cut x a b) y (3 * cut_count a + 3 * cut_count b + 1) (over_inner g.order x (meet_list g.order x z) (outer_of g.order x z) a' b' (Some ms) mo)
    deep inner_big =
        let inner_corner = meet_list g.order x z in let outer_corner = outer_of g.order x z in
        let e1 = inner.1 in let e2 = inner.2 in
        let w1 = script_kept g p x a b ms (cut inner_corner e1 e2) d f inner.4 in
        let w2 = script_then g p (cut x a b) (map (below Kept) ms) (cut x (cut inner_corner e1 e2) b) Kept (cut inner_corner e1 (cut x e2 b)) c.stage d f w1 refl in
        let q2 = script_end g p (cut x a b) _ (cut inner_corner e1 (cut x e2 b)) d f w2 in
        let m = merged_inner g p x z c inner_big in
        let r = over_outer_to g (merged p inner_corner) x z y m.0 sy nx ny kind m.1.0 m.1.1 e2 b b' q2.1.2 q2.0.2 mo (outer_moved inner_big mo outer) in
        let w3 = script_merged g p inner_corner e1 (cut x e2 b) r.0 (cut y r.1 r.2) q2.0 q2.1 r.4 in
        let back = returned e1 r.1 r.2 inner_big in
        let w4 = script_then g p (cut inner_corner e1 (cut x e2 b)) (map (below Merged) r.0) (cut inner_corner e1 (cut y r.1 r.2)) Merged (cut y back.0 back.1) c.stage q2.0 q2.1 w3 back.2 in
        let l1 = length_join (map (below Kept) ms ++ rotate_at (Kept ∷ []) ∷ []) (map (below Merged) r.0 ++ rotate_at (Merged ∷ []) ∷ []) in
        let l2 = length_join (map (below Kept) ms) (rotate_at (Kept ∷ []) ∷ []) in let l3 = length_join (map (below Merged) r.0) (rotate_at (Merged ∷ []) ∷ []) in
        let l4 = length_below Kept ms in let l5 = length_below Merged r.0 in let l6 = inner.5 in let l7 = r.5 in (
          (map (below Kept) ms ++ rotate_at (Kept ∷ []) ∷ []) ++ (map (below Merged) r.0 ++ rotate_at (Merged ∷ []) ∷ []),
          back.0,
          back.1,
          ap (λ k. over_inner g.order x inner_corner outer_corner k b' (Some ms) mo) inner.3
              ∙ ap (λ q. followed (map (below Kept) ms ++ rotate_at (Kept ∷ []) ∷ []) (option_and_then (λ w. raised_merged inner_corner e1 w) q)) r.3
              ∙ ap (followed (map (below Kept) ms ++ rotate_at (Kept ∷ []) ∷ [])) (raised_merged_is inner_corner e1 (cut y r.1 r.2) (cut y back.0 back.1) r.0 back.2),
          script_join g p (cut x a b) _ _ (cut inner_corner e1 (cut x e2 b)) (cut y back.0 back.1) w2 w4,
          omega arith,
        )
