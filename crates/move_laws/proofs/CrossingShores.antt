-- Exposing a shore that crosses the root shore: the inner and the outer corner are exposed first
-- unless they are single blocks, a Switch exchanges them, and Rotate brings the shore back above
-- both.
use Rattle.graph_core.proofs.from_counting.Common.{Bool, List, None, Some, ap, arith, cond, false, if◌then◌else◌, inl, inr, not, refl, sym, true, ℕ, ◌&&◌, ◌∙◌, ◌≡◌, Option, odd-add, Within, is_odd, IsRisingIn, mem, meet, minus}
use Rattle.graph_core.proofs.Common.{block_count_congr, block_count_parts, union_minus, mem-complement_of, Graph, complement_of, contracted, block_count}
use Rattle.tree_core.proofs.Common.{IsDerivationAt, kept_at, merged_at, PlainMove, meet_list, Shape, cut}
use Rattle.move_laws.proofs.BigShores.{Big, Stage, big_rest, big_some, cut_big, stage_merged}
use Rattle.move_laws.proofs.CornerSwitch.{Kind}
use Rattle.move_laws.proofs.Corners.{Corners, inner_single_or_big, outer_single_or_big}
use Rattle.move_laws.proofs.NestedShores.{Cross, Crossed, Exposed, Exposes}
use Rattle.move_laws.proofs.OverInnerCorner.{InnerTurned, inner_below, inner_canonical, outer_shore_big, over_inner_to}
use Rattle.move_laws.proofs.OverOuterCorner.{OuterTurned}
use Rattle.move_laws.specs.Common.{outer_of, outer_shore, partner, AreRising}

-- the two corners exposed where they are big, and then over both
over_inner_found : (g : Graph) (p : List (List ℕ)) (x z y : List ℕ) (c : Corners g p x z) → IsRisingIn g.order y → mem x g.order ≡ false → mem y g.order ≡ false → Kind g.order y z →
    (a b : Shape) → AreRising g.order (cut x a b) → IsDerivationAt g p (cut x a b) → Exposes g a → Exposes g b → Exposed g p (cut x a b) y
over_inner_found g p x z y c sy nx ny kind a b f d ia ib =
    let i = inner in let o = outer in
    let r = over_inner_to g p x z y c sy nx ny kind a b i.0 o.0 f d i.1 o.1 i.2 o.2 in let l = r.5 in
    (r.0, r.1, r.2, r.4, omega arith)
  where
    inner : (a' : Shape) × (mi : Option (List PlainMove)) × InnerTurned g p x z a a' mi
    inner = elim (inner_single_or_big g p x z c) [
      | inl bi ↦ (a, None, (refl, bi))
      | inr bi ↦
          let e = ia (kept_at g.order p x) (meet_list g.order x z) (stage_merged g p c.stage (complement_of g.order x) (big_rest g p c.stage x c.first)) f.1 d.1 (inner_below g p x z c nx bi) (inner_canonical g p x z c nx) in
          (cut (meet_list g.order x z) e.1 e.2, Some e.0, (bi, e.1, e.2, refl, e.3, e.4))
    ]

    outer : (b' : Shape) × (mo : Option (List PlainMove)) × OuterTurned g p x z b b' mo
    outer = elim (outer_single_or_big g p x z c) [
      | inl bo ↦ (b, None, (refl, bo))
      | inr bo ↦
          let s = outer_shore_big g p x z c nx bo in
          let e = ib (merged_at g.order p x) (outer_shore g.order (outer_of g.order x z)) (stage_merged g p c.stage x c.first) f.2 d.2 s.0 s.1 in
          (cut (outer_shore g.order (outer_of g.order x z)) e.1 e.2, Some e.0, (bo, e.1, e.2, refl, e.3, e.4))
    ]

-- the corners of two crossing shores
pub corners_of : (g : Graph) (p : List (List ℕ)) (st : Stage g p) (x y : List ℕ) → Big g p x → Big g p y → mem x g.order ≡ false → mem y g.order ≡ false → Cross g.order (mem x) (mem y) → Corners g p x (partner g.order p x y) × Kind g.order y (partner g.order p x y)
unfolding contracted
corners_of g p st x y bx by nx ny cross = go (is_odd (block_count p (meet (mem x) (mem y)))) refl
  where
    lastn : Within g.order g.order
    lastn = let r = big_some g p st x bx in let w = r.1 in (omega arith, omega arith)

    go : (k : Bool) → is_odd (block_count p (meet (mem x) (mem y))) ≡ k → Corners g p x (if k then y else complement_of g.order y) × Kind g.order y (if k then y else complement_of g.order y)
    go true h = (record { stage = st; first = bx; second = by; odd = h; left = cross.left; right = cross.right }, inl (λ v w. refl))
    go false h =
        let m = cross.meet in
        let n = block_count_parts g.order p st.list.partition (mem x) (mem y) bx.tight.union by.tight.union in
        let e = block_count_congr g.order p st.list.partition (minus (mem x) (mem y)) (meet (mem x) (mem (complement_of g.order y))) (λ v w. ap (λ k. mem x v && k) (sym (mem-complement_of g.order y v w))) (union_minus g.order p st.list.partition (mem x) (mem y) bx.tight.union by.tight.union) in
        let o = bits (is_odd (block_count p (meet (mem x) (mem y)))) (is_odd (block_count p (minus (mem x) (mem y)))) h (sym (odd-add (block_count p (meet (mem x) (mem y))) (block_count p (minus (mem x) (mem y)))) ∙ ap is_odd (sym n) ∙ bx.tight.tight.odd) in (
          record {
            stage = st;
            first = bx;
            second = big_rest g p st y by;
            odd = ap is_odd (sym e) ∙ o;
            left = (m.0, m.1, m.2, mem-complement_of g.order y m.0 m.1 ∙ ap not m.3);
            right = (g.order, lastn, nx, mem-complement_of g.order y g.order lastn ∙ ap not ny);
          },
          inr (λ v w. mem-complement_of g.order y v w),
        )
      where
        bits : (a b : Bool) → a ≡ false → cond a (not b) b ≡ true → b ≡ true
        bits a b h k = grind arith

pub crossed : (g : Graph) → Crossed g
crossed g p st x a b f d y by ny cross ia ib =
    let c = corners_of g p st x y (cut_big g p st x f.0 d.0) by d.0.canonical ny cross in
    over_inner_found g p x (partner g.order p x y) y c.0 by.shore d.0.canonical ny c.1 a b f d ia ib
