-- The corners of two crossing shores x and y, in one form for both cases: z is y or its complement,
-- such that x and z have an odd number of blocks in common. The inner corner is x ∩ z, and the
-- outer corner is the complement of x ∪ z.
use Rattle.graph_core.proofs.from_counting.Common.{Bool, List, ap, ap₂, arith, false, inl, inr, length, not, subst, suc, sym, true, zero, ℕ, ◌&&◌, ◌||◌, ◌∙◌, ◌≡◌, ◌≤◌, ◌⊎◌, true≢false, and_left, and_right, only_one, mem-rising_list, rising_list-rises, and_implied, Within, is_odd, IsRisingIn, mem, complement, meet, minus, union}
use Rattle.graph_core.proofs.Common.{at_place, block_count_congr, block_count_parts, meet_tight_at, tight_congr, tight_rest, union_congr, union_meet, union_rest, union_tight_at, place_in, mem-complement_of, Apart, Below, alike_in, alike_up, block_count_new, block_count_outside, closed_apart, same_side, Graph, AreBlocks, complement_of, contracted, merged, place, IsTightAt, IsUnion, block_count, blocks_in}
use Rattle.tree_core.proofs.Common.{IsBlockOf, meet_list}
use Rattle.move_laws.proofs.BigShores.{Big, Stage, big_merge, big_rest, big_some, rest_rest, stage_merged}
use Rattle.move_laws.proofs.CarriedCuts.{some_of}
use Rattle.move_laws.proofs.NestedShores.{stays_big}
use Rattle.move_laws.specs.Common.{Corner, outer_of}

pub record Corners (g : Graph) (p : List (List ℕ)) (x z : List ℕ) : Type 0 where
  pub stage : Stage g p
  pub first : Big g p x
  pub second : Big g p z
  pub odd : is_odd (block_count p (meet (mem x) (mem z))) ≡ true
  pub left : (w : ℕ) × Within g.order w × (mem x w ≡ true) × (mem z w ≡ false)
  pub right : (w : ℕ) × Within g.order w × (mem x w ≡ false) × (mem z w ≡ true)

-- one block, or big
one_or_more : (k : ℕ) → is_odd k ≡ true → (k ≡ 1) ⊎ (3 ≤ k)
one_or_more zero h = absurd (true≢false (sym h))
one_or_more (suc zero) h = inl (omega arith)
one_or_more (suc (suc zero)) h = absurd (true≢false (sym h))
one_or_more (suc (suc (suc k))) h = inr (omega arith)

module _ (g : Graph) (p : List (List ℕ)) (x z : List ℕ) (c : Corners g p x z) where
  pp : AreBlocks g.order p
  pp = c.stage.list.partition

  pub inner_mem : (w : ℕ) → Within g.order w → mem (meet_list g.order x z) w ≡ (mem x w && mem z w)
  inner_mem w ww = mem-rising_list g.order (meet (mem x) (mem z)) w ww

  pub outer_mem : (w : ℕ) → Within g.order w → mem (outer_of g.order x z) w ≡ not (mem x w || mem z w)
  outer_mem w ww = mem-rising_list g.order (complement (union (mem x) (mem z))) w ww

  pub i_tight : IsTightAt g p (mem (meet_list g.order x z))
  i_tight = tight_congr g c.stage.graph p pp (meet (mem x) (mem z)) (mem (meet_list g.order x z)) (λ w ww. sym (inner_mem w ww)) (meet_tight_at g c.stage.graph p pp c.stage.covered (mem x) (mem z) c.first.tight c.second.tight c.odd)

  pub o_tight : IsTightAt g p (mem (outer_of g.order x z))
  o_tight = tight_congr g c.stage.graph p pp (complement (union (mem x) (mem z))) (mem (outer_of g.order x z)) (λ w ww. sym (outer_mem w ww))
      (tight_rest g c.stage.graph p pp (union (mem x) (mem z)) (union_tight_at g c.stage.graph p pp c.stage.covered (mem x) (mem z) c.first.tight c.second.tight c.odd))

  -- a tight shore apart from a big one is a block or big
  single_or_big : (s w : List ℕ) → IsRisingIn g.order s → IsTightAt g p (mem s) → Big g p w → Below g.order (mem w) (mem (complement_of g.order s)) → ((t : ℕ) × IsBlockOf g.order p (mem s) t) ⊎ Big g p s
  unfolding contracted
  single_or_big s w shore t bw b = elim (one_or_more (block_count p (mem s)) t.tight.odd) [
    | inl one ↦
        let r = some_of g.order p pp (mem s) t.union (omega arith) in
        inl (
          r.0,
          record {
            closed = t.union;
            within = r.1;
            holds = r.2;
            one = λ v wv h. only_one (length p) (blocks_in p (mem s)) one (place p v) (place p r.0) (place_in g.order p pp v wv).0 (place_in g.order p pp r.0 r.1).0
                (at_place g.order p pp (mem s) t.union v wv ∙ h) (at_place g.order p pp (mem s) t.union r.0 r.1 ∙ r.2);
          },
        )
    | inr more ↦
        let ur : IsUnion g.order p (mem (complement_of g.order s)) = union_congr g.order p pp (complement (mem s)) (mem (complement_of g.order s)) (λ v wv. sym (mem-complement_of g.order s v wv)) (union_rest g.order p pp (mem s) t.union) in
        let a = block_count_parts g.order p pp (mem (complement_of g.order s)) (mem w) ur bw.tight.union in
        let e = block_count_congr g.order p pp (meet (mem (complement_of g.order s)) (mem w)) (mem w) (λ v wv. and_implied (mem (complement_of g.order s) v) (mem w v) (b v wv)) (union_meet g.order p pp (mem (complement_of g.order s)) (mem w) ur bw.tight.union) in
        let i = bw.inside in
        inr (record { shore = shore; tight = t; inside = more; outside = omega arith })
  ]

  pub inner_single_or_big : ((t : ℕ) × IsBlockOf g.order p (mem (meet_list g.order x z)) t) ⊎ Big g p (meet_list g.order x z)
  inner_single_or_big = single_or_big (meet_list g.order x z) (complement_of g.order x) (rising_list-rises g.order (meet (mem x) (mem z))) i_tight (big_rest g p c.stage x c.first)
      (λ v wv h. mem-complement_of g.order (meet_list g.order x z) v wv ∙ ap not (inner_mem v wv) ∙ bits (mem x v) (mem z v) (sym (mem-complement_of g.order x v wv) ∙ h))
    where
      bits : (a b : Bool) → not a ≡ true → not (a && b) ≡ true
      bits a b h = grind arith

  pub outer_single_or_big : ((t : ℕ) × IsBlockOf g.order p (mem (outer_of g.order x z)) t) ⊎ Big g p (outer_of g.order x z)
  outer_single_or_big = single_or_big (outer_of g.order x z) x (rising_list-rises g.order (complement (union (mem x) (mem z)))) o_tight c.first
      (λ v wv h. mem-complement_of g.order (outer_of g.order x z) v wv ∙ ap not (outer_mem v wv) ∙ bits (mem x v) (mem z v) h)
    where
      bits : (a b : Bool) → a ≡ true → not (not (a || b)) ≡ true
      bits a b h = grind arith

  -- the inner corner merged
  pub merged_inner : Big g p (meet_list g.order x z) → Corners g (merged p (meet_list g.order x z)) x z × ((t : ℕ) × IsBlockOf g.order (merged p (meet_list g.order x z)) (mem (meet_list g.order x z)) t)
  merged_inner bi =
      let i = meet_list g.order x z in
      let r = merged p i in
      let st = stage_merged g p c.stage i bi in
      let mm = big_merge g p c.stage i bi in
      let so = big_some g p c.stage i bi in
      let stays : (w : List ℕ) → Big g p w → Below g.order (mem i) (mem w) → ((v : ℕ) × Within g.order v × (mem i v ≡ false) × (mem w v ≡ true)) → Big g r w = λ w bw b out.
      subst (Big g r) (rest_rest g.order w bw.shore) (big_rest g r st (complement_of g.order w) (stays_big g p c.stage i (complement_of g.order w) bi (big_rest g p c.stage w bw)
      (λ v wv h. mem-complement_of g.order w v wv ∙ ap not (b v wv h)) (out.0, out.1, out.2, mem-complement_of g.order w out.0 out.1 ∙ ap not out.3))) in
      let l = c.left in let ri = c.right in
      let side = same_side g.order p r (mem i) pp bi.tight.union mm in (
        record {
          stage = st;
          first = stays x c.first (λ v wv h. in_x (mem x v) (mem z v) (sym (inner_mem v wv) ∙ h)) (l.0, l.1, inner_mem l.0 l.1 ∙ and_right (mem x l.0) (mem z l.0) l.3, l.2);
          second = stays z c.second (λ v wv h. in_z (mem x v) (mem z v) (sym (inner_mem v wv) ∙ h)) (ri.0, ri.1, inner_mem ri.0 ri.1 ∙ and_left (mem x ri.0) (mem z ri.0) ri.2, ri.3);
          odd = ap is_odd (block_count_congr g.order r mm.partition (meet (mem x) (mem z)) (mem i) (λ v wv. sym (inner_mem v wv)) (union_congr g.order r mm.partition (mem i) (meet (mem x) (mem z)) inner_mem side) ∙ block_count_new g.order p r (mem i) pp bi.tight.union mm so);
          left = l;
          right = ri;
        },
        (so.0, record { closed = side; within = so.1; holds = so.2; one = λ v wv h. alike_in g.order p r (mem i) pp bi.tight.union mm v so.0 wv so.1 h so.2 }),
      )
    where
      in_x : (a b : Bool) → (a && b) ≡ true → a ≡ true
      in_x a b h = grind arith

      in_z : (a b : Bool) → (a && b) ≡ true → b ≡ true
      in_z a b h = grind arith

  -- the outer corner merged; a block stays one
  pub merged_outer : Big g p (outer_of g.order x z) → (s : ℕ) → IsBlockOf g.order p (mem (meet_list g.order x z)) s →
      Corners g (merged p (outer_of g.order x z)) x z × IsBlockOf g.order (merged p (outer_of g.order x z)) (mem (meet_list g.order x z)) s × ((t : ℕ) × IsBlockOf g.order (merged p (outer_of g.order x z)) (mem (outer_of g.order x z)) t)
  merged_outer bo s block =
      let o = outer_of g.order x z in
      let r = merged p o in
      let st = stage_merged g p c.stage o bo in
      let mm = big_merge g p c.stage o bo in
      let so = big_some g p c.stage o bo in
      let l = c.left in let ri = c.right in
      let off : Apart g.order (mem o) (meet (mem x) (mem z)) = λ v wv h. none_both (mem x v) (mem z v) (sym (outer_mem v wv) ∙ h) in
      let closed : IsUnion g.order r (meet (mem x) (mem z)) = closed_apart g.order p r (mem o) pp bo.tight.union mm (meet (mem x) (mem z)) (union_meet g.order p pp (mem x) (mem z) c.first.tight.union c.second.tight.union) off in (
        record {
          stage = st;
          first = stays_big g p c.stage o x bo c.first (λ v wv h. not_x (mem x v) (mem z v) (sym (outer_mem v wv) ∙ h)) (ri.0, ri.1, outer_mem ri.0 ri.1 ∙ in_z (mem x ri.0) (mem z ri.0) ri.3, ri.2);
          second = stays_big g p c.stage o z bo c.second (λ v wv h. not_z (mem x v) (mem z v) (sym (outer_mem v wv) ∙ h)) (l.0, l.1, outer_mem l.0 l.1 ∙ in_x (mem x l.0) (mem z l.0) l.2, l.3);
          odd = ap is_odd (block_count_outside g.order p r (mem o) pp bo.tight.union mm (meet (mem x) (mem z)) closed off) ∙ c.odd;
          left = l;
          right = ri;
        },
        record {
          closed = union_congr g.order r mm.partition (meet (mem x) (mem z)) (mem (meet_list g.order x z)) (λ v wv. sym (inner_mem v wv)) closed;
          within = block.within;
          holds = block.holds;
          one = λ v wv h. alike_up g.order p r (mem o) pp bo.tight.union mm v s wv block.within (block.one v wv h);
        },
        (so.0, record { closed = same_side g.order p r (mem o) pp bo.tight.union mm; within = so.1; holds = so.2; one = λ v wv h. alike_in g.order p r (mem o) pp bo.tight.union mm v so.0 wv so.1 h so.2 }),
      )
    where
      none_both : (a b : Bool) → not (a || b) ≡ true → (a && b) ≡ false
      none_both a b h = grind arith

      not_x : (a b : Bool) → not (a || b) ≡ true → a ≡ false
      not_x a b h = grind arith

      not_z : (a b : Bool) → not (a || b) ≡ true → b ≡ false
      not_z a b h = grind arith

      in_x : (a b : Bool) → a ≡ true → not (a || b) ≡ false
      in_x a b h = grind arith

      in_z : (a b : Bool) → b ≡ true → not (a || b) ≡ false
      in_z a b h = grind arith

  -- with and_implied corners single blocks the exchange law applies
  pub corner_of : (s t : ℕ) → IsBlockOf g.order p (mem (meet_list g.order x z)) s → IsBlockOf g.order p (mem (outer_of g.order x z)) t → Corner g p (mem x) (mem (meet_list g.order x z)) (mem (outer_of g.order x z)) s t
  corner_of s t bi bo = record {
    shore = c.first.tight;
    left = bi;
    right = bo;
    inside = λ v wv h. in_x (mem x v) (mem z v) (sym (inner_mem v wv) ∙ h);
    outside = λ v wv h. not_x (mem x v) (mem z v) (sym (outer_mem v wv) ∙ h);
    new = tight_congr g c.stage.graph p pp (mem z) (union (minus (complement (mem x)) (mem (outer_of g.order x z))) (mem (meet_list g.order x z)))
        (λ v wv. sym (ap₂ (λ a b. (not (mem x v) && not a) || b) (outer_mem v wv) (inner_mem v wv) ∙ bits (mem x v) (mem z v))) c.second.tight;
  }
    where
      bits : (a b : Bool) → ((not a && not (not (a || b))) || (a && b)) ≡ b
      bits a b = grind arith

      in_x : (a b : Bool) → (a && b) ≡ true → a ≡ true
      in_x a b h = grind arith

      not_x : (a b : Bool) → not (a || b) ≡ true → a ≡ false
      not_x a b h = grind arith
