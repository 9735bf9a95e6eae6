-- Carrying there and back: a tree whose shores are canonical unions of blocks is carried back to
-- itself, so what is carried to a derivation was one.
use Rattle.graph_core.proofs.from_counting.Common.{◌≡◌, ℕ, ◌-◌, Bool, true, false, not, List, refl, ap, ◌∙◌, arith, subst, mem-within, member-of_set, mem-outside, mem-rising_list, rising_list-rises, same_rising_list, not_not, Within, IsRisingIn, mem, rising_list}
use Rattle.graph_core.proofs.Common.{complement_of-rises, union-complement_of, closed_up, merged_merges, Graph, IsGraph, AreBlocks, IsPartition, complement_of, IsUnion}
use Rattle.tree_core.proofs.Common.{partition-kept, partition-merged, complement-nonempty, IsDerivationAt, kept_at, merged_at, StandsAt, Fits, Shape, cut, leaf}
use Rattle.move_laws.proofs.CarriedTrees.{carried_derives}
use Rattle.move_laws.proofs.Images.{turned}
use Rattle.move_laws.proofs.Rising.{rising-derivation_at}
use Rattle.move_laws.proofs.Switches.{Each, each_up, same_cut}
use Rattle.move_laws.specs.Common.{Isomorphism, carry, carry_cut, AreRising}

-- at the node of each shore of a tree, the shore is a canonical union of blocks of the partition at
-- its root, and an increasing list
each-stands : (n : ℕ) (p : List (List ℕ)) (t : Shape) → IsPartition n p → Fits n t → StandsAt n p t → Each n p t × AreRising n t
each-stands n p leaf pp fits stands = (tt, tt)
each-stands n p (cut x k m) pp fits stands =
    let rest = complement_of n x in
    let inside = member-of_set n x stands.0 stands.1 in
    let outside = member-of_set n rest (complement_of-rises n x) (complement-nonempty n x stands.0 stands.1 fits.0) in
    let union_of_rest = union-complement_of n p x stands.2 in
    let kept = each-stands n (kept_at n p x) k (partition-kept n p x pp stands.0 stands.1 fits.0 stands.2) fits.1 stands.3 in
    let merged = each-stands n (merged_at n p x) m (partition-merged n p x pp stands.0 stands.1 stands.2) fits.2 stands.4 in (
      (
        mem-outside (n - 1) x (record { rising = stands.0.rising; within = fits.0 }) n (λ w. omega (arith, w)),
        stands.2,
        each_up n p (kept_at n p x) (closed_up n p (kept_at n p x) (mem rest) pp.partition union_of_rest (merged_merges n p rest pp.partition union_of_rest outside (mem-within n rest (complement_of-rises n x)))) k kept.0,
        each_up n p (merged_at n p x) (closed_up n p (merged_at n p x) (mem x) pp.partition stands.2 (merged_merges n p x pp.partition stands.2 inside (mem-within n x stands.0))) m merged.0,
      ),
      (stands.0, kept.1, merged.1),
    )

module _ (g : Graph) (p q : List (List ℕ)) (h k : ℕ → ℕ) (iso : Isomorphism g p q h k) (last : Within g.order g.order) where
  -- a union of blocks holds what the maps bring back
  same_side : (x : List ℕ) → IsUnion g.order p (mem x) → (v : ℕ) → Within g.order v → mem x (k (h v)) ≡ mem x v
  same_side x union v w = union (k (h v)) v (iso.back.within (h v) (iso.there.within v w)) w (iso.there.again v w)

  -- a node of which both trees are carried back to themselves
  twice_node : (x : List ℕ) (a b : Shape) → IsRisingIn g.order x → mem x g.order ≡ false → IsUnion g.order p (mem x) → carry g.order h (carry g.order k a) ≡ a → carry g.order h (carry g.order k b) ≡ b →
      carry g.order h (carry g.order k (cut x a b)) ≡ cut x a b
  twice_node x a b rises canonical union same_a same_b = go (mem x (k g.order))
    where
      y : List ℕ
      y = rising_list g.order (λ v. mem x (k v))

      y-mem : (v : ℕ) → Within g.order v → mem y (h v) ≡ mem x v
      y-mem v w = mem-rising_list g.order (λ v. mem x (k v)) (h v) (iso.there.within v w) ∙ same_side x union v w

      z : List ℕ
      z = rising_list g.order (λ v. not (mem x (k v)))

      z-mem : (v : ℕ) → Within g.order v → mem z (h v) ≡ not (mem x v)
      z-mem v w = mem-rising_list g.order (λ v. not (mem x (k v))) (h v) (iso.there.within v w) ∙ ap not (same_side x union v w)

      go : (s : Bool) → carry g.order h (carry_cut g.order k x s (carry g.order k a) (carry g.order k b)) ≡ cut x a b
      go false =
          ap (λ s. carry_cut g.order h y s (carry g.order h (carry g.order k a)) (carry g.order h (carry g.order k b))) (y-mem g.order last ∙ canonical)
          ∙ same_cut (same_rising_list g.order (rising_list g.order (λ v. mem y (h v))) x (rising_list-rises g.order (λ v. mem y (h v))) rises (λ v w. mem-rising_list g.order (λ v. mem y (h v)) v w ∙ y-mem v w))
          same_a same_b
      go true =
          ap (λ s. carry_cut g.order h z s (carry g.order h (carry g.order k b)) (carry g.order h (carry g.order k a))) (z-mem g.order last ∙ ap not canonical)
          ∙ same_cut (same_rising_list g.order (rising_list g.order (λ v. not (mem z (h v)))) x (rising_list-rises g.order (λ v. not (mem z (h v)))) rises
          (λ v w. mem-rising_list g.order (λ v. not (mem z (h v))) v w ∙ ap not (z-mem v w) ∙ not_not (mem x v)))
          same_a same_b

  twice_at : (t : Shape) → AreRising g.order t → Each g.order p t → carry g.order h (carry g.order k t) ≡ t
  twice_at leaf rises each = refl
  twice_at (cut x a b) rises each = twice_node x a b rises.0 each.0 each.1 (twice_at a rises.1 each.2) (twice_at b rises.2 each.3)

-- a tree whose shores are unions of blocks at p is carried back to itself
pub carried_twice : (g : Graph) (p q : List (List ℕ)) (h k : ℕ → ℕ) → Isomorphism g p q h k → IsPartition g.order p → (t : Shape) → Fits g.order t → StandsAt g.order p t → carry g.order h (carry g.order k t) ≡ t
carried_twice g p q h k iso pp leaf fits stands = refl
carried_twice g p q h k iso pp (cut x a b) fits stands =
    let each = each-stands g.order p (cut x a b) pp fits stands in
    let some = member-of_set g.order x stands.0 stands.1 in
    let within = some.1 in
    twice_at g p q h k iso (omega arith, omega arith) (cut x a b) each.1 each.0

-- so a tree that is carried to a derivation was one
pub carried_back : (g : Graph) → IsGraph g → (p q : List (List ℕ)) (h k : ℕ → ℕ) → Isomorphism g p q h k → IsPartition g.order p → AreBlocks g.order q → (t : Shape) → Fits g.order t → StandsAt g.order p t →
    IsDerivationAt g q (carry g.order k t) → IsDerivationAt g p t
carried_back g is p q h k iso pp qp t fits stands derives =
    subst (IsDerivationAt g p) (carried_twice g p q h k iso pp t fits stands)
    (carried_derives g is k h (carry g.order k t) q p qp pp.partition (turned g p q h k iso) (rising-derivation_at g q (carry g.order k t) derives) derives)
