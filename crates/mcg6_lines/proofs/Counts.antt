-- Each two derivations of a graph have as many leaves, as many bricks and as many braces, since
-- their leaves are paired (Lovász 1987).
use Rattle.allowed_edges.proofs.from_counting.Common.{List, [], ap, arith, get_or, inl, inr, length, not, subst, sym, ℕ, ◌-◌, ◌==◌, ◌∙◌, ◌≡◌, count_by, Within, count}
use Rattle.graph_core.proofs.Common.{Graph, IsGraph}
use Rattle.tree_core.proofs.Common.{partitions-leaves, IsDerivation, PlainLeafMap, leaf_at, map_at, leaves, Shape, AreLeafKinds, is_brick, kind_at, tally_of}
use Rattle.move_laws.proofs.Uniqueness.{pairing_law}
use Rattle.move_laws.specs.Common.{IsPairing}
use Rattle.tree_core.specs.declared.tallies.LeafKind.{LeafKind}
use Rattle.tree_core.specs.declared.tallies.LeafKind.TheVariants.{Brick}
use Rattle.tree_core.specs.declared.tallies.Tally.{Tally}
use Rattle.mcg6_lines.specs.Selecting.{HasProperty, LacksProperty}
use Rattle.mcg6_lines.specs.Standings.{IsCounted}
use Rattle.mcg6_lines.specs.declared.query.Property.{Property}
use Rattle.mcg6_lines.specs.declared.query.Property.TheVariants as property
use Rattle.mcg6_lines.specs.declared.query.Property.TheVariants.{Covered, Uncovered, Perfect, Brace, Bicritical, Composite, Bricks, Braces}
use Rattle.mcg6_lines.proofs.PairedCounts.{paired_length, paired_tests}
use Rattle.mcg6_lines.proofs.SameKinds.{same_kind}

module _ (g : Graph) (is : IsGraph g) (s t : Shape) (ds : IsDerivation g s) (dt : IsDerivation g t) (maps : List PlainLeafMap) (pairs : IsPairing g (leaves g.order s) (leaves g.order t) maps)
    (ks ls : List LeafKind) (firsts : AreLeafKinds g (leaves g.order s) ks) (seconds : AreLeafKinds g (leaves g.order t) ls) where
  to : ℕ → ℕ
  to i = (map_at maps i).to

  within : (i : ℕ) → Within (length ks) i → Within (length ls) (to i)
  unfolding to
  within i w =
      let a = firsts.each_one in let b = seconds.each_one in
      subst (λ n. Within n (map_at maps i).to) (sym b) (pairs.within i (subst (λ n. Within n i) a w))

  once : (j : ℕ) → Within (length ls) j → count (length ks) (λ i. to i == j) ≡ 1
  unfolding to
  once j w =
      subst (λ n. count n (λ i. (map_at maps i).to == j) ≡ 1) (sym firsts.each_one) (pairs.once j (subst (λ n. Within n j) seconds.each_one w))

  same : (i : ℕ) → Within (length ks) i → get_or ks (i - 1) Brick ≡ get_or ls (to i - 1) Brick
  unfolding to
  same i w =
      let a = firsts.each_one in let b = seconds.each_one in
      let wp : Within (length (leaves g.order s)) i = subst (λ n. Within n i) a w in
      let wq = pairs.within i wp in
      let j = (map_at maps i).to in
      same_kind g is (leaf_at (leaves g.order s) i) (leaf_at (leaves g.order t) j) (map_at maps i).images
      (partitions-leaves g s ds (i - 1) [] (omega arith)) (partitions-leaves g t dt (j - 1) [] (omega arith)) (pairs.same i wp)
      (kind_at ks i) (kind_at ls j) (firsts.right i wp) (seconds.right j wq)

  pub same_tallies : tally_of ks ≡ tally_of ls
  same_tallies =
      ap (λ n. record { leaves = n; bricks = count_by is_brick ks; braces = count_by (λ kind. not (is_brick kind)) ks }) (paired_length (length ks) (length ls) to within once)
      ∙ ap (λ n. record { leaves = length ls; bricks = n; braces = count_by (λ kind. not (is_brick kind)) ks }) (paired_tests is_brick ks ls Brick to within once same)
      ∙ ap (λ n. record { leaves = length ls; bricks = count_by is_brick ls; braces = n }) (paired_tests (λ kind. not (is_brick kind)) ks ls Brick to within once same)

pub same_counts : (g : Graph) (s t : Tally) → IsGraph g → IsCounted g s → IsCounted g t → s ≡ t
same_counts g s t is a b = grind (arith, pairing_law g a.tree b.tree is a.derivation b.derivation, same_tallies g is a.tree b.tree a.derivation b.derivation)

-- a graph that lacks a property has it not
pub lacks_none : (g : Graph) (property : Property) → IsGraph g → LacksProperty g property → HasProperty g property → ⊥
lacks_none g Covered is lacks has = lacks has
lacks_none g Uncovered is lacks has = lacks has
lacks_none g Perfect is lacks has = lacks has
lacks_none g property.Brick is lacks has = lacks has
lacks_none g Brace is lacks has = lacks has
lacks_none g Bicritical is lacks has = lacks has
lacks_none g Composite is lacks has = lacks has
lacks_none g (Bricks count) is (inl uncovered) has = uncovered has.1.derivation.covered
lacks_none g (Bricks count) is (inr other) has = other.2 (ap (λ (tally : Tally). tally.bricks) (same_counts g other.0 has.0 is other.1 has.1) ∙ has.2)
lacks_none g (Braces count) is (inl uncovered) has = uncovered has.1.derivation.covered
lacks_none g (Braces count) is (inr other) has = other.2 (ap (λ (tally : Tally). tally.braces) (same_counts g other.0 has.0 is other.1 has.1) ∙ has.2)
