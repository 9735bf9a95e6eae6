-- A Switch at the end of its path. The two sets are blocks if they are unions that count one block
-- each, and then the law of the Switch says that its result is a derivation if its shore is a cut.
use Rattle.graph_core.proofs.from_counting.Common.{◌≡◌, ℕ, List, [], ◌∷◌, length, ◌∙◌, arith, only_one, Set}
use Rattle.move_laws.proofs.from_contraction.QuotientLaws.{covered_down}
use Rattle.graph_core.proofs.Common.{at_place, place_in, IsCovered, Graph, IsGraph, AreBlocks, IsPartition, place, quotient, IsUnion, block_count, blocks_in}
use Rattle.move_laws.proofs.CarriedCuts.{some_of}
use Rattle.move_laws.proofs.MoveParts.{switch_derives_law}
use Rattle.tree_core.proofs.Common.{IsCutAt, IsDerivationAt, IsBlockOf, kept_at, merged_at, Shape, cut}
use Rattle.tree_core.specs.declared.path.Side.{Side}
use Rattle.tree_core.specs.declared.path.Side.TheVariants.{Kept, Merged}
use Rattle.tree_check.specs.Common.{IsBlock, IsSwitchOfDerivation}

-- a union of blocks that counts one is a block
pub block-of_one : (n : ℕ) (p : List (List ℕ)) → AreBlocks n p → (u : Set) → IsUnion n p u → block_count p u ≡ 1 → (s : ℕ) × IsBlockOf n p u s
block-of_one n p pp u union one =
    let r = some_of n p pp u union (omega (arith, one)) in (
      r.0,
      record {
        closed = union;
        within = r.1;
        holds = r.2;
        one = λ v w h. only_one (length p) (blocks_in p u) one (place p v) (place p r.0) (place_in n p pp v w).0 (place_in n p pp r.0 r.1).0
            (at_place n p pp u union v w ∙ h) (at_place n p pp u union r.0 r.1 ∙ r.2);
      },
    )

-- a Switch at its node
pub switched-here : (g : Graph) (p : List (List ℕ)) (path : List Side) (u v : List ℕ) (t : Shape) (z : List ℕ) (a b : Shape) → IsGraph g → IsPartition g.order p → IsCovered (quotient g p) → length path ≡ 0 → t ≡ cut z a b → IsSwitchOfDerivation g p path u v t →
    IsBlock g.order p u × IsBlock g.order p v × IsCutAt g p z → IsDerivationAt g p t
switched-here g p (side ∷ path) u v t z a b is pp covered here is_t made found = absurd (omega arith)
switched-here g p [] u v t z a b is pp covered here is_t made found = grind (arith, switch_derives_law, covered_down)

-- a Switch below a cut
module _ (g : Graph) (p : List (List ℕ)) (path : List Side) (u v x : List ℕ) (k m : Shape) where
  pub switched-kept : IsSwitchOfDerivation g p (Kept ∷ path) u v (cut x k m) → IsSwitchOfDerivation g (kept_at g.order p x) path u v k
  switched-kept made = grind arith

  pub switched-merged : IsSwitchOfDerivation g p (Merged ∷ path) u v (cut x k m) → IsSwitchOfDerivation g (merged_at g.order p x) path u v m
  switched-merged made = grind arith
