-- The kinds of the leaves of two lists, one after the other, and of one leaf. What stands at a
-- place of the first list stays, and what stands after it comes from the second.
use Rattle.graph_core.proofs.from_counting.Common.{◌≡◌, ℕ, ◌-◌, List, [], ◌∷◌, ◌++◌, length, ap, ◌∙◌, inl, inr, arith, get_or-append, get_or-append_right, cases_lt, length-append}
use Rattle.graph_core.proofs.Common.{Graph}
use Rattle.tree_core.specs.Common.{AreLeafKinds, IsLeafKind}
use Rattle.tree_core.specs.declared.tallies.LeafKind.{LeafKind}
use Rattle.tree_core.specs.declared.tallies.LeafKind.TheVariants.{Brick}

-- the kinds of one leaf
pub kinds-one : (g : Graph) (p : List (List ℕ)) (kind : LeafKind) → IsLeafKind g p kind → AreLeafKinds g (p ∷ []) (kind ∷ [])
kinds-one g p kind is = grind arith

-- the kinds of the leaves of two lists
pub kinds-both : (g : Graph) (ps qs : List (List (List ℕ))) (ks ls : List LeafKind) → AreLeafKinds g ps ks → AreLeafKinds g qs ls → AreLeafKinds g (ps ++ qs) (ks ++ ls)
kinds-both g ps qs ks ls a b = record {
  each_one = length-append ks ls ∙ (let x = a.each_one in let y = b.each_one in let z = length-append ps qs in omega arith);
  right = λ i w. elim (cases_lt (i - 1) (length ps)) [
    | inl l ↦ grind (arith, get_or-append ps qs, get_or-append ks ls Brick (i - 1))
    | inr l ↦
        let z = length-append ps qs in
        let x = a.each_one in
        let same : i - 1 - length ks ≡ i - 1 - length ps = ap (λ (n : ℕ). i - 1 - n) x in
        let turned : i - length ps - 1 ≡ i - 1 - length ps = omega arith in
        grind (arith, get_or-append_right ps qs (i - 1), get_or-append_right ks ls (i - 1) Brick)
  ];
}
