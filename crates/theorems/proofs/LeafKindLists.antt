-- The kinds of a list of leaves, item by item.
-- Idea: each leaf has a kind, since its quotient is bipartite or not; two lists of kinds are
-- joined as their leaves are; and no kind is a brick if and only if each quotient is bipartite.
use Rattle.std.proofs.Common.{[], ◌≡◌, ◌∙◌, ℕ, zero, suc, ◌+◌, ◌-◌, ◌<◌, List, ◌∷◌, ◌++◌, All, length, get_or, not, cond, inl, inr, refl, sym, ap, ap₂, arith, subst, length-append, count_by}
use Rattle.tree_check.proofs.from_counting.Common.{sum_by-append, sum_by-cons, AllByRecursion, Within}
use Rattle.theorems.proofs.Quotients.{bipartite-or}
use Rattle.graph_core.proofs.Common.{quotient_graph, Graph, IsBipartite, IsGraph, IsPartition, quotient}
use Rattle.tree_core.proofs.Common.{AreLeafKinds, IsLeafKind, IsTally, is_brick, tally_of}
use Rattle.tree_core.specs.declared.tallies.LeafKind.{LeafKind}
use Rattle.tree_core.specs.declared.tallies.LeafKind.TheVariants.{Brick, Brace}
use Rattle.tree_core.specs.declared.tallies.Tally.{Tally}
use Rattle.theorems.specs.Derivations.{both}

-- the kinds of these leaves, item by item
abbrev pub KindsOf : Graph → List (List (List ℕ)) → List LeafKind → Type 0
KindsOf g [] [] = Unit {0}
KindsOf g [] (kind ∷ kinds) = ⊥
KindsOf g (p ∷ ps) [] = ⊥
KindsOf g (p ∷ ps) (kind ∷ kinds) = IsLeafKind g p kind × KindsOf g ps kinds

pub kinds-exist : (g : Graph) → IsGraph g → (ps : List (List (List ℕ))) → All (IsPartition g.order) ps → (kinds : List LeafKind) × KindsOf g ps kinds
kinds-exist g is [] all = ([], tt)
kinds-exist g is (p ∷ ps) all =
    let later = kinds-exist g is ps (λ k d less. all (suc k) d (omega arith)) in
    elim (bipartite-or (quotient g p) (quotient_graph g p is (all 0 p (omega arith)).partition)) [
      | inl sides ↦ (Brace ∷ later.0, (sides, later.1))
      | inr odd ↦ (Brick ∷ later.0, (odd, later.1))
    ]

-- the same by places
same-length : (g : Graph) (ps : List (List (List ℕ))) (kinds : List LeafKind) → KindsOf g ps kinds → length kinds ≡ length ps
same-length g [] [] are = refl
same-length g [] (kind ∷ kinds) are = absurd are
same-length g (p ∷ ps) [] are = absurd are
same-length g (p ∷ ps) (kind ∷ kinds) are = let l = same-length g ps kinds are.1 in omega arith

at-place : (g : Graph) (ps : List (List (List ℕ))) (kinds : List LeafKind) → KindsOf g ps kinds → (k : ℕ) → k < length ps → IsLeafKind g (get_or ps k []) (get_or kinds k Brick)
at-place g [] kinds are k less = absurd (omega arith)
at-place g (p ∷ ps) [] are k less = absurd are
at-place g (p ∷ ps) (kind ∷ kinds) are zero less = are.0
at-place g (p ∷ ps) (kind ∷ kinds) are (suc k) less = at-place g ps kinds are.1 k (omega arith)

pub kinds-by_place : (g : Graph) (ps : List (List (List ℕ))) (kinds : List LeafKind) → KindsOf g ps kinds → AreLeafKinds g ps kinds
kinds-by_place g ps kinds are = record { each_one = same-length g ps kinds are; right = λ i w. at-place g ps kinds are (i - 1) (omega arith) }

from-places : (g : Graph) (ps : List (List (List ℕ))) (kinds : List LeafKind) → length kinds ≡ length ps → ((k : ℕ) → k < length ps → IsLeafKind g (get_or ps k []) (get_or kinds k Brick)) → KindsOf g ps kinds
from-places g [] [] long at = tt
from-places g [] (kind ∷ kinds) long at = absurd (omega arith)
from-places g (p ∷ ps) [] long at = absurd (omega arith)
from-places g (p ∷ ps) (kind ∷ kinds) long at = (at 0 (omega arith), from-places g ps kinds (omega arith) (λ k less. at (suc k) (omega arith)))

pub kinds-in_order : (g : Graph) (ps : List (List (List ℕ))) (kinds : List LeafKind) → AreLeafKinds g ps kinds → KindsOf g ps kinds
kinds-in_order g ps kinds are = from-places g ps kinds are.each_one (λ k less.
    let back : suc k - 1 ≡ k = omega arith in
    let within : Within (length ps) (suc k) = (omega arith, omega arith) in
    subst (λ j. IsLeafKind g (get_or ps j []) (get_or kinds j Brick)) back (are.right (suc k) within))

-- joined lists
kinds-joined : (g : Graph) (ps qs : List (List (List ℕ))) (kinds others : List LeafKind) → KindsOf g ps kinds → KindsOf g qs others → KindsOf g (ps ++ qs) (kinds ++ others)
kinds-joined g [] qs [] others are more = more
kinds-joined g [] qs (kind ∷ kinds) others are more = absurd are
kinds-joined g (p ∷ ps) qs [] others are more = absurd are
kinds-joined g (p ∷ ps) qs (kind ∷ kinds) others are more = (are.0, kinds-joined g ps qs kinds others are.1 more)

tally-joined : (kinds others : List LeafKind) → tally_of (kinds ++ others) ≡ both (tally_of kinds) (tally_of others)
tally-joined kinds others = grind (arith, count_by, is_brick, length-append, length, sum_by-append, cond)

pub tallies-joined : (g : Graph) (ps qs : List (List (List ℕ))) (a b : Tally) → IsTally g ps a → IsTally g qs b → IsTally g (ps ++ qs) (both a b)
tallies-joined g ps qs a b one two = record {
  kinds = one.kinds ++ two.kinds;
  right = kinds-by_place g (ps ++ qs) (one.kinds ++ two.kinds) (kinds-joined g ps qs one.kinds two.kinds (kinds-in_order g ps one.kinds one.right) (kinds-in_order g qs two.kinds two.right));
  is = ap₂ both one.is two.is ∙ sym (tally-joined one.kinds two.kinds);
}

pub tally-exists : (g : Graph) → IsGraph g → (ps : List (List (List ℕ))) → All (IsPartition g.order) ps → (tally : Tally) × IsTally g ps tally
tally-exists g is ps all =
    let kinds = kinds-exist g is ps all in
    (tally_of kinds.0, record { kinds = kinds.0; right = kinds-by_place g ps kinds.0 kinds.1; is = refl })

-- one list of kinds, and one count
kinds-once : (g : Graph) (ps : List (List (List ℕ))) (kinds others : List LeafKind) → KindsOf g ps kinds → KindsOf g ps others → kinds ≡ others
kinds-once g [] [] [] are too = refl
kinds-once g [] [] (kind ∷ others) are too = absurd too
kinds-once g [] (kind ∷ kinds) others are too = absurd are
kinds-once g (p ∷ ps) [] others are too = absurd are
kinds-once g (p ∷ ps) (kind ∷ kinds) [] are too = absurd too
kinds-once g (p ∷ ps) (kind ∷ kinds) (other ∷ others) are too = grind (arith, kinds-once g ps kinds others are.1 too.1)

pub tally-once : (g : Graph) (ps : List (List (List ℕ))) (a b : Tally) → IsTally g ps a → IsTally g ps b → a ≡ b
tally-once g ps a b one two = one.is ∙ ap tally_of (kinds-once g ps one.kinds two.kinds (kinds-in_order g ps one.kinds one.right) (kinds-in_order g ps two.kinds two.right)) ∙ sym two.is

pub one-tally : (g : Graph) (p : List (List ℕ)) (kind : LeafKind) → IsLeafKind g p kind → IsTally g (p ∷ []) (tally_of (kind ∷ []))
one-tally g p kind is = record { kinds = kind ∷ []; right = kinds-by_place g (p ∷ []) (kind ∷ []) (is, tt); is = refl }

-- each leaf is a brick or a brace
parts-sum : (kinds : List LeafKind) → count_by is_brick kinds + count_by (λ kind. not (is_brick kind)) kinds ≡ length kinds
parts-sum [] = refl
parts-sum (kind ∷ kinds) =
    let a = sum_by-cons (λ kind. cond (is_brick kind) 1 0) kind kinds in
    let b = sum_by-cons (λ kind. cond (not (is_brick kind)) 1 0) kind kinds in
    let c = parts-sum kinds in
    let d = one kind in
    omega arith
  where
    one : (kind : LeafKind) → cond (is_brick kind) 1 0 + cond (not (is_brick kind)) 1 0 ≡ 1
    one Brick = refl
    one Brace = refl

pub tally-sum : (g : Graph) (ps : List (List (List ℕ))) (tally : Tally) → IsTally g ps tally → (tally.bricks + tally.braces ≡ tally.leaves) × (tally.leaves ≡ length ps)
tally-sum g ps tally counts = grind (arith, parts-sum)

-- no brick
abbrev pub HasSides : Graph → List (List ℕ) → Type 0
HasSides g p = IsBipartite (quotient g p)

pub sides-from_count : (g : Graph) (ps : List (List (List ℕ))) (kinds : List LeafKind) → KindsOf g ps kinds → count_by is_brick kinds ≡ 0 → AllByRecursion (HasSides g) ps
sides-from_count g [] kinds are none = tt
sides-from_count g (p ∷ ps) [] are none = absurd are
sides-from_count g (p ∷ ps) (Brick ∷ kinds) are none = let a = sum_by-cons (λ kind. cond (is_brick kind) 1 0) Brick kinds in absurd (omega arith)
sides-from_count g (p ∷ ps) (Brace ∷ kinds) are none = let a = sum_by-cons (λ kind. cond (is_brick kind) 1 0) Brace kinds in (are.0, sides-from_count g ps kinds are.1 (omega arith))

pub count-from_sides : (g : Graph) (ps : List (List (List ℕ))) (kinds : List LeafKind) → KindsOf g ps kinds → AllByRecursion (HasSides g) ps → count_by is_brick kinds ≡ 0
count-from_sides g [] [] are all = refl
count-from_sides g [] (kind ∷ kinds) are all = absurd are
count-from_sides g (p ∷ ps) [] are all = absurd are
count-from_sides g (p ∷ ps) (Brick ∷ kinds) are all = absurd (are.0 all.0)
count-from_sides g (p ∷ ps) (Brace ∷ kinds) are all = let a = sum_by-cons (λ kind. cond (is_brick kind) 1 0) Brace kinds in let b = count-from_sides g ps kinds are.1 all.1 in omega arith

pub all-joined : {A : Type 0} (P : A → Type 0) (xs ys : List A) → AllByRecursion P xs → AllByRecursion P ys → AllByRecursion P (xs ++ ys)
all-joined {A} P [] ys all more = more
all-joined {A} P (x ∷ xs) ys all more = (all.0, all-joined P xs ys all.1 more)

pub all-separated : {A : Type 0} (P : A → Type 0) (xs ys : List A) → AllByRecursion P (xs ++ ys) → AllByRecursion P xs × AllByRecursion P ys
all-separated {A} P [] ys all = (tt, all)
all-separated {A} P (x ∷ xs) ys all = let later = all-separated P xs ys all.1 in ((all.0, later.0), later.1)
