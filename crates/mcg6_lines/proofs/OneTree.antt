-- How many trees can an order pick? One: at each node it picks one place, and there stands one
-- candidate. The kinds of the leaves are determined, since a quotient is bipartite or not, and so
-- are their counts.
use Rattle.allowed_edges.proofs.from_counting.Common.{◌≡◌, ◌∙◌, ℕ, ◌+◌, ◌-◌, ◌<◌, List, length, map, Option, Some, None, refl, sym, subst, ap, arith, slice_get, option_map, suc, get_or, ext_get_or, slice_get-map, cases_lt, length-map, none-some, Within}
use Rattle.graph_core.proofs.Common.{Graph}
use Rattle.leaf_kinds.specs.from_tight_cuts.Common.{Candidate, candidates_at, candidate_of}
use Rattle.leaf_kinds.specs.from_tight_cuts.declared.candidate.Candidate.{Candidate as StoredCandidate}
use Rattle.decomposer.specs.Common.{PicksBalanced, gap, IsPickedAt, PicksShore, NamedPicks, ScriptPicks}
use Rattle.tree_core.proofs.Common.{kept_at, merged_at, leaf_at, Shape, leaf, cut, cut_count, AreLeafKinds, IsLeafKind, IsTally, kind_at, tally_of}
use Rattle.tree_core.specs.declared.tallies.LeafKind.{LeafKind}
use Rattle.tree_core.specs.declared.tallies.LeafKind.TheVariants.{Brick, Brace}
use Rattle.tree_core.specs.declared.tallies.Tally.{Tally}
use Rattle.decomposer.specs.declared.orders.NamedOrder.{NamedOrder}
use Rattle.decomposer.specs.declared.orders.NamedOrder.TheVariants.{First, Last, Balanced}

-- an order that picks one place
abbrev pub PicksOnce : (List Candidate → ℕ → ℕ → Type 0) → Type 0
PicksOnce picks = (list : List Candidate) (k a b : ℕ) → picks list k a → picks list k b → a ≡ b

-- how far the sides of a candidate differ
abbrev gap_in : Option Candidate → ℕ
gap_in None = 0
gap_in (Some c) = (c.inside - c.outside) + (c.outside - c.inside)

gap-seen : (stored : List StoredCandidate) (i : ℕ) → gap stored i ≡ gap_in (slice_get (map candidate_of stored) i)
gap-seen stored i = grind (arith, slice_get-map, option_map)

-- the first place whose sides differ least is one
gap-same : (list : List Candidate) (a b : ℕ) (one : PicksBalanced list a) (two : PicksBalanced list b) → (i : ℕ) → gap one.stored i ≡ gap two.stored i
gap-same list a b one two i = gap-seen one.stored i ∙ ap (λ (l : List Candidate). gap_in (slice_get l i)) (one.shows ∙ sym two.shows) ∙ sym (gap-seen two.stored i)

balanced-later : (list : List Candidate) (a b : ℕ) → PicksBalanced list a → PicksBalanced list b → a < b → ⊥
balanced-later list a b one two before = grind (arith, length-map one.stored candidate_of, length-map two.stored candidate_of, gap-same list a b one two a, gap-same list a b one two b)

balanced-once : PicksOnce (λ list k place. PicksBalanced list place)
balanced-once list k a b one two = grind (arith, cases_lt a b, balanced-later list a b one two, cases_lt b a, balanced-later list b a two one)

pub named-once : (order : NamedOrder) → PicksOnce (NamedPicks order)
named-once First list k a b one two = one ∙ sym two
named-once Last list k a b one two = one ∙ sym two
named-once Balanced list k a b one two = balanced-once list k a b one two

pub script-once : (picks : List ℕ) → PicksOnce (ScriptPicks picks)
script-once picks list k a b one two = one ∙ sym two

-- such an order picks one tree
abbrev shore_in : Candidate → List ℕ
shore_in c = c.shore

module _ (picks : List Candidate → ℕ → ℕ → Type 0) (once : PicksOnce picks) where
  shore-once : (list : List Candidate) (k : ℕ) (x y : List ℕ) → PicksShore picks list k x → PicksShore picks list k y → x ≡ y
  shore-once list k x y one two = grind arith

  pub picked-once : (g : Graph) (p : List (List ℕ)) (k : ℕ) (s t : Shape) → IsPickedAt picks g p k s → IsPickedAt picks g p k t → s ≡ t
  picked-once g p k leaf leaf one two = refl
  picked-once g p k leaf (cut y b n) one two = absurd (none-some _ (ap (λ (l : List Candidate). slice_get l two.0.0) (sym one) ∙ two.0.3))
  picked-once g p k (cut x a m) leaf one two = absurd (none-some _ (ap (λ (l : List Candidate). slice_get l one.0.0) (sym two) ∙ one.0.3))
  picked-once g p k (cut x a m) (cut y b n) one two =
      let shore : x ≡ y = shore-once (candidates_at g p) k x y one.0 two.0 in
      let kept : a ≡ b = picked-once g (kept_at g.order p x) (k + 1) a b one.1 (subst (λ (z : List ℕ). IsPickedAt picks g (kept_at g.order p z) (k + 1) b) (sym shore) two.1) in
      let later : IsPickedAt picks g (merged_at g.order p x) (k + 1 + cut_count a) n =
      subst (λ (c : Shape). IsPickedAt picks g (merged_at g.order p x) (k + 1 + cut_count c) n) (sym kept)
      (subst (λ (z : List ℕ). IsPickedAt picks g (merged_at g.order p z) (k + 1 + cut_count b) n) (sym shore) two.2) in
      let merged : m ≡ n = picked-once g (merged_at g.order p x) (k + 1 + cut_count a) m n one.2 later in
      ap (λ (z : List ℕ). cut z a m) shore ∙ ap (λ (c : Shape). cut y c m) kept ∙ ap (cut y b) merged

-- the kinds of leaves
kind-once : (g : Graph) (p : List (List ℕ)) (a b : LeafKind) → IsLeafKind g p a → IsLeafKind g p b → a ≡ b
kind-once g p Brick Brick one two = refl
kind-once g p Brick Brace one two = absurd (one two)
kind-once g p Brace Brick one two = absurd (two one)
kind-once g p Brace Brace one two = refl

pub kinds-once : (g : Graph) (ps : List (List (List ℕ))) (a b : List LeafKind) → AreLeafKinds g ps a → AreLeafKinds g ps b → a ≡ b
kinds-once g ps a b one two =
    let long = one.each_one in
    ext_get_or Brick a b (long ∙ sym two.each_one)
    (λ i less.
    let back : suc i - 1 ≡ i = omega arith in
    let within : Within (length ps) (suc i) = (omega arith, omega arith) in
    subst (λ j. get_or a j Brick ≡ get_or b j Brick) back (kind-once g (leaf_at ps (suc i)) (kind_at a (suc i)) (kind_at b (suc i)) (one.right (suc i) within) (two.right (suc i) within)))

pub tally-once : (g : Graph) (ps : List (List (List ℕ))) (a b : Tally) → IsTally g ps a → IsTally g ps b → a ≡ b
tally-once g ps a b one two = one.is ∙ ap tally_of (kinds-once g ps one.kinds two.kinds one.right two.right) ∙ sym two.is
