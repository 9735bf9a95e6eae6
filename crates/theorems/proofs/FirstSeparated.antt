-- The pair that the third part takes at an edge is the first that a tight set separates: the search
-- takes the first pair of a list that passes its test, the list is in lexicographic order, and
-- the test says what the words say.
use Rattle.tree_check.proofs.from_counting.Common.{◌≡◌, ℕ, ◌⊎◌, true, Option, Some, None, refl, ap, inl, inr, arith, both_ways, false_from_ne_true, Within, ComesBefore}
use Rattle.graph_core.proofs.Common.{Graph, IsGraph, size}
use Rattle.tree_check.proofs.from_tight_cuts.EdgeLoop.{first_pair, no_pair}
use Rattle.tree_check.proofs.from_tight_cuts.FirstPairs.{before_first, no_first}
use Rattle.tree_check.specs.from_tight_cuts.Common.{first_separated, greater_end, is_separated, lesser_end}
use Rattle.theorems.proofs.Separated.{separated-words}
use Rattle.theorems.specs.CutWords.{IsFirstSeparated, IsSeparated}

-- of two pairs one is before the other, or they are one
one_before : (k l : ℕ × ℕ) → (k ≡ l) ⊎ (ComesBefore k l ⊎ ComesBefore l k)
one_before k l = grind arith

module _ (g : Graph) (is : IsGraph g) (e : ℕ) (we : Within (size g) e) where
  abbrev a : ℕ
  a = lesser_end g e

  abbrev b : ℕ
  b = greater_end g e

  lesser : Within g.order a
  lesser = grind arith

  greater : Within g.order b
  greater = grind arith

  -- the test at a pair of vertices says what the words say
  pub words : (k : ℕ × ℕ) → Within g.order k.0 → Within g.order k.1 → IsSeparated g a b k → is_separated g a b k ≡ true
  words k w0 w1 p = (separated-words g a b k is lesser greater w0 w1).1 p

  pub found-first : (k : ℕ × ℕ) → first_separated g e ≡ Some k → IsFirstSeparated g a b k
  found-first k q =
      let f = first_pair g.order (is_separated g a b) k q in
      record {
        first = f.1;
        second = f.2;
        separated = (separated-words g a b k is lesser greater f.1 f.2).0 f.0;
        before = λ l w0 w1 earlier p. both_ways (is_separated g a b l) (before_first g.order (is_separated g a b) k q l.0 l.1 w0 w1 earlier) (words l w0 w1 p);
      }

  pub first-found : (k : ℕ × ℕ) → IsFirstSeparated g a b k → first_separated g e ≡ Some k
  first-found k f = go (first_separated g e) refl
    where
      go : (o : Option (ℕ × ℕ)) → first_separated g e ≡ o → o ≡ Some k
      go None q = absurd (both_ways (is_separated g a b k) (no_pair g.order (is_separated g a b) q k.0 k.1 f.first f.second) (words k f.first f.second f.separated))
      go (Some l) q =
          let h = found-first l q in
          elim (one_before l k) [
            | inl same ↦ ap Some same
            | inr (inl earlier) ↦ absurd (f.before l h.first h.second earlier h.separated)
            | inr (inr later) ↦ absurd (h.before k f.first f.second later f.separated)
          ]

  pub none-separated : first_separated g e ≡ None → (k : ℕ × ℕ) → Within g.order k.0 → Within g.order k.1 → IsSeparated g a b k → ⊥
  none-separated q k w0 w1 p = both_ways (is_separated g a b k) (no_pair g.order (is_separated g a b) q k.0 k.1 w0 w1) (words k w0 w1 p)

  pub separated-none : ((k : ℕ × ℕ) → Within g.order k.0 → Within g.order k.1 → IsSeparated g a b k → ⊥) → first_separated g e ≡ None
  separated-none h =
      no_first g.order (is_separated g a b)
      (λ x y wx wy. false_from_ne_true (is_separated g a b (x, y)) (λ t. h (x, y) wx wy ((separated-words g a b (x, y) is lesser greater wx wy).0 t)))
