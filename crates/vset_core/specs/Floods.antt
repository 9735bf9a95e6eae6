-- What a search finds that goes along rows of sets and stays in a set of vertices.
-- Stated by: vset_core, matching_digraph. Used by: graph_core, separation_kit.
use Rattle.std.specs.Prelude.{◌≡◌, ℕ, Bool, true, List}
use Rattle.counting.specs.Common.{Set, item, mem}

-- an arc leads from u to v in the digraph of the rows
abbrev pub leads : List (List ℕ) → ℕ → ℕ → Bool
leads rows u v = mem (item rows u) v

-- what is found has the roots and is in `within`, and no arc leads from it to another vertex there;
-- each set that has the roots and that no arc from an inner vertex leaves, within `within`,
-- contains what is found
pub record IsFlood (rows : List (List ℕ)) (within roots inner found : Set) : Type 0 where
  pub start : (v : ℕ) → roots v ≡ true → found v ≡ true
  pub inside : (v : ℕ) → found v ≡ true → within v ≡ true
  pub closed : (u v : ℕ) → found u ≡ true → leads rows u v ≡ true → within v ≡ true → found v ≡ true
  pub least : (x : Set) → ((v : ℕ) → roots v ≡ true → x v ≡ true) → ((u v : ℕ) → within u ≡ true → inner u ≡ true → x u ≡ true → leads rows u v ≡ true → within v ≡ true → x v ≡ true) →
      (v : ℕ) → found v ≡ true → x v ≡ true
