-- What any two outputs of a query on one list have in common.
-- Stated by: mcg6_top.
use Rattle.std.specs.Prelude.{◌≡◌, ℕ, List, flat_map}
use Rattle.std.specs.List.{AllByRecursion}
use Rattle.mcg6_lines.specs.Alike.{AreAlike}
use Rattle.mcg6_lines.specs.declared.query.Query.{Query}

-- each consists of outputs for single lines, and those for the same line are alike
pub record AreAlikeOutputs (query : Query) (first second : List ℕ) : Type 0 where
  pub pairs : List (List ℕ × List ℕ)
  pub alike : AllByRecursion (λ (pair : List ℕ × List ℕ). AreAlike query pair.0 pair.1) pairs
  pub one : first ≡ flat_map (λ (pair : List ℕ × List ℕ). pair.0) pairs
  pub two : second ≡ flat_map (λ (pair : List ℕ × List ℕ). pair.1) pairs
