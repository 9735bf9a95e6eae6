-- The lines that `select` keeps: those whose graph has a property.
-- Stated by: mcg6_lines, theorems.
use Rattle.std.specs.Prelude.{◌≡◌, ◌≢◌, ℕ, ◌≤◌, ◌⊎◌, List, [], Bool, true, false}
use Rattle.allowed_edges.specs.from_counting.Common.{Within, none, pair_set}
use Rattle.graph_core.specs.Common.{IsCovered, Graph, HasPerfect, IsBicritical}
use Rattle.graph_core.specs.declared.verdict.Kind.TheVariants as kind
use Rattle.leaf_kinds.specs.LeafKinds.{IsKind}
use Rattle.tree_core.specs.declared.tallies.Tally.{Tally}
use Rattle.mcg6_lines.specs.Standings.{IsCounted}
use Rattle.mcg6_lines.specs.declared.query.Property.{Property}
use Rattle.mcg6_lines.specs.declared.query.Property.TheVariants.{Covered, Uncovered, Perfect, Brick, Brace, Bicritical, Composite, Bricks, Braces}

-- a bicritical graph as the literature has it: it has an edge, so two vertices and a perfect
-- matching at least, and there is a perfect matching without any two vertices
pub record IsBicriticalWithEdge (g : Graph) : Type 0 where
  pub two : 2 ≤ g.order
  pub matched : HasPerfect g none
  pub critical : IsBicritical g

-- the graph has the property; so many bricks or braces: as the leaves of some derivation are
-- counted
abbrev pub HasProperty : Graph → Property → Type 0
HasProperty g Covered = IsCovered g
HasProperty g Uncovered = ¬ IsCovered g
HasProperty g Perfect = HasPerfect g none
HasProperty g Brick = IsCovered g × IsKind g kind.Brick
HasProperty g Brace = IsCovered g × IsKind g kind.Brace
HasProperty g Bicritical = IsBicriticalWithEdge g
HasProperty g Composite = IsCovered g × ((cut : List ℕ) × IsKind g (kind.Composite cut))
HasProperty g (Bricks count) = (tally : Tally) × IsCounted g tally × (tally.bricks ≡ count)
HasProperty g (Braces count) = (tally : Tally) × IsCounted g tally × (tally.braces ≡ count)

-- it has not; not so many bricks or braces: it is not covered, or the leaves of some derivation
-- are counted otherwise
abbrev pub LacksProperty : Graph → Property → Type 0
LacksProperty g (Bricks count) = (¬ IsCovered g) ⊎ ((tally : Tally) × IsCounted g tally × (tally.bricks ≢ count))
LacksProperty g (Braces count) = (¬ IsCovered g) ⊎ ((tally : Tally) × IsCounted g tally × (tally.braces ≢ count))
LacksProperty g property = HasProperty g property → ⊥

-- the answer is right
abbrev pub Decides : Graph → Property → Bool → Type 0
Decides g property true = HasProperty g property
Decides g property false = LacksProperty g property

-- the line itself if its graph has the property, and nothing if it has not
abbrev pub IsSelected : Property → Graph → (line bytes : List ℕ) → Type 0
IsSelected property g line bytes = (HasProperty g property × (bytes ≡ line)) ⊎ (LacksProperty g property × (bytes ≡ []))

-- without u and any other vertex there is a perfect matching
abbrev pub HasAllPartners : Graph → ℕ → Type 0
HasAllPartners g u = (v : ℕ) → Within g.order v → u ≢ v → HasPerfect g (pair_set u v)
