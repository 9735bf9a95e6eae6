-- A graph that is not matching covered lacks each property but three: that it is not, that it has a
-- perfect matching, and that it is bicritical.
use Rattle.std.proofs.Common.{◌≡◌, inl, refl}
use Rattle.graph_core.proofs.Common.{Graph, IsCovered}
use Rattle.mcg6_lines.specs.Selecting.{LacksProperty}
use Rattle.mcg6_lines.specs.declared.query.Property.{Property}
use Rattle.mcg6_lines.specs.declared.query.Property.TheVariants.{Covered, Uncovered, Perfect, Brick, Brace, Bicritical, Composite, Bricks, Braces}

pub uncovered_lacks : (g : Graph) (property : Property) → ¬ IsCovered g → (property ≡ Uncovered → ⊥) → (property ≡ Perfect → ⊥) → (property ≡ Bicritical → ⊥) → LacksProperty g property
uncovered_lacks g Covered not_covered other matched critical = not_covered
uncovered_lacks g Uncovered not_covered other matched critical = absurd (other refl)
uncovered_lacks g Perfect not_covered other matched critical = absurd (matched refl)
uncovered_lacks g Brick not_covered other matched critical = λ has. not_covered has.0
uncovered_lacks g Brace not_covered other matched critical = λ has. not_covered has.0
uncovered_lacks g Bicritical not_covered other matched critical = absurd (critical refl)
uncovered_lacks g Composite not_covered other matched critical = λ has. not_covered has.0
uncovered_lacks g (Bricks count) not_covered other matched critical = inl not_covered
uncovered_lacks g (Braces count) not_covered other matched critical = inl not_covered
