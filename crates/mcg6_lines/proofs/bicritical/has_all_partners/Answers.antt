use Rattle.allowed_edges.proofs.from_counting.Common.{◌≡◌, ◌≢◌, ◌∙◌, [], ℕ, List, ap₂, arith, subst, sym, Within, mem, pair_set}
use Rattle.graph_core.proofs.Common.{Graph, has_perfect, has_perfect_found, has_perfect_says}
use Rattle.allowed_edges.specs.from_match_core.Common.{are_partners}
use Rattle.mcg6_lines.proofs.bicritical.has_all_partners.Goals as goal

partners_are : (g : Graph) (u v : ℕ) → u ≢ v → are_partners g (mem []) u v ≡ has_perfect g (pair_set u v)
partners_are g u v different = grind arith

row_is : (g h : Graph) (removed row : List ℕ) (u : ℕ) → h ≡ g → removed ≡ [] → ((v : ℕ) → Within h.order v → mem row v ≡ are_partners h (mem removed) u v) → (v : ℕ) → Within g.order v → u ≢ v → mem row v ≡ has_perfect g (pair_set u v)
row_is g h removed row u same whole is v within different =
    is v (subst (λ (k : Graph). Within k.order v) (sym same) within) ∙ ap₂ (λ (k : Graph) (r : List ℕ). are_partners k (mem r) u v) same whole ∙ partners_are g u v different

pub returns-clause-all : goal.returns-clause-all
returns-clause-all c =
    let g = c.args.g.now in
    let row = row_is g c.args.rows.now.graph c.args.rows.now.removed c.in_ok-partners.partners c.args.u c.requires.graph c.requires.whole c.in_ok-partners.ensures.row in
    let order = c.order.ensures.is in (
      λ t v within different. has_perfect_says g (pair_set c.args.u v) (sym (row v within different) ∙ c.has_all_others.ensures.0 t v (subst (λ n. Within n v) (sym order) within) different),
      λ all. c.has_all_others.ensures.1 (λ v within different.
          let inside = subst (λ n. Within n v) order within in row v inside different ∙ has_perfect_found g (pair_set c.args.u v) (all v inside different)),
    )
