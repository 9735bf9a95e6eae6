use Rattle.graph_core.proofs.from_counting.Common.{◌≡◌, ℕ, ◌∷◌, [], false, ◌==◌, ◌||◌, map, ap, ap₂, ◌∙◌, arith, List, take_all, same_rising_list, rising_list-rises, set-wider, mem}
use Rattle.graph_core.proofs.Common.{pair_of}
use Rattle.grow_gen.specs.Common.{Growth}
use Rattle.grow_gen.proofs.growing.Growing.first.Goals as goal

pub returns : goal.returns
returns c =
    let ends : map pair_of c.loop-a.edges.items ≡ c.ends-a-items.result.now = c.loop-a.invariant ∙ take_all c.loop-a.a-index c.ends-a-items.result.now c.loop-a-test.false in
    let in_b : c.with-in_b.result ≡ 4 ∷ 5 ∷ 6 ∷ [] =
    same_rising_list 128 c.with-in_b.result (4 ∷ 5 ∷ 6 ∷ []) c.rises.ensures (set-wider 6 128 (4 ∷ 5 ∷ 6 ∷ []) (omega arith) (rising_list-rises 6 (mem (4 ∷ 5 ∷ 6 ∷ []))))
    (λ v w. c.with-in_b.ensures v ∙ ap (λ b. b || (6 == v)) (c.with.ensures v ∙ ap (λ xs. mem xs v || (5 == v)) c.one.ensures) ∙ (grind arith)) in
    ap₂ (λ n es. growth n es c.full.result c.with-in_b.result) c.order.ensures (ends ∙ c.ends-a-items.ensures) ∙ ap₂ (growth 6 _) c.full.ensures.list in_b
  where
    growth : ℕ → List (ℕ × ℕ) → List ℕ → List ℕ → Growth
    growth n es a b = record { graph = record { order = n; ends = es }; in_a = a; in_b = b }
