use Rattle.graph_core.proofs.from_counting.Common.{◌≡◌, ◌∙◌, ◌+◌, ◌<◌, ◌++◌, ◌∷◌, [], ℕ, false, not, cond, List, length, map, filter, take, get_or, ap, append_assoc, ne_eqb, arith, filter_more, map-append}
use Rattle.graph_core.proofs.Common.{pair_of}
use Rattle.grow_gen.specs.Common.{is_at, renumbered_edge}
use Rattle.grow_gen.proofs.splices.append_kept.Goals.{then-a-ne1+then-b-ne1+in_ok-push, else-a-ne1}
use Rattle.grow_gen.proofs.splices.append_kept.Goals as goal

-- the edges of the piece before place k that are kept
abbrev kept : ℕ → ℕ → List (ℕ × ℕ) → ℕ → List (ℕ × ℕ)
kept n w items k = map (renumbered_edge n w) (filter (λ e. not (is_at 1 e)) (take k items))

module _ (n w : ℕ) (items : List (ℕ × ℕ)) (k : ℕ) (d : ℕ × ℕ) (l : k < length items) where
  -- an edge that is not at vertex 1 is kept
  one_kept : is_at 1 (get_or items k d) ≡ false → kept n w items (k + 1) ≡ kept n w items k ++ renumbered_edge n w (get_or items k d) ∷ []
  one_kept off =
      ap (map (renumbered_edge n w)) (filter_more (λ e. not (is_at 1 e)) items k d l ∙ ap (λ at. filter (λ e. not (is_at 1 e)) (take k items) ++ cond (not at) (get_or items k d ∷ []) []) off)
      ∙ map-append (renumbered_edge n w) (filter (λ e. not (is_at 1 e)) (take k items)) (get_or items k d ∷ [])

pub loop-a-preserved : goal.loop-a-preserved
loop-a-preserved c = grind (arith, pair_of, get_or, then-a-ne1+then-b-ne1+in_ok-push, map-append, append_assoc, one_kept, ne_eqb, else-a-ne1)
