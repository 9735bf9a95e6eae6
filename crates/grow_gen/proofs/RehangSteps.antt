-- One step along the edges, where those at w get new ends: what is done and what is still to be
-- done make up the whole.
use Rattle.graph_core.proofs.from_counting.Common.{◌≡◌, ℕ, ◌+◌, ◌<◌, true, false, List, [], ◌∷◌, ◌++◌, length, get_or, set, take, drop, map, sym, ap, ◌∙◌, arith, append_assoc, ◌⊎◌, drop-set-lt, take_more_set, drop_more, take_more, map-append}
use Rattle.graph_core.proofs.Common.{pair_of}
use Rattle.graph_core.specs.declared.ends.Ends.{Ends}
use Rattle.grow_gen.specs.Common.{is_at, edge_with_end, rehung_edges}
use Rattle.grow_gen.proofs.Rehanging.{rehung_edges-none}

-- the edges that are done, and the others with the targets that are left
abbrev pub Halfway : ℕ → List ℕ → ℕ → List Ends → List (ℕ × ℕ)
Halfway w ts k xs = map pair_of (take k xs) ++ rehung_edges w ts (map pair_of (drop k xs))

first_done : (es : List (ℕ × ℕ)) (e : ℕ × ℕ) (fs : List (ℕ × ℕ)) → (es ++ e ∷ []) ++ fs ≡ es ++ e ∷ fs
first_done es e fs = append_assoc es (e ∷ []) fs

-- an edge that keeps its ends
pub kept_step : (w : ℕ) (ts : List ℕ) (k : ℕ) (xs : List Ends) (d : Ends) → k < length xs → (ts ≡ []) ⊎ (is_at w (pair_of (get_or xs k d)) ≡ false) → Halfway w ts (k + 1) xs ≡ Halfway w ts k xs
kept_step w ts k xs d l h =
    ap (λ ys. map pair_of ys ++ rehung_edges w ts (map pair_of (drop (k + 1) xs))) (take_more xs k d l)
    ∙ ap (λ es. es ++ rehung_edges w ts (map pair_of (drop (k + 1) xs))) (map-append pair_of (take k xs) (get_or xs k d ∷ []))
    ∙ first_done (map pair_of (take k xs)) (pair_of (get_or xs k d)) (rehung_edges w ts (map pair_of (drop (k + 1) xs)))
    ∙ ap (λ es. map pair_of (take k xs) ++ es) (grind (arith, rehung_edges-none w (map pair_of (drop (k + 1) xs))))
    ∙ sym (ap (λ ys. map pair_of (take k xs) ++ rehung_edges w ts (map pair_of ys)) (drop_more xs k d l))

-- an edge that gets the next target
pub rehung_step : (w : ℕ) (ts : List ℕ) (next k : ℕ) (xs : List Ends) (d y : Ends) → k < length xs → next < length ts → is_at w (pair_of (get_or xs k d)) ≡ true → pair_of y ≡ edge_with_end w (get_or ts next 0) (pair_of (get_or xs k d)) →
    Halfway w (drop (next + 1) ts) (k + 1) (set xs k y) ≡ Halfway w (drop next ts) k xs
rehung_step w ts next k xs d y l n a e = grind (arith, take_more_set, drop-set-lt, map-append, first_done, drop_more)
