-- Merges of disjoint or nested unions of blocks commute: the partition after both does not depend
-- on their order.
use Rattle.graph_core.proofs.from_counting.Common.{Bool, List, false, inl, inr, refl, sym, true, ℕ, ◌∙◌, ◌≡◌, both_ways, cases_Bool, Within, Set}
use Rattle.graph_core.proofs.Common.{Below, alike_down, alike_in, alike_up, same_side, Finer, AreBlocks, IsMerge, place, IsUnion}

-- first x and then y gives no coarser blocks than first y and then x
pub commute : (n : ℕ) (p r s t w : List (List ℕ)) (x y : Set) → AreBlocks n p → IsUnion n p x → IsUnion n p y → AreBlocks n r → IsUnion n r y → AreBlocks n t → IsUnion n t x →
    IsMerge n p x r → IsMerge n r y s → IsMerge n p y t → IsMerge n t x w → Finer n s w
commute n p r s t w x y pp ux uy rp ury tp utx mr ms mt mw u v wu wv e = go (y u) refl (x u) refl
  where
    go : (a : Bool) → y u ≡ a → (b : Bool) → x u ≡ b → place w u ≡ place w v
    go true h b k = alike_up n t w x tp utx mw u v wu wv (alike_in n p t y pp uy mt u v wu wv h (sym (same_side n r s y rp ury ms u v wu wv e) ∙ h))
    go false h true k = alike_in n t w x tp utx mw u v wu wv k (sym (same_side n p r x pp ux mr u v wu wv (alike_down n r s y rp ury ms u v wu wv h e)) ∙ k)
    go false h false k = alike_up n t w x tp utx mw u v wu wv (alike_up n p t y pp uy mt u v wu wv (alike_down n p r x pp ux mr u v wu wv k (alike_down n r s y rp ury ms u v wu wv h e)))

-- x below y: merging x first makes no difference
pub swallow : (n : ℕ) (p r s t : List (List ℕ)) (x y : Set) → AreBlocks n p → IsUnion n p x → IsUnion n p y → AreBlocks n r → IsUnion n r y → Below n x y → IsMerge n p x r → IsMerge n r y s → IsMerge n p y t → Finer n s t × Finer n t s
swallow n p r s t x y pp ux uy rp ury b mr ms mt = (
  λ u v wu wv e. down u v wu wv e (y u) refl,
  λ u v wu wv e. up u v wu wv e (y u) refl,
)
  where
    off : (u : ℕ) → Within n u → y u ≡ false → x u ≡ false
    off u w h = elim (cases_Bool (x u)) [ inr f ↦ f | inl k ↦ absurd (both_ways (y u) h (b u w k)) ]

    down : (u v : ℕ) → Within n u → Within n v → place s u ≡ place s v → (a : Bool) → y u ≡ a → place t u ≡ place t v
    down u v wu wv e true h = alike_in n p t y pp uy mt u v wu wv h (sym (same_side n r s y rp ury ms u v wu wv e) ∙ h)
    down u v wu wv e false h = alike_up n p t y pp uy mt u v wu wv (alike_down n p r x pp ux mr u v wu wv (off u wu h) (alike_down n r s y rp ury ms u v wu wv h e))

    up : (u v : ℕ) → Within n u → Within n v → place t u ≡ place t v → (a : Bool) → y u ≡ a → place s u ≡ place s v
    up u v wu wv e true h = alike_in n r s y rp ury ms u v wu wv h (sym (same_side n p t y pp uy mt u v wu wv e) ∙ h)
    up u v wu wv e false h = alike_up n r s y rp ury ms u v wu wv (alike_up n p r x pp ux mr u v wu wv (alike_down n p t y pp uy mt u v wu wv h e))
