-- A set whose test says a property on 1 to n is the list of the numbers with it, and what two
-- such sets leave is the list of the numbers with neither property. Each number of a set of
-- numbers 1 to n is one of them, and the tests decide the properties.
use Rattle.graph_core.proofs.from_counting.Common.{◌≡◌, ℕ, List, Bool, true, false, not, ◌&&◌, ◌||◌, ◌∙◌, sym, ap, ◌↔◌, arith, both_ways, true≢false, mem-within, set-part, Within, mem, IsRisingIn, Lists}

-- a set whose test says the property
pub listed : (n : ℕ) (xs : List ℕ) (P : ℕ → Type 0) → IsRisingIn n xs → ((v : ℕ) → Within n v → (mem xs v ≡ true) ↔ P v) → Lists n xs P
listed n xs P r h = record { rising = r; sound = λ v m. (h v (mem-within n xs r v m)).0 m; complete = λ v w p. (h v w).1 p }

-- what is left of 1 to n has neither property
pub rest_listed :
    (n m : ℕ) (all xs ys zs : List ℕ) (P Q : ℕ → Type 0) → IsRisingIn m zs → IsRisingIn n all →
    ((v : ℕ) → mem zs v ≡ (mem all v && not (mem xs v || mem ys v))) → ((v : ℕ) → Within n v → mem all v ≡ true) →
    ((v : ℕ) → Within n v → (mem xs v ≡ true) ↔ P v) → ((v : ℕ) → Within n v → (mem ys v ≡ true) ↔ Q v) →
    Lists n zs (λ v. (P v → ⊥) × (Q v → ⊥))
rest_listed n m all xs ys zs P Q r ra z full p q = record { rising = rising; sound = sound; complete = complete }
  where
    parts : (a b c : Bool) → (a && not (b || c)) ≡ true → (a ≡ true) × (b ≡ false) × (c ≡ false)
    parts true false false h = (h, ap not h, ap not h)
    parts true true c h = absurd (true≢false (sym h))
    parts true false true h = absurd (true≢false (sym h))
    parts false b c h = absurd (true≢false (sym h))

    of : (v : ℕ) → mem zs v ≡ true → (mem all v ≡ true) × (mem xs v ≡ false) × (mem ys v ≡ false)
    of v h = parts (mem all v) (mem xs v) (mem ys v) (sym (z v) ∙ h)

    rising : IsRisingIn n zs
    rising = set-part m n zs all r ra (λ v h. (of v h).0)

    sound : (v : ℕ) → mem zs v ≡ true → (P v → ⊥) × (Q v → ⊥)
    sound v h =
        let w = mem-within n zs rising v h in
        (λ t. both_ways (mem xs v) (of v h).1 ((p v w).1 t), λ t. both_ways (mem ys v) (of v h).2 ((q v w).1 t))

    none : (a b c : Bool) → a ≡ true → b ≡ false → c ≡ false → (a && not (b || c)) ≡ true
    none a b c h i j = grind arith

    complete : (v : ℕ) → Within n v → (P v → ⊥) × (Q v → ⊥) → mem zs v ≡ true
    complete v w h = z v ∙ none (mem all v) (mem xs v) (mem ys v) (full v w) (off (mem xs v) (λ t. h.0 ((p v w).0 t))) (off (mem ys v) (λ t. h.1 ((q v w).0 t)))
      where
        off : (b : Bool) → (b ≡ true → ⊥) → b ≡ false
        off b t = grind arith
