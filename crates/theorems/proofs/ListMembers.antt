-- Members of lists that are joined or filtered.
-- Idea: by induction on the first list, with a case for its first item.
use Rattle.tree_check.proofs.from_counting.Common.{◌≡◌, ◌⊎◌, Bool, true, false, cond, List, [], ◌∷◌, ◌++◌, filter, refl, sym, ap, ◌∙◌, inl, inr, both_ways, IsIn}
use Rattle.theorems.specs.TightCuts.{AreDistinct}

pub in_left : {A : Type 0} (z : A) (xs ys : List A) → IsIn z xs → IsIn z (xs ++ ys)
in_left z [] ys h = absurd h
in_left z (x ∷ xs) ys h = elim h [ inl e ↦ inl e | inr k ↦ inr (in_left z xs ys k) ]

pub in_right : {A : Type 0} (z : A) (xs ys : List A) → IsIn z ys → IsIn z (xs ++ ys)
in_right z [] ys h = h
in_right z (x ∷ xs) ys h = inr (in_right z xs ys h)

pub in_parts : {A : Type 0} (z : A) (xs ys : List A) → IsIn z (xs ++ ys) → IsIn z xs ⊎ IsIn z ys
in_parts z [] ys h = inr h
in_parts z (x ∷ xs) ys h = elim h [ inl e ↦ inl (inl e) | inr k ↦ elim (in_parts z xs ys k) [ inl l ↦ inl (inr l) | inr r ↦ inr r ] ]

pub filter_in : {A : Type 0} (t : A → Bool) (z : A) (xs : List A) → IsIn z (filter t xs) → IsIn z xs × (t z ≡ true)
filter_in t z [] h = absurd h
filter_in {A} t z (x ∷ xs) h = go (filter_in t z xs) (t x) refl h
  where
    go : (IsIn z (filter t xs) → IsIn z xs × (t z ≡ true)) → (b : Bool) → t x ≡ b → IsIn z (cond b (x ∷ filter t xs) (filter t xs)) → IsIn z (x ∷ xs) × (t z ≡ true)
    go ih true e h = elim h [ inl q ↦ (inl q, ap t q ∙ e) | inr k ↦ let r = ih k in (inr r.0, r.1) ]
    go ih false e h = let r = ih h in (inr r.0, r.1)

pub in_filter : {A : Type 0} (t : A → Bool) (z : A) (xs : List A) → IsIn z xs → t z ≡ true → IsIn z (filter t xs)
in_filter t z [] h tz = absurd h
in_filter {A} t z (x ∷ xs) h tz = go (λ k. in_filter t z xs k tz) (t x) refl h
  where
    go : (IsIn z xs → IsIn z (filter t xs)) → (b : Bool) → t x ≡ b → IsIn z (x ∷ xs) → IsIn z (cond b (x ∷ filter t xs) (filter t xs))
    go ih true e h = elim h [ inl q ↦ inl q | inr k ↦ inr (ih k) ]
    go ih false e h = elim h [ inl q ↦ absurd (both_ways (t x) e (ap t (sym q) ∙ tz)) | inr k ↦ ih k ]

pub distinct_join : {A : Type 0} (xs ys : List A) → AreDistinct xs → AreDistinct ys → ((z : A) → IsIn z xs → IsIn z ys → ⊥) → AreDistinct (xs ++ ys)
distinct_join [] ys dx dy h = dy
distinct_join (x ∷ xs) ys dx dy h = (
  (λ k. elim (in_parts x xs ys k) [ inl l ↦ dx.0 l | inr r ↦ h x (inl refl) r ]),
  distinct_join xs ys dx.1 dy (λ z l r. h z (inr l) r),
)
