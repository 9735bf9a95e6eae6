-- A list made of another, item by item from its front: what is made so far, followed by what the
-- rest gives, is the whole.
use Rattle.std.proofs.Common.{All, List, [], ap, map, sym, ◌++◌, ◌∙◌, ◌∷◌, ◌≡◌, append_assoc}
use Rattle.std.proofs.lemmas.List.Elements.{All-rest}

-- so far, and each item of the rest may be taken
abbrev pub IsMadeOf : {A B : Type 0} → (A → B) → (A → Type 0) → (whole made : List B) → List A → Type 0
IsMadeOf f P whole made rest = (whole ≡ made ++ map f rest) × All P rest

-- after one more item
pub made-next : {A B : Type 0} (f : A → B) (P : A → Type 0) (whole made after : List B) (rest others : List A) (x : A) (y : B) →
    IsMadeOf f P whole made rest → rest ≡ x ∷ others → after ≡ made ++ y ∷ [] → y ≡ f x → IsMadeOf f P whole after others
made-next {A} {B} f P whole made after rest others x y so_far front pushed is = (
  so_far.0 ∙ ap (λ (r : List A). made ++ map f r) front
      ∙ sym (append_assoc made (f x ∷ []) (map f others))
      ∙ ap (λ (m : List B). m ++ map f others) (sym (pushed ∙ ap (λ (z : B). made ++ z ∷ []) is)),
  All-rest P x others rest front so_far.1,
)
