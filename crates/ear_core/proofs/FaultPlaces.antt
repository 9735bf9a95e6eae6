-- Where the fault of a step shows, as the code finds it.
-- Idea: the code goes on item by item, and of two ears the first that fails gives the place.
use Rattle.graph_core.proofs.from_counting.Common.{◌≡◌, ℕ, ◌-◌, Bool, true, false, ◌==◌, ◌||◌, sym, ap, ◌∙◌, arith, [], ◌∷◌, List, length, Option, Some, None, refl, eqb-true, ◌⊎◌, find, option_and_then, is_some, is_none, fun_ext, Set, mem}
use Rattle.graph_core.proofs.Common.{Graph}
use Rattle.refusals.specs.declared.places.EarOfTwo.{EarOfTwo}
use Rattle.refusals.specs.declared.places.EarOfTwo.TheVariants.{First, Second}
use Rattle.refusals.specs.declared.places.EarPlace.{EarPlace}
use Rattle.ear_core.specs.Common.{PlainEar, PlainWhy, not_path, even_length, bad_ends, inner_on_stage, edge_used, stage_not_covered, ends_early, inner_vertices, is_met, no_member, other_end, ear_fault, edge_of_fault, entering, fault_edge, nowhere, place_of_two}
use Rattle.ear_core.proofs.Marking.{fault-same}

-- no item passes if none is found
pub none-found : (p : ℕ → Bool) (xs : List ℕ) → is_none (find p xs) ≡ no_member p xs
none-found p [] = refl
none-found p (x ∷ xs) = grind (arith, none-found p xs)

-- the items that are left decide
pub found-behind : (p : ℕ → Bool) (x : ℕ) (rest others : List ℕ) → rest ≡ x ∷ others → p x ≡ false → find p rest ≡ find p others
found-behind p x rest others begins h = ap (find p) begins ∙ rw h refl

-- an edge that does not lead to an inner vertex in x
pub entering-past : (g : Graph) (x : Set) (v e w : ℕ) (rest others : List ℕ) → rest ≡ e ∷ others → w ≡ other_end g e v → (x w ≡ false) ⊎ ((length others == 0) ≡ true) → entering g x v rest ≡ entering g x w others
entering-past g x v e w rest [] begins is past = grind arith
entering-past g x v e w rest (d ∷ es) begins is past = grind (arith, eqb-true)

-- the edge depends on the members of a list alone
module _ (g : Graph) (f : Set) (xs ys ds : List ℕ) (v : ℕ) (es : List ℕ) (same : (w : ℕ) → mem xs w ≡ mem ys w) where
  edge-of : (why : PlainWhy) → edge_of_fault g f xs ds v es why ≡ edge_of_fault g f ys ds v es why
  edge-of not_path = refl
  edge-of even_length = refl
  edge-of bad_ends = refl
  edge-of inner_on_stage = ap (λ (m : Set). entering g (λ w. is_met g f w || m w) v es) (fun_ext same)
  edge-of edge_used = refl
  edge-of (stage_not_covered e) = refl
  edge-of (ends_early e) = refl

  by-fault : (fault : Option PlainWhy) → option_and_then (edge_of_fault g f xs ds v es) fault ≡ option_and_then (edge_of_fault g f ys ds v es) fault
  by-fault None = refl
  by-fault (Some why) = edge-of why

  pub edge-same : fault_edge g f xs ds v es ≡ fault_edge g f ys ds v es
  edge-same = by-fault (ear_fault g f xs ds v es) ∙ ap (option_and_then (edge_of_fault g f ys ds v es)) (fault-same g f xs ys ds v es same)

-- the place at one of two ears
abbrev place_at : EarOfTwo → Option ℕ → EarPlace
place_at which shows = record { ear = Some which; edge = shows }

pub at-first : (g : Graph) (f : Set) (a b : PlainEar) (shows : Option ℕ) → is_some (ear_fault g f [] [] a.begin a.edges) ≡ true → shows ≡ fault_edge g f [] [] a.begin a.edges → place_at First shows ≡ place_of_two g f a b
at-first g f a b shows fails is = rw fails (ap (place_at First) is)

module _ (g : Graph) (f : Set) (a b : PlainEar) (inner used : List ℕ) (passes : ear_fault g f [] [] a.begin a.edges ≡ None) (same : (w : ℕ) → mem inner w ≡ mem (inner_vertices g a.begin a.edges) w) (are : used ≡ a.edges) where
  fault-second : ear_fault g f inner used b.begin b.edges ≡ ear_fault g f (inner_vertices g a.begin a.edges) a.edges b.begin b.edges
  fault-second = fault-same g f inner (inner_vertices g a.begin a.edges) used b.begin b.edges same ∙ ap (λ ds. ear_fault g f (inner_vertices g a.begin a.edges) ds b.begin b.edges) are

  edge-second : fault_edge g f inner used b.begin b.edges ≡ fault_edge g f (inner_vertices g a.begin a.edges) a.edges b.begin b.edges
  edge-second = edge-same g f inner (inner_vertices g a.begin a.edges) used b.begin b.edges same ∙ ap (λ ds. fault_edge g f (inner_vertices g a.begin a.edges) ds b.begin b.edges) are

  pub at-second : (shows : Option ℕ) → is_some (ear_fault g f inner used b.begin b.edges) ≡ true → shows ≡ fault_edge g f inner used b.begin b.edges → place_at Second shows ≡ place_of_two g f a b
  at-second shows fails is = rw (passes, ap is_some (sym fault-second) ∙ fails) (ap (place_at Second) (is ∙ edge-second))

  pub at-neither : ear_fault g f inner used b.begin b.edges ≡ None → nowhere ≡ place_of_two g f a b
  at-neither second = rw (passes, sym fault-second ∙ second) refl
