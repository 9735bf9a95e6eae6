-- A move has no result if and only if it has the fault that `stuck_fault` says. Idea: induction
-- over the path; a step down changes neither whether there is a result nor the fault.
use Rattle.std.proofs.Common.{◌≡◌, ◌↔◌, inl, inr, ℕ, List, [], ◌∷◌, Bool, true, false, refl, sym, subst, arith, option_map, if◌then◌else◌, Option, Some, None}
use Rattle.tree_core.specs.Common.{PlainMove, Shape, cut, leaf, move_result, rotate_at, rotate_result, switch_at, switch_result}
use Rattle.tree_core.specs.declared.path.Side.{Side}
use Rattle.tree_core.specs.declared.path.Side.TheVariants.{Kept, Merged}
use Rattle.refusals.specs.declared.faults.StuckFault.{StuckFault}
use Rattle.refusals.specs.declared.faults.StuckFault.TheVariants.{NoCut, Crossing, NotParts}
use Rattle.bench_outcomes.specs.Common.{AreNoParts, CrossesParent, IsStuckBy, leads_to_cut, stuck_fault}

map_none : {A B : Type 0} (f : A → B) (o : Option A) → option_map f o ≡ None → o ≡ None
map_none f None is = refl
map_none f (Some a) is = absurd (cc is)

none_map : {A B : Type 0} (f : A → B) (o : Option A) → o ≡ None → option_map f o ≡ None
none_map f None is = refl
none_map f (Some a) is = absurd (cc is)

-- Rotate where the path does not lead to a cut
no_cut-rotate : (side : Side) (path : List Side) (t : Shape) → leads_to_cut (side ∷ path) t ≡ false → rotate_result (side ∷ path) t ≡ None
no_cut-rotate side [] leaf is = refl
no_cut-rotate Kept [] (cut x leaf b) is = refl
no_cut-rotate Kept [] (cut x (cut y c d) b) is = absurd (cc is)
no_cut-rotate Merged [] (cut x a leaf) is = refl
no_cut-rotate Merged [] (cut x a (cut y c d)) is = absurd (cc is)
no_cut-rotate side (next ∷ path) leaf is = refl
no_cut-rotate Kept (next ∷ path) (cut x a b) is = none_map (λ c. cut x c b) _ (no_cut-rotate next path a is)
no_cut-rotate Merged (next ∷ path) (cut x a b) is = none_map (λ c. cut x a c) _ (no_cut-rotate next path b is)

-- and where it does
crosses : (side : Side) (path : List Side) (t : Shape) → leads_to_cut (side ∷ path) t ≡ true → rotate_result (side ∷ path) t ≡ None → CrossesParent (side ∷ path) t
crosses side [] leaf is none = absurd (cc is)
crosses Kept [] (cut x leaf b) is none = absurd (cc is)
crosses Kept [] (cut x (cut y c d) b) is none = absurd (cc none)
crosses Merged [] (cut x a leaf) is none = absurd (cc is)
crosses Merged [] (cut x a (cut y c d)) is none = grind arith
crosses side (next ∷ path) leaf is none = absurd (cc is)
crosses Kept (next ∷ path) (cut x a b) is none = crosses next path a is (map_none (λ c. cut x c b) _ none)
crosses Merged (next ∷ path) (cut x a b) is none = crosses next path b is (map_none (λ c. cut x a c) _ none)

none-crosses : (path : List Side) (t : Shape) → CrossesParent path t → rotate_result path t ≡ None
none-crosses [] t crossing = refl
none-crosses (side ∷ path) leaf crossing = absurd crossing
none-crosses (Kept ∷ []) (cut x a b) crossing = absurd crossing
none-crosses (Merged ∷ []) (cut x a leaf) crossing = refl
none-crosses (Merged ∷ []) (cut x a (cut y c d)) crossing = grind arith
none-crosses (Kept ∷ next ∷ path) (cut x a b) crossing = none_map (λ c. cut x c b) _ (none-crosses (next ∷ path) a crossing)
none-crosses (Merged ∷ next ∷ path) (cut x a b) crossing = none_map (λ c. cut x a c) _ (none-crosses (next ∷ path) b crossing)

-- Switch where the path does not lead to a cut
no_cut-switch : (n : ℕ) (path : List Side) (u v : List ℕ) (t : Shape) → leads_to_cut path t ≡ false → switch_result n path u v t ≡ None
no_cut-switch n [] u v leaf is = refl
no_cut-switch n [] u v (cut x a b) is = absurd (cc is)
no_cut-switch n (side ∷ path) u v leaf is = refl
no_cut-switch n (Kept ∷ path) u v (cut x a b) is = none_map (λ c. cut x c b) _ (no_cut-switch n path u v a is)
no_cut-switch n (Merged ∷ path) u v (cut x a b) is = none_map (λ c. cut x a c) _ (no_cut-switch n path u v b is)

-- and where it does
no_parts : (n : ℕ) (path : List Side) (u v : List ℕ) (t : Shape) → leads_to_cut path t ≡ true → switch_result n path u v t ≡ None → AreNoParts n path u v t
no_parts n [] u v leaf is none = absurd (cc is)
no_parts n [] u v (cut x a b) is none = grind arith
no_parts n (side ∷ path) u v leaf is none = absurd (cc is)
no_parts n (Kept ∷ path) u v (cut x a b) is none = no_parts n path u v a is (map_none (λ c. cut x c b) _ none)
no_parts n (Merged ∷ path) u v (cut x a b) is none = no_parts n path u v b is (map_none (λ c. cut x a c) _ none)

none-no_parts : (n : ℕ) (path : List Side) (u v : List ℕ) (t : Shape) → AreNoParts n path u v t → switch_result n path u v t ≡ None
none-no_parts n [] u v leaf are = absurd are
none-no_parts n [] u v (cut x a b) are = grind arith
none-no_parts n (side ∷ path) u v leaf are = absurd are
none-no_parts n (Kept ∷ path) u v (cut x a b) are = none_map (λ c. cut x c b) _ (none-no_parts n path u v a are)
none-no_parts n (Merged ∷ path) u v (cut x a b) are = none_map (λ c. cut x a c) _ (none-no_parts n path u v b are)

-- each move by whether its path leads to a cut
stuck-rotate : (there : Bool) (n : ℕ) (side : Side) (path : List Side) (t : Shape) → leads_to_cut (side ∷ path) t ≡ there →
    (rotate_result (side ∷ path) t ≡ None) ↔ IsStuckBy n t (rotate_at (side ∷ path)) (if there then Crossing else NoCut)
stuck-rotate true n side path t is = (λ none. crosses side path t is none, λ crossing. none-crosses (side ∷ path) t crossing)
stuck-rotate false n side path t is = (λ none. inr is, λ wrong. no_cut-rotate side path t is)

stuck-switch : (there : Bool) (n : ℕ) (path : List Side) (u v : List ℕ) (t : Shape) → leads_to_cut path t ≡ there →
    (switch_result n path u v t ≡ None) ↔ IsStuckBy n t (switch_at path u v) (if there then NotParts else NoCut)
stuck-switch true n path u v t is = (λ none. no_parts n path u v t is none, λ are. none-no_parts n path u v t are)
stuck-switch false n path u v t is = (λ none. is, λ wrong. no_cut-switch n path u v t is)

pub stuck-exactly : (n : ℕ) (t : Shape) (m : PlainMove) → (move_result n t m ≡ None) ↔ IsStuckBy n t m (stuck_fault m t)
stuck-exactly n t (rotate_at []) = (λ none. inl refl, λ wrong. refl)
stuck-exactly n t (rotate_at (side ∷ path)) = stuck-rotate (leads_to_cut (side ∷ path) t) n side path t refl
stuck-exactly n t (switch_at path u v) = stuck-switch (leads_to_cut path t) n path u v t refl

pub stuck_by : (n : ℕ) (t : Shape) (m : PlainMove) (fault : StuckFault) → fault ≡ stuck_fault m t → (move_result n t m ≡ None) ↔ IsStuckBy n t m fault
stuck_by n t m fault is = subst (λ (f : StuckFault). (move_result n t m ≡ None) ↔ IsStuckBy n t m f) (sym is) (stuck-exactly n t m)
