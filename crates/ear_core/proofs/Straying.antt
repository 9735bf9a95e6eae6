-- Walking along an ear edge by edge, with the vertices passed at hand: where it goes astray.
-- Idea: one step of the walk, with a case for each thing that can be wrong at the next edge.
use Rattle.graph_core.proofs.from_counting.Common.{◌≡◌, ℕ, true, false, ◌==◌, ◌&&◌, ◌||◌, not, Bool, eq-eqb, sym, ap, ◌∙◌, arith, [], ◌∷◌, List, length, Some, None, eqb-true, refl, fun_ext, true≢false, Within, Set}
use Rattle.graph_core.proofs.Common.{Graph, size}
use Rattle.ear_core.specs.Common.{follows, other_end, astray}
use Rattle.ear_core.proofs.Walking.{joins, in_range}

-- at an edge that is not at the vertex reached
pub apart : (g : Graph) (u : ℕ) (x : Set) (v e : ℕ) (rest others : List ℕ) → rest ≡ e ∷ others → joins g e v ≡ false → astray g u x v rest ≡ Some e
apart g u x v e rest others begins h = grind arith

-- at an edge that leads to a vertex that was passed
pub to_passed : (g : Graph) (u : ℕ) (x : Set) (v e w : ℕ) (rest others : List ℕ) → rest ≡ e ∷ others → w ≡ other_end g e v → x w ≡ true → astray g u x v rest ≡ Some e
to_passed g u x v e w rest others begins is h = grind arith

-- at an edge that leads back before the end
pub back_early : (g : Graph) (u : ℕ) (x : Set) (v e w : ℕ) (rest others : List ℕ) → rest ≡ e ∷ others → w ≡ other_end g e v → (length others == 0) ≡ false → w ≡ u → astray g u x v rest ≡ Some e
back_early g u x v e w rest [] begins is long same = absurd (true≢false long)
back_early g u x v e w rest (d ∷ es) begins is long same =
    ap (astray g u x v) begins ∙ rw (halts (follows g v (e ∷ [])) (x (other_end g e v)) (other_end g e v == u) (eq-eqb (other_end g e v) u (sym is ∙ same))) refl
  where
    halts : (b y z : Bool) → z ≡ true → (b && not (y || (z && not false))) ≡ false
    halts b y z h = grind arith

-- nowhere, if the last edge leads to a new vertex
pub ends_well : (g : Graph) (u : ℕ) (x : Set) (v e w : ℕ) (rest others : List ℕ) → rest ≡ e ∷ others → Within (size g) e → joins g e v ≡ true → w ≡ other_end g e v → (length others == 0) ≡ true → x w ≡ false → astray g u x v rest ≡ None
ends_well g u x v e w rest (d ∷ es) begins within h is short new = let z = eqb-true (length (d ∷ es)) 0 short in absurd (omega arith)
ends_well g u x v e w rest [] begins within h is short new = grind (arith, in_range g e within)

-- or later
pub leads_on : (g : Graph) (u : ℕ) (x next : Set) (v e w : ℕ) (rest others : List ℕ) → rest ≡ e ∷ others → Within (size g) e → joins g e v ≡ true → w ≡ other_end g e v → (length others == 0) ≡ false → x w ≡ false → (w == u) ≡ false → ((y : ℕ) → next y ≡ (x y || w == y)) → astray g u x v rest ≡ astray g u next w others
leads_on g u x next v e w rest [] begins within h is long new other gains = absurd (true≢false long)
leads_on g u x next v e w rest (d ∷ es) begins within h is long new other gains =
    ap (astray g u x v) begins ∙ rw (sym is) (rw (in_range g e within, h, new, other) (ap (λ y. astray g u y w (d ∷ es)) (fun_ext (λ y. sym (gains y)))))

pub no_edge : (g : Graph) (u : ℕ) (x : Set) (v : ℕ) (rest : List ℕ) → length rest ≡ 0 → astray g u x v rest ≡ None
no_edge g u x v [] none = refl
no_edge g u x v (e ∷ rest) none = absurd (omega arith)
