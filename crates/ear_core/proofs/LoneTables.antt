-- The partners on a stage and those off it tell at which two vertices alone a perfect matching
-- leads out of the stage.
use Rattle.graph_core.proofs.from_counting.Common.{◌≡◌, ◌≢◌, ℕ, List, Bool, true, suc, ◌+◌, false, ◌==◌, ◌&&◌, ◌||◌, not, length, sym, ap, ap₂, ◌∙◌, arith, eq-eqb, ne_eqb, ◌⊎◌, inl, inr, subst, fun_ext, and_from, and_parts, both_ways, not-true, or_cases, or_left, or_right, some_true, true_some, Within, Set, complement, item, mem, pair_set, some, union}
use Rattle.graph_core.proofs.Common.{has_ends-from, has_perfect_found, has_perfect_says, Graph, IsGraph, IsMultigraph, first_end, has_ends, has_perfect, second_end, size, HasPerfect}
use Rattle.two_ears.specs.from_match_core.Common.{ArePartners, MatchingValue}
use Rattle.ear_core.proofs.NextStages.{met-within}
use Rattle.ear_core.proofs.LoneParts.{kept-rest, lone-parts}
use Rattle.ear_core.proofs.StagePartners.{all-four, four}
use Rattle.ear_core.proofs.LoneWholes.{joining, lone-whole}
use Rattle.ear_core.specs.Common.{ArePartnersOn, AreTables, IsPerfectBy, IsPerfectRows, KeepsMates, LeadsOff, adjacent_by, in_rows, is_met, is_open, reached, row_edge}
use Rattle.ear_core.specs.declared.lone_tables.Tables.{Tables}

adjacent-back : (g : Graph) (f : Set) (a w : ℕ) → adjacent_by g (complement f) a w ≡ true → adjacent_by g (complement f) w a ≡ true
adjacent-back g f a w t = let e = joining g f a w t in true_some (size g) (λ i. complement f i && has_ends g w a i) e.0 e.1 (and_from (not (f e.0)) (has_ends g w a e.0) (ap not e.2) (has_ends-from g w a e.0 (grind arith)))

adjacent-within : (g : Graph) → IsGraph g → (f : Set) (a w : ℕ) → adjacent_by g (complement f) a w ≡ true → Within g.order w
adjacent-within g is f a w t = let e = joining g f a w t in let b = is e.0 e.1 in end (first_end g e.0) (second_end g e.0) b.0 b.1 e.3
  where
    end : (p q : ℕ) → Within g.order p → Within g.order q → ((p ≡ a) × (q ≡ w)) ⊎ ((p ≡ w) × (q ≡ a)) → Within g.order w
    end p q wp wq h = elim h [ inl i ↦ subst (Within g.order) i.1 wq | inr i ↦ subst (Within g.order) i.0 wp ]

module _ (g : Graph) (is : IsMultigraph g) (f : Set) (t : Tables) (tables : AreTables g f t) where
  module _ (w x : ℕ) (ww : Within g.order w) (wx : Within g.order x) where
    partners-say : mem (item t.outer w) x ≡ true → (w ≢ x) × (is_met g f w ≡ false) × (is_met g f x ≡ false) × HasPerfect g (union (is_met g f) (pair_set w x))
    partners-say h = grind (arith, four, has_perfect, union, pair_set, both_ways, not-true, eq-eqb, has_perfect_says)

    say-partners : w ≢ x → is_met g f w ≡ false → is_met g f x ≡ false → HasPerfect g (union (is_met g f) (pair_set w x)) → mem (item t.outer w) x ≡ true
    say-partners d ow ox p = grind (arith, all-four, has_perfect, union, pair_set, ne_eqb, has_perfect_found)

  module _ (u v : ℕ) (wu : Within g.order u) where
    abbrev near : ℕ → Set
    near w = mem (item t.near.items w)

    abbrev far : Set
    far = in_rows t.outer g.order (near u)

    reached-leads : reached g t u v ≡ true → LeadsOff g f u v
    reached-leads h = grind (arith, or_cases, some_true, and_parts, mem, item, partners-say, adjacent-back)

    leads-reached : LeadsOff g f u v → reached g t u v ≡ true
    leads-reached h = elim h [
      | inl i ↦ or_right (in_rows t.near.items g.order far v) (near u v) (tables.near u v wu ∙ i.0)
      | inr i ↦
          let ww = adjacent-within g is.ends f u i.0 i.5 in
          let wx = adjacent-within g is.ends f v i.1 i.6 in
          or_left (in_rows t.near.items g.order far v) (near u v)
          (true_some g.order (λ k. far k && near k v) i.1 wx (and_from (far i.1) (near i.1 v)
          (true_some g.order (λ k. near u k && mem (item t.outer k) i.1) i.0 ww (and_from (near u i.0) (mem (item t.outer i.0) i.1) (tables.near u i.0 wu ∙ i.5) (say-partners i.0 i.1 ww wx i.2 i.3 i.4 i.7)))
          (tables.near i.1 v wx ∙ adjacent-back g f v i.1 i.6)))
    ]

  -- with a partner of u on the stage
  module _ (u : ℕ) (on : is_met g f u ≡ true) (v : ℕ) where
    pub lone-sound : ArePartnersOn g f u v → reached g t u v ≡ true → (u ≢ v) × (is_met g f v ≡ true) × ((m : Set) × IsPerfectBy g (is_open g f u v) m)
    lone-sound p far = (p.0, p.2, lone-whole g is f u v p.0 on p.2 (p.3, reached-leads u v (met-within g is.ends f u on) far))

    pub lone-complete : u ≢ v → is_met g f v ≡ true → (m : Set) → IsPerfectBy g (is_open g f u v) m → ArePartnersOn g f u v × (reached g t u v ≡ true)
    lone-complete d on_v m by =
        let p = lone-parts g is f u v d on on_v m by in
        ((d, on, on_v, p.0), leads-reached u v (met-within g is.ends f u on) p.1)

-- the tables as they are made
pub tables-are : (g : Graph) → IsGraph g → (f : Set) (n : MatchingValue) → IsPerfectRows g n → KeepsMates g (row_edge n.rows) (is_met g f) → (t : Tables) (met : Set) → ((v : ℕ) → met v ≡ is_met g f v) → ArePartners g met t.outer →
    length t.near.items ≡ g.order → ((u v : ℕ) → Within g.order u → mem (item t.near.items u) v ≡ adjacent_by g (complement f) u v) → AreTables g f t
tables-are g is f n rows keeps t met same outer long each = record {
  rest = kept-rest g is f n rows keeps;
  outer = subst (λ (x : Set). ArePartners g x t.outer) (fun_ext same) outer;
  near_long = long;
  near = each;
}

-- what is reached, as it is found
pub reached-is : (g : Graph) (t : Tables) (u : ℕ) (near far beyond : List ℕ) → near ≡ item t.near.items u → ((w : ℕ) → mem far w ≡ in_rows t.outer g.order (mem near) w) → ((w : ℕ) → mem beyond w ≡ in_rows t.near.items g.order (mem far) w) →
    (v : ℕ) → (mem beyond v || mem near v) ≡ reached g t u v
reached-is g t u near far beyond is h b v = ap₂ ◌||◌ (b v ∙ ap (λ (x : Set). in_rows t.near.items g.order x v) far-are) (ap (λ (xs : List ℕ). mem xs v) is)
  where
    far-are : mem far ≡ in_rows t.outer g.order (mem (item t.near.items u))
    far-are = fun_ext h ∙ ap (λ (xs : List ℕ). in_rows t.outer g.order (mem xs)) is

-- the neighbours by one edge more
pub near-step : (g : Graph) (f : Set) (k u v : ℕ) (old new on : Bool) (a b : ℕ) → new ≡ (old || (not on && ((a == u && b == v) || (a == v && b == u)))) → old ≡ some k (λ e. not (f e) && has_ends g u v e) → on ≡ f (k + 1) → a ≡ first_end g (k + 1) → b ≡ second_end g (k + 1) →
    new ≡ some (k + 1) (λ e. not (f e) && has_ends g u v e)
near-step g f k u v old new on a b is so_far i j l = is ∙ here ∙ ap (λ n. some k p || p n) (sym next) ∙ ap (λ n. some n p) next
  where
    p : Set
    p e = not (f e) && has_ends g u v e

    next : suc k ≡ k + 1
    next = omega arith

    here : (old || (not on && ((a == u && b == v) || (a == v && b == u)))) ≡ (some k p || p (k + 1))
    here = simp (so_far, i, j, l)
