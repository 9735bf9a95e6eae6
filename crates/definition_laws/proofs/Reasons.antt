-- A graph is matching covered or there is a reason why not, never both, and no two reasons. Each
-- reason denies a part of being covered and asserts the parts before it; each part is decided,
-- and each graph has a Berge set.
use Rattle.counting.proofs.Common.{◌≡◌, ℕ, ◌+◌, ◌≤◌, ◌⊎◌, ◌||◌, inl, inr, refl, sym, ap, ap₂, ◌∙◌, arith, List, nat_le, leb-true, leb-false, all_or_least, cases_Bool, count_congr, mem-rising_list, rising_list-rises, least-one, Within, IsRisingIn, mem, rising_list, none, union}
use Rattle.barrier_kit.proofs.Common.{perfect_or_not, odd_component_count-congr}
use Rattle.graph_core.proofs.Common.{allowed_or_not, joined_back, joined_on, joined_or_not, IsBergeSet, IsConnected, IsCovered, IsReason, Reason, Small, Parted, Unmatched, Unallowed, Graph, IsGraph, size, Allowed, HasPerfect, missed_count, Joined}
use Rattle.definition_laws.specs.Words.{without_berge}
use Rattle.barrier_kit.proofs.from_match_core.TutteBerge.{tutte_berge}

-- where vertex 1 is joined to each vertex, each is joined to each
connected_from_one : (g : Graph) → ((v : ℕ) → Within g.order v → Joined g none 1 v) → IsConnected g
connected_from_one g all u v wu wv = joined_on g none u 1 v (joined_back g none 1 u (all u wu)) (all v wv)

-- each graph has a Berge set, as an increasing list
berge_list : (g : Graph) → IsGraph g → (s : List ℕ) × IsRisingIn g.order s × IsBergeSet g none (mem s)
berge_list g is =
    let t = tutte_berge g none is in
    let s = rising_list g.order t.s in
    let same : (v : ℕ) → Within g.order v → mem s v ≡ t.s v = mem-rising_list g.order t.s in
    let sizes = count_congr g.order (mem s) t.s same in
    let parts = odd_component_count-congr g (union none (mem s)) (union none t.s) is (λ v w. ap (λ b. none v || b) (same v w)) in
    (s, rising_list-rises g.order t.s, (t.m, t.is, ap (λ c. missed_count g none t.m + c) sizes ∙ t.equal ∙ sym parts))

-- covered, or a reason
pub covered_or_reason : (g : Graph) → IsGraph g → (IsCovered g) ⊎ ((r : Reason) × IsReason g r)
covered_or_reason g is = grind (arith, cases_Bool (nat_le 2 g.order), nat_le 2 g.order, leb-false 2 g.order, big, leb-true 2 g.order)
  where
    matched : 2 ≤ g.order → IsConnected g → HasPerfect g none → (IsCovered g) ⊎ ((r : Reason) × IsReason g r)
    matched two con per = elim (all_or_least (size g) (Allowed g) (allowed_or_not g)) [
      | inl all ↦ inl (record { two = two; connected = con; allowed = λ e w d. all e w })
      | inr f ↦ inr (Unallowed f.0, (two, con, per, f.1))
    ]

    connected : 2 ≤ g.order → IsConnected g → (IsCovered g) ⊎ ((r : Reason) × IsReason g r)
    connected two con = elim (perfect_or_not g none) [
      | inl per ↦ matched two con per
      | inr alone ↦ let b = berge_list g is in inr (Unmatched b.0, (two, con, λ h. alone h.0 h.1, b.1, b.2))
    ]

    big : 2 ≤ g.order → (IsCovered g) ⊎ ((r : Reason) × IsReason g r)
    big two = elim (all_or_least g.order (Joined g none 1) (λ v w. joined_or_not g none is 1 v (omega arith))) [
      | inl all ↦ connected two (connected_from_one g all)
      | inr f ↦ inr (Parted 1 f.0, (two, refl, f.1))
    ]

-- two reasons of one graph are equal except for the Berge set
pub reason-one : (g : Graph) (q r : Reason) → IsReason g q → IsReason g r → without_berge q ≡ without_berge r
reason-one g Small Small a b = refl
reason-one g Small (Parted c d) a b = let two = b.0 in absurd (omega arith)
reason-one g Small (Unmatched t) a b = let two = b.0 in absurd (omega arith)
reason-one g Small (Unallowed f) a b = let two = b.0 in absurd (omega arith)
reason-one g (Parted c d) Small a b = let two = a.0 in absurd (omega arith)
reason-one g (Parted c d) (Parted i j) a b = ap₂ Parted (a.1 ∙ sym b.1) (least-one g.order (Joined g none 1) d j a.2 b.2)
reason-one g (Parted c d) (Unmatched t) a b = let two = a.0 in absurd (a.2.without (b.1 1 d (omega arith) a.2.within))
reason-one g (Parted c d) (Unallowed f) a b = let two = a.0 in absurd (a.2.without (b.1 1 d (omega arith) a.2.within))
reason-one g (Unmatched s) Small a b = let two = a.0 in absurd (omega arith)
reason-one g (Unmatched s) (Parted i j) a b = let two = b.0 in absurd (b.2.without (a.1 1 j (omega arith) b.2.within))
reason-one g (Unmatched s) (Unmatched t) a b = refl
reason-one g (Unmatched s) (Unallowed f) a b = absurd (a.2 b.2)
reason-one g (Unallowed e) Small a b = let two = a.0 in absurd (omega arith)
reason-one g (Unallowed e) (Parted i j) a b = let two = b.0 in absurd (b.2.without (a.1 1 j (omega arith) b.2.within))
reason-one g (Unallowed e) (Unmatched t) a b = absurd (b.2 a.2)
reason-one g (Unallowed e) (Unallowed f) a b = ap Unallowed (least-one (size g) (Allowed g) e f a.3 b.3)
