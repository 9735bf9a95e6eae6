use Rattle.graph_core.proofs.from_counting.Common.{◌≡◌, ℕ, suc, ◌+◌, ◌==◌, ◌&&◌, not, Bool, true, false, List, slice_index_or, eq-eqb, eqb-true, sym, ap, ap₂, ◌∙◌, subst, subst₂, arith, with_items_is, both_ways}
use Rattle.graph_core.specs.declared.ends.Ends.{Ends}
use Rattle.match_search.specs.Common.{numbers, with_mate}
use Rattle.match_search.proofs.GreedyMates.{no-mates}
use Rattle.match_core.specs.Common.{NamesPairs}
use Rattle.match_core.proofs.PairedEdges.{names_all, names_none, names_pair, names_rest}
use Rattle.match_core.proofs.repairs.paired_edges.Goals.{then-is_first_of_pair, else-is_first_of_pair}
use Rattle.match_core.proofs.repairs.paired_edges.Goals as goal

pub loop-k-init : goal.loop-k-init
loop-k-init c = grind (arith, names_none, no-mates)

first_parts : (p q s t : Bool) → (p && (not q && (s && t))) ≡ true → (p ≡ true) × (q ≡ false) × (s ≡ true) × (t ≡ true)
first_parts p q s t h = grind arith

next : (k : ℕ) → suc k ≡ k + 1
next k = omega arith

pub loop-k-preserved : goal.loop-k-preserved
loop-k-preserved c =
    let before = c.loop-k.invariant.named in
    elim c.if-is_first_of_pair.branch [
      | then-is_first_of_pair w ↦ record {
        long = grind arith;
        named = subst (λ k. NamesPairs c.args.n c.args.ends.now c.args.mate.now c.if-is_first_of_pair.at.items k) (next c.loop-k.k)
            (let e : Ends = slice_index_or c.args.ends.now c.loop-k.k (record { a = 0; b = 0 }) in
            let row : c.deref.result.now ≡ c.loop-k.at.items = c.deref.ensures.value in
            let is = first_parts (numbers c.args.mate.now e.a == e.b) (e.a == e.b) (numbers c.deref.result.now e.a == 0) (numbers c.deref.result.now e.b == 0) (sym c.is_first_of_pair.ensures ∙ w.if-is_first_of_pair.true) in
            let now : c.if-is_first_of_pair.at.items ≡ w.name_at_ends.new.at = grind (arith, with_items_is) in
            let named : (v : ℕ) → numbers c.if-is_first_of_pair.at.items v ≡ with_mate (with_mate (numbers c.loop-k.at.items) e.a (suc c.loop-k.k)) e.b (suc c.loop-k.k) v = λ v. ap (λ (xs : List ℕ). numbers xs v) now ∙ w.name_at_ends.ensures v ∙ ap₂ (λ (xs : List ℕ) (k : ℕ). with_mate (with_mate (numbers xs) e.a k) e.b k v) w.deref_mut.ensures.value (sym (next c.loop-k.k)) in
            names_pair c.args.n c.args.ends.now c.args.mate.now c.loop-k.at.items c.loop-k.k c.loop-k-test.true before c.if-is_first_of_pair.at.items c.requires.row.within
            (eqb-true (numbers c.args.mate.now e.a) e.b is.0) (λ q. both_ways (e.a == e.b) is.1 (eq-eqb e.a e.b q))
            (sym (ap (λ xs. numbers xs e.a) row) ∙ eqb-true (numbers c.deref.result.now e.a) 0 is.2) (sym (ap (λ xs. numbers xs e.b) row) ∙ eqb-true (numbers c.deref.result.now e.b) 0 is.3) named);
      }
      | else-is_first_of_pair w ↦ record {
        long = grind arith;
        named = subst₂ (λ (row : List ℕ) (k : ℕ). NamesPairs c.args.n c.args.ends.now c.args.mate.now row k) (grind arith) (next c.loop-k.k)
            (names_rest c.args.n c.args.ends.now c.args.mate.now c.loop-k.at.items c.loop-k.k c.loop-k-test.true before (λ p d. grind arith));
      }
    ]

pub returns-clause-named : goal.returns-clause-named
returns-clause-named c = λ r f has.
    let end = c.loop-k.auto.k-end in
    let last = c.loop-k-test.false in
    names_all c.args.n c.args.ends.now c.args.mate.now c.loop-k.at.items c.requires.row.within (subst (λ k. NamesPairs c.args.n c.args.ends.now c.args.mate.now c.loop-k.at.items k) (omega arith) c.loop-k.invariant.named) r f has
