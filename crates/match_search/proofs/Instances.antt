-- What an instance says about its graph, and the instance of a whole graph. A vertex that is left
-- is near where its row contains it, or where it is a blossom with a member in the row.
use Rattle.graph_core.proofs.from_counting.Common.{◌≡◌, ◌≢◌, ◌↔◌, ℕ, ◌≤◌, true, false, refl, sym, ap, ◌∙◌, arith, eq-eqb, inl, inr, ◌⊎◌, not, ◌&&◌, ◌||◌, nat_lt, nat_le, lt-ltb, length, List, [], ◌∷◌, and_from, and_parts, cases_Bool, le-leb, true≢false, true_some, Within, Set, none, mem, item}
use Rattle.graph_core.proofs.Common.{has_ends-from, adjacent-edge, has_ends-cases, Graph, HasEnds, IsGraph, has_ends, size, AreRows}
use Rattle.match_search.specs.Common.{AreNear, IsInstance, Touches, AreAlike, IsPutBack, IsShrinking, IsUnshrunk}
use Rattle.match_search.specs.declared.instance.Instance.{Instance}
use Rattle.match_search.specs.declared.instance.Unshrunk.{Unshrunk}

-- what the vertices that are left are
pub left_parts : (g : Graph) (r : Set) (s : Instance) → IsInstance g r s → (v : ℕ) → mem s.left v ≡ true → Within g.order v × (r v ≡ false)
left_parts g r s is v t = grind arith

pub left_from : (g : Graph) (r : Set) (s : Instance) → IsInstance g r s → (v : ℕ) → Within g.order v → r v ≡ false → mem s.left v ≡ true
left_from g r s is v w rv = is.left v ∙ and_from (nat_lt 0 v && nat_le v g.order) (not (r v)) (and_from (nat_lt 0 v) (nat_le v g.order) (lt-ltb 0 v (omega arith)) (le-leb v g.order (omega arith))) (ap not rv)

-- a vertex that touches one that is left is joined to it by an edge
pub near_edge : (g : Graph) (r : Set) (s : Instance) → IsInstance g r s → (x y : ℕ) → Within g.order x → r x ≡ false → Touches s x y → mem s.left y ≡ true → x ≢ y → (d : ℕ) × Within (size g) d × HasEnds g d x y
near_edge g r s is x y wx rx n l d = let p = left_parts g r s is y l in is.joined x y wx p.0 rx p.1 d n

-- what a pass over the blossoms finds beside the row
pub near_found : (g : Graph) (r : Set) (s : Instance) → IsInstance g r s → (v : ℕ) (row near result : List ℕ) → row ≡ item s.rows.items v
    → ((w : ℕ) → mem near w ≡ true → (mem row w ≡ true) ⊎ ((u : ℕ) × (mem row u ≡ true) × (mem (item s.members.items w) u ≡ true)))
    → ((w : ℕ) → mem row w ≡ true → mem near w ≡ true)
    → ((w u : ℕ) → mem s.blossoms w ≡ true → mem row u ≡ true → mem (item s.members.items w) u ≡ true → mem near w ≡ true)
    → ((w : ℕ) → mem result w ≡ (mem near w && mem s.left w)) → AreNear s v result
near_found g r s is v row near result row_is from kept found result_is w = (
  λ t.
      let a = and_parts (mem near w) (mem s.left w) (sym (result_is w) ∙ t) in
      let p = left_parts g r s is w a.1 in (
        a.1,
        elim (from w a.0) [
          | inl q ↦ (w, sym (ap (λ (xs : List ℕ). mem xs w) row_is) ∙ q, is.own w p.0 p.1)
          | inr q ↦ (q.0, sym (ap (λ (xs : List ℕ). mem xs q.0) row_is) ∙ q.1, q.2)
        ],
      ),
  λ t.
      let p = left_parts g r s is w t.0 in
      let n = t.1 in
      let here : mem row n.0 ≡ true = ap (λ (xs : List ℕ). mem xs n.0) row_is ∙ n.1 in
      result_is w ∙ and_from (mem near w) (mem s.left w)
      (elim (cases_Bool (mem s.blossoms w)) [
        | inl b ↦ found w n.0 b here n.2
        | inr b ↦ ap (mem near) (is.single w n.0 p.0 p.1 b n.2) ∙ kept n.0 here
      ]) t.0,
)

-- the first of a list is in it
pub first_in : (xs ys : List ℕ) (v : ℕ) → xs ≡ v ∷ ys → mem xs v ≡ true
first_in xs ys v q = ap (λ (zs : List ℕ). mem zs v) q ∙ ap (λ b. b || mem ys v) (eq-eqb v v refl)

-- the vertices of 1 to n without those removed
pub full_left : (n : ℕ) (r : Set) (full left : List ℕ) → ((v : ℕ) → (mem full v ≡ true) ↔ Within n v) → ((v : ℕ) → mem left v ≡ (mem full v && not (r v))) → (v : ℕ) → mem left v ≡ ((nat_lt 0 v && nat_le v n) && not (r v))
full_left n r full left full_is left_is v = grind arith

-- each vertex its own only member
pub whole_instance : (g : Graph) (r : Set) (s : Instance) → IsGraph g → g.order ≤ 128 → AreRows g s.rows.items → length s.members.items ≡ g.order → ((v : ℕ) → Within g.order v → item s.members.items v ≡ v ∷ [])
    → s.blossoms ≡ [] → ((v : ℕ) → mem s.left v ≡ ((nat_lt 0 v && nat_le v g.order) && not (r v))) → IsInstance g r s
whole_instance g r s is few rows members alone blossoms left = record {
  graph = is;
  few = few;
  one_each = rows.one_each;
  members_each = members;
  left = left;
  blossoms_in = λ v t. absurd (true≢false (sym t ∙ ap (λ (xs : List ℕ). mem xs v) blossoms));
  own = λ v w rv. own v w;
  single = λ v w wv rv b t. only v w wv t;
  joined = λ v w wv ww rv rw d t.
      let e = adjacent-edge g none v w (sym (rows.adjacent_is v w wv) ∙ ap (mem (item s.rows.items v)) (only w t.0 ww t.2) ∙ t.1) in
      (e.2.0, e.2.1, has_ends-cases g v w e.2.0 e.2.2);
  touched = λ d v w wd ends wv ww rv rw n. (w, rows.adjacent_is v w wv ∙ true_some (size g) (has_ends g v w) d wd (has_ends-from g v w d ends), own w ww);
}
  where
    own : (v : ℕ) → Within g.order v → mem (item s.members.items v) v ≡ true
    own v w = ap (λ (xs : List ℕ). mem xs v) (alone v w) ∙ ap (λ b. b || false) (eq-eqb v v refl)

    only : (v w : ℕ) → Within g.order v → mem (item s.members.items v) w ≡ true → v ≡ w
    only v w wv t = grind arith

pub alike_self : (s : Instance) → AreAlike s s
alike_self s = record { rows_long = refl; members_long = refl; rows = λ v w. refl; members = λ v w. refl; blossoms = refl; left = refl }

pub alike_then : (s h k : Instance) → AreAlike s h → AreAlike h k → AreAlike s k
alike_then s h k a b = grind arith

-- an instance that holds the same is one of the same graph
pub instance_alike : (g : Graph) (r : Set) (s h : Instance) → IsInstance g r s → AreAlike s h → IsInstance g r h
instance_alike g r s h is a = record {
  graph = is.graph;
  few = is.few;
  one_each = a.rows_long ∙ is.one_each;
  members_each = a.members_long ∙ is.members_each;
  left = λ v. ap (λ (xs : List ℕ). mem xs v) a.left ∙ is.left v;
  blossoms_in = λ v t. is.blossoms_in v (sym (ap (λ (xs : List ℕ). mem xs v) a.blossoms) ∙ t);
  own = λ v w rv. ap (λ (xs : List ℕ). mem xs v) (members v w) ∙ is.own v w rv;
  single = λ v w wv rv b t. is.single v w wv rv (sym (ap (λ (xs : List ℕ). mem xs v) a.blossoms) ∙ b) (sym (ap (λ (xs : List ℕ). mem xs w) (members v wv)) ∙ t);
  joined = λ v w wv ww rv rw n t. is.joined v w wv ww rv rw n (t.0, sym (ap (λ (xs : List ℕ). mem xs t.0) (rows v wv)) ∙ t.1, sym (ap (λ (xs : List ℕ). mem xs t.0) (members w ww)) ∙ t.2);
  touched = λ d v w wd ends wv ww rv rw n. let t = is.touched d v w wd ends wv ww rv rw n in (t.0, ap (λ (xs : List ℕ). mem xs t.0) (rows v wv) ∙ t.1, ap (λ (xs : List ℕ). mem xs t.0) (members w ww) ∙ t.2);
}
  where
    rows : (v : ℕ) → Within g.order v → item h.rows.items v ≡ item s.rows.items v
    rows v w = a.rows v (let e = is.one_each in omega arith)

    members : (v : ℕ) → Within g.order v → item h.members.items v ≡ item s.members.items v
    members v w = a.members v (let e = is.members_each in omega arith)

-- what a shrinking took is put back
pub put_back : (s h t u : Instance) (cycle : Set) (base : ℕ) (before : Unshrunk) → IsShrinking s cycle base h → IsUnshrunk s base before → AreAlike h t → IsPutBack t base before u → AreAlike s u
put_back s h t u cycle base before shrink taken same put = grind arith
