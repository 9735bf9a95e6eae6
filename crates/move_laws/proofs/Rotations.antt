-- Rotate keeps derivations and their leaves, in each of its three rows and along a path. Idea: two
-- disjoint shores may be merged in either order, since the partition after both is the same.
use Rattle.move_laws.specs.Common.{AreRising}
use Rattle.graph_core.proofs.from_counting.Common.{Bool, List, None, Option, Some, [], ap, ap₂, arith, false, if◌then◌else◌, inl, inr, not, option_map, refl, subst, sym, true, ℕ, ◌&&◌, ◌++◌, ◌∙◌, ◌∷◌, ◌≡◌, both_ways, cases_Bool, none-some, same_Some, all_in_true, Within, is_apart, is_subset, mem, Set, everything, minus}
use Rattle.graph_core.proofs.Common.{mem-complement_of, Apart, Below, inside_or_apart, Graph, complement_of, merged}
use Rattle.tree_core.proofs.Common.{IsDerivationAt, kept_at, merged_at, leaves_at, result_at, rotate_result_at, rotate_result_kept, rotate_result_merged, Shape, cut, cut_count, leaf}
use Rattle.tree_core.specs.declared.path.Side.{Side}
use Rattle.tree_core.specs.declared.path.Side.TheVariants.{Kept, Merged}
use Rattle.move_laws.proofs.BigShores.{Big, Stage, big_cut, big_merge, big_rest, big_some, big_x, big_y, commuted, cut_big, rest_rest, stage_merged, swallowed}

-- two apart shores can change their order
pub record Swap (g : Graph) (p : List (List ℕ)) (x y : List ℕ) : Type 0 where
  pub other : Big g p y
  pub down : Big g (merged p y) x
  pub same : merged (merged p x) y ≡ merged (merged p y) x
  pub around_second : merged (merged p x) (complement_of g.order y) ≡ merged p (complement_of g.order y)
  pub around_first : merged (merged p y) (complement_of g.order x) ≡ merged p (complement_of g.order x)

apart_turn : (n : ℕ) (x y : Set) → Apart n x y → Apart n y x
apart_turn n x y a v w h = elim (cases_Bool (x v)) [ inr f ↦ f | inl t ↦ absurd (both_ways (y v) (a v w t) h) ]

pub swap : (g : Graph) (p : List (List ℕ)) (stage : Stage g p) (x y : List ℕ) → Big g p x → Big g (merged p x) y → Apart g.order (mem x) (mem y) → Swap g p x y
swap g p stage x y bx byx a =
    let by = big_y g p stage x y bx byx a in
    let bxy = big_x g p stage x y bx byx a in
    record {
      other = by;
      down = bxy;
      same = commuted g p stage x y bx by byx bxy a;
      around_second = swallowed g p stage x y bx by byx bxy a;
      around_first = swallowed g p stage y x by bx bxy byx (apart_turn g.order (mem x) (mem y) a);
    }

pub append_join : {A : Type 0} (xs ys zs : List A) → (xs ++ ys) ++ zs ≡ xs ++ (ys ++ zs)
append_join [] ys zs = refl
append_join (x ∷ xs) ys zs = ap (λ l. x ∷ l) (append_join xs ys zs)

module _ (g : Graph) (p : List (List ℕ)) (stage : Stage g p) where
  last : (x : List ℕ) → Big g p x → Within g.order g.order
  last x b = let s = big_some g p stage x b in let w = s.1 in (omega arith, omega arith)

  -- the first row
  pub row_kept : (x y : List ℕ) (a b c : Shape) → AreRising g.order (cut x (cut y a b) c) → IsDerivationAt g p (cut x (cut y a b) c) →
      IsDerivationAt g p (cut y a (cut x b c)) × (leaves_at g.order p (cut y a (cut x b c)) ≡ leaves_at g.order p (cut x (cut y a b) c))
  row_kept x y a b c fits d =
      let bx = cut_big g p stage x fits.0 d.0 in
      let rx = big_rest g p stage x bx in
      let sk = stage_merged g p stage (complement_of g.order x) rx in
      let byx = cut_big g (merged p (complement_of g.order x)) sk y fits.1.0 d.1.0 in
      let s = swap g p stage (complement_of g.order x) y rx byx (apart x y bx rx byx d.0.canonical d.1.0.canonical) in
      let sy = stage_merged g p stage y s.other in
      let down : Big g (merged p y) x = subst (Big g (merged p y)) (rest_rest g.order x fits.0) (big_rest g (merged p y) sy (complement_of g.order x) s.down) in
      let around_first : merged (merged p y) x ≡ merged p x = sym (ap (merged (merged p y)) (rest_rest g.order x fits.0)) ∙ s.around_first ∙ ap (merged p) (rest_rest g.order x fits.0) in (
        (
          big_cut g p stage y s.other d.1.0.canonical,
          subst (λ q. IsDerivationAt g q a) s.around_second d.1.1,
          (big_cut g (merged p y) sy x down d.0.canonical, subst (λ q. IsDerivationAt g q b) s.same d.1.2, subst (λ q. IsDerivationAt g q c) (sym around_first) d.2),
        ),
        ap₂ ◌++◌ (ap (λ q. leaves_at g.order q a) (sym s.around_second)) (ap₂ ◌++◌ (ap (λ q. leaves_at g.order q b) (sym s.same)) (ap (λ q. leaves_at g.order q c) around_first))
            ∙ sym (append_join (leaves_at g.order (merged (merged p (complement_of g.order x)) (complement_of g.order y)) a) (leaves_at g.order (merged (merged p (complement_of g.order x)) y) b) (leaves_at g.order (merged p x) c)),
      )
    where
      apart : (x y : List ℕ) (bx : Big g p x) (rx : Big g p (complement_of g.order x)) → Big g (merged p (complement_of g.order x)) y → mem x g.order ≡ false → mem y g.order ≡ false → Apart g.order (mem (complement_of g.order x)) (mem y)
      apart x y bx rx by nx ny = elim (inside_or_apart g.order p (merged p (complement_of g.order x)) (mem (complement_of g.order x)) stage.list.partition rx.tight.union (big_merge g p stage (complement_of g.order x) rx) (big_some g p stage (complement_of g.order x) rx) (mem y) by.tight.union) [
        | inr a ↦ a
        | inl b ↦ let w = last x bx in absurd (both_ways (mem y g.order) ny (b g.order w (mem-complement_of g.order x g.order w ∙ ap not nx)))
      ]

  -- the second row: x inside y
  pub row_inside : (x y : List ℕ) (a b c : Shape) → Below g.order (mem x) (mem y) → AreRising g.order (cut x a (cut y b c)) → IsDerivationAt g p (cut x a (cut y b c)) →
      IsDerivationAt g p (cut y (cut x a b) c) × (leaves_at g.order p (cut y (cut x a b) c) ≡ leaves_at g.order p (cut x a (cut y b c)))
  row_inside x y a b c below fits d =
      let bx = cut_big g p stage x fits.0 d.0 in
      let sx = stage_merged g p stage x bx in
      let byx = cut_big g (merged p x) sx y fits.2.0 d.2.0 in
      let ry = complement_of g.order y in
      let ryx = big_rest g (merged p x) sx y byx in
      let s = swap g p stage x ry bx ryx (λ v w h. mem-complement_of g.order y v w ∙ ap not (below v w h)) in
      let sy = stage_merged g p stage ry s.other in
      let two : complement_of g.order ry ≡ y = rest_rest g.order y fits.2.0 in
      let by : Big g p y = subst (Big g p) two (big_rest g p stage ry s.other) in
      let around_second : merged (merged p x) y ≡ merged p y = sym (ap (merged (merged p x)) two) ∙ s.around_second ∙ ap (merged p) two in (
        (
          big_cut g p stage y by d.2.0.canonical,
          (big_cut g (merged p ry) sy x s.down d.0.canonical, subst (λ q. IsDerivationAt g q a) (sym s.around_first) d.1, subst (λ q. IsDerivationAt g q b) s.same d.2.1),
          subst (λ q. IsDerivationAt g q c) around_second d.2.2,
        ),
        ap₂ ◌++◌ (ap₂ ◌++◌ (ap (λ q. leaves_at g.order q a) s.around_first) (ap (λ q. leaves_at g.order q b) (sym s.same))) (ap (λ q. leaves_at g.order q c) (sym around_second))
            ∙ append_join (leaves_at g.order (merged p (complement_of g.order x)) a) (leaves_at g.order (merged (merged p x) ry) b) (leaves_at g.order (merged (merged p x) y) c),
      )

  -- the third row: x and y apart
  pub row_apart : (x y : List ℕ) (a b c : Shape) → Apart g.order (mem x) (mem y) → AreRising g.order (cut x a (cut y b c)) → IsDerivationAt g p (cut x a (cut y b c)) →
      IsDerivationAt g p (cut y b (cut x a c))
      × (leaves_at g.order p (cut y b (cut x a c)) ≡ leaves_at g.order (kept_at g.order (merged_at g.order p x) y) b ++ (leaves_at g.order (kept_at g.order p x) a ++ leaves_at g.order (merged_at g.order (merged_at g.order p x) y) c))
  row_apart x y a b c apart fits d =
      let bx = cut_big g p stage x fits.0 d.0 in
      let sx = stage_merged g p stage x bx in
      let byx = cut_big g (merged p x) sx y fits.2.0 d.2.0 in
      let s = swap g p stage x y bx byx apart in
      let sy = stage_merged g p stage y s.other in (
        (
          big_cut g p stage y s.other d.2.0.canonical,
          subst (λ q. IsDerivationAt g q b) s.around_second d.2.1,
          (big_cut g (merged p y) sy x s.down d.0.canonical, subst (λ q. IsDerivationAt g q a) (sym s.around_first) d.1, subst (λ q. IsDerivationAt g q c) s.same d.2.2),
        ),
        ap₂ ◌++◌ (ap (λ q. leaves_at g.order q b) (sym s.around_second)) (ap₂ ◌++◌ (ap (λ q. leaves_at g.order q a) s.around_first) (ap (λ q. leaves_at g.order q c) (sym s.same))),
      )

-- what a move at a node keeps
abbrev pub Keeps : Graph → (Shape → Option Shape) → Type 0
Keeps g f = (p : List (List ℕ)) (t r : Shape) → Stage g p → AreRising g.order t → IsDerivationAt g p t → f t ≡ Some r → IsDerivationAt g p r × AreRising g.order r × (cut_count r ≡ cut_count t)

rotate_kept_keeps : (g : Graph) (p : List (List ℕ)) (x : List ℕ) (a c r : Shape) → Stage g p → AreRising g.order (cut x a c) → IsDerivationAt g p (cut x a c) → rotate_result_kept x a c ≡ Some r → IsDerivationAt g p r × AreRising g.order r × (cut_count r ≡ cut_count (cut x a c))
rotate_kept_keeps g p x leaf c r st f d e = absurd (none-some _ e)
rotate_kept_keeps g p x (cut y a b) c r st f d e =
    subst (λ t. IsDerivationAt g p t × AreRising g.order t × (cut_count t ≡ cut_count (cut x (cut y a b) c))) (same_Some _ _ e)
    ((row_kept g p st x y a b c f d).0, (f.1.0, f.1.1, (f.0, f.1.2, f.2)), omega arith)

rotate_merged_keeps : (g : Graph) (p : List (List ℕ)) (x : List ℕ) (a c r : Shape) → Stage g p → AreRising g.order (cut x a c) → IsDerivationAt g p (cut x a c) → rotate_result_merged x a c ≡ Some r → IsDerivationAt g p r × AreRising g.order r × (cut_count r ≡ cut_count (cut x a c))
rotate_merged_keeps g p x a leaf r st f d e = absurd (none-some _ e)
rotate_merged_keeps g p x a (cut y b c) r st f d e = go (is_subset x y) refl (is_apart x y) refl e
  where
    negated : (b : Bool) → (true && not b) ≡ true → b ≡ false
    negated b h = grind arith

    go : (s : Bool) → is_subset x y ≡ s → (t : Bool) → is_apart x y ≡ t → (if s then Some (cut y (cut x a b) c) else (if t then Some (cut y b (cut x a c)) else None)) ≡ Some r →
        IsDerivationAt g p r × AreRising g.order r × (cut_count r ≡ cut_count (cut x a (cut y b c)))
    go true h t k e =
        subst (λ t. IsDerivationAt g p t × AreRising g.order t × (cut_count t ≡ cut_count (cut x a (cut y b c)))) (same_Some _ _ e)
        ((row_inside g p st x y a b c (λ v w m. all_in_true x (mem y) h v m) f d).0, (f.2.0, (f.0, f.1, f.2.1), f.2.2), omega arith)
    go false h true k e =
        subst (λ t. IsDerivationAt g p t × AreRising g.order t × (cut_count t ≡ cut_count (cut x a (cut y b c)))) (same_Some _ _ e)
        ((row_apart g p st x y a b c (λ v w m. negated (mem y v) (all_in_true x (minus everything (mem y)) k v m)) f d).0, (f.2.0, f.2.1, (f.0, f.1, f.2.2)), omega arith)
    go false h false k e = absurd (none-some _ e)

-- Rotate at a node keeps derivations
pub rotate_keeps : (g : Graph) (side : Side) → Keeps g (rotate_result_at side)
rotate_keeps g side p leaf r st f d e = absurd (none-some _ e)
rotate_keeps g Kept p (cut x a b) r st f d e = rotate_kept_keeps g p x a b r st f d e
rotate_keeps g Merged p (cut x a b) r st f d e = rotate_merged_keeps g p x a b r st f d e

-- what of a mapped result is known
pub mapped : (f : Shape → Shape) (o : Option Shape) (t : Shape) → option_map f o ≡ Some t → (r : Shape) × (o ≡ Some r) × (f r ≡ t)
mapped f None t e = absurd (none-some _ e)
mapped f (Some r) t e = (r, refl, same_Some _ _ e)

-- and along a path
pub path_keeps : (g : Graph) (f : Shape → Option Shape) → Keeps g f → (path : List Side) → Keeps g (result_at f path)
path_keeps g f k [] p t r st fits d e = k p t r st fits d e
path_keeps g f k (side ∷ path) p leaf r st fits d e = absurd (none-some _ e)
path_keeps g f k (Kept ∷ path) p (cut x a b) r st fits d e =
    let m = mapped (λ c. cut x c b) (result_at f path a) r e in
    let stage = stage_merged g p st (complement_of g.order x) (big_rest g p st x (cut_big g p st x fits.0 d.0)) in
    let q = path_keeps g f k path (kept_at g.order p x) a m.0 stage fits.1 d.1 m.1 in
    subst (λ t. IsDerivationAt g p t × AreRising g.order t × (cut_count t ≡ cut_count (cut x a b))) m.2 ((d.0, q.0, d.2), (fits.0, q.1, fits.2), omega (arith, q.2))
path_keeps g f k (Merged ∷ path) p (cut x a b) r st fits d e =
    let m = mapped (λ c. cut x a c) (result_at f path b) r e in
    let stage = stage_merged g p st x (cut_big g p st x fits.0 d.0) in
    let q = path_keeps g f k path (merged_at g.order p x) b m.0 stage fits.2 d.2 m.1 in
    subst (λ t. IsDerivationAt g p t × AreRising g.order t × (cut_count t ≡ cut_count (cut x a b))) m.2 ((d.0, d.1, q.0), (fits.0, fits.1, q.1), omega (arith, q.2))
