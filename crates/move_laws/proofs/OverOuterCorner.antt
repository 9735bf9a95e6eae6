-- A crossing shore is brought above the outer corner: at once if this is one block, otherwise after
-- it was brought to the root of `merged`, and back above it.
use Rattle.graph_core.proofs.from_counting.Common.{Bool, List, None, Some, [], ap, arith, false, if◌then◌else◌, inl, inr, length, map, not, refl, subst, sym, true, ℕ, ◌*◌, ◌++◌, ◌+◌, ◌||◌, ◌∙◌, ◌∷◌, ◌≡◌, ◌≤◌, Option, option_and_then, option_map, rising_list-rises, true_all_in, all_in_false, nor_left, nor_right, Within, IsRisingIn, is_subset, mem, complement, union}
use Rattle.graph_core.proofs.Common.{mem-complement_of, Apart, Graph, complement_of, merged}
use Rattle.tree_core.proofs.Common.{IsDerivationAt, kept_at, merged_at, IsBlockOf, PlainMove, below, rotate_at, rotate_result_at, switch_at, switch_result_at, meet_list, Shape, cut, cut_count}
use Rattle.tree_core.specs.declared.path.Side.{Side}
use Rattle.tree_core.specs.declared.path.Side.TheVariants.{Kept, Merged}
use Rattle.move_laws.proofs.BigShores.{Big, Stage, big_some, rest_rest}
use Rattle.move_laws.proofs.CornerSwitch.{Kind, switched}
use Rattle.move_laws.proofs.Corners.{Corners, merged_outer, outer_mem}
use Rattle.move_laws.proofs.Rising.{bounds}
use Rattle.move_laws.proofs.Scripts.{length_below, length_join, script_end, script_join, script_kept, script_merged, script_rotate}
use Rattle.move_laws.proofs.TurningTests.{rotate-inside, rotate-apart, apart_test}
use Rattle.move_laws.specs.Common.{outer_of, outer_shore, AreRising, IsProperScript, PlainTurned, followed, over_outer, raised_kept, raised_merged, switched_below}
use Rattle.move_laws.specs.Turning.{switched as switched_to}

-- a script, one Rotate, and a script on
pub script_then : (g : Graph) (p : List (List ℕ)) (s : Shape) (ms : List PlainMove) (t : Shape) (side : Side) (r : Shape) → Stage g p → IsDerivationAt g p s → AreRising g.order s → IsProperScript g p s ms t → rotate_result_at side t ≡ Some r → IsProperScript g p s (ms ++ rotate_at (side ∷ []) ∷ []) r
script_then g p s ms t side r st d f w e = let q = script_end g p s ms t d f w in script_join g p s ms (rotate_at (side ∷ []) ∷ []) t r w (script_rotate g p side t r st q.0 q.1 e)

-- the outer corner is one block, or was brought to the root of `merged`
abbrev pub OuterTurned : Graph → List (List ℕ) → (x z : List ℕ) → Shape → Shape → Option (List PlainMove) → Type 0
OuterTurned g p x z b c None = (c ≡ b) × ((t : ℕ) × IsBlockOf g.order p (mem (outer_of g.order x z)) t)
OuterTurned g p x z b c (Some ms) = Big g p (outer_of g.order x z) × (k : Shape) × (l : Shape) × (c ≡ cut (outer_shore g.order (outer_of g.order x z)) k l) × IsProperScript g (merged_at g.order p x) b ms (cut (outer_shore g.order (outer_of g.order x z)) k l) × (length ms + 2 ≤ 3 * cut_count b)

-- a result of the turning, and the script to it
abbrev pub TurnedTo : Graph → List (List ℕ) → Shape → List ℕ → ℕ → Option PlainTurned → Type 0
TurnedTo g p t y n made = (ms : List PlainMove) × (k : Shape) × (l : Shape) × (made ≡ Some (record { tree = cut y k l; moves = ms })) × IsProperScript g p t ms (cut y k l) × (length ms ≤ n)

-- a child turned, and its root brought up
pub raised_merged_is : (x : List ℕ) (a c r : Shape) (ms : List PlainMove) → rotate_result_at Merged (cut x a c) ≡ Some r → raised_merged x a (record { tree = c; moves = ms }) ≡ Some (record { tree = r; moves = map (below Merged) ms ++ rotate_at (Merged ∷ []) ∷ [] })
raised_merged_is x a c r ms e = ap (λ q. followed (map (below Merged) ms) (option_map (λ r. record { tree = r; moves = rotate_at (Merged ∷ []) ∷ [] }) q)) e

switched_is : (n : ℕ) (u v : List ℕ) (t r : Shape) → switch_result_at n u v t ≡ Some r → switched_to n u v t ≡ Some (record { tree = r; moves = switch_at [] u v ∷ [] })
switched_is n u v t r e = ap (option_map (λ r. record { tree = r; moves = switch_at [] u v ∷ [] })) e

-- the outer corner: one block, or with moves to it in `merged`; then the Switch, and back
pub over_outer_to : (g : Graph) (p : List (List ℕ)) (x z y : List ℕ) (c : Corners g p x z) → IsRisingIn g.order y → mem x g.order ≡ false → mem y g.order ≡ false → Kind g.order y z → (s : ℕ) → IsBlockOf g.order p (mem (meet_list g.order x z)) s →
    (a b made : Shape) → AreRising g.order (cut x a b) → IsDerivationAt g p (cut x a b) → (moved : Option (List PlainMove)) → OuterTurned g p x z b made moved →
    TurnedTo g p (cut x a b) y (3 * cut_count b + 1) (over_outer g.order x (meet_list g.order x z) (outer_of g.order x z) a made moved)
over_outer_to g p x z y c sy nx ny kind s inner_block a b made f d None out =
    let r = switched g p x z y c sy nx ny kind a b f d s out.1.0 inner_block out.1.1 in
    let inner_corner = meet_list g.order x z in let outer_corner = outer_of g.order x z in
    (switch_at [] inner_corner outer_corner ∷ [], r.0, r.1, ap (λ k. switched_to g.order inner_corner outer_corner (cut x a k)) out.0 ∙ switched_is g.order inner_corner outer_corner (cut x a b) (cut y r.0 r.1) r.2, r.3, omega arith)
over_outer_to g p x z y c sy nx ny kind s inner_block a b made f d (Some ms) out = elim kind [ inl h ↦ greatest_outside out.0 h | inr h ↦ greatest_inside out.0 h ]
  where
    outer_corner : List ℕ
    outer_corner = outer_of g.order x z

    outer-rises : IsRisingIn g.order (outer_of g.order x z)
    outer-rises = rising_list-rises g.order (complement (union (mem x) (mem z)))

    lastn : Within g.order g.order
    lastn = let r = big_some g p c.stage x c.first in let w = r.1 in (omega arith, omega arith)

    off : Apart g.order (mem x) (mem (outer_of g.order x z))
    off v wv h = outer_mem g p x z c v wv ∙ nor_left (mem x v) (mem z v) h

    greatest_outside : Big g p (outer_of g.order x z) → ((v : ℕ) → Within g.order v → mem z v ≡ mem y v) → TurnedTo g p (cut x a b) y (3 * cut_count b + 1) (over_outer g.order x (meet_list g.order x z) (outer_of g.order x z) a made (Some ms))
    greatest_outside outer_big h =
        let inner_corner = meet_list g.order x z in let outer_shore_is = complement_of g.order (outer_of g.order x z) in
        let switch_moves = switch_at [] (meet_list g.order x z) (outer_of g.order x z) ∷ [] in
        let on : mem (outer_of g.order x z) g.order ≡ true = outer_mem g p x z c g.order lastn ∙ outside (mem x g.order) (mem z g.order) nx (h g.order lastn ∙ ny) in
        let shore : outer_shore g.order (outer_of g.order x z) ≡ outer_shore_is = ap (λ k. if k then complement_of g.order (outer_of g.order x z) else outer_of g.order x z) on in
        let e1 = out.1 in let e2 = out.2 in
        let is_made : made ≡ cut outer_shore_is e1 e2 = out.3 ∙ ap (λ k. cut k e1 e2) shore in
        let script = subst (λ k. IsProperScript g (merged_at g.order p x) b ms (cut k e1 e2)) shore out.4 in
        let w1 = script_merged g p x a b ms (cut outer_shore_is e1 e2) d f script in
        let sub : is_subset x outer_shore_is ≡ true = true_all_in x (mem outer_shore_is) (λ v m. let wv = (bounds f.0) v m in mem-complement_of g.order (outer_of g.order x z) v wv ∙ ap not (off v wv m)) in
        let up = rotate-inside x outer_shore_is a e1 e2 sub in
        let w2 = script_then g p (cut x a b) (map (below Merged) ms) (cut x a (cut outer_shore_is e1 e2)) Merged (cut outer_shore_is (cut x a e1) e2) c.stage d f w1 up in
        let q2 = script_end g p (cut x a b) _ (cut outer_shore_is (cut x a e1) e2) d f w2 in
        let same : kept_at g.order p outer_shore_is ≡ merged p (outer_of g.order x z) = ap (merged p) (rest_rest g.order (outer_of g.order x z) outer-rises) in
        let m = merged_outer g p x z c outer_big s inner_block in
        let switch_made = switched g (merged p (outer_of g.order x z)) x z y m.0 sy nx ny kind a e1 q2.1.1 (subst (λ r. IsDerivationAt g r (cut x a e1)) same q2.0.1) s m.2.0 m.1 m.2.1 in
        let s1 = switch_made.0 in let s2 = switch_made.1 in
        let w3 = script_kept g p outer_shore_is (cut x a e1) e2 switch_moves (cut y s1 s2) q2.0 q2.1 (subst (λ r. IsProperScript g r (cut x a e1) switch_moves (cut y s1 s2)) (sym same) switch_made.3) in
        let w4 = script_then g p (cut outer_shore_is (cut x a e1) e2) (map (below Kept) switch_moves) (cut outer_shore_is (cut y s1 s2) e2) Kept (cut y s1 (cut outer_shore_is s2 e2)) c.stage q2.0 q2.1 w3 refl in
        let l1 = length_join (map (below Merged) ms ++ rotate_at (Merged ∷ []) ∷ []) (map (below Kept) switch_moves ++ rotate_at (Kept ∷ []) ∷ []) in
        let l2 = length_join (map (below Merged) ms) (rotate_at (Merged ∷ []) ∷ []) in let l3 = length_join (map (below Kept) switch_moves) (rotate_at (Kept ∷ []) ∷ []) in
        let l4 = length_below Merged ms in let l5 = length_below Kept switch_moves in let l6 = out.5 in (
          (map (below Merged) ms ++ rotate_at (Merged ∷ []) ∷ []) ++ (map (below Kept) switch_moves ++ rotate_at (Kept ∷ []) ∷ []),
          s1,
          cut outer_shore_is s2 e2,
          ap (λ k. over_outer g.order x inner_corner (outer_of g.order x z) a k (Some ms)) is_made
              ∙ ap (option_and_then (λ r. followed r.moves (switched_below g.order x inner_corner (outer_of g.order x z) r.tree))) (raised_merged_is x a (cut outer_shore_is e1 e2) (cut outer_shore_is (cut x a e1) e2) ms up)
              ∙ ap (λ k. followed (map (below Merged) ms ++ rotate_at (Merged ∷ []) ∷ []) (if k then option_and_then (λ w. raised_kept outer_shore_is w e2) (switched_to g.order inner_corner (outer_of g.order x z) (cut x a e1)) else option_and_then (λ w. raised_merged outer_shore_is (cut x a e1) w) (switched_to g.order inner_corner (outer_of g.order x z) e2))) sub
              ∙ ap (λ q. followed (map (below Merged) ms ++ rotate_at (Merged ∷ []) ∷ []) (option_and_then (λ w. raised_kept outer_shore_is w e2) q)) (switched_is g.order inner_corner (outer_of g.order x z) (cut x a e1) (cut y s1 s2) switch_made.2),
          script_join g p (cut x a b) _ _ (cut outer_shore_is (cut x a e1) e2) (cut y s1 (cut outer_shore_is s2 e2)) w2 w4,
          omega arith,
        )
      where
        outside : (a b : Bool) → a ≡ false → b ≡ false → not (a || b) ≡ true
        outside a b h k = grind arith

    greatest_inside : Big g p (outer_of g.order x z) → ((v : ℕ) → Within g.order v → mem z v ≡ not (mem y v)) → TurnedTo g p (cut x a b) y (3 * cut_count b + 1) (over_outer g.order x (meet_list g.order x z) (outer_of g.order x z) a made (Some ms))
    greatest_inside outer_big h =
        let inner_corner = meet_list g.order x z in let outer_corner = outer_of g.order x z in
        let switch_moves = switch_at [] (meet_list g.order x z) (outer_of g.order x z) ∷ [] in
        let no : mem outer_corner g.order ≡ false = outer_mem g p x z c g.order lastn ∙ nor_right (mem x g.order) (mem z g.order) (h g.order lastn ∙ ap not ny) in
        let shore : outer_shore g.order (outer_of g.order x z) ≡ outer_corner = ap (λ k. if k then complement_of g.order (outer_of g.order x z) else outer_of g.order x z) no in
        let e1 = out.1 in let e2 = out.2 in
        let is_made : made ≡ cut outer_corner e1 e2 = out.3 ∙ ap (λ k. cut k e1 e2) shore in
        let script = subst (λ k. IsProperScript g (merged_at g.order p x) b ms (cut k e1 e2)) shore out.4 in
        let w1 = script_merged g p x a b ms (cut outer_corner e1 e2) d f script in
        let r = big_some g p c.stage x c.first in
        let none : is_subset x outer_corner ≡ false = all_in_false x (mem outer_corner) r.0 r.2 (off r.0 r.1 r.2) in
        let up = rotate-apart x outer_corner a e1 e2 none (apart_test g.order x outer_corner f.0 off) in
        let w2 = script_then g p (cut x a b) (map (below Merged) ms) (cut x a (cut outer_corner e1 e2)) Merged (cut outer_corner e1 (cut x a e2)) c.stage d f w1 up in
        let q2 = script_end g p (cut x a b) _ (cut outer_corner e1 (cut x a e2)) d f w2 in
        let m = merged_outer g p x z c outer_big s inner_block in
        let switch_made = switched g (merged p outer_corner) x z y m.0 sy nx ny kind a e2 q2.1.2 q2.0.2 s m.2.0 m.1 m.2.1 in
        let s1 = switch_made.0 in let s2 = switch_made.1 in
        let w3 = script_merged g p outer_corner e1 (cut x a e2) switch_moves (cut y s1 s2) q2.0 q2.1 switch_made.3 in
        let sub : is_subset outer_corner y ≡ true = true_all_in outer_corner (mem y) (λ v k. let wv = (bounds outer-rises) v k in in_y (mem x v) (mem z v) (mem y v) (h v wv) (sym (outer_mem g p x z c v wv) ∙ k)) in
        let back = rotate-inside outer_corner y e1 s1 s2 sub in
        let w4 = script_then g p (cut outer_corner e1 (cut x a e2)) (map (below Merged) switch_moves) (cut outer_corner e1 (cut y s1 s2)) Merged (cut y (cut outer_corner e1 s1) s2) c.stage q2.0 q2.1 w3 back in
        let l1 = length_join (map (below Merged) ms ++ rotate_at (Merged ∷ []) ∷ []) (map (below Merged) switch_moves ++ rotate_at (Merged ∷ []) ∷ []) in
        let l2 = length_join (map (below Merged) ms) (rotate_at (Merged ∷ []) ∷ []) in let l3 = length_join (map (below Merged) switch_moves) (rotate_at (Merged ∷ []) ∷ []) in
        let l4 = length_below Merged ms in let l5 = length_below Merged switch_moves in let l6 = out.5 in (
          (map (below Merged) ms ++ rotate_at (Merged ∷ []) ∷ []) ++ (map (below Merged) switch_moves ++ rotate_at (Merged ∷ []) ∷ []),
          cut outer_corner e1 s1,
          s2,
          ap (λ k. over_outer g.order x inner_corner outer_corner a k (Some ms)) is_made
              ∙ ap (option_and_then (λ r. followed r.moves (switched_below g.order x inner_corner outer_corner r.tree))) (raised_merged_is x a (cut outer_corner e1 e2) (cut outer_corner e1 (cut x a e2)) ms up)
              ∙ ap (λ k. followed (map (below Merged) ms ++ rotate_at (Merged ∷ []) ∷ []) (if k then option_and_then (λ w. raised_kept outer_corner w (cut x a e2)) (switched_to g.order inner_corner outer_corner e1) else option_and_then (λ w. raised_merged outer_corner e1 w) (switched_to g.order inner_corner outer_corner (cut x a e2)))) none
              ∙ ap (λ q. followed (map (below Merged) ms ++ rotate_at (Merged ∷ []) ∷ []) (option_and_then (λ w. raised_merged outer_corner e1 w) q)) (switched_is g.order inner_corner outer_corner (cut x a e2) (cut y s1 s2) switch_made.2)
              ∙ ap (followed (map (below Merged) ms ++ rotate_at (Merged ∷ []) ∷ [])) (raised_merged_is outer_corner e1 (cut y s1 s2) (cut y (cut outer_corner e1 s1) s2) switch_moves back),
          script_join g p (cut x a b) _ _ (cut outer_corner e1 (cut x a e2)) (cut y (cut outer_corner e1 s1) s2) w2 w4,
          omega arith,
        )
      where
        in_y : (a b y : Bool) → b ≡ not y → not (a || b) ≡ true → y ≡ true
        in_y a b y h k = grind arith
