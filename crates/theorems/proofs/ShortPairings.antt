-- The numbers in a report of `compare` have at most nine digits, and its sets are not empty: leaves
-- and moves are few, and names of blocks and images are vertices. So the report is read back.
use Rattle.tree_check.proofs.from_counting.Common.{◌≡◌, ℕ, suc, ◌+◌, ◌-◌, ◌<◌, ◌≤◌, ◌^◌, List, [], ◌∷◌, length, map, slice_index, slice_index_or, ap, ◌∙◌, arith, subst, AllByRecursion, Within, last_of}
use Rattle.graph_core.proofs.Common.{Graph, IsGraph, AreBlocks, block, names_of}
use Rattle.graph_core.specs.from_line_text.Common.{lines_of, words_of}
use Rattle.tree_check.proofs.from_move_laws.SameLeaves.{name_within}
use Rattle.tree_check.specs.from_move_laws.Common.{IsPairing, IsSameLeaf, image}
use Rattle.tree_core.proofs.Common.{leaf_at, leaves, map_at, name, partitions-leaves, PlainLeafMap, PlainMove, Shape}
use Rattle.report_text.specs.Common.{pairing_text}
use Rattle.bench_top.proofs.TextsStand.{few-leaves_of}
use Rattle.bench_top.proofs.from_bench_reports.ScriptMoves.{few-moves, script-sets}
use Rattle.bench_top.specs.from_bench_outcomes.Common.{IsScript, map_lines_of}
use Rattle.theorems.proofs.PairingsRead.{AreShort, IsShortLine, pairing-read}
use Rattle.theorems.specs.Outcomes.{pairing_words}

few : (n : ℕ) → n ≤ 128 → n < 10 ^ 9
few n l = omega arith

-- by their places, counted from 0
short-items : (ns : List ℕ) → ((i : ℕ) → i < length ns → slice_index ns i ≤ 128) → AreShort ns
short-items [] h = tt
short-items (k ∷ ns) h = (few k (h 0 (omega arith)), short-items ns (λ i l. h (suc i) (omega arith)))

short-names : (p : List (List ℕ)) → ((i : ℕ) → i < length p → last_of (slice_index_or p i []) ≤ 128) → AreShort (names_of p)
short-names [] h = tt
short-names (b ∷ p) h = (few (last_of b) (h 0 (omega arith)), short-names p (λ i l. h (suc i) (omega arith)))

module _ (n : ℕ) (small : n ≤ 128) where
  block-names : (p : List (List ℕ)) → AreBlocks n p → AreShort (names_of p)
  block-names p pp = short-names p (λ i l. at i (name_within n p pp (i + 1) (omega arith, omega arith)))
    where
      at : (i : ℕ) → Within n (last_of (block p (i + 1))) → last_of (slice_index_or p i []) ≤ 128
      at i w = let e : i + 1 - 1 ≡ i = omega arith in subst (λ j. last_of (slice_index_or p j []) ≤ 128) e (let m = w.1 in omega arith)

  images-named : (g : Graph) (p q : List (List ℕ)) (names : List ℕ) → AreBlocks n q → IsSameLeaf g p q names → AreShort names
  images-named g p q names qp same = short-items names (λ i l. at i (let e = same.one_each in same.named (i + 1) (omega arith, omega arith)))
    where
      at : (i : ℕ) → Within (length q) (image q names (i + 1)) × (last_of (block q (image q names (i + 1))) ≡ name names (i + 1)) → slice_index names i ≤ 128
      at i h =
          let m = name_within n q qp (image q names (i + 1)) h.0 in
          let most = m.1 in
          let is = h.1 in
          let e : i + 1 - 1 ≡ i = omega arith in
          subst (λ j. slice_index names j ≤ 128) e (omega arith)

-- a leaf and its map
record IsShort (p : List (List ℕ)) (m : PlainLeafMap) : Type 0 where
  names : AreShort (names_of p)
  images : AreShort m.images
  to : m.to ≤ 128

abbrev no_map : PlainLeafMap
no_map = record { to = 0; images = [] }

short-lines : (before : ℕ) (ps : List (List (List ℕ))) (maps : List PlainLeafMap) → before + length ps ≤ 128 → ((i : ℕ) → i < length ps → IsShort (slice_index_or ps i []) (slice_index_or maps i no_map)) → AllByRecursion IsShortLine (map_lines_of before ps maps)
short-lines before [] maps most h = tt
short-lines before (p ∷ ps) [] most h = tt
short-lines before (p ∷ ps) (m ∷ maps) most h =
    let s = h 0 (omega arith) in
    (record { leaf = few (suc before) (omega arith); partner = few m.to s.to; names = s.names; images = s.images }, short-lines (suc before) ps maps (omega arith) (λ i l. h (suc i) (omega arith)))

length-lines : (before : ℕ) (ps : List (List (List ℕ))) (maps : List PlainLeafMap) → length (map_lines_of before ps maps) ≤ length ps
length-lines before [] maps = omega arith
length-lines before (p ∷ ps) [] = omega arith
length-lines before (p ∷ ps) (m ∷ maps) = let below = length-lines (suc before) ps maps in omega arith

module _ (g : Graph) (is : IsGraph g) (small : g.order ≤ 128) (s t : Shape) (moves : List PlainMove) (script : IsScript g s t moves) (maps : List PlainLeafMap) (paired : IsPairing g (leaves g.order s) (leaves g.order t) maps) where
  abbrev ps : List (List (List ℕ))
  ps = leaves g.order s

  abbrev qs : List (List (List ℕ))
  qs = leaves g.order t

  abbrev partner : ℕ → ℕ
  partner i = (map_at maps (i + 1)).to

  each : (i : ℕ) → i < length ps → IsShort (slice_index_or ps i []) (slice_index_or maps i no_map)
  each i l = subst (λ j. IsShort (slice_index_or ps j []) (slice_index_or maps j no_map)) e (record {
    names = block-names g.order small (leaf_at ps (i + 1)) (partitions-leaves g s script.first (i + 1 - 1) [] (omega arith)).partition;
    images = images-named g.order small g (leaf_at ps (i + 1)) (leaf_at qs (partner i)) (map_at maps (i + 1)).images (partitions-leaves g t script.second (partner i - 1) [] (let w = within.0 in let v = within.1 in omega arith)).partition (paired.same (i + 1) at);
    to = let w = within.1 in let f = few-leaves_of g t is small script.second in omega arith;
  })
    where
      e : i + 1 - 1 ≡ i
      e = omega arith

      at : Within (length ps) (i + 1)
      at = (omega arith, omega arith)

      within : Within (length qs) (partner i)
      within = paired.within (i + 1) at

  pub report-read : (output : List ℕ) → output ≡ pairing_text moves (map_lines_of 0 ps maps) → map words_of (lines_of output) ≡ pairing_words moves (map_lines_of 0 ps maps)
  report-read output text =
      let leaves_few = few-leaves_of g s is small script.first in
      let lines_few = length-lines 0 ps maps in
      let count = few-moves g s (length moves) is small script.first script.few in
      ap (λ o. map words_of (lines_of o)) text
      ∙ pairing-read g.order moves (map_lines_of 0 ps maps) (few g.order small) (omega arith) (omega arith) (script-sets g s t moves script.first script.turns) (short-lines 0 ps maps (omega arith) each)
