-- The reports of `ears`, `replay` and `grow` are texts with comments after them, and so they
-- stand for what the texts stand for: an ear list, a derivation, a graph. The limits of the graph
-- make all numbers of the comments small.
use Rattle.std.proofs.Common.{◌≡◌, ℕ, ◌<◌, ◌≤◌, ◌^◌, List, [], ◌∷◌, ◌++◌, length, map, true, None, refl, arith, append_assoc, not, codes, decimal}
use Rattle.std.proofs.lemmas.List.Sums.{count_by-le-length}
use Rattle.graph_core.specs.from_line_text.Common.{Stands, is_closed, is_word, unwords}
use Rattle.graph_core.proofs.from_line_text.Decimals.{is_word-decimal}
use Rattle.graph_core.proofs.from_line_text.ReadBack.{is_closed-unlines}
use Rattle.graph_core.proofs.Common.{Graph, IsGraph, size, singles}
use Rattle.graph_text.specs.Common.{either_version, FitsVersionOne, version_one, graph_text, graph_words}
use Rattle.graph_text.proofs.VersionOneReadBack.{Stands-graph_text}
use Rattle.graph_text.proofs.Versions.{Stands-either}
use Rattle.tree_core.proofs.Common.{IsDerivation, IsDerivationAt, kept_at, merged_at, leaves, Shape, leaf, cut, IsTally, is_brick, fits-derivation, stands-derivation, leaf_count-cuts, length-leaves_at, node_count-cuts, few-nodes}
use Rattle.move_text.specs.from_tree_text.Common.{tree_format, ShoresRise, tree_text}
use Rattle.move_text.proofs.from_tree_text.TreeReadBack.{Stands-tree_text}
use Rattle.ear_text.specs.from_ear_core.Common.{IsEarList, PlainEars}
use Rattle.ear_text.proofs.from_ear_core.Stepping.{list-filled, list-fits}
use Rattle.ear_text.specs.EarFormat.{ear_format}
use Rattle.ear_text.specs.Writing.{ears_text, header_words, start_words, step_words}
use Rattle.ear_text.proofs.EarsReadBack.{Stands-ears_text}
use Rattle.mcg6_lines.specs.from_report_text.Common.{IsCommented, ears_report_text, steps_line, grown_text, growth_lines, order_line, pairs_line, moves_line, replayed_text}
use Rattle.tree_core.specs.declared.tallies.Tally.{Tally}
use Rattle.mcg6_lines.proofs.from_report_text.Comments.{commented-both, commented-line, commented-tail, stands-commented}
use Rattle.bench_reports.specs.from_bench_outcomes.Common.{double_count, is_single, single_count}
use Rattle.bench_reports.proofs.from_bench_outcomes.DerivationTexts.{closed-tree_text, has-vertices}
use Rattle.bench_reports.proofs.from_bench_outcomes.EarSteps.{few-steps}
use Rattle.bench_top.proofs.ReadGraphs.{IsRead}

-- the comment after an ear list
ears-commented : (text : List ℕ) (steps single double : ℕ) → steps < 10 ^ 9 → single < 10 ^ 9 → double < 10 ^ 9 → IsCommented text (ears_report_text text steps single double)
unfolding ears_report_text
ears-commented text steps single double few few_single few_double =
    commented-tail text (steps_line steps single double)
    (commented-line (steps_line steps single double) (codes "c" ∷ codes "steps" ∷ decimal steps ∷ codes "single" ∷ decimal single ∷ codes "double" ∷ decimal double ∷ [])
    (record { skipped = refl; each = (refl, (refl, (is_word-decimal steps few, (refl, (is_word-decimal single few_single, (refl, (is_word-decimal double few_double, tt))))))) })
    (simp append_assoc))

ears-closed : (n m : ℕ) (list : PlainEars) → is_closed (ears_text n m list) ≡ true
unfolding ears_text
ears-closed n m list = is_closed-unlines (map unwords (header_words n m ∷ start_words list.start ∷ step_words list.steps))

-- the report of `ears`
pub stands-ears : (g : Graph) (list : PlainEars) → IsRead g → IsEarList g list →
    Stands (ear_format g.order (size g)) (ears_report_text (ears_text g.order (size g) list) (length list.steps) (single_count list.steps) (double_count list.steps)) list
stands-ears g list read ears =
    let steps = few-steps g list ears in
    let single = count_by-le-length is_single list.steps in
    let double = count_by-le-length (λ step. not (is_single step)) list.steps in
    let vertices = read.vertices in
    let edges = read.edges in
    stands-commented (ear_format g.order (size g)) (ears_text g.order (size g) list) _ list (ears-closed g.order (size g) list)
    (ears-commented (ears_text g.order (size g) list) (length list.steps) (single_count list.steps) (double_count list.steps) (omega arith) (omega arith) (omega arith))
    (Stands-ears_text g.order (size g) list (record { order = omega arith; size = omega arith; fits = list-fits g read.ends list ears; filled = list-filled g list ears }))

-- the comment after the last tree
moves-commented : (text : List ℕ) (moves : ℕ) → moves < 10 ^ 9 → IsCommented text (replayed_text text moves)
unfolding replayed_text
moves-commented text moves few =
    commented-tail text (moves_line moves)
    (commented-line (moves_line moves) (codes "c" ∷ codes "moves" ∷ decimal moves ∷ [])
    (record { skipped = refl; each = (refl, (refl, (is_word-decimal moves few, tt))) })
    (simp append_assoc))

-- the shores of a derivation rise
rising-derived : (g : Graph) (p : List (List ℕ)) (t : Shape) → IsDerivationAt g p t → ShoresRise t
rising-derived g p leaf is = tt
rising-derived g p (cut x k m) is = (is.0.set.rising, rising-derived g (kept_at g.order p x) k is.1, rising-derived g (merged_at g.order p x) m is.2)

-- the text of a derivation
pub stands-derived : (g : Graph) (t : Shape) → IsRead g → IsDerivation g t → Stands (tree_format g.order) (tree_text g.order t) t
stands-derived g t read derived =
    let vertices = read.vertices in
    Stands-tree_text g.order t (record {
      order = omega arith;
      fits = fits-derivation g t derived;
      vertices = has-vertices g.order (singles g.order) t (stands-derivation g t derived);
      rising = rising-derived g (singles g.order) t derived.derives;
      few = few-nodes g t read.ends vertices derived;
    })

-- the report of `replay`
pub stands-replayed : (g : Graph) (t : Shape) (moves : ℕ) → IsRead g → IsDerivation g t → moves < 10 ^ 9 → Stands (tree_format g.order) (replayed_text (tree_text g.order t) moves) t
stands-replayed g t moves read derived few =
    stands-commented (tree_format g.order) (tree_text g.order t) _ t (closed-tree_text g.order t) (moves-commented (tree_text g.order t) moves few) (stands-derived g t read derived)

-- the comments after a graph that grew
order-commented : (order : List ℕ) (tally : Tally) → is_word order ≡ true → tally.leaves < 10 ^ 9 → tally.bricks < 10 ^ 9 → tally.braces < 10 ^ 9 → IsCommented [] (order_line order tally)
order-commented order tally word leaves bricks braces =
    commented-line (order_line order tally) (codes "c" ∷ order ∷ codes "leaves" ∷ decimal tally.leaves ∷ codes "bricks" ∷ decimal tally.bricks ∷ codes "braces" ∷ decimal tally.braces ∷ [])
    (record { skipped = refl; each = (refl, (word, (refl, (is_word-decimal tally.leaves leaves, (refl, (is_word-decimal tally.bricks bricks, (refl, (is_word-decimal tally.braces braces, tt)))))))) })
    (simp append_assoc)

pairs-commented : (pairs : ℕ) → pairs < 10 ^ 9 → IsCommented [] (pairs_line pairs)
pairs-commented pairs few = grind (arith, commented-line (pairs_line pairs) (codes "c" ∷ codes "pairs" ∷ decimal pairs ∷ []), is_word-decimal pairs few, append_assoc)

-- a count of few leaves
record IsFew (tally : Tally) : Type 0 where
  leaves : tally.leaves < 10 ^ 9
  bricks : tally.bricks < 10 ^ 9
  braces : tally.braces < 10 ^ 9

grown-commented : (text : List ℕ) (first last : Tally) (pairs : ℕ) → IsFew first → IsFew last → pairs < 10 ^ 9 → IsCommented text (grown_text text first last pairs)
unfolding grown_text
grown-commented text first last pairs few_first few_last few =
    commented-tail text (growth_lines first last pairs)
    (commented-both (order_line (codes "first") first ++ order_line (codes "last") last) (pairs_line pairs)
    (commented-both (order_line (codes "first") first) (order_line (codes "last") last)
    (order-commented (codes "first") first refl few_first.leaves few_first.bricks few_first.braces) (order-commented (codes "last") last refl few_last.leaves few_last.bricks few_last.braces))
    (pairs-commented pairs few))

-- a derivation has few leaves
pub few-leaves_of : (g : Graph) (t : Shape) → IsGraph g → g.order ≤ 128 → IsDerivation g t → length (leaves g.order t) ≤ 64
few-leaves_of g t is vertices derived = grind (arith, few-nodes g t is vertices derived, length-leaves_at g.order (singles g.order) t, leaf_count-cuts t, node_count-cuts t)

few-tally : (g : Graph) (ps : List (List (List ℕ))) (tally : Tally) → IsTally g ps tally → length ps ≤ 64 → IsFew tally
few-tally g ps tally counts few = grind (arith, count_by-le-length is_brick counts.kinds, count_by-le-length)

graph-closed : (g : Graph) → is_closed (graph_text g) ≡ true
unfolding graph_text
graph-closed g = is_closed-unlines (map unwords (graph_words g))

-- the report of `grow`
pub stands-grown : (g : Graph) (first last : Tally) (pairs : ℕ) (s t : Shape) → FitsVersionOne g → IsDerivation g s → IsDerivation g t →
    IsTally g (leaves g.order s) first → IsTally g (leaves g.order t) last → pairs ≤ 64 →
    Stands either_version (grown_text (graph_text g) first last pairs) (record { graph = g; names = None })
stands-grown g first last pairs s t fits derived other counts counts_other few =
    let vertices = fits.vertices in
    let small : g.order ≤ 128 = omega arith in
    (Stands-either (grown_text (graph_text g) first last pairs) g).0
    (stands-commented version_one (graph_text g) _ g (graph-closed g)
    (grown-commented (graph_text g) first last pairs
    (few-tally g (leaves g.order s) first counts (few-leaves_of g s fits.multigraph.ends small derived))
    (few-tally g (leaves g.order t) last counts_other (few-leaves_of g t fits.multigraph.ends small other))
    (omega arith))
    (Stands-graph_text g fits))
