-- For every tree and every list of moves there is a report of `replay`, and for every two trees
-- one of `script`. The moves are made one after another, up to the first without a result or with
-- a result that is refused; the sets of a proper Switch are blocks, and so its text is read again.
use Rattle.tree_check.proofs.from_counting.Common.{◌≡◌, ◌⊎◌, ◌+◌, ℕ, ◌<◌, ◌^◌, List, [], ◌∷◌, length, Option, Some, None, option_map, refl, arith, inl, inr, none-some, AllByRecursion}
use Rattle.graph_core.proofs.Common.{Graph, IsGraph, IsMultigraph, singles, IsWithinLimits}
use Rattle.graph_core.specs.from_line_text.Common.{Stands}
use Rattle.tree_check.proofs.from_move_laws.Rising.{rising-derivation_at}
use Rattle.tree_check.proofs.from_move_laws.SingleVertices.{singles_stage}
use Rattle.tree_check.proofs.from_move_laws.Uniqueness.{compare_law, script_through}
use Rattle.tree_check.specs.from_move_laws.Common.{IsProperScript}
use Rattle.move_text.proofs.MovesReadBack.{Stands-moves_text}
use Rattle.move_text.specs.Common.{move_format, SetsRise, moves_text}
use Rattle.tree_core.proofs.Common.{few-nodes, leaf_count-cuts, node_count-cuts, IsDerivation, kept_at, merged_at, BlocksAt, IsProper, PlainMove, TurnsThrough, move_result, result_at, rotate_at, switch_at, switch_result_at, Shape, cut, leaf, leaf_count}
use Rattle.report_text.specs.Common.{refused_move_text, replayed_text, script_report_text, stuck_text}
use Rattle.tree_check.proofs.FirstRefusals.{derived-or_refused}
use Rattle.tree_check.specs.Common.{HasShores, Why, why_number, IsRefusedMoveAt, IsStuckAt}
use Rattle.tree_core.specs.declared.path.Side.{Side}
use Rattle.tree_core.specs.declared.path.Side.TheVariants.{Kept, Merged}
use Rattle.move_text.specs.from_tree_text.Common.{tree_text}
use Rattle.bench_top.specs.from_bench_outcomes.Common.{shown_of, IsScript, ScriptGives, Scripted, MovesGive, ReplayGives}
use Rattle.bench_top.specs.from_bench_outcomes.declared.status.Status.{Status}
use Rattle.bench_top.specs.from_bench_outcomes.declared.status.Status.TheVariants.{Done, Negative}
use Rattle.bench_top.proofs.from_bench_reports.ScriptMoves.{few-moves, script-paths, script-sets}
use Rattle.bench_top.proofs.from_bench_reports.ScriptTexts.{scripted}
use Rattle.theorems.proofs.MovedShores.{moved-shores}
use Rattle.theorems.proofs.ReportsExist.{covered_or_told, derived_or_refused_pair, refused_tree}

-- what moves make of a derivation: a last tree, or the first move that fails
abbrev Fails : Graph → Shape → List PlainMove → Type 0
Fails g s ms = ((at : ℕ) × IsStuckAt g s ms at) ⊎ ((at : ℕ) × (node : ℕ) × (why : Why) × IsRefusedMoveAt g s ms at node why)

abbrev Ends : Graph → Shape → List PlainMove → Type 0
Ends g s ms = ((t : Shape) × TurnsThrough g s ms t) ⊎ Fails g s ms

after : (g : Graph) (s r : Shape) (m : PlainMove) (ms : List PlainMove) → move_result g.order s m ≡ Some r → IsDerivation g r → Ends g r ms → Ends g s (m ∷ ms)
after g s r m ms e d (inl last) = inl (last.0, (r, e, d, last.1))
after g s r m ms e d (inr (inl stuck)) = inr (inl (1 + stuck.0, inr (r, e, d, (stuck.0, refl, stuck.1))))
after g s r m ms e d (inr (inr refused)) = inr (inr (1 + refused.0, refused.1, refused.2, (r, e, inr (d, (refused.0, refl, refused.3)))))

ends : (g : Graph) → IsGraph g → (ms : List PlainMove) (s : Shape) → HasShores g.order s → IsDerivation g s → Ends g s ms
ends g is [] s shores d = inl (s, refl)
ends g is (m ∷ ms) s shores d = go (move_result g.order s m) refl (ends g is ms)
  where
    go : (o : Option Shape) → move_result g.order s m ≡ o → ((r : Shape) → HasShores g.order r → IsDerivation g r → Ends g r ms) → Ends g s (m ∷ ms)
    go None e later = inr (inl (1, inl (refl, e)))
    go (Some r) e later =
        let shores_r = moved-shores g.order s r m shores e in
        elim (derived-or_refused g is r d.covered shores_r) [
          | inl dr ↦ after g s r m ms e dr (later r shores_r dr)
          | inr refused ↦ inr (inr (1, refused.0, refused.1, (r, e, inl (refl, refused.2))))
        ]

moves-exist : (g : Graph) (t : Shape) (ms : List PlainMove) → IsDerivation g t → Ends g t ms → (status : Status) × (output : List ℕ) × MovesGive g t ms status output
moves-exist g t ms d (inl last) = (Done, replayed_text (tree_text g.order last.0) (length ms), inl (record { derivation = d; reached = last.0; turns = last.1; done = refl; text = refl }))
moves-exist g t ms d (inr (inl stuck)) = (Negative, stuck_text stuck.0, inr (inl (record { derivation = d; at = stuck.0; stuck = stuck.1; negative = refl; text = refl })))
moves-exist g t ms d (inr (inr refused)) = (
  Negative,
  refused_move_text refused.0 refused.1 (why_number refused.2) (shown_of refused.2),
  inr (inr (record { derivation = d; at = refused.0; node = refused.1; why = refused.2; refused = refused.3; negative = refl; text = refl })),
)

pub replay-exists : (g : Graph) (t : Shape) (ms : List PlainMove) → IsMultigraph g → HasShores g.order t → (status : Status) × (output : List ℕ) × ReplayGives g t ms status output
replay-exists g t ms is shores = elim (covered_or_told g is) [
  | inr u ↦ (Negative, u.0, inr (inr u.1))
  | inl cov ↦ elim (derived-or_refused g is.ends t cov shores) [
    | inr r ↦ let told = refused_tree g t 1 r in (Negative, told.0, inr (inl told.1))
    | inl d ↦ let made = moves-exist g t ms d (ends g is.ends ms t shores d) in (made.0, made.1, inl made.2)
  ]
]

-- the sets of a proper Switch that has a result are blocks, and blocks are rising lists
path-sets : (n : ℕ) (u v : List ℕ) (path whole : List Side) (p : List (List ℕ)) (t r : Shape) → BlocksAt n p path u v t → result_at (switch_result_at n u v) path t ≡ Some r → SetsRise (switch_at whole u v)
path-sets n u v [] whole p t r blocks e = let sets = blocks.0 in (sets.0.rising, sets.1.rising)
path-sets n u v (side ∷ path) whole p leaf r blocks e = absurd (none-some _ e)
path-sets n u v (Kept ∷ path) whole p (cut x a b) r blocks e = grind (arith, result_at, switch_result_at, kept_at, option_map, cut, switch_at, none-some, path-sets n u v path whole (kept_at n p x) a)
path-sets n u v (Merged ∷ path) whole p (cut x a b) r blocks e = grind (arith, result_at, switch_result_at, merged_at, option_map, cut, switch_at, none-some, path-sets n u v path whole (merged_at n p x) b)

move-sets : (n : ℕ) (p : List (List ℕ)) (t r : Shape) (m : PlainMove) → IsProper n p t m → move_result n t m ≡ Some r → SetsRise m
move-sets n p t r (rotate_at path) proper e = tt
move-sets n p t r (switch_at path u v) proper e = path-sets n u v path path p t r proper e

sets-rise : (g : Graph) (p : List (List ℕ)) (ms : List PlainMove) (s t : Shape) → IsProperScript g p s ms t → AllByRecursion SetsRise ms
sets-rise g p [] s t proper = tt
sets-rise g p (m ∷ ms) s t proper = (move-sets g.order p s proper.0 m proper.2 proper.1, sets-rise g p ms proper.0 t proper.6)

-- the text of a proper script of few moves
stands-script : (g : Graph) (s t : Shape) (ms : List PlainMove) → IsWithinLimits g → IsScript g s t ms → IsProperScript g (singles g.order) s ms t → Stands (move_format g.order) (moves_text g.order ms) ms
stands-script g s t ms limits script proper =
    let ends = limits.multigraph.ends in
    let vertices = limits.vertices in
    Stands-moves_text g.order ms (record {
      order = omega arith;
      few = few-moves g s (length ms) ends vertices script.first script.few;
      paths = script-paths g s t ms ends vertices script.first script.turns;
      sets = script-sets g s t ms script.first script.turns;
      rising = sets-rise g (singles g.order) ms s t proper;
    })

script-told : (g : Graph) (s t : Shape) → IsWithinLimits g → IsDerivation g s → IsDerivation g t → (output : List ℕ) × Scripted g s t Done output
script-told g s t limits ds dt =
    let is = limits.multigraph.ends in
    let vertices = limits.vertices in
    let p = singles g.order in
    let r = compare_law g p s t (singles_stage g is ds.covered) (rising-derivation_at g p s ds.derives) ds.derives (rising-derivation_at g p t dt.derives) dt.derives in
    let ms = r.0 in
    let script : IsScript g s t ms = record { first = ds; second = dt; turns = script_through g s ms t ds.covered r.1; few = r.2 } in
    let nodes = few-nodes g s is vertices ds in
    let all = node_count-cuts s in
    let found = leaf_count-cuts s in
    let count = few-moves g s (length ms) is vertices ds r.2 in
    let few_leaves : leaf_count s < 10 ^ 9 = omega arith in
    let few_moves : length ms < 10 ^ 9 = omega arith in
    let text = moves_text g.order ms in
    let output = script_report_text text (leaf_count s) (length ms) in
    (output, scripted g s t ms g.order (leaf_count s) (length ms) text text output script few_leaves few_moves refl refl refl refl refl (stands-script g s t ms limits script r.1) refl)

pub script-exists : (g : Graph) (s t : Shape) → IsWithinLimits g → HasShores g.order s → HasShores g.order t → (status : Status) × (output : List ℕ) × ScriptGives g s t status output
script-exists g s t limits fs ft = elim (derived_or_refused_pair g s t limits.multigraph fs ft) [
  | inr refused ↦ (Negative, refused.0, inr refused.1)
  | inl both ↦ let told = script-told g s t limits both.0 both.1 in (Done, told.0, inl told.1)
]
