-- A text that stands for a value stands for it with comments after it, and so the report on a
-- script stands for the script.
use Rattle.std.proofs.Common.{◌≡◌, ℕ, ◌<◌, ◌^◌, List, [], ◌∷◌, ◌++◌, map, true, length, refl, sym, subst, append_assoc, codes, arith, decimal}
use Rattle.graph_core.specs.from_line_text.Common.{Stands, is_closed, written, unwords}
use Rattle.graph_core.proofs.from_line_text.Decimals.{is_word-decimal}
use Rattle.graph_core.proofs.from_line_text.ReadBack.{AreSkipped-written, Stands-comments, is_closed-unlines}
use Rattle.graph_core.proofs.Common.{Graph}
use Rattle.tree_core.proofs.Common.{PlainMove, Shape, leaf_count}
use Rattle.move_text.specs.Common.{move_format, header_words, move_words, moves_text}
use Rattle.bench_outcomes.specs.from_report_text.Common.{script_line, script_report_text}
use Rattle.bench_outcomes.specs.Common.{IsScript, Scripted}
use Rattle.bench_outcomes.specs.declared.status.Status.TheVariants.{Done}

-- the words of the comment after a script
abbrev comment_words : (leaves moves : ℕ) → List (List ℕ)
comment_words leaves moves = codes "c" ∷ codes "leaves" ∷ decimal leaves ∷ codes "moves" ∷ decimal moves ∷ []

-- it is written so
line-written : (leaves moves : ℕ) → script_line leaves moves ≡ written (comment_words leaves moves ∷ [])
line-written leaves moves = simp append_assoc

-- a text of moves ends with a line feed
moves-closed : (n : ℕ) (moves : List PlainMove) → is_closed (moves_text n moves) ≡ true
unfolding moves_text
moves-closed n moves = is_closed-unlines (map unwords (header_words n ∷ map move_words moves))

-- the report stands for what the text of the moves stands for
pub stands-report : (n leaves count : ℕ) (moves : List PlainMove) → leaves < 10 ^ 9 → count < 10 ^ 9 → Stands (move_format n) (moves_text n moves) moves → Stands (move_format n) (script_report_text (moves_text n moves) leaves count) moves
unfolding script_report_text
stands-report n leaves count moves few_leaves few_moves stands =
    subst (λ (line : List ℕ). Stands (move_format n) (moves_text n moves ++ line) moves) (sym (line-written leaves count))
    (Stands-comments (move_format n) (moves_text n moves) (written (comment_words leaves count ∷ [])) moves (moves-closed n moves)
    (AreSkipped-written (comment_words leaves count ∷ [])
    (record { skipped = refl; each = (refl, (refl, (is_word-decimal leaves few_leaves, (refl, (is_word-decimal count few_moves, tt))))) }, tt)) stands)

-- and so the report gives the script
pub scripted : (g : Graph) (s t : Shape) (moves : List PlainMove) (n leaves count : ℕ) (text shown output : List ℕ) →
    IsScript g s t moves → leaves < 10 ^ 9 → count < 10 ^ 9 → n ≡ g.order → leaves ≡ leaf_count s → count ≡ length moves →
    text ≡ moves_text n moves → shown ≡ text → Stands (move_format n) text moves → output ≡ script_report_text shown leaves count → Scripted g s t Done output
scripted g s t moves n leaves count text shown output script few_leaves few_moves n_is leaves_are count_is text_is shown_is stands output_is = grind (arith, stands-report)
