-- Comments after a text: they join, a line of words that begin with `c` is one, and a text that
-- stands for a value stands for it with comments after it.
use Rattle.move_text.proofs.from_counting.Common.{◌≡◌, ◌∙◌, ℕ, List, [], ◌∷◌, ◌++◌, true, ap, sym, subst, append_assoc, AllByRecursion, append-nil}
use Rattle.graph_core.specs.from_line_text.Common.{Rules, Stands, is_closed, IsComment, written}
use Rattle.graph_core.proofs.from_line_text.ReadBack.{AreSkipped-written, Stands-comments}
use Rattle.graph_core.proofs.from_line_text.WrittenLines.{written-append}
use Rattle.report_text.specs.Common.{IsCommented}

-- comments, and further comments
both : (lines more : List (List (List ℕ))) → AllByRecursion IsComment lines → AllByRecursion IsComment more → AllByRecursion IsComment (lines ++ more)
both [] more first second = second
both (words ∷ lines) more first second = (first.0, both lines more first.1 second)

-- a text with no comments after it
pub commented-none : (text : List ℕ) → IsCommented text text
commented-none text = record { lines = []; each = tt; is = sym (append-nil text) }

-- comments after comments
pub commented-more : (text between report : List ℕ) → IsCommented text between → IsCommented between report → IsCommented text report
commented-more text between report first second = record {
  lines = first.lines ++ second.lines;
  each = both first.lines second.lines first.each second.each;
  is = second.is ∙ ap (λ (t : List ℕ). t ++ written second.lines) first.is ∙ append_assoc text (written first.lines) (written second.lines)
      ∙ ap (λ (t : List ℕ). text ++ t) (sym (written-append first.lines second.lines));
}

-- a tail that is comments alone
pub commented-tail : (text tail : List ℕ) → IsCommented [] tail → IsCommented text (text ++ tail)
commented-tail text tail comments = record { lines = comments.lines; each = comments.each; is = ap (λ (t : List ℕ). text ++ t) comments.is }

-- two such tails
pub commented-both : (tail more : List ℕ) → IsCommented [] tail → IsCommented [] more → IsCommented [] (tail ++ more)
commented-both tail more first second = commented-more [] tail (tail ++ more) first (commented-tail tail more second)

-- a tail of one line
pub commented-line : (line : List ℕ) (words : List (List ℕ)) → IsComment words → line ≡ written (words ∷ []) → IsCommented [] line
commented-line line words comment is = record { lines = words ∷ []; each = (comment, tt); is = is }

-- a report stands for what its text stands for
pub stands-commented : {Body Value Kind : Type 0} (rules : Rules Body Value Kind) (text report : List ℕ) (value : Value) → is_closed text ≡ true → IsCommented text report → Stands rules text value → Stands rules report value
stands-commented rules text report value closed commented stands =
    subst (λ (t : List ℕ). Stands rules t value) (sym commented.is)
    (Stands-comments rules text (written commented.lines) value closed (AreSkipped-written commented.lines commented.each) stands)
