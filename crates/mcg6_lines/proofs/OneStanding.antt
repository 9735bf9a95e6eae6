-- The words on how a graph stands are one: its first reasons differ at most in the Berge set, its
-- maximum matchings miss as many vertices, no reason is one of a covered graph, a kind without its
-- shore is one, and so are the numbers of bricks and braces.
use Rattle.allowed_edges.proofs.from_counting.Common.{◌≡◌, ◌∙◌, List, ℕ, ◌++◌, Bool, refl, sym, codes, arith, decimal, same_tests, mem}
use Rattle.graph_core.proofs.Common.{reason-uncovered, Graph, IsMultigraph, IsReason, reason_of}
use Rattle.graph_core.specs.declared.verdict.Kind.{Kind}
use Rattle.graph_core.specs.declared.verdict.Kind.TheVariants.{Brace, Brick, Composite}
use Rattle.graph_core.specs.declared.verdict.Reason.{Reason}
use Rattle.leaf_kinds.specs.LeafKinds.{IsKind}
use Rattle.report_text.specs.Common.{kind_word, reason_word, yes_or_no}
use Rattle.tree_core.specs.declared.tallies.Tally.{Tally}
use Rattle.mcg6_lines.specs.KindLines.{TellsStanding, standing_words}
use Rattle.mcg6_lines.specs.Standings.{IsStanding, IsStructured, IsUncovered, Standing, Uncovered, Structured}
use Rattle.mcg6_lines.proofs.Counts.{same_counts}
use Rattle.mcg6_lines.proofs.MissedVertices.{deficiency_once}

-- a kind without its shore is one
kind_words_once : (g : Graph) (kind other : Kind) → IsKind g kind → IsKind g other → kind_word kind ≡ kind_word other
kind_words_once g Brick Brick one two = refl
kind_words_once g Brick Brace one two = absurd (one.0 two.0)
kind_words_once g Brick (Composite cut) one two = absurd (one.1 (mem cut) two.0 two.1)
kind_words_once g Brace Brick one two = absurd (two.0 one.0)
kind_words_once g Brace Brace one two = refl
kind_words_once g Brace (Composite cut) one two = absurd (one.1 (mem cut) two.0 two.1)
kind_words_once g (Composite cut) Brick one two = absurd (two.1 (mem cut) one.0 one.1)
kind_words_once g (Composite cut) Brace one two = absurd (two.1 (mem cut) one.0 one.1)
kind_words_once g (Composite cut) (Composite other) one two = refl

structure_words_once :
    (g : Graph) (kind other : Kind) (tally more : Tally) (bicritical too : Bool) → IsMultigraph g → IsStructured g kind tally bicritical → IsStructured g other more too →
    standing_words (Structured kind tally bicritical) ≡ standing_words (Structured other more too)
structure_words_once g kind other tally more bicritical too is one two =
    let words = kind_words_once g kind other one.right_kind two.right_kind in
    let tallies = same_counts g tally more is.ends one.counted two.counted in
    let answers = same_tests bicritical too (λ holds. two.critical.1 (one.critical.0 holds)) (λ holds. one.critical.1 (two.critical.0 holds)) in
    λ i. words i ++ codes " " ++ decimal (tallies i).bricks ++ codes " " ++ decimal (tallies i).braces ++ codes " bicritical " ++ yes_or_no (answers i)

-- a first reason without its Berge set is one
reason_word_once : (g : Graph) (q r : Reason) → IsReason g (reason_of q) → IsReason g (reason_of r) → reason_word q ≡ reason_word r
reason_word_once g q r one two = grind arith

uncovered_words_once :
    (g : Graph) (q r : Reason) (k l : ℕ) → IsMultigraph g → IsUncovered g q k → IsUncovered g r l → standing_words (Uncovered q k) ≡ standing_words (Uncovered r l)
uncovered_words_once g q r k l is one two =
    let words = reason_word_once g q r one.first two.first in
    let missed = deficiency_once g k l is.ends one.missed two.missed in
    λ i. codes "uncovered " ++ words i ++ codes " " ++ decimal (missed i)

standing_words_once : (g : Graph) (standing other : Standing) → IsMultigraph g → IsStanding g standing → IsStanding g other → standing_words standing ≡ standing_words other
standing_words_once g (Uncovered q k) (Uncovered r l) is one two = uncovered_words_once g q r k l is one two
standing_words_once g (Uncovered q k) (Structured kind tally bicritical) is one two = absurd (reason-uncovered g (reason_of q) is one.first two.covered)
standing_words_once g (Structured kind tally bicritical) (Uncovered r l) is one two = absurd (reason-uncovered g (reason_of r) is two.first one.covered)
standing_words_once g (Structured kind tally bicritical) (Structured other more too) is one two =
    structure_words_once g kind other tally more bicritical too is one two

pub words_once : (g : Graph) (a b : List ℕ) → IsMultigraph g → TellsStanding g a → TellsStanding g b → a ≡ b
words_once g a b is one two = one.is ∙ standing_words_once g one.standing two.standing is one.right two.right ∙ sym two.is
