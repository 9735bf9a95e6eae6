-- What is told of a line is one, unless the query is free; and then two outputs have in common what
-- the graph determines. The line stands for one graph, of which each query asks one thing. The
-- leaves are those of one tree, since the order picks one, with one list of kinds.
use Rattle.std.proofs.Common.{◌≡◌, ◌∙◌, inl, inr, ℕ, List, Result, Ok, Err, sym, subst, ap, arith, IsFalse}
use Rattle.mcg6_lines.proofs.OneTree.{kinds-once, named-once, picked-once}
use Rattle.decomposer.specs.Common.{NamedPicks}
use Rattle.decomposer.specs.declared.orders.NamedOrder.{NamedOrder}
use Rattle.graph_core.proofs.Common.{Graph, IsMultigraph, singles}
use Rattle.mcg6_lines.proofs.ReadMultigraphs.{read-multigraph}
use Rattle.graph6_text.specs.Common.{Fault, outcome_of}
use Rattle.graph_core.specs.from_line_text.declared.faults.FaultKind.{FaultKind}
use Rattle.tree_core.proofs.Common.{leaves}
use Rattle.mcg6_lines.specs.KindLines.{IsKindLine, kind_line}
use Rattle.mcg6_lines.specs.LeafLines.{AreLeafLines, AreLinesOf, TellsLeaves, line_front}
use Rattle.mcg6_lines.specs.Selecting.{IsSelected}
use Rattle.mcg6_lines.specs.Telling.{HasFault, IsTold, TellsLine}
use Rattle.mcg6_lines.specs.declared.query.Property.{Property}
use Rattle.mcg6_lines.specs.declared.query.Query.{Query}
use Rattle.mcg6_lines.specs.declared.query.Query.TheVariants.{Kinds, Leaves, Elementary, Matching, Cuts, Ears, Graph as GraphFile, Select}
use Rattle.mcg6_lines.specs.Alike.{AreAlike, is_free}
use Rattle.mcg6_lines.specs.CutLines.{AreCutLines}
use Rattle.mcg6_lines.specs.EarLines.{AreEarLines, DifferInEars}
use Rattle.mcg6_lines.proofs.AlikeMatchings.{matchings-alike}
use Rattle.mcg6_lines.proofs.Counts.{lacks_none}
use Rattle.mcg6_lines.proofs.OneStanding.{words_once}

kind_line_once : (g : Graph) (a b : List ℕ) → IsMultigraph g → IsKindLine g a → IsKindLine g b → a ≡ b
kind_line_once g a b is one two = one.line ∙ ap (kind_line g) (words_once g one.words two.words is one.right two.right) ∙ sym two.line

-- the lines of some leaves
lines_once : (front : List ℕ) (g : Graph) (ps : List (List (List ℕ))) (a b : List ℕ) → AreLinesOf front g ps a → AreLinesOf front g ps b → a ≡ b
lines_once front g ps a b one two = grind (arith, kinds-once g ps one.kinds two.kinds one.right two.right)

leaves_once : (order : NamedOrder) (front : List ℕ) (g : Graph) (a b : List ℕ) → TellsLeaves order front g a → TellsLeaves order front g b → a ≡ b
leaves_once order front g a b one two =
    let same : one.tree ≡ two.tree = picked-once (NamedPicks order) (named-once order) g (singles g.order) 0 one.tree two.tree one.picked two.picked in
    grind (arith, lines_once front g (leaves g.order two.tree) a b)

leaf_lines_once : (order : NamedOrder) (number : ℕ) (g : Graph) (a b : List ℕ) → AreLeafLines order number g a → AreLeafLines order number g b → a ≡ b
leaf_lines_once order number g a b h k = grind (arith, leaves_once order (line_front number g) g a b)

-- the candidates are one list
cut_lines_once : (number : ℕ) (g : Graph) (a b : List ℕ) → AreCutLines number g a → AreCutLines number g b → a ≡ b
cut_lines_once number g a b (inl one) (inl two) = one.lines ∙ sym two.lines
cut_lines_once number g a b (inl one) (inr two) = absurd (two.0 one.covered)
cut_lines_once number g a b (inr one) (inl two) = absurd (one.0 two.covered)
cut_lines_once number g a b (inr one) (inr two) = one.1 ∙ sym two.1

-- two ear lists of one graph in one line
ear_lines_alike : (number : ℕ) (g : Graph) (a b : List ℕ) → AreEarLines number g a → AreEarLines number g b → AreAlike Ears a b
ear_lines_alike number g a b (inl one) (inl two) = inl (record { number = number; graph = g; list = one.list; other = two.list; one_is = one.line; two_is = two.line })
ear_lines_alike number g a b (inl one) (inr two) = absurd (two.0 one.covered)
ear_lines_alike number g a b (inr one) (inl two) = absurd (one.0 two.covered)
ear_lines_alike number g a b (inr one) (inr two) = inr (one.1, two.1)

-- no graph both has a property and lacks it
selected_once : (property : Property) (g : Graph) (line a b : List ℕ) → IsMultigraph g → IsSelected property g line a → IsSelected property g line b → a ≡ b
selected_once property g line a b is h k = grind (arith, lacks_none g property is.ends)

told_alike : (query : Query) (number : ℕ) (line : List ℕ) (g : Graph) (a b : List ℕ) → IsMultigraph g → IsTold query number line g a → IsTold query number line g b → AreAlike query a b
told_alike Kinds number line g a b is one two = kind_line_once g a b is one two
told_alike (Leaves order) number line g a b is one two = leaf_lines_once order number g a b one two
told_alike Elementary number line g a b is one two = one ∙ sym two
told_alike Matching number line g a b is one two = matchings-alike g a b one two
told_alike Cuts number line g a b is one two = cut_lines_once number g a b one two
told_alike Ears number line g a b is one two = ear_lines_alike number g a b one two
told_alike GraphFile number line g a b is one two = one ∙ sym two
told_alike (Select property) number line g a b is one two = selected_once property g line a b is one two

-- a text stands for one graph, or has one first fault, and not both
graph_once : (outcome : Result Graph Fault) (g h : Graph) → outcome ≡ Ok g → outcome ≡ Ok h → g ≡ h
graph_once outcome g h one two = grind arith

kind_once : (outcome : Result Graph Fault) (fault other : Fault) → outcome ≡ Err fault → outcome ≡ Err other → fault.1 ≡ other.1
kind_once outcome fault other one two = grind arith

-- two outputs of a line are alike
pub outputs_alike : (query : Query) (number : ℕ) (line a b : List ℕ) → TellsLine query number line a → TellsLine query number line b → AreAlike query a b
outputs_alike query number line a b one two =
    let same : two.graph ≡ one.graph = graph_once (outcome_of line) two.graph one.graph two.stands one.stands in
    told_alike query number line one.graph a b (read-multigraph line one.graph one.stands) one.told (subst (λ (g : Graph). IsTold query number line g b) same two.told)

-- what is alike is one, unless the query is free
pub alike_once : (query : Query) (a b : List ℕ) → IsFalse (is_free query) → AreAlike query a b → a ≡ b
alike_once Kinds a b fixed alike = alike
alike_once (Leaves order) a b fixed alike = alike
alike_once Elementary a b fixed alike = alike
alike_once Matching a b fixed alike = absurd (cc fixed)
alike_once Cuts a b fixed alike = alike
alike_once Ears a b fixed alike = absurd (cc fixed)
alike_once GraphFile a b fixed alike = alike
alike_once (Select property) a b fixed alike = alike

-- the kind of its first fault
pub fault_once : (line : List ℕ) (kind other : FaultKind) → HasFault line kind → HasFault line other → kind ≡ other
fault_once line kind other one two = kind_once (outcome_of line) (one.at, kind) (two.at, other) one.fault two.fault
