-- What is said of a tree that is not a tight cut decomposition: its first node with a fault, what
-- is wrong there, and what would be right.
-- Stated by: front_words.
use Rattle.std.specs.Prelude.{ℕ, List, ◌++◌, codes, decimal, Option}
use Rattle.refusals.specs.declared.faults.NodeFault.{NodeFault}
use Rattle.refusals.specs.declared.faults.NodeFault.TheVariants.{NotBlocks, Even, Trivial, NotTight, NotLeaf}
use Rattle.refusals.specs.declared.places.NodePlace.{NodePlace}
use Rattle.front_words.specs.NodePlaces.{place_text}
use Rattle.front_words.specs.declared.texts.TheConstants as texts

-- what is wrong with a node
abbrev pub node_fault_words : NodeFault → List ℕ
node_fault_words NotBlocks = texts.NODE_NOT_BLOCKS.now
node_fault_words Even = texts.NODE_EVEN.now
node_fault_words Trivial = texts.NODE_TRIVIAL.now
node_fault_words NotTight = texts.NODE_NOT_TIGHT.now
node_fault_words NotLeaf = texts.NODE_NOT_LEAF.now

-- what would be right at the node
abbrev pub node_advice : NodeFault → List ℕ
node_advice NotBlocks = texts.WRITE_BLOCKS.now
node_advice Trivial = texts.MAKE_LEAF.now
node_advice NotLeaf = texts.CUT_FURTHER.now
node_advice _ = texts.OTHER_CUT.now

-- the path to the node and its shore, what is wrong there, and what would be right
abbrev pub node_text : Option NodePlace → NodeFault → (advice : List ℕ) → List ℕ
node_text place fault advice = place_text place ++ (codes "): " ++ (node_fault_words fault ++ (advice ++ codes "\n")))

-- a tree is not a tight cut decomposition
abbrev pub refused_tree_text : (program : List ℕ) (tree at : ℕ) → Option NodePlace → NodeFault → List ℕ
refused_tree_text program tree at place fault =
    (program ++ (texts.TREE.now ++ (decimal tree ++ (texts.TREE_AT.now ++ (decimal at ++ texts.PREORDER.now))))) ++ node_text place fault (node_advice fault)

-- a move makes a tree that is not a tight cut decomposition
abbrev pub moved_text : (program : List ℕ) (step at : ℕ) → Option NodePlace → NodeFault → List ℕ
moved_text program step at place fault =
    (program ++ (texts.MOVE.now ++ (decimal step ++ (texts.MOVED_AT.now ++ (decimal at ++ texts.PREORDER.now))))) ++ node_text place fault texts.OTHER_MOVE.now
