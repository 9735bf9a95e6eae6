-- Steps of the loops that write the lines of a leaf, and of the leaves: what is written and one
-- more line are the lines with one more.
use Rattle.move_text.proofs.from_counting.Common.{◌≡◌, ℕ, suc, ◌-◌, ◌∙◌, List, [], ◌++◌, length, ap, subst, append_assoc, slice_get, get_or, Some, arith, codes, get_or_from_slice_get, rising_list, Within}
use Rattle.graph_core.proofs.Common.{Graph, contracted, contracted-size, first_end, second_end, has_ends, size, quotient}
use Rattle.report_text.specs.Common.{list_line, adjacent_line, adjacent_lines, block_lines, numbered_leaf_line, numbered_leaf_lines, leaf_text, name_at}
use Rattle.move_text.proofs.from_tree_core.Common.{leaf_at, kind_at}
use Rattle.move_text.specs.from_tree_core.declared.tallies.LeafKind.{LeafKind}
use Rattle.move_text.specs.from_tree_core.declared.tallies.LeafKind.TheVariants.{Brick}

-- one more line after those that are written
pub one-more : (start lines line now next : List ℕ) → now ≡ start ++ lines → next ≡ now ++ line → next ≡ start ++ (lines ++ line)
one-more start lines line now next first second = second ∙ ap (λ (t : List ℕ). t ++ line) first ∙ append_assoc start lines line

-- the line of the next block
pub block-written : (p : List (List ℕ)) (i : ℕ) (b start now next : List ℕ) → slice_get p i ≡ Some b → now ≡ start ++ block_lines p i → next ≡ now ++ list_line (codes "c block") b → next ≡ start ++ block_lines p (suc i)
block-written p i b start now next is first second = grind (arith, one-more start (block_lines p i) (list_line (codes "c block") (get_or p i [])) now next first, get_or_from_slice_get p i b)

-- the vertices of the quotient are the places of blocks
pub within-blocks : (g : Graph) (p : List (List ℕ)) (q : Graph) (a : ℕ) → q ≡ quotient g p → Within q.order a → Within (length p) a
unfolding quotient
within-blocks g p q a is within = subst (λ (k : ℕ). Within k a) (ap (λ (h : Graph). h.order) is) within

-- the line of the next two adjacent blocks
pub adjacent-written : (g : Graph) (p : List (List ℕ)) (q h : Graph) (i a b x y : ℕ) (edges start now next : List ℕ) →
    q ≡ quotient g p → h ≡ contracted g p → a ≡ first_end q (suc i) → b ≡ second_end q (suc i) → x ≡ name_at p a → y ≡ name_at p b → edges ≡ rising_list (size h) (has_ends h a b) →
    now ≡ start ++ adjacent_lines g p i → next ≡ now ++ adjacent_line x y edges → next ≡ start ++ adjacent_lines g p (suc i)
adjacent-written g p q h i a b x y edges start now next is placed first_is second_is x_is y_is edges_are first second = grind (arith, one-more, contracted-size)

-- the lines of a leaf: its own, those of its blocks, and those of the pairs of adjacent blocks,
-- which are the edges of its quotient
pub leaf_text-written : (g : Graph) (p : List (List ℕ)) (number : ℕ) (kind : LeafKind) (start first second end : List ℕ) →
    first ≡ start ++ numbered_leaf_line number kind → second ≡ first ++ block_lines p (length p) → end ≡ second ++ adjacent_lines g p (size (quotient g p)) → end ≡ start ++ leaf_text g number p kind
unfolding leaf_text
leaf_text-written g p number kind start first second end line blocks pairs = grind (arith, one-more, append_assoc)

-- the lines of the next leaf
pub leaf-written : (g : Graph) (ps : List (List (List ℕ))) (kinds : List LeafKind) (i : ℕ) (p : List (List ℕ)) (kind : LeafKind) (start now next : List ℕ) → p ≡ get_or ps i [] → kind ≡ get_or kinds i Brick →
    now ≡ start ++ numbered_leaf_lines g ps kinds i → next ≡ now ++ leaf_text g (suc i) p kind → next ≡ start ++ numbered_leaf_lines g ps kinds (suc i)
leaf-written g ps kinds i p kind start now next here same first second =
    let back : i ≡ suc i - 1 = omega arith in
    let p_is : p ≡ leaf_at ps (suc i) = here ∙ ap (λ j. get_or ps j []) back in
    let kind_is : kind ≡ kind_at kinds (suc i) = same ∙ ap (λ j. get_or kinds j Brick) back in
    one-more start (numbered_leaf_lines g ps kinds i) (leaf_text g (suc i) (leaf_at ps (suc i)) (kind_at kinds (suc i))) now next first
    (second ∙ ap (λ (b : List (List ℕ)). now ++ leaf_text g (suc i) b kind) p_is ∙ ap (λ (k : LeafKind). now ++ leaf_text g (suc i) (leaf_at ps (suc i)) k) kind_is)
