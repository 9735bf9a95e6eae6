-- The images of blocks: the part of a set within 1 to n is the list of its test, and the names of
-- images are made from such lists.
use Rattle.graph_core.proofs.from_counting.Common.{◌≡◌, ◌↔◌, ◌<◌, ◌+◌, ℕ, Bool, true, ◌&&◌, List, [], ◌∷◌, ◌++◌, Some, length, map, take, get_or, slice_get, ap, sym, ◌∙◌, arith, and_parts, map-append, take_more, get_or_from_slice_get, list-from_test, set-narrower, and_true, Within, IsRisingIn, is_subset, last_of, mem, rising_list}
use Rattle.tree_core.proofs.Common.{inner_rest, list_if, meet_list, outer_rest, union_list}
use Rattle.uncross.specs.declared.block_images.Images.{Images}
use Rattle.uncross.specs.declared.block_images.Images.TheVariants.{Moved}
use Rattle.uncross.specs.Common.{image_name, kept_images}

-- what a set shares with 1 to n
pub part-is : (n : ℕ) (x full part : List ℕ) → ((v : ℕ) → (mem full v ≡ true) ↔ Within n v) → IsRisingIn 128 part → ((v : ℕ) → mem part v ≡ (mem x v && mem full v)) → part ≡ rising_list n (mem x)
part-is n x full part all rises tells = grind (arith, list-from_test n part (mem x), set-narrower 128 n part rises, and_parts, and_true)

-- the name of a moved image, from the sets that make it
pub moved-name : (n name : ℕ) (images : Images) (staying leaving gained far coming t stays inner outer inside whole : List ℕ) (near beyond : Bool) →
    images ≡ Moved staying leaving gained far coming → stays ≡ meet_list n t staying → near ≡ is_subset leaving t → inner ≡ list_if near gained →
    beyond ≡ is_subset far t → outer ≡ list_if beyond coming → inside ≡ union_list n inner outer → whole ≡ union_list n stays inside → name ≡ last_of whole →
    name ≡ image_name n images t
moved-name n name images staying leaving gained far coming t stays inner outer inside whole near beyond is s a i b o j w l =
    let first : inner ≡ list_if (is_subset leaving t) gained = i ∙ ap (λ (test : Bool). list_if test gained) a in
    let second : outer ≡ list_if (is_subset far t) coming = o ∙ ap (λ (test : Bool). list_if test coming) b in
    let both : inside ≡ union_list n (list_if (is_subset leaving t) gained) (list_if (is_subset far t) coming) =
    j ∙ ap (λ (xs : List ℕ). union_list n xs outer) first ∙ ap (λ (xs : List ℕ). union_list n (list_if (is_subset leaving t) gained) xs) second in
    l ∙ ap last_of (w ∙ ap (λ (xs : List ℕ). union_list n xs inside) s ∙ ap (λ (xs : List ℕ). union_list n (meet_list n t staying) xs) both)
    ∙ ap (λ (m : Images). image_name n m t) (sym is)

-- the images below `kept`, from the sets that make them
pub kept-is : (n : ℕ) (x u v rest staying gained far : List ℕ) →
    rest ≡ outer_rest n x v → staying ≡ inner_rest n x u → gained ≡ union_list n rest u → far ≡ union_list n rest v →
    Moved staying u gained far v ≡ kept_images n x u v
kept-is n x u v rest staying gained far r s g f = grind arith

-- one more block's name
pub named-more : (f : List ℕ → ℕ) (blocks : List (List ℕ)) (i name : ℕ) (block : List ℕ) (before after : List ℕ) →
    i < length blocks → slice_get blocks i ≡ Some block → before ≡ map f (take i blocks) → after ≡ before ++ name ∷ [] → name ≡ f block →
    after ≡ map f (take (i + 1) blocks)
named-more f blocks i name block before after low at b a e = grind (arith, get_or_from_slice_get blocks i block, map-append f (take i blocks) (get_or blocks i [] ∷ []), take_more blocks i)
