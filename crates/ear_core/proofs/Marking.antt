-- Marks set at the places of further edges, and the tests of a step of two ears.
-- Idea: the tests only ask for members, so lists with the same members give the same fault.
use Rattle.graph_core.proofs.from_counting.Common.{◌≡◌, ℕ, ◌||◌, if◌then◌else◌, List, [], Option, Some, None, ap, arith, fun_ext, mem, Set}
use Rattle.graph_core.proofs.Common.{Graph}
use Rattle.ear_core.specs.Common.{PlainEar, two, PlainWhy, not_path, even_length, bad_ends, inner_on_stage, edge_used, is_path, has_odd_length, has_good_ends, has_new_edges, ear_fault, inner_vertices, no_member, step_fault, is_met}

-- the tests look at the members of a list alone
pub fault-same : (g : Graph) (f : Set) (xs ys ds : List ℕ) (v : ℕ) (es : List ℕ) → ((w : ℕ) → mem xs w ≡ mem ys w) → ear_fault g f xs ds v es ≡ ear_fault g f ys ds v es
fault-same g f xs ys ds v es same =
    ap (λ b. if is_path g v es then (if has_odd_length es then (if has_good_ends g f v es then (if b then (if has_new_edges f ds es then None else Some edge_used) else Some inner_on_stage) else Some bad_ends) else Some even_length) else Some not_path)
    (ap (λ (m : Set). no_member (λ w. is_met g f w || m w) (inner_vertices g v es)) (fun_ext same))

-- a step of two ears, the first of which passes
pub pair-fault : (g : Graph) (f : Set) (a b : PlainEar) (inner used : List ℕ) (fault : Option PlainWhy) → ear_fault g f [] [] a.begin a.edges ≡ None → ((w : ℕ) → mem inner w ≡ mem (inner_vertices g a.begin a.edges) w) → used ≡ a.edges → ear_fault g f inner used b.begin b.edges ≡ fault → step_fault g f (two a b) ≡ fault
pair-fault g f a b inner used fault passes same is second = grind (arith, fault-same g f inner (inner_vertices g a.begin a.edges) a.edges b.begin b.edges same)
