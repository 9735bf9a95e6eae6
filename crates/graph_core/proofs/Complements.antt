-- The numbers of 1 to n outside a list, as a list: it is increasing, it has a number if and only if
-- the list has not, and where the list is a union of blocks so is it.
use Rattle.vset_core.proofs.from_counting.Common.{◌≡◌, ℕ, zero, suc, List, not, refl, ap₂, subst, sym, ◌++◌, arith, Within, complement, mem, rising_list, IsRisingIn, rising_list-rises, mem-rising_list}
use Rattle.graph_core.specs.Common.{complement_of, IsUnion}

-- it is the increasing list of the other numbers
pub complement_of-rising_list : (n : ℕ) (x : List ℕ) → complement_of n x ≡ rising_list n (complement (mem x))
complement_of-rising_list zero x = refl
complement_of-rising_list (suc n) x = ap₂ (λ (xs ys : List ℕ). xs ++ ys) (complement_of-rising_list n x) (grind arith)

pub complement_of-rises : (n : ℕ) (x : List ℕ) → IsRisingIn n (complement_of n x)
complement_of-rises n x = subst (IsRisingIn n) (sym (complement_of-rising_list n x)) (rising_list-rises n (complement (mem x)))

pub mem-complement_of : (n : ℕ) (x : List ℕ) (v : ℕ) → Within n v → mem (complement_of n x) v ≡ not (mem x v)
mem-complement_of n x v within = grind (arith, complement_of-rising_list n x, mem-rising_list n (complement (mem x)) v within)

-- what lies outside a union of blocks is a union of blocks
pub union-complement_of : (n : ℕ) (p : List (List ℕ)) (x : List ℕ) → IsUnion n p (mem x) → IsUnion n p (mem (complement_of n x))
union-complement_of n p x union u v in_u in_v same = grind (arith, mem-complement_of n x u in_u, mem-complement_of n x v in_v)
