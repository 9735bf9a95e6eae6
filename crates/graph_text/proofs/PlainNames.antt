-- The default names `v1`, `v2` and so on are different names: a number below 10 ^ 9 is written in
-- one to nine digits, and is read again, so that equal names have equal numbers. Each name after
-- the others is therefore new, by induction over their number.
use Rattle.graph_core.proofs.from_counting.Common.{◌≡◌, ◌≤◌, ◌<◌, ◌^◌, ℕ, zero, suc, true, false, [], ◌∷◌, ◌++◌, length, refl, ◌∙◌, ap, ap₂, ◌||◌, arith, decimal, bytes_eq, length-decimal-le, cases_Bool, and_from, le-leb, nat_tests, length-append, list_any-append, bytes_eq-Decides}
use Rattle.graph_core.proofs.from_line_text.Decimals.{number_of-decimal, digits-decimal, list_all-digits}
use Rattle.graph_text.specs.Common.{is_name, is_name_byte, is_among, plain_name, plain_names}

-- a digit may occur in a name
digit-name_byte : (byte : ℕ) → 48 ≤ byte → byte ≤ 57 → is_name_byte byte ≡ true
unfolding is_name_byte
digit-name_byte byte low high = grind (arith, nat_tests)

v-name_byte : is_name_byte 118 ≡ true
unfolding is_name_byte
v-name_byte = refl

-- a plain name has the form of a name
pub is_name-plain : (k : ℕ) → k < 10 ^ 9 → is_name (plain_name k) ≡ true
unfolding is_name
is_name-plain k small =
    let few = length-decimal-le 9 k (omega arith) small (omega arith) in
    let bytes = list_all-digits is_name_byte digit-name_byte (decimal k) (digits-decimal k small) in
    and_from _ _ (le-leb 1 (suc (length (decimal k))) (omega arith)) (and_from _ _ (le-leb (suc (length (decimal k))) 16 (omega arith)) (and_from _ _ v-name_byte bytes))

-- equal plain names have equal numbers
plain_name-injective : (i j : ℕ) → i < 10 ^ 9 → j < 10 ^ 9 → plain_name i ≡ plain_name j → i ≡ j
plain_name-injective i j first second same = grind (arith, number_of-decimal i first, number_of-decimal j second)

-- a plain name is not among those before it
pub plain-fresh : (n k : ℕ) → n < k → k < 10 ^ 9 → is_among (plain_names n) (plain_name k) ≡ false
unfolding plain_names
plain-fresh zero k less small = refl
plain-fresh (suc n) k less small =
    list_any-append (bytes_eq (plain_name k)) (plain_names n) (plain_name (suc n) ∷ [])
    ∙ ap₂ ◌||◌ (plain-fresh n k (omega arith) small) (ap (λ b. b || false) other)
  where
    other : bytes_eq (plain_name k) (plain_name (suc n)) ≡ false
    other = grind (arith, cases_Bool (bytes_eq (plain_name k) (plain_name (suc n))), plain_name-injective k (suc n) small, bytes_eq-Decides (plain_name k) (plain_name (suc n)))

-- there are so many of them
pub length-plain_names : (n : ℕ) → length (plain_names n) ≡ n
unfolding plain_names
length-plain_names zero = refl
length-plain_names (suc n) = grind (arith, length-append (plain_names n) (plain_name (suc n) ∷ []), length-plain_names n)

pub plain_names-none : plain_names 0 ≡ []
unfolding plain_names
plain_names-none = refl

pub plain_names-more : (n : ℕ) → plain_names (suc n) ≡ plain_names n ++ plain_name (suc n) ∷ []
unfolding plain_names
plain_names-more n = refl
