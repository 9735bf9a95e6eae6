-- The bytes of a text are shown unit by unit. What is shown of a text that is not empty is what is
-- shown of its first unit, and then what is shown of the others.
use Rattle.std.proofs.Common.{◌≡◌, ◌∙◌, ◌&&◌, if◌then◌else◌, ◌≤◌, ◌<◌, ℕ, ◌-◌, zero, suc, List, [], ◌∷◌, ◌++◌, length, take, drop, refl, ap, arith, codes, Bool, true, false, cond, nat_lt, not}
use Rattle.std.proofs.lemmas.Bool.{false≢true}
use Rattle.std.proofs.lemmas.Bool.Decides.{nat_tests}
use Rattle.front_words.specs.Showing.{begin_shown, begins_four, begins_in, begins_three, begins_two, byte_at, byte_shown, ends_plane, first_shown, is_further, is_hidden_plane, is_hidden_three, unit_size, units_shown}
use Rattle.front_words.specs.UnitsSeen.{unit_shown}

-- the further bytes of a unit are shown as they are
further-shown : (most inside : ℕ) (text : List ℕ) → inside ≤ length text → units_shown most inside text ≡ take inside text ++ units_shown most 0 (drop inside text)
unfolding units_shown
further-shown most zero [] within = refl
further-shown most zero (byte ∷ text) within = refl
further-shown most (suc inside) [] within = absurd (omega (arith, within))
further-shown most (suc inside) (byte ∷ text) within = ap (λ (l : List ℕ). byte ∷ l) (further-shown most inside text (omega (arith, within)))

cut-at : (most size : ℕ) (byte : ℕ) (text : List ℕ) (b : Bool) → b ≡ false →
    cond b (codes "...") (first_shown size byte ++ units_shown (most - size) (size - 1) text) ≡ first_shown size byte ++ units_shown (most - size) (size - 1) text
cut-at most size byte text b e = ap (λ (t : Bool). cond t (codes "...") (first_shown size byte ++ units_shown (most - size) (size - 1) text)) e

next-unit : (most : ℕ) (byte : ℕ) (text : List ℕ) → nat_lt most (unit_size (byte ∷ text)) ≡ false →
    units_shown most 0 (byte ∷ text) ≡ first_shown (unit_size (byte ∷ text)) byte ++ units_shown (most - unit_size (byte ∷ text)) (unit_size (byte ∷ text) - 1) text
unfolding units_shown
next-unit most byte text e = cut-at most (unit_size (byte ∷ text)) byte text (nat_lt most (unit_size (byte ∷ text))) e

first-more : (size byte : ℕ) → 1 < size → first_shown size byte ≡ byte ∷ []
first-more size byte more = grind (arith, nat_tests, more)

both-true : (x y : Bool) → (x && y) ≡ true → (x ≡ true) × (y ≡ true)
both-true true y e = (refl, e)
both-true false y e = absurd (false≢true e)

-- a byte behind the end is not a further one
further-within : (text : List ℕ) (i : ℕ) → is_further (byte_at text i) ≡ true → i < length text
further-within [] i e = absurd (false≢true e)
further-within (a ∷ text) zero e = omega arith
further-within (a ∷ text) (suc i) e = let w : i < length text = further-within text i e in omega (arith, w)

two-within : (text : List ℕ) → begins_two text ≡ true → 2 ≤ length text
two-within text e = further-within text 1 (both-true _ _ (both-true _ _ e).1).0

three-within : (text : List ℕ) → begins_three text ≡ true → 3 ≤ length text
three-within text e =
    let whole = both-true (begins_in 224 239 160 237 160 text && is_further (byte_at text 2)) (not (is_hidden_three (byte_at text 0) (byte_at text 1) (byte_at text 2))) e in
    further-within text 2 (both-true (begins_in 224 239 160 237 160 text) (is_further (byte_at text 2)) whole.0).1

four-within : (text : List ℕ) → begins_four text ≡ true → 4 ≤ length text
four-within text e =
    let whole = both-true (begins_in 240 244 144 244 144 text && (is_further (byte_at text 2) && is_further (byte_at text 3))) (not (is_hidden_plane (byte_at text 0) (byte_at text 1) (byte_at text 2)) && not (ends_plane (byte_at text 1) (byte_at text 2) (byte_at text 3))) e in
    let further = both-true (begins_in 240 244 144 244 144 text) (is_further (byte_at text 2) && is_further (byte_at text 3)) whole.0 in
    further-within text 3 (both-true (is_further (byte_at text 2)) (is_further (byte_at text 3)) further.1).1

-- the size that three tests tell is not more than a number, if each test tells that
size-within : (two three four : Bool) (n : ℕ) → 1 ≤ n → (two ≡ true → 2 ≤ n) → (three ≡ true → 3 ≤ n) → (four ≡ true → 4 ≤ n) →
    (if two then 2 else if three then 3 else if four then 4 else 1) ≤ n
size-within true three four n one at_two at_three at_four = at_two refl
size-within false true four n one at_two at_three at_four = at_three refl
size-within false false true n one at_two at_three at_four = at_four refl
size-within false false false n one at_two at_three at_four = one

-- a unit is not longer than the text
pub unit-within : (text : List ℕ) → (length text ≡ 0 → ⊥) → unit_size text ≤ length text
unit-within [] some = absurd (some refl)
unit-within (a ∷ text) some =
    size-within (begins_two (a ∷ text)) (begins_three (a ∷ text)) (begins_four (a ∷ text)) (length (a ∷ text)) (omega arith)
    (two-within (a ∷ text)) (three-within (a ∷ text)) (four-within (a ∷ text))

-- a unit of that size
of-size : (most size : ℕ) (byte : ℕ) (text : List ℕ) → 0 < size → size ≤ length (byte ∷ text) →
    first_shown size byte ++ units_shown (most - size) (size - 1) text ≡ unit_shown (take size (byte ∷ text)) ++ units_shown (most - size) 0 (drop size (byte ∷ text))
of-size most zero byte text some within = absurd (omega (arith, some))
of-size most (suc zero) byte text some within = ap (λ (l : List ℕ). byte_shown byte ++ l) refl
of-size most (suc (suc n)) byte [] some within = absurd (omega (arith, within))
of-size most (suc (suc n)) byte (next ∷ text) some within =
    let first : first_shown (suc (suc n)) byte ≡ byte ∷ [] = first-more (suc (suc n)) byte (omega arith) in
    let less : suc (suc n) - 1 ≡ suc n = omega arith in
    rw (first, less) (ap (λ (l : List ℕ). byte ∷ l) (further-shown (most - suc (suc n)) (suc n) (next ∷ text) (omega (arith, within))))

pub shown-first : (most : ℕ) (text : List ℕ) → (length text ≡ 0 → ⊥) → unit_size text ≤ most → 0 < unit_size text →
    begin_shown most text ≡ unit_shown (take (unit_size text) text) ++ begin_shown (most - unit_size text) (drop (unit_size text) text)
shown-first most [] some enough positive = absurd (some refl)
shown-first most (byte ∷ text) some enough positive =
    next-unit most byte text (grind (arith, nat_tests, enough)) ∙ of-size most (unit_size (byte ∷ text)) byte text positive (unit-within (byte ∷ text) some)

shown-none : (most : ℕ) → begin_shown most [] ≡ []
unfolding units_shown
shown-none most = refl

pub shown-empty : (most : ℕ) (text : List ℕ) → length text ≡ 0 → begin_shown most text ≡ []
shown-empty most [] none = shown-none most
shown-empty most (byte ∷ text) none = absurd (omega (arith, none))

cut-off : (most : ℕ) (byte : ℕ) (text : List ℕ) (b : Bool) (more : List ℕ) → b ≡ true → cond b (codes "...") more ≡ codes "..."
cut-off most byte text b more e = ap (λ (t : Bool). cond t (codes "...") more) e

dots : (most : ℕ) (byte : ℕ) (text : List ℕ) → nat_lt most (unit_size (byte ∷ text)) ≡ true → begin_shown most (byte ∷ text) ≡ codes "..."
unfolding units_shown
dots most byte text e = cut-off most byte text (nat_lt most (unit_size (byte ∷ text))) _ e

pub shown-cut : (most : ℕ) (text : List ℕ) → (length text ≡ 0 → ⊥) → most < unit_size text → begin_shown most text ≡ codes "..."
shown-cut most [] some less = absurd (some refl)
shown-cut most (byte ∷ text) some less = dots most byte text (grind (arith, nat_tests, less))
