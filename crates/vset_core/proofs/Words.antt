-- The operations on words are the operations on their sets: each says what the bits of the made
-- word are, one bit at a time, and the list of the made word then has the numbers that the sets'
-- tests say.
use Rattle.counting.proofs.Common.{◌≡◌, ℕ, zero, suc, ◌-◌, ◌*◌, ◌^◌, ◌≤◌, ◌<◌, ◌==◌, ◌||◌, ◌&&◌, not, List, [], ◌∷◌, refl, sym, ◌∙◌, ap, ap₂, arith, Bool, true, false, subst, eq-eqb, ne_eqb, inl, inr, bit_and, bit_or, min, max, bytes_eq, Decides-eqb, Decides-like, same_from_decides, bit_at, bit_not, w128, bit_at-lt, bit_at_and, bit_at_or, bit_at_not, bit_at-pow_same, bit_at-pow_other, bit_at-zero, and_pow, same_from_bits_below, bytes_eq-Decides, and_parts, both_ways, cases_eq, cases_lt, not-true, true≢false, all_in_false, false_all_in, no_members, same_rising_list, set-one, Within, is_subset, mem}
use Rattle.std.proofs.lemmas.Nat.{or_lt, and_le_l, pow_below, pow_pos}
use Rattle.vset_core.specs.Words.{in_word, members, word_of_list}
use Rattle.vset_core.specs.WordLaws.{word_of_list-members, in_word_above, mem-members, members-rise}

-- a number of the set, by the word that represents it
pub seen : (word : ℕ) (set : List ℕ) → members word ≡ set → word < 2 ^ 128 → (v : ℕ) → mem set v ≡ in_word word v
seen word set is fits v = subst (λ xs. mem xs v ≡ in_word word v) is (mem-members word v fits)

-- one bit, by cases
bit_or_test : (a b : ℕ) → a < 2 → b < 2 → (max a b == 1) ≡ ((a == 1) || (b == 1))
bit_or_test a b h k = grind arith

bit_and_test : (a b : ℕ) → a < 2 → b < 2 → (min a b == 1) ≡ ((a == 1) && (b == 1))
bit_and_test a b h k = grind arith

bit_not_test : (b : ℕ) → b < 2 → (1 - b == 1) ≡ not (b == 1)
bit_not_test b k = grind arith

-- the union's bits
pub in_word-or : (a b v : ℕ) → in_word (bit_or a b) v ≡ (in_word a v || in_word b v)
in_word-or a b v = grind (arith, bit_at_or a b, bit_or_test, bit_at-lt a, bit_at-lt b)

-- the common part's bits
pub in_word-and : (a b v : ℕ) → in_word (bit_and a b) v ≡ (in_word a v && in_word b v)
in_word-and a b v = grind (arith, bit_at_and a b, bit_and_test, bit_at-lt a, bit_at-lt b)

-- the difference's bits
pub in_word-minus : (a b v : ℕ) → a < 2 ^ 128 → b < 2 ^ 128 → in_word (bit_and a (bit_not w128 b)) v ≡ (in_word a v && not (in_word b v))
in_word-minus a b zero h k = refl
in_word-minus a b (suc i) h k = in_word-and a (bit_not w128 b) (suc i) ∙ elim (cases_lt i 128) [
  | inl l ↦ ap (λ t. (bit_at a i == 1) && t) (ap (λ n. n == 1) (bit_at_not w128 b i k l) ∙ bit_not_test (bit_at b i) (bit_at-lt b i))
  | inr g ↦ rw (in_word_above 128 a (suc i) h (omega arith)) refl
]

-- the bits of the word of v alone
pub in_word-one : (v w : ℕ) → 1 ≤ v → in_word (2 ^ (v - 1)) w ≡ (v == w)
in_word-one zero w l = absurd (omega arith)
in_word-one (suc k) w l = let e : suc k - 1 ≡ k = omega arith in rw e (grind (arith, ne_eqb (suc k) 0, cases_eq, bit_at-pow_same k, eq-eqb (suc k) (suc k) refl, bit_at-pow_other k, ne_eqb (suc k)))

-- the empty word has nothing
pub in_word-zero : (v : ℕ) → in_word 0 v ≡ false
in_word-zero v = grind arith

-- the test of a bit
pub tested_bit : (word b : ℕ) (set : List ℕ) → members word ≡ set → word < 2 ^ 128 → (v : ℕ) → 1 ≤ v → b ≡ 2 ^ (v - 1) → not (bit_and word b == 0) ≡ mem set v
tested_bit word b set is fits zero l e = absurd (omega arith)
tested_bit word b set is fits (suc i) l e =
    let same : suc i - 1 ≡ i = omega arith in
    rw (e, same, and_pow word i) (decide (bit_at word i) (bit_at-lt word i) ∙ sym (seen word set is fits (suc i)))
  where
    decide : (d : ℕ) → d < 2 → not (d * 2 ^ i == 0) ≡ (d == 1)
    decide zero h = let z : 0 * 2 ^ i ≡ 0 = omega arith in rw z refl
    decide (suc d) h = let one : d ≡ 0 = omega arith in let p = pow_pos i in rw one (ap not (ne_eqb (1 * 2 ^ i) 0 (λ z. absurd (omega arith))))

-- the list of the made word, in each operation
pub mem-or : (a b : ℕ) (s t : List ℕ) → members a ≡ s → members b ≡ t → a < 2 ^ 128 → b < 2 ^ 128 → (v : ℕ) → mem (members (bit_or a b)) v ≡ (mem s v || mem t v)
mem-or a b s t p q h k v = mem-members (bit_or a b) v (or_lt 128 a b h k) ∙ in_word-or a b v ∙ ap₂ ◌||◌ (sym (seen a s p h v)) (sym (seen b t q k v))

pub and_fits : (a b : ℕ) → a < 2 ^ 128 → bit_and a b < 2 ^ 128
and_fits a b h = let l = and_le_l a b in omega arith

pub mem-and : (a b : ℕ) (s t : List ℕ) → members a ≡ s → members b ≡ t → a < 2 ^ 128 → b < 2 ^ 128 → (v : ℕ) → mem (members (bit_and a b)) v ≡ (mem s v && mem t v)
mem-and a b s t p q h k v = mem-members (bit_and a b) v (and_fits a b h) ∙ in_word-and a b v ∙ ap₂ ◌&&◌ (sym (seen a s p h v)) (sym (seen b t q k v))

pub mem-minus : (a b : ℕ) (s t : List ℕ) → members a ≡ s → members b ≡ t → a < 2 ^ 128 → b < 2 ^ 128 → (v : ℕ) → mem (members (bit_and a (bit_not w128 b))) v ≡ (mem s v && not (mem t v))
mem-minus a b s t p q h k v = mem-members (bit_and a (bit_not w128 b)) v (and_fits a (bit_not w128 b) h) ∙ in_word-minus a b v h k ∙ ap₂ (λ x y. x && not y) (sym (seen a s p h v)) (sym (seen b t q k v))

pub one_fits : (v b : ℕ) → Within 128 v → b ≡ 2 ^ (v - 1) → b < 2 ^ 128
one_fits v b w e = let p = pow_below (v - 1) 128 (omega arith) in omega arith

pub mem-with : (a b : ℕ) (s : List ℕ) → members a ≡ s → a < 2 ^ 128 → (v : ℕ) → Within 128 v → b ≡ 2 ^ (v - 1) → (w : ℕ) → mem (members (bit_or a b)) w ≡ (mem s w || v == w)
mem-with a b s p h v l e w = mem-members (bit_or a b) w (or_lt 128 a b h (one_fits v b l e)) ∙ in_word-or a b w ∙ ap₂ ◌||◌ (sym (seen a s p h w)) (ap (λ k. in_word k w) e ∙ in_word-one v w l.0)

pub mem-without : (a b : ℕ) (s : List ℕ) → members a ≡ s → a < 2 ^ 128 → (v : ℕ) → Within 128 v → b ≡ 2 ^ (v - 1) → (w : ℕ) → mem (members (bit_and a (bit_not w128 b))) w ≡ (mem s w && not (v == w))
mem-without a b s p h v l e w = mem-members (bit_and a (bit_not w128 b)) w (and_fits a (bit_not w128 b) h) ∙ in_word-minus a b w h (one_fits v b l e) ∙ ap₂ (λ x y. x && not y) (sym (seen a s p h w)) (ap (λ k. in_word k w) e ∙ in_word-one v w l.0)

-- the empty word is the empty set
pub members-zero : members 0 ≡ []
members-zero = no_members (members 0) (λ v. mem-members 0 v (omega arith) ∙ in_word-zero v)

-- the word of v alone is the set of v alone
pub members-one : (v b : ℕ) → Within 128 v → b ≡ 2 ^ (v - 1) → members b ≡ v ∷ []
members-one v b w e = same_rising_list 128 (members b) (v ∷ []) (members-rise b) (set-one 128 v w) (λ u _. mem-members b u (one_fits v b w e) ∙ ap (λ k. in_word k u) e ∙ in_word-one v u w.0 ∙ or_none (v == u))
  where
    or_none : (b : Bool) → b ≡ (b || false)
    or_none b = grind arith

-- a word is 0 if and only if its set has nothing
pub zero_test : (word : ℕ) → word < 2 ^ 128 → (b : Bool) → ((v : ℕ) → in_word word v ≡ true → b ≡ false) → (b ≡ false → (v : ℕ) × (in_word word v ≡ true)) → (word == 0) ≡ b
zero_test word h true f g = eq-eqb word 0 (same_from_bits_below 128 word 0 h (omega arith) (λ i l. none i (bit_at word i) refl (bit_at-lt word i)))
  where
    none : (i : ℕ) → (k : ℕ) → bit_at word i ≡ k → k < 2 → bit_at word i ≡ bit_at 0 i
    none i zero e l = e ∙ sym (bit_at-zero i)
    none i (suc k) e l = let one : bit_at word i ≡ 1 = omega arith in absurd (true≢false (f (suc i) (eq-eqb (bit_at word i) 1 one)))
zero_test word h false f g = let found = g refl in ne_eqb word 0 (λ e. both_ways (in_word word found.0) (ap (λ w. in_word w found.0) e ∙ in_word-zero found.0) found.1)

-- nothing is left of the one set without the other if and only if it is a subset
pub minus-subset : (a b : ℕ) (s t : List ℕ) → members a ≡ s → members b ≡ t → a < 2 ^ 128 → b < 2 ^ 128 → (bit_and a (bit_not w128 b) == 0) ≡ is_subset s t
minus-subset a b s t p q h k = zero_test (bit_and a (bit_not w128 b)) (and_fits a (bit_not w128 b) h) (is_subset s t) outside missing
  where
    has : (v : ℕ) → in_word (bit_and a (bit_not w128 b)) v ≡ (mem s v && not (mem t v))
    has v = in_word-minus a b v h k ∙ ap₂ (λ x y. x && not y) (sym (seen a s p h v)) (sym (seen b t q k v))

    outside : (v : ℕ) → in_word (bit_and a (bit_not w128 b)) v ≡ true → is_subset s t ≡ false
    outside v m = let parts = and_parts (mem s v) (not (mem t v)) (sym (has v) ∙ m) in all_in_false s (mem t) v parts.0 (not-true (mem t v) parts.1)

    missing : is_subset s t ≡ false → (v : ℕ) × (in_word (bit_and a (bit_not w128 b)) v ≡ true)
    missing f = let found = false_all_in s (mem t) f in (found.0, has found.0 ∙ rw (found.1, found.2) refl)

-- two words are equal if and only if their sets are
pub same_word : (a b : ℕ) (s t : List ℕ) → members a ≡ s → members b ≡ t → a < 2 ^ 128 → b < 2 ^ 128 → (a == b) ≡ bytes_eq s t
same_word a b s t p q h k = same_from_decides (a == b) (bytes_eq s t) (Decides-like (a == b) same back (Decides-eqb a b)) (bytes_eq-Decides s t)
  where
    same : a ≡ b → s ≡ t
    same e = sym p ∙ ap members e ∙ q

    back : s ≡ t → a ≡ b
    back e = sym (word_of_list-members a h) ∙ ap word_of_list (p ∙ e ∙ sym q) ∙ word_of_list-members b k
