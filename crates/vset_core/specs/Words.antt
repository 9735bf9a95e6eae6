-- A word of 128 bits as a set of the numbers 1 to 128: bit v - 1 represents v.
-- Stated by: vset_core.
use Rattle.std.specs.Prelude.{ℕ, zero, suc, ◌*◌, ◌^◌, ◌-◌, ◌==◌, false, List}
use Rattle.std.specs.Int.{bit_at}
use Rattle.counting.specs.Common.{bit, total, mem, rising_list, Set}

-- v is in the word's set
abbrev pub in_word : ℕ → Set
in_word word zero = false
in_word word (suc i) = bit_at word i == 1

-- the word's set as an increasing list
unfoldable pub members : ℕ → List ℕ
members word = rising_list 128 (in_word word)

-- the word of n bits whose set is x ∩ {1, .., n}
unfoldable pub word_of : ℕ → Set → ℕ
word_of n x = total n (λ v. bit (x v) * 2 ^ (v - 1))

-- the word of a list's set
unfoldable pub word_of_list : List ℕ → ℕ
word_of_list xs = word_of 128 (mem xs)
