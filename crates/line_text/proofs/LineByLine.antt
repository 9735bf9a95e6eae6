-- One line more: a skipped line changes nothing, and what the format says to a significant line
-- decides what comes of it and the lines after it.
use Rattle.std.proofs.Common.{◌≡◌, ℕ, ◌+◌, List, [], ◌∷◌, Bool, cond, Option, Some, Result, Ok, Err, ap, arith, rules}
use Rattle.std.specs.Result.{result_map_both}
use Rattle.line_text.specs.declared.format.RuleFault.{RuleFault}
use Rattle.line_text.specs.declared.format.RuleFault.TheVariants as refusal
use Rattle.line_text.specs.Common.{words_of, is_skipped, significant_from, Rules, step, finish, Refuses, Fails, state_after, placed, go_on, reading_from}

-- a reader that places a rule's refusal names the error that the rule gives
pub Fails-placed : {Body Value Kind : Type 0} (number : ℕ) (refused : RuleFault Kind) (given : Result Body Kind) (outcome : Result Value (ℕ × Kind)) → Refuses refused given → ((kind : Kind) → given ≡ Err kind → outcome ≡ Err (number, kind)) → Fails (placed number refused) outcome
Fails-placed number (refusal.Fault kind) given outcome refuses follows = follows kind refuses
Fails-placed number refusal.Memory given outcome refuses follows = tt

module _ {Body Value Kind : Type 0} (rules : Rules Body Value Kind) (from : Option Body) (number : ℕ) (count : ℕ) where
  -- what comes of the lines after this one
  abbrev onward : List (List ℕ) → Option Body → Result Value (ℕ × Kind)
  onward lines next = reading_from rules next (significant_from (number + 1) lines) count

  -- by whether the line is skipped
  reading_from-tested : (skipped : Bool) (words : List (List ℕ)) (lines : List (List ℕ)) → reading_from rules from (cond skipped (significant_from (number + 1) lines) (record { number = number; words = words } ∷ significant_from (number + 1) lines)) count ≡ go_on number (cond skipped (Ok from) (result_map_both (λ body. Some body) (λ kind. kind) (step rules from words))) (onward lines)
  reading_from-tested skipped words lines = grind arith

  reading_from-cons : (line : List ℕ) (lines : List (List ℕ)) → reading_from rules from (significant_from number (line ∷ lines)) count ≡ go_on number (state_after rules from (words_of line)) (onward lines)
  unfolding significant_from
  reading_from-cons line lines = reading_from-tested (is_skipped (words_of line)) (words_of line) lines

  module _ (left : List (List ℕ)) (line : List ℕ) (lines : List (List ℕ)) (cut : left ≡ line ∷ lines) where
    reading_from-first : reading_from rules from (significant_from number left) count ≡ go_on number (state_after rules from (words_of line)) (onward lines)
    reading_from-first = grind (arith, reading_from-cons line lines)

    -- a line that the format takes or skips
    pub reading_from-taken : (next : Option Body) → state_after rules from (words_of line) ≡ Ok next → reading_from rules from (significant_from number left) count ≡ reading_from rules next (significant_from (number + 1) lines) count
    reading_from-taken next takes = grind (arith, reading_from-first)

    -- a line that breaks the format
    pub reading_from-broken : (kind : Kind) → state_after rules from (words_of line) ≡ Err kind → reading_from rules from (significant_from number left) count ≡ Err (number, kind)
    reading_from-broken kind breaks = grind (arith, reading_from-first)

  module _ (left : List (List ℕ)) (none : left ≡ []) where
    reading_from-none : reading_from rules from (significant_from number left) count ≡ go_on (count + 1) (finish rules from) (λ value. Ok value)
    unfolding significant_from
    reading_from-none = ap (λ (ls : List (List ℕ)). reading_from rules from (significant_from number ls) count) none

    -- the end of a text that stands for a value
    pub reading_from-value : (value : Value) → finish rules from ≡ Ok value → reading_from rules from (significant_from number left) count ≡ Ok value
    reading_from-value value ends = grind (arith, reading_from-none)

    -- the end of a text that ends too early
    pub reading_from-ended : (kind : Kind) → finish rules from ≡ Err kind → reading_from rules from (significant_from number left) count ≡ Err (count + 1, kind)
    reading_from-ended kind ends = grind (arith, reading_from-none)
