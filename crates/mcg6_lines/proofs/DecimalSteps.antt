-- A number in decimal is its tenth and then its last digit.
-- Idea: the same holds of its digits in base 10, of which the decimal text is the image.
use Rattle.allowed_edges.proofs.from_counting.Common.{◌≡◌, ℕ, ◌+◌, ◌/◌, ◌%◌, ◌^◌, ◌≤◌, ◌<◌, List, [], ◌∷◌, ◌++◌, map, sym, ap, ◌∙◌, arith, decimal, digits_of, decimal-digits_of, digits_of_step, map-append}

pub decimal-step : (n : ℕ) → 10 ≤ n → n < 2 ^ 64 → decimal n ≡ decimal (n / 10) ++ (48 + n % 10) ∷ []
decimal-step n h fits =
    decimal-digits_of n (omega arith) fits
    ∙ ap (map (λ d. 48 + d)) (digits_of_step 10 n (omega arith) (omega arith))
    ∙ map-append (λ d. 48 + d) (digits_of 10 (n / 10)) (n % 10 ∷ [])
    ∙ ap (λ (ds : List ℕ). ds ++ (48 + n % 10) ∷ []) (sym (decimal-digits_of (n / 10) (omega arith) (omega arith)))
