-- A table of tests that gives a value: none of its tests applies, and the value is that of the
-- table.
use Rattle.std.proofs.Common.{◌≡◌, List, [], ◌∷◌, Bool, true, false, Result, Ok, Err, refl, ap, arith}
use Rattle.std.specs.List.{AllByRecursion}
use Rattle.std.proofs.lemmas.Bool.{both_ways}
use Rattle.line_text.specs.Common.{checked}

-- the value of a table none of whose tests applies
abbrev pub value_or : {A Kind : Type 0} → A → Result A Kind → A
value_or d (Ok value) = value
value_or d (Err kind) = d

abbrev is_ok : {A Kind : Type 0} → Result A Kind → Bool
is_ok (Ok value) = true
is_ok (Err kind) = false

pub no_value : {A Kind : Type 0} (kind : Kind) (value : A) → Err kind ≡ Ok value → ⊥
no_value kind value same = both_ways false refl (ap is_ok same)

pub all_passed : {A Kind : Type 0} (tests : List (Bool × Kind)) (a b : A) → checked tests a ≡ Ok b → AllByRecursion (λ test. test.0 ≡ false) tests × (a ≡ b)
all_passed [] a b same = (tt, ap (value_or a) same)
all_passed (test ∷ tests) a b same = go test.0 refl (all_passed tests a b)
  where
    go : (applies : Bool) → test.0 ≡ applies → (checked tests a ≡ Ok b → AllByRecursion (λ t. t.0 ≡ false) tests × (a ≡ b)) → AllByRecursion (λ t. t.0 ≡ false) (test ∷ tests) × (a ≡ b)
    go applies is further = grind arith
