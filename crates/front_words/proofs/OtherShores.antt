-- The vertices of a line are gone through by a count: each definition by one step.
-- Idea: each definition is by recursion on the count, so it unfolds once at 0 and once at `suc`.
use Rattle.std.proofs.Common.{◌≡◌, ◌∙◌, ◌≤◌, ◌<◌, ℕ, ◌+◌, ◌-◌, zero, suc, List, [], ◌++◌, refl, sym, ap, arith, codes, Bool, true, false, cond, not, ◌||◌, SomeIff, append-nil, nat_lt, decimal, Option, None, Some}
use Rattle.std.proofs.lemmas.Bool.Decides.{nat_tests}
use Rattle.front_words.specs.declared.texts.TheConstants as texts
use Rattle.front_words.specs.Shores.{highest_named, is_cut, leaves_some, names, other_shore_note, others_text, width}

-- where no number is one less, the number is 0
pub none-zero : (o : Option ℕ) (n : ℕ) → SomeIff o (1 ≤ n) (n - 1) → o ≡ None → n ≡ 0
none-zero None zero unmet is = refl
none-zero None (suc n) unmet is = absurd (unmet (omega arith))
none-zero (Some x) n unmet is = let wrong : ⊥ = cc is in absurd wrong

-- a number is one more than the one that is one less
pub some-suc : (o : Option ℕ) (n fewer : ℕ) → SomeIff o (1 ≤ n) (n - 1) → o ≡ Some fewer → n ≡ suc fewer
some-suc None n fewer unmet is = let wrong : ⊥ = cc is in absurd wrong
some-suc (Some x) n fewer one is = let same : x ≡ fewer = cc is in omega (arith, one.0, one.1, same)

pub highest-none : (line : List ℕ) (n : ℕ) → n ≡ 0 → 0 ≡ highest_named line n
unfolding highest_named
highest-none line n is = rw is refl

highest-suc : (line : List ℕ) (n fewer : ℕ) → n ≡ suc fewer → highest_named line n ≡ cond (names line n) n (highest_named line fewer)
unfolding highest_named
highest-suc line n fewer is = rw is refl

pub highest-yes : (line : List ℕ) (n fewer : ℕ) → n ≡ suc fewer → names line n ≡ true → n ≡ highest_named line n
highest-yes line n fewer is met = sym (highest-suc line n fewer is ∙ ap (λ (b : Bool). cond b n (highest_named line fewer)) met)

pub highest-no : (line : List ℕ) (n fewer : ℕ) → n ≡ suc fewer → names line n ≡ false → highest_named line fewer ≡ highest_named line n
highest-no line n fewer is unmet = sym (highest-suc line n fewer is ∙ ap (λ (b : Bool). cond b n (highest_named line fewer)) unmet)

pub leaves-none : (line : List ℕ) (n : ℕ) → n ≡ 0 → false ≡ leaves_some line n
unfolding leaves_some
leaves-none line n is = rw is refl

leaves-suc : (line : List ℕ) (n fewer : ℕ) → n ≡ suc fewer → leaves_some line n ≡ (not (names line n) || leaves_some line fewer)
unfolding leaves_some
leaves-suc line n fewer is = rw is refl

pub leaves-yes : (line : List ℕ) (n fewer : ℕ) (named : Bool) → n ≡ suc fewer → named ≡ names line n → named ≡ false → not named ≡ leaves_some line n
leaves-yes line n fewer named is same unmet =
    ap not unmet ∙ sym (leaves-suc line n fewer is ∙ ap (λ (b : Bool). not b || leaves_some line fewer) (sym same ∙ unmet))

pub leaves-no : (line : List ℕ) (n fewer : ℕ) (named : Bool) → n ≡ suc fewer → named ≡ names line n → named ≡ true → leaves_some line fewer ≡ leaves_some line n
leaves-no line n fewer named is same met =
    sym (leaves-suc line n fewer is ∙ ap (λ (b : Bool). not b || leaves_some line fewer) (sym same ∙ met))

pub others-none : (line : List ℕ) (n next left : ℕ) → n ≡ 0 → others_text line n next left ≡ []
unfolding others_text
others-none line n next left is = rw is refl

-- the text where the next vertex is on the other shore
more-text : (line : List ℕ) (fewer next left : ℕ) → List ℕ
more-text line fewer next left =
    cond (nat_lt left (width next)) (codes " ...") ((codes " " ++ decimal next) ++ others_text line fewer (next + 1) (left - width next))

others-suc : (line : List ℕ) (n fewer next left : ℕ) → n ≡ suc fewer →
    others_text line n next left ≡ cond (names line next) (others_text line fewer (next + 1) left) (more-text line fewer next left)
unfolding others_text more-text
others-suc line n fewer next left is = rw is refl

pub others-named : (line : List ℕ) (n fewer next left : ℕ) → n ≡ suc fewer → names line next ≡ true → others_text line n next left ≡ others_text line fewer (next + 1) left
others-named line n fewer next left is met =
    others-suc line n fewer next left is ∙ ap (λ (b : Bool). cond b (others_text line fewer (next + 1) left) (more-text line fewer next left)) met

others-more : (line : List ℕ) (n fewer next left : ℕ) → n ≡ suc fewer → names line next ≡ false → others_text line n next left ≡ more-text line fewer next left
others-more line n fewer next left is unmet =
    others-suc line n fewer next left is ∙ ap (λ (b : Bool). cond b (others_text line fewer (next + 1) left) (more-text line fewer next left)) unmet

more-cut : (line : List ℕ) (fewer next left : ℕ) → nat_lt left (width next) ≡ true → more-text line fewer next left ≡ codes " ..."
unfolding more-text
more-cut line fewer next left met =
    ap (λ (t : Bool). cond t (codes " ...") ((codes " " ++ decimal next) ++ others_text line fewer (next + 1) (left - width next))) met

more-next : (line : List ℕ) (fewer next left : ℕ) → nat_lt left (width next) ≡ false →
    more-text line fewer next left ≡ (codes " " ++ decimal next) ++ others_text line fewer (next + 1) (left - width next)
unfolding more-text
more-next line fewer next left unmet =
    ap (λ (t : Bool). cond t (codes " ...") ((codes " " ++ decimal next) ++ others_text line fewer (next + 1) (left - width next))) unmet

pub others-cut : (line : List ℕ) (n fewer next left wide : ℕ) → n ≡ suc fewer → names line next ≡ false → wide ≡ width next → left < wide → others_text line n next left ≡ codes " ..."
others-cut line n fewer next left wide is unmet same less =
    let cut : nat_lt left wide ≡ true = grind (arith, nat_tests, less) in
    others-more line n fewer next left is unmet ∙ more-cut line fewer next left (ap (nat_lt left) (sym same) ∙ cut)

others-next : (line : List ℕ) (n fewer next left wide : ℕ) → n ≡ suc fewer → names line next ≡ false → wide ≡ width next → wide ≤ left →
    others_text line n next left ≡ (codes " " ++ decimal next) ++ others_text line fewer (next + 1) (left - wide)
others-next line n fewer next left wide is unmet same enough =
    let all : nat_lt left wide ≡ false = grind (arith, nat_tests, enough) in
    others-more line n fewer next left is unmet
    ∙ (more-next line fewer next left (ap (nat_lt left) (sym same) ∙ all)
    ∙ ap (λ (w : ℕ). (codes " " ++ decimal next) ++ others_text line fewer (next + 1) (left - w)) (sym same))

-- the same, as the pieces of a message have it
pub others-said : (line : List ℕ) (n fewer next left wide : ℕ) → n ≡ suc fewer → names line next ≡ false → wide ≡ width next → wide ≤ left →
    others_text line n next left ≡ (codes " " ++ (decimal next ++ [])) ++ others_text line fewer (next + 1) (left - wide)
others-said line n fewer next left wide is unmet same enough =
    others-next line n fewer next left wide is unmet same enough
    ∙ ap (λ (l : List ℕ). (codes " " ++ l) ++ others_text line fewer (next + 1) (left - wide)) (sym (append-nil (decimal next)))

-- the note where the line is that of a cut, and leaves some vertex to the other shore
pub known-shore : (line : List ℕ) (order : ℕ) (cut leaves : Bool) → cut ≡ is_cut line → leaves ≡ leaves_some line order → cut ≡ true → leaves ≡ true →
    other_shore_note line order ≡ texts.SHORE_OTHER.now ++ (others_text line order 1 57 ++ codes ")")
known-shore line order cut leaves is_it some met also = rw (← is_it, ← some, met, also) refl
