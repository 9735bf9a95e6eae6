-- What is written piece by piece is written as one: a piece after a piece is the two joined. If the
-- bytes are known, this is the associativity of lists, otherwise it computes.
use Rattle.std.proofs.Common.{◌≡◌, ℕ, ◌+◌, ◌-◌, List, [], ◌++◌, length, take, drop, refl, ap, sym, subst, ◌∙◌, arith, append_assoc, length-drop, append-nil, take_all, take-add, Option, Some, None}
use Rattle.outside.specs.Common.{appended}

pub appended-nil : (told : Option (List ℕ)) → appended told [] ≡ told
appended-nil None = refl
appended-nil (Some bytes) = ap Some (append-nil bytes)

pub appended-appended :
    (told : Option (List ℕ)) (first second : List ℕ) → appended (appended told first) second ≡ appended told (first ++ second)
appended-appended None first second = refl
appended-appended (Some bytes) first second = ap Some (append_assoc bytes first second)

-- the next bytes of an output after its first ones are more of its first ones
pub appended-take :
    (told : Option (List ℕ)) (output : List ℕ) (done count : ℕ) →
    appended (appended told (take done output)) (take count (drop done output)) ≡ appended told (take (done + count) output)
appended-take told output done count =
    appended-appended told (take done output) (take count (drop done output))
    ∙ ap (appended told) (sym (take-add done count output))

-- the first n bytes, and then the first m of the rest, are the first n + m
pub appended_more :
    (told mid now : Option (List ℕ)) (bytes : List ℕ) (n m : ℕ) →
    mid ≡ appended told (take n bytes) →
    now ≡ appended mid (take m (take (length bytes - n) (drop n bytes))) →
    now ≡ appended told (take (n + m) bytes)
appended_more told mid now bytes n m first second =
    let rest : take (length bytes - n) (drop n bytes) ≡ drop n bytes =
    take_all (length bytes - n) (drop n bytes) (omega (arith, length-drop n bytes)) in
    let then : now ≡ appended mid (take m (drop n bytes)) = subst (λ (l : List ℕ). now ≡ appended mid (take m l)) rest second in
    then
    ∙ ap (λ (o : Option (List ℕ)). appended o (take m (drop n bytes))) first
    ∙ appended-take told bytes n m

-- the same of lists
pub joined_more : (old bytes : List ℕ) (n m : ℕ) → (old ++ take n bytes) ++ take m (take (length bytes - n) (drop n bytes)) ≡ old ++ take (n + m) bytes
joined_more old bytes n m = let same = appended_more (Some old) (Some (old ++ take n bytes)) (Some ((old ++ take n bytes) ++ take m (take (length bytes - n) (drop n bytes)))) bytes n m refl refl in cc same
