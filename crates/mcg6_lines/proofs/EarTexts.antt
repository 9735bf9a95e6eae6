-- The text of an ear is its first vertex, and then each other one after a hyphen. What is written of
-- it, and the vertices along the edges left, make the whole text.
use Rattle.std.proofs.Common.{◌≡◌, ◌∙◌, ◌++◌, ℕ, suc, List, [], ◌∷◌, All, append-nil, append_assoc, ap, ap₂, arith, subst, sym, codes, decimal}
use Rattle.allowed_edges.proofs.from_counting.Common.{Within}
use Rattle.ear_core.specs.Common.{other_end, trail}
use Rattle.graph_core.proofs.Common.{Graph}
use Rattle.mcg6_lines.specs.EarLines.{hyphened}

-- the vertices along the edges from v on, each after a hyphen, but v
abbrev pub along : Graph → ℕ → List ℕ → List ℕ
along g v [] = []
along g v (e ∷ es) = codes "-" ++ decimal (other_end g e v) ++ along g (other_end g e v) es

-- a vertex, a hyphen and the text of what follows it
after : (v w : ℕ) (text rest : List ℕ) → text ≡ decimal w ++ rest → decimal v ++ codes "-" ++ text ≡ decimal v ++ (codes "-" ++ decimal w ++ rest)
after v w text rest is =
    ap (λ (t : List ℕ). decimal v ++ codes "-" ++ t) is ∙ append_assoc (decimal v) (codes "-") (decimal w ++ rest)
    ∙ ap (λ (t : List ℕ). decimal v ++ t) (sym (append_assoc (codes "-") (decimal w) rest))

pub hyphened-trail : (g : Graph) (v : ℕ) (es : List ℕ) → hyphened (trail g v es) ≡ decimal v ++ along g v es
hyphened-trail g v [] = sym (append-nil (decimal v))
hyphened-trail g v (e ∷ []) = after v (other_end g e v) _ (along g (other_end g e v) []) (hyphened-trail g (other_end g e v) [])
hyphened-trail g v (e ∷ d ∷ ds) = after v (other_end g e v) _ (along g (other_end g e v) (d ∷ ds)) (hyphened-trail g (other_end g e v) (d ∷ ds))

-- the text of an ear from its first vertex on
pub begun : (g : Graph) (v : ℕ) (es rest old new : List ℕ) → rest ≡ es → new ≡ old ++ decimal v → old ++ hyphened (trail g v es) ≡ new ++ along g v rest
begun g v es rest old new same is =
    ap (λ (t : List ℕ). old ++ t) (hyphened-trail g v es) ∙ sym (append_assoc old (decimal v) (along g v es)) ∙ ap₂ (λ (t ds : List ℕ). t ++ along g v ds) (sym is) (sym same)

-- one more vertex
pub gone_on : (g : Graph) (v w e : ℕ) (es rest whole old dashed new : List ℕ) → rest ≡ e ∷ es → w ≡ other_end g e v → dashed ≡ old ++ codes "-" → new ≡ dashed ++ decimal w →
    whole ≡ old ++ along g v rest → whole ≡ new ++ along g w es
gone_on g v w e es rest whole old dashed new same end hyphen is before =
    before ∙ ap (λ (ds : List ℕ). old ++ along g v ds) same
    ∙ ap (λ (x : ℕ). old ++ (codes "-" ++ decimal x ++ along g x es)) (sym end)
    ∙ ap (λ (t : List ℕ). old ++ t) (append_assoc (codes "-") (decimal w) (along g w es))
    ∙ sym (append_assoc old (codes "-") (decimal w ++ along g w es))
    ∙ sym (append_assoc (old ++ codes "-") (decimal w) (along g w es))
    ∙ ap (λ (t : List ℕ). t ++ along g w es) (sym (is ∙ ap (λ (t : List ℕ). t ++ decimal w) hyphen))

-- what holds of each edge holds of those after the first
pub all_after : (m e : ℕ) (es rest : List ℕ) → rest ≡ e ∷ es → All (Within m) rest → All (Within m) es
all_after m e es rest same all k d less = subst (λ (ds : List ℕ). All (Within m) ds) same all (suc k) d (omega (arith, less))
