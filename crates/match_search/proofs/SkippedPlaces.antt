-- A path that leaves out some of its places: up to place b the places are the old ones, and beyond
-- it the old ones s later. The edge after place b is the one that led on from place b + s.
use Rattle.graph_core.proofs.from_counting.Common.{◌≡◌, ◌≢◌, ℕ, suc, ◌+◌, ◌≤◌, ◌<◌, cond, ap, ◌∙◌, arith, not, nat_le, nat_lt, lt-ltb, le-ltb, cases_lt, le-leb, lt-leb, odd-double, odd-add, is_odd}

abbrev pub place : ℕ → ℕ → ℕ → ℕ
place b s j = cond (nat_le j b) j (j + s)

abbrev pub edge_place : ℕ → ℕ → ℕ → ℕ
edge_place b s j = cond (nat_lt j b) j (j + s)

pub place_low : (b s j : ℕ) → j ≤ b → place b s j ≡ j
place_low b s j l = ap (λ t. cond t j (j + s)) (le-leb j b l)

pub place_high : (b s j : ℕ) → b < j → place b s j ≡ j + s
place_high b s j l = ap (λ t. cond t j (j + s)) (lt-leb j b l)

pub edge_low : (b s j : ℕ) → j < b → edge_place b s j ≡ j
edge_low b s j l = ap (λ t. cond t j (j + s)) (lt-ltb j b l)

pub edge_high : (b s j : ℕ) → b ≤ j → edge_place b s j ≡ j + s
edge_high b s j l = ap (λ t. cond t j (j + s)) (le-ltb j b l)

pub place_none : (b s j : ℕ) → s ≡ 0 → place b s j ≡ j
place_none b s j q = grind (arith, cases_lt, place_high, place_low)

-- where nothing is left out, and off place b, the edge leads on from its place
pub edge_none : (b s j : ℕ) → s ≡ 0 → edge_place b s j ≡ j
edge_none b s j q = grind (arith, cases_lt, edge_low, edge_high)

pub edge_off : (b s j : ℕ) → j ≢ b → edge_place b s j ≡ place b s j
edge_off b s j n = grind (arith, cases_lt, edge_high, place_high, edge_low, place_low)

-- it leads to the next place
pub edge_next : (b s j : ℕ) → place b s (suc j) ≡ suc (edge_place b s j)
edge_next b s j = grind (arith, cases_lt, place_low, edge_low, place_high, edge_high)

pub place_apart : (b s i j : ℕ) → place b s i ≡ place b s j → i ≡ j
place_apart b s i j q = grind (arith, cases_lt, place_high, place_low)

odd_later : (t j : ℕ) → is_odd (j + (t + t)) ≡ is_odd j
odd_later t j = let q : j + (t + t) ≡ t + t + j = omega arith in ap is_odd q ∙ odd-add (t + t) j ∙ ap (λ x. cond x (not (is_odd j)) (is_odd j)) (odd-double t)

pub place_odd : (b t j : ℕ) → is_odd (place b (t + t) j) ≡ is_odd j
place_odd b t j = grind (arith, cases_lt, is_odd, place_high, odd_later, place_low)

pub edge_odd : (b t j : ℕ) → is_odd (edge_place b (t + t) j) ≡ is_odd j
edge_odd b t j = grind (arith, cases_lt, is_odd, edge_low, edge_high, odd_later)
