-- The edges of the ears of a step, asked one by one: what is known after each.
-- Idea: the new edge is allowed, or not below the known one, so what is known stays true.
use Rattle.graph_core.proofs.from_counting.Common.{◌≡◌, ℕ, arith, sym, None, Option, Result, IfOk, ◌∷◌, List, true≢false, Set, none}
use Rattle.graph_core.proofs.Common.{Graph}
use Rattle.ear_core.specs.Common.{AllowedBy, with_edges, IsUpTo, Settled, asked_too}

-- an edge up to e is known
pub settled-known : (g : Graph) (f asked : Set) (known : Option ℕ) (e : ℕ) → IsUpTo e known → Settled g f asked known → Settled g f (asked_too asked e) known
settled-known g f asked known e up is = grind arith

-- e is allowed
pub settled-allowed : (g : Graph) (f asked : Set) (known : Option ℕ) (e : ℕ) → AllowedBy g f e → Settled g f asked known → Settled g f (asked_too asked e) known
settled-allowed g f asked known e allowed is = grind arith

-- the same edges asked
pub settled-same : (g : Graph) (f asked others : Set) (known : Option ℕ) → ((e : ℕ) → others e ≡ asked e) → Settled g f asked known → Settled g f others known
settled-same g f asked others h same known = grind arith

pub asked-edges : (asked : Set) (e : ℕ) (rest others : List ℕ) → rest ≡ e ∷ others → (w : ℕ) → with_edges asked rest w ≡ with_edges (asked_too asked e) others w
asked-edges asked e rest others begins w = grind arith

pub settled-result : {Fault : Type 0} (g : Graph) (f asked others : Set) (result : Result (Option ℕ) Fault) → ((e : ℕ) → others e ≡ asked e) → IfOk result (Settled g f asked) → IfOk result (Settled g f others)
settled-result g f asked others result same is = grind arith

-- nothing is asked yet
pub settled-none : (g : Graph) (f : Set) → Settled g f none None
settled-none g f = λ e w t. absurd (true≢false (sym t))
