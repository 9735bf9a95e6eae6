-- A test of texts is one of their bytes.
-- Idea: by induction on the texts, one item of the map at a time.
use Rattle.std.proofs.Common.{◌≡◌, ◌||◌, ℕ, List, [], ◌∷◌, Bool, refl, ap}
use Rattle.std.specs.Borrow.{Bor}
use Rattle.std.specs.List.{list_any}
use Rattle.command_table.specs.RowsSeen.{texts_seen}

pub any_seen : (test : List ℕ → Bool) (texts : List (Bor (List ℕ))) → list_any test (texts_seen texts) ≡ list_any (λ (text : Bor (List ℕ)). test text.now) texts
any_seen test [] = refl
any_seen test (text ∷ texts) = ap (λ (b : Bool). test text.now || b) (any_seen test texts)
