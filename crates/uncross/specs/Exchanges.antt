-- What a Switch does to the leaves of a tree, as plain data.
-- Stated by: uncross.
use Rattle.std.specs.Prelude.{ℕ, ◌+◌, List, [], ◌∷◌, if◌then◌else◌, nat_lt}
use Rattle.tree_core.specs.Common.{Shape, cut, leaf, leaf_count}
use Rattle.tree_core.specs.declared.path.Side.{Side}
use Rattle.tree_core.specs.declared.path.Side.TheVariants.{Kept, Merged}
use Rattle.uncross.specs.MapView.{kept_images, merged_images}
use Rattle.uncross.specs.declared.block_images.Images.{Images}
use Rattle.uncross.specs.declared.block_images.Images.TheVariants.{Own}
use Rattle.uncross.specs.declared.exchanges.Exchange.{Exchange}

-- the images of the blocks of leaf i, counted from 1
abbrev pub images_at : Exchange → ℕ → Images
images_at e i = if nat_lt e.last i then Own else (if nat_lt e.middle i then e.merged else (if nat_lt e.before i then e.kept else Own))

-- the leaves below the node of a Switch of u and v at the end of the path, and the images of their
-- blocks, if k leaves come before the tree
abbrev pub exchange_at : ℕ → List Side → (u v : List ℕ) → ℕ → Shape → Exchange
exchange_at n path u v k leaf = record { before = k; middle = k; last = k; kept = Own; merged = Own }
exchange_at n [] u v k (cut x a b) =
    record { before = k; middle = k + leaf_count a; last = k + leaf_count a + leaf_count b; kept = kept_images n x u v; merged = merged_images n x u v }
exchange_at n (Kept ∷ path) u v k (cut x a b) = exchange_at n path u v k a
exchange_at n (Merged ∷ path) u v k (cut x a b) = exchange_at n path u v (k + leaf_count a) b
