use Rattle.graph_core.proofs.from_counting.Common.{◌≡◌, ap, ◌∙◌, insert, nat_lt, ℕ, List, length, arith, position_or_len, last_of}
use Rattle.graph_core.proofs.Common.{insert_block}
use Rattle.contraction.proofs.BlockLists.{insert-position, position_or_len-le}
use Rattle.contraction.proofs.partition.insert_by_name.Goals as goal

put : (p q : List (List ℕ)) (b : List ℕ) (n i : ℕ) → n ≡ last_of b → q ≡ p → i ≡ position_or_len (λ c. nat_lt n (last_of c)) q → insert p i b ≡ insert_block b p
put p q b n i e s f = ap (λ k. insert p k b) (f ∙ ap (position_or_len (λ c. nat_lt n (last_of c))) s ∙ ap (λ m. position_or_len (λ c. nat_lt m (last_of c)) p) e) ∙ insert-position b p

pub insert-requires : goal.insert-requires
insert-requires c = let l = position_or_len-le (λ b. nat_lt c.name_of.result (last_of b)) c.deref.result.now in let e = c.place_by_name-place.ensures in let f = ap length c.deref.ensures.value in omega arith

pub returns : goal.returns
returns c = c.in_ok-insert.ensures.items ∙ put c.args.blocks.now.items c.deref.result.now c.args.block c.name_of.result c.place_by_name-place.result c.name_of.ensures c.deref.ensures.value c.place_by_name-place.ensures
