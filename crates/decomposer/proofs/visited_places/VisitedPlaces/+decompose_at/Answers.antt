use Rattle.graph_core.proofs.from_counting.Common.{◌≡◌, ◌∙◌, ap, length, arith, rules, get_or_from_slice_get}
use Rattle.tree_core.proofs.Common.{PlaceValue, cut_count, kept_at, merged_at, place_of, shape_of}
use Rattle.decomposer.proofs.KindsFound.{blocks-beside, cut-finds_kinds, leaf-finds}
use Rattle.decomposer.proofs.visited_places.VisitedPlaces.+decompose_at.Goals as goal

pub merged-requires : goal.merged-requires
merged-requires g t c =
    let is = c.listed_shore.ensures in
    let cuts = is.cut c.in-Some.shore c.in-Some.is in
    grind arith

pub decompose_at-requires : goal.decompose_at-requires
decompose_at-requires g t c κs within =
    let is = c.listed_shore.ensures in
    let here : c.visited.inside.place ≡ c.args.place = c.visited.view_is ∙ c.index-visited.ensures ∙ get_or_from_slice_get c.visit.new.visited.items c.in_ok-number.number c.args.place c.index-visited.result.now c.in_ok-number.ensures.number in
    let one : c.place.result.now ≡ c.visited.inside.place = grind arith in
    let two : c.place-in-Some.result.now ≡ c.visited.inside.place = grind arith in
    let room = blocks-beside c.visited.inside.place c.place.result.now c.place-in-Some.result.now c.in-Some.shore _ _ one two (is.cut c.in-Some.shore c.in-Some.is) c.in_ok-inside-in-Some.ensures.length c.in_ok-outside-in-Some.ensures.length in
    let size = ap (λ (p : PlaceValue). length p.blocks) here in
    let sum = room.2 in
    let other = room.1 in
    let falls = c.decreases in
    let bound = c.requires.room in
    (first_of (omega arith, search rules), (within, (grind arith, (grind arith, omega arith))))

pub decompose_at-requires-in-Some : goal.decompose_at-requires-in-Some
decompose_at-requires-in-Some g t c κs within =
    let is = c.listed_shore.ensures in
    let here : c.visited.inside.place ≡ c.args.place = c.visited.view_is ∙ c.index-visited.ensures ∙ get_or_from_slice_get c.visit.new.visited.items c.in_ok-number.number c.args.place c.index-visited.result.now c.in_ok-number.ensures.number in
    let one : c.place.result.now ≡ c.visited.inside.place = grind arith in
    let two : c.place-in-Some.result.now ≡ c.visited.inside.place = grind arith in
    let room = blocks-beside c.visited.inside.place c.place.result.now c.place-in-Some.result.now c.in-Some.shore _ _ one two (is.cut c.in-Some.shore c.in-Some.is) c.in_ok-inside-in-Some.ensures.length c.in_ok-outside-in-Some.ensures.length in
    let size = ap (λ (p : PlaceValue). length p.blocks) here in
    let sum = room.2 in
    let some = room.0 in
    let few = c.in_ok-kept-in-Some.ensures.few room.0 in
    let after = c.in_ok-kept-in-Some.ensures.made.cuts in
    let falls = c.decreases in
    let bound = c.requires.room in
    (first_of (omega arith, search rules), (within, (grind arith, (grind arith, omega arith))))

pub returns-in_ok-push-in-None-clause-made : goal.returns-in_ok-push-in-None-clause-made
returns-in_ok-push-in-None-clause-made g t c =
    let is = c.listed_shore.ensures in
    let here : c.visited.inside.place ≡ c.args.place = c.visited.view_is ∙ c.index-visited.ensures ∙ get_or_from_slice_get c.visit.new.visited.items c.in_ok-number.number c.args.place c.index-visited.result.now c.in_ok-number.ensures.number in
    let none = is.none c.in-None.is in
    let leaf = is.leaf c.in-None.is in
    grind (arith, leaf-finds (g.O.Order.picks c.args.order.now) c.args.place c.args.before)

pub returns-in_ok-tree-in-Some-clause-made : goal.returns-in_ok-tree-in-Some-clause-made
returns-in_ok-tree-in-Some-clause-made g t c =
    let is = c.listed_shore.ensures in
    let here : c.visited.inside.place ≡ c.args.place = c.visited.view_is ∙ c.index-visited.ensures ∙ get_or_from_slice_get c.visit.new.visited.items c.in_ok-number.number c.args.place c.index-visited.result.now c.in_ok-number.ensures.number in
    let one : c.place.result.now ≡ c.args.place = grind arith in
    let two : c.place-in-Some.result.now ≡ c.args.place = grind arith in
    let cuts = is.cut c.in-Some.shore c.in-Some.is in
    let picked = is.picked c.in-Some.shore c.in-Some.is in
    let inside : c.in_ok-inside-in-Some.inside ≡ place_of c.args.place.graph (kept_at c.args.place.graph.order c.args.place.blocks c.in-Some.shore) = grind arith in
    let outside : c.in_ok-outside-in-Some.outside ≡ place_of c.args.place.graph (merged_at c.args.place.graph.order c.args.place.blocks c.in-Some.shore) = grind arith in
    cut-finds_kinds (g.O.Order.picks c.args.order.now) c.args.place c.in_ok-inside-in-Some.inside c.in_ok-outside-in-Some.outside c.in-Some.shore c.args.before c.in_ok-kept-in-Some.between c.in_ok-merged-in-Some.after
    (shape_of c.in_ok-tree-in-Some.tree) (shape_of c.in_ok-kept-in-Some.kept) (shape_of c.in_ok-merged-in-Some.merged)
    c.args.kinds.now.items c.decompose_at.new.kinds.items c.decompose_at-in-Some.new.kinds.items
    inside outside c.in_ok-tree-in-Some.ensures (grind arith) (grind arith) c.in_ok-kept-in-Some.ensures.made c.in_ok-merged-in-Some.ensures.made

pub returns-in_ok-tree-in-Some-clause-few : goal.returns-in_ok-tree-in-Some-clause-few
returns-in_ok-tree-in-Some-clause-few g t c =
    let is = c.listed_shore.ensures in
    let here : c.visited.inside.place ≡ c.args.place = c.visited.view_is ∙ c.index-visited.ensures ∙ get_or_from_slice_get c.visit.new.visited.items c.in_ok-number.number c.args.place c.index-visited.result.now c.in_ok-number.ensures.number in
    let one : c.place.result.now ≡ c.visited.inside.place = grind arith in
    let two : c.place-in-Some.result.now ≡ c.visited.inside.place = grind arith in
    let room = blocks-beside c.visited.inside.place c.place.result.now c.place-in-Some.result.now c.in-Some.shore _ _ one two (is.cut c.in-Some.shore c.in-Some.is) c.in_ok-inside-in-Some.ensures.length c.in_ok-outside-in-Some.ensures.length in
    let size = ap (λ (p : PlaceValue). length p.blocks) here in
    let sum = room.2 in
    let kept = c.in_ok-kept-in-Some.ensures.few room.0 in
    let merged = c.in_ok-merged-in-Some.ensures.few room.1 in
    let tree = ap cut_count c.in_ok-tree-in-Some.ensures in
    λ four. omega arith
