use Rattle.std.proofs.Common.{rules, map, refl, sym, subst, ap, false, ◌≡◌, ◌∙◌, ◌<◌, [], ◌∷◌, ◌++◌, length, OnOk, string_bytes, bytes_eq}
use Rattle.graph_text.specs.Common.{is_among}
use Rattle.graph_text.proofs.NameLists.{AreNames-inserted, keys-inserted}
use Rattle.graph_text.proofs.names.Names.push.Goals as goal
use Rattle.graph_text.proofs.names.Names.push.Goals.{in-Ok, in-Err}

pub invariant_of-self : goal.invariant_of-self
invariant_of-self c =
    AreNames-inserted (λ a b. bytes_eq (string_bytes a) (string_bytes b)) (λ a b. refl) c.insert.result c.self.inside.names.keys c.insert.new.self.keys c.in_ok-text.text c.args.name.now c.insert.ensures.keys c.insert.ensures.err c.in_ok-text.ensures.ok c.requires.is (subst (λ names. is_among names c.args.name.now ≡ false) (sym c.self.view_is) c.requires.new) (subst (λ names. length names < 128) (sym c.self.view_is) c.requires.few) c.self.invariant

pub returns-clause-ok : goal.returns-clause-ok
returns-clause-ok c = elim c.match-insert.branch [
  | in-Ok w ↦
      let new = keys-inserted (λ a b. bytes_eq (string_bytes a) (string_bytes b)) (λ a b. refl) c.self.inside.names.keys c.in_ok-text.text c.args.name.now c.in_ok-text.ensures.ok (subst (λ names. is_among names c.args.name.now ≡ false) (sym c.self.view_is) c.requires.new) in
      subst (λ r. OnOk r (map string_bytes c.insert.new.self.keys ≡ c.args.self.now ++ c.args.name.now ∷ [])) (sym w.result-is) (ap (map string_bytes) w.in-Ok.ensures.keys ∙ new ∙ ap (λ names. names ++ c.args.name.now ∷ []) c.self.view_is)
  | in-Err w ↦ search rules
]
