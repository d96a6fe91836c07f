use Rattle.std.proofs.Common.{◌≡◌, ◌∙◌, ◌-◌, ap, sym, refl, subst, List, [], None, true, length, take}
use Rattle.std.specs.Map.{keys_of}
use Rattle.gd_base.specs.declared.datum.Datum.{Datum}
use Rattle.gd_postings.specs.Postings.{Places}
use Rattle.gd_valueidx.specs.Values.{value_list, without_value}
use Rattle.gd_valueidx.proofs.Each.{each_value, all_but_last}
use Rattle.gd_valueidx.proofs.values.Values.drop_last.Goals as goal

pub returns-clause-lists : goal.returns-clause-lists
returns-clause-lists c =
    let new : List (Datum × Places) = c.take_number.new.lists.entries in
    subst (λ (es : List (Datum × Places)). (value_list c.args.value.now es).ids ≡ [] → (v : Datum) → (value_list v new).ids ≡ (value_list v es).ids) c.self.view_is
    (λ empty. each_value (λ b p q. q.ids ≡ p.ids) (λ p. refl) c.self.inside.lists.entries new c.args.value.now None c.take_number.ensures.sets (sym empty)) c.requires.empty

pub returns-clause-values : goal.returns-clause-values
returns-clause-values c =
    let new : List (Datum × Places) = c.take_number.new.lists.entries in
    all_but_last (keys_of new) c.args.value.now
    ∙ ap (λ (ks : List Datum). take (length ks - 1) ks) (sym c.take_number.ensures.keys)
    ∙ ap (λ (es : List (Datum × Places)). without_value true (keys_of es)) c.self.view_is
