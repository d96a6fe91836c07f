use Rattle.std.proofs.Common.{◌≡◌, ℕ, ap, sym, ◌∙◌, subst, refl, rules, List, [], ◌∷◌, ◌++◌, Some, None}
use Rattle.std.specs.Option.{IsSome}
use Rattle.std.specs.List.{list_any}
use Rattle.std.specs.Map.{keys_of}
use Rattle.std.proofs.lemmas.Result.{on_ok_weaker}
use Rattle.std.specs.HashMap.{HashMap}
use Rattle.gd_base.specs.declared.datum.Datum.{Datum}
use Rattle.gd_base.specs.Order.{datum_eq}
use Rattle.gd_postings.specs.Postings.{Places, IsAbove}
use Rattle.gd_lists.specs.Lists.{nothing}
use Rattle.gd_lists.specs.Entries.{with_entry}
use Rattle.gd_valueidx.specs.Values.{value_list, with_value}
use Rattle.gd_valueidx.proofs.Each.{Sets, each_value, as_sets, found_list, old_value, as_new, no_number, always}
use Rattle.gd_valueidx.proofs.values.Values.add.Goals as goal

pub returns-in_err-make_room-in-Some-clause-err_lists : goal.returns-in_err-make_room-in-Some-clause-err_lists
returns-in_err-make_room-in-Some-clause-err_lists c =
    let w = c.make_room.new.self in
    let found : c.in-Some.list.now ≡ value_list c.args.value.now c.self.inside.lists.entries = found_list c.self.inside.lists.entries c.args.value.now (Some c.in-Some.list.now) c.in-Some.ensures.value in
    let sets = as_sets c.self.inside.lists.entries (c.get_mut.follows.lender w).entries c.args.value.now (Some w) ((c.get_mut.follows.holds w).3 (subst IsSome c.in-Some.ensures.value (search rules))).0 in
    always c.from_residual.result _
    (subst (λ (es : List (Datum × Places)). (v : Datum) → (value_list v (c.get_mut.follows.lender w).entries).ids ≡ (value_list v es).ids) c.self.view_is
    (each_value (λ b p q. q.ids ≡ p.ids) (λ _. refl) c.self.inside.lists.entries _ c.args.value.now (Some w) sets (c.make_room.ensures.ids ∙ ap (λ (p : Places). p.ids) found)))

pub push-requires-clause-above : goal.push-requires-clause-above
push-requires-clause-above c =
    let found : c.in-Some.list.now ≡ value_list c.args.value.now c.self.inside.lists.entries = found_list c.self.inside.lists.entries c.args.value.now (Some c.in-Some.list.now) c.in-Some.ensures.value in
    subst (λ (ids : List ℕ). IsAbove ids c.args.id) (ap (λ es. (value_list c.args.value.now es).ids) (sym c.self.view_is) ∙ ap (λ (p : Places). p.ids) (sym found) ∙ sym c.make_room.ensures.ids) c.requires.above

pub returns-in_ok-make_room-in-Some-clause-lists : goal.returns-in_ok-make_room-in-Some-clause-lists
returns-in_ok-make_room-in-Some-clause-lists c =
    let w = c.push.new.self in
    let found : c.in-Some.list.now ≡ value_list c.args.value.now c.self.inside.lists.entries = found_list c.self.inside.lists.entries c.args.value.now (Some c.in-Some.list.now) c.in-Some.ensures.value in
    let sets = as_sets c.self.inside.lists.entries (c.get_mut.follows.lender w).entries c.args.value.now (Some w) ((c.get_mut.follows.holds w).3 (subst IsSome c.in-Some.ensures.value (search rules))).0 in
    subst (λ (es : List (Datum × Places)). (v : Datum) → (value_list v (c.get_mut.follows.lender w).entries).ids ≡ with_entry (datum_eq c.args.value.now v) c.args.id (value_list v es).ids) c.self.view_is
    (each_value (λ b p q. q.ids ≡ with_entry b c.args.id p.ids) (λ _. refl) c.self.inside.lists.entries _ c.args.value.now (Some w) sets
    (c.push.ensures.ids ∙ ap (λ ids. ids ++ c.args.id ∷ []) (c.make_room.ensures.ids ∙ ap (λ (p : Places). p.ids) found)))

pub returns-in_ok-make_room-in-Some-clause-values : goal.returns-in_ok-make_room-in-Some-clause-values
returns-in_ok-make_room-in-Some-clause-values c =
    let w = c.push.new.self in
    old_value c.self.inside.lists.entries (c.get_mut.follows.lender w).entries c.args.value.now c.in-Some.list.now c.in-Some.ensures.value (c.get_mut.follows.holds w).1
    ∙ ap (λ es. with_value c.args.value.now (keys_of es)) c.self.view_is

pub give_number-requires-clause-none : goal.give_number-requires-clause-none
give_number-requires-clause-none c =
    ap (λ (m : HashMap Datum Places _). list_any (datum_eq c.args.value.now) (keys_of m.entries)) c.get_mut.follows.holds-at-none ∙ no_number c.self.inside.lists.entries c.args.value.now c.in-None.ensures.value

pub returns-in_ok-make_room-in-None-clause-lists : goal.returns-in_ok-make_room-in-None-clause-lists
returns-in_ok-make_room-in-None-clause-lists c =
    let w = c.push-in-None.new.self in
    let new : List (Datum × Places) = c.give_number.new.lists.entries in
    let found : nothing ≡ value_list c.args.value.now c.self.inside.lists.entries = found_list c.self.inside.lists.entries c.args.value.now None c.in-None.ensures.value in
    on_ok_weaker c.give_number.result (λ sets.
    subst (λ (es : List (Datum × Places)). (v : Datum) → (value_list v new).ids ≡ with_entry (datum_eq c.args.value.now v) c.args.id (value_list v es).ids) c.self.view_is
    (each_value (λ b p q. q.ids ≡ with_entry b c.args.id p.ids) (λ _. refl) c.self.inside.lists.entries new c.args.value.now (Some w)
    (subst (λ (m : HashMap Datum Places _). Sets datum_eq m.entries new c.args.value.now (Some w)) c.get_mut.follows.holds-at-none sets)
    (c.push-in-None.ensures.ids ∙ ap (λ ids. ids ++ c.args.id ∷ []) (c.make_room-in-None.ensures.ids ∙ c.new-list.ensures ∙ ap (λ (p : Places). p.ids) found)))) c.give_number.ensures.sets

pub returns-in_ok-make_room-in-None-clause-values : goal.returns-in_ok-make_room-in-None-clause-values
returns-in_ok-make_room-in-None-clause-values c =
    on_ok_weaker c.give_number.result (λ keys.
    keys
    ∙ ap (λ (m : HashMap Datum Places _). keys_of m.entries ++ c.args.value.now ∷ []) c.get_mut.follows.holds-at-none
    ∙ as_new c.self.inside.lists.entries c.args.value.now (no_number c.self.inside.lists.entries c.args.value.now c.in-None.ensures.value)
    ∙ ap (λ (es : List (Datum × Places)). with_value c.args.value.now (keys_of es)) c.self.view_is) c.give_number.ensures.keys
