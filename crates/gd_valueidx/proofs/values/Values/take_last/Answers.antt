use Rattle.std.proofs.Common.{◌≡◌, ◌<◌, ap, sym, ◌∙◌, subst, refl, rules, List, true, Some, length}
use Rattle.std.specs.Option.{IsSome}
use Rattle.gd_base.specs.declared.datum.Datum.{Datum}
use Rattle.gd_base.specs.Order.{datum_eq}
use Rattle.gd_postings.specs.Postings.{Places}
use Rattle.gd_lists.specs.Entries.{without_entry}
use Rattle.gd_lists.proofs.Entries.{popped}
use Rattle.gd_valueidx.specs.Values.{value_list}
use Rattle.gd_valueidx.proofs.Each.{each_value, own_list, as_sets, found_list, not_empty}
use Rattle.gd_valueidx.proofs.values.Values.take_last.Goals as goal

pub unreachable-requires : goal.unreachable-requires
unreachable-requires c = not_empty c.self.inside.lists.entries c.args.value.now c.in-None.ensures.value (subst (λ (es : List (Datum × Places)). 0 < length (value_list c.args.value.now es).ids) (sym c.self.view_is) c.requires)

pub returns-clause-lists : goal.returns-clause-lists
returns-clause-lists c =
    let w = c.pop_last-last.new.self in
    let found : c.in-Some.list.now ≡ value_list c.args.value.now c.self.inside.lists.entries = found_list c.self.inside.lists.entries c.args.value.now (Some c.in-Some.list.now) c.in-Some.ensures.value in
    let sets = as_sets c.self.inside.lists.entries (c.get_mut.follows.lender w).entries c.args.value.now (Some w) ((c.get_mut.follows.holds w).3 (subst IsSome c.in-Some.ensures.value (search rules))).0 in
    subst (λ (es : List (Datum × Places)). (v : Datum) → (value_list v (c.get_mut.follows.lender w).entries).ids ≡ without_entry (datum_eq c.args.value.now v) (value_list v es).ids) c.self.view_is
    (each_value (λ b p q. q.ids ≡ without_entry b p.ids) (λ _. refl) c.self.inside.lists.entries _ c.args.value.now (Some w) sets
    (popped c.in-Some.list.now w c.pop_last-last.result c.pop_last-last.ensures.some c.pop_last-last.ensures.none ∙ ap (λ (p : Places). without_entry true p.ids) found))

pub returns-clause-left : goal.returns-clause-left
returns-clause-left c =
    let w = c.pop_last-last.new.self in
    let found : c.in-Some.list.now ≡ value_list c.args.value.now c.self.inside.lists.entries = found_list c.self.inside.lists.entries c.args.value.now (Some c.in-Some.list.now) c.in-Some.ensures.value in
    let sets = as_sets c.self.inside.lists.entries (c.get_mut.follows.lender w).entries c.args.value.now (Some w) ((c.get_mut.follows.holds w).3 (subst IsSome c.in-Some.ensures.value (search rules))).0 in
    c.len.ensures.len ∙ ap (λ (p : Places). length p.ids) (sym (own_list c.self.inside.lists.entries (c.get_mut.follows.lender w).entries c.args.value.now (Some w) sets))
