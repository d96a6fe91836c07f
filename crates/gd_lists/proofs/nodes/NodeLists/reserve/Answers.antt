use Rattle.std.proofs.Common.{◌≡◌, ◌∙◌, ◌+◌, ◌≤◌, ◌<◌, ap, sym, refl, subst, List, ℕ, arith}
use Rattle.std.proofs.lemmas.Result.{on_ok_weaker}
use Rattle.gd_postings.specs.Postings.{Places}
use Rattle.gd_lists.specs.Lists.{id_list}
use Rattle.gd_lists.specs.Table.{number_at}
use Rattle.gd_lists.proofs.Table.{each_changed, own_new, lists_longer}
use Rattle.gd_lists.proofs.nodes.NodeLists.reserve.Goals as goal

pub returns-in_err-lengthen-clause-same : goal.returns-in_err-lengthen-clause-same
returns-in_err-lengthen-clause-same c n =
    ap (λ (p : Places). p.ids) (lists_longer c.self.inside.lists.items c.self.inside.numbers.items c.lengthen.new.numbers.items c.lengthen.ensures.same n ∙ ap (λ (v : List Places). id_list v n) c.self.view_is)

pub returns-in_err-lengthen-clause-kept : goal.returns-in_err-lengthen-clause-kept
returns-in_err-lengthen-clause-kept c n =
    let base = ap (λ (p : Places). p.spare) (lists_longer c.self.inside.lists.items c.self.inside.numbers.items c.lengthen.new.numbers.items c.lengthen.ensures.same n ∙ ap (λ (v : List Places). id_list v n) c.self.view_is) in
    omega (arith, base)

pub returns-in_err-give_list-clause-same : goal.returns-in_err-give_list-clause-same
returns-in_err-give_list-clause-same c n =
    c.give_list.ensures.same n
    ∙ ap (λ (p : Places). p.ids) (lists_longer c.self.inside.lists.items c.self.inside.numbers.items c.lengthen.new.numbers.items c.lengthen.ensures.same n ∙ ap (λ (v : List Places). id_list v n) c.self.view_is)

pub returns-in_err-give_list-clause-kept : goal.returns-in_err-give_list-clause-kept
returns-in_err-give_list-clause-kept c n =
    let base = ap (λ (p : Places). p.spare) (lists_longer c.self.inside.lists.items c.self.inside.numbers.items c.lengthen.new.numbers.items c.lengthen.ensures.same n ∙ ap (λ (v : List Places). id_list v n) c.self.view_is) in
    let given = c.give_list.ensures.kept n in
    omega (arith, base, given)

pub returns-clause-room : goal.returns-clause-room
returns-clause-room c =
    let lists = c.give_list.new.lists.items in
    let numbers = c.give_list.new.numbers.items in
    let k = c.index_of-index.result in
    let is : number_at numbers c.args.node ≡ k + 1 = ap (λ (xs : List ℕ). number_at xs c.args.node) (sym c.as_slice.ensures.value) ∙ ap (number_at c.as_slice.result.now) (sym c.place-place.ensures) ∙ c.index_of-index.ensures in
    on_ok_weaker c.make_room.result (λ room. subst (λ (p : Places). 0 < p.spare) (sym (own_new lists numbers c.args.node k c.make_room.new.self c.give_list.ensures.table is)) room) c.make_room.ensures.ok

pub returns-clause-same : goal.returns-clause-same
returns-clause-same c n =
    let lists = c.give_list.new.lists.items in
    let numbers = c.give_list.new.numbers.items in
    let k = c.index_of-index.result in
    let is : number_at numbers c.args.node ≡ k + 1 = ap (λ (xs : List ℕ). number_at xs c.args.node) (sym c.as_slice.ensures.value) ∙ ap (number_at c.as_slice.result.now) (sym c.place-place.ensures) ∙ c.index_of-index.ensures in
    each_changed (λ b p q. q.ids ≡ p.ids) (λ p. refl) lists numbers c.args.node k c.index_mut.result.now c.make_room.new.self c.give_list.ensures.table is c.index_mut.ensures.value c.make_room.ensures.ids n
    ∙ c.give_list.ensures.same n
    ∙ ap (λ (p : Places). p.ids) (lists_longer c.self.inside.lists.items c.self.inside.numbers.items c.lengthen.new.numbers.items c.lengthen.ensures.same n ∙ ap (λ (v : List Places). id_list v n) c.self.view_is)

pub returns-clause-kept : goal.returns-clause-kept
returns-clause-kept c n =
    let lists = c.give_list.new.lists.items in
    let numbers = c.give_list.new.numbers.items in
    let k = c.index_of-index.result in
    let is : number_at numbers c.args.node ≡ k + 1 = ap (λ (xs : List ℕ). number_at xs c.args.node) (sym c.as_slice.ensures.value) ∙ ap (number_at c.as_slice.result.now) (sym c.place-place.ensures) ∙ c.index_of-index.ensures in
    let changed = each_changed (λ b p q. p.spare ≤ q.spare) (λ p. omega arith) lists numbers c.args.node k c.index_mut.result.now c.make_room.new.self c.give_list.ensures.table is c.index_mut.ensures.value c.make_room.ensures.kept n in
    let base = ap (λ (p : Places). p.spare) (lists_longer c.self.inside.lists.items c.self.inside.numbers.items c.lengthen.new.numbers.items c.lengthen.ensures.same n ∙ ap (λ (v : List Places). id_list v n) c.self.view_is) in
    let given = c.give_list.ensures.kept n in
    omega (arith, base, given, changed)
