use Rattle.std.proofs.Common.{◌≡◌, ◌∙◌, ◌+◌, ◌==◌, ap, sym, refl, subst, List, ℕ, arith}
use Rattle.std.specs.Prelude.{slice_set}
use Rattle.gd_postings.specs.Postings.{Places, IsAbove}
use Rattle.gd_lists.specs.Entries.{with_entry, spare_less}
use Rattle.gd_lists.specs.Lists.{id_list}
use Rattle.gd_lists.specs.Table.{by_node, number_at}
use Rattle.gd_lists.proofs.Table.{each_changed, own_list}
use Rattle.gd_lists.proofs.nodes.NodeLists.push.Goals as goal

pub push-requires-clause-above : goal.push-requires-clause-above
push-requires-clause-above c =
    let lists = c.self.inside.lists.items in
    let numbers = c.self.inside.numbers.items in
    let k = c.index_of-index.result in
    let is : number_at numbers c.args.node ≡ k + 1 = ap (λ (xs : List ℕ). number_at xs c.args.node) (sym c.as_slice.ensures.value) ∙ ap (number_at c.as_slice.result.now) (sym c.place.ensures) ∙ c.index_of-index.ensures in
    let own = own_list lists numbers c.args.node k c.index_mut.result.now c.self.invariant is c.index_mut.ensures.value in
    subst (λ (p : Places). IsAbove p.ids c.args.id) (sym (own ∙ ap (λ (v : List Places). id_list v c.args.node) c.self.view_is)) c.requires.above

pub returns-clause-ids : goal.returns-clause-ids
returns-clause-ids c n =
    let lists = c.self.inside.lists.items in
    let numbers = c.self.inside.numbers.items in
    let k = c.index_of-index.result in
    let is : number_at numbers c.args.node ≡ k + 1 = ap (λ (xs : List ℕ). number_at xs c.args.node) (sym c.as_slice.ensures.value) ∙ ap (number_at c.as_slice.result.now) (sym c.place.ensures) ∙ c.index_of-index.ensures in
    subst (λ (v : List Places). (id_list (by_node (slice_set lists k c.push.new.self) numbers) n).ids ≡ with_entry (c.args.node == n) c.args.id (id_list v n).ids) c.self.view_is
    (each_changed (λ b p q. q.ids ≡ with_entry b c.args.id p.ids) (λ p. refl) lists numbers c.args.node k c.index_mut.result.now c.push.new.self c.self.invariant is c.index_mut.ensures.value c.push.ensures.ids n)

pub returns-clause-spare : goal.returns-clause-spare
returns-clause-spare c n =
    let lists = c.self.inside.lists.items in
    let numbers = c.self.inside.numbers.items in
    let k = c.index_of-index.result in
    let is : number_at numbers c.args.node ≡ k + 1 = ap (λ (xs : List ℕ). number_at xs c.args.node) (sym c.as_slice.ensures.value) ∙ ap (number_at c.as_slice.result.now) (sym c.place.ensures) ∙ c.index_of-index.ensures in
    subst (λ (v : List Places). (id_list (by_node (slice_set lists k c.push.new.self) numbers) n).spare ≡ spare_less (c.args.node == n) (id_list v n).spare) c.self.view_is
    (each_changed (λ b p q. q.spare ≡ spare_less b p.spare) (λ p. refl) lists numbers c.args.node k c.index_mut.result.now c.push.new.self c.self.invariant is c.index_mut.ensures.value (omega (arith, c.push.ensures.spare)) n)
