use Rattle.std.proofs.Common.{◌≡◌, ◌∙◌, ◌+◌, ◌==◌, ap, sym, refl, subst, List, ℕ}
use Rattle.gd_postings.specs.Postings.{Places}
use Rattle.gd_lists.specs.Entries.{without_entry}
use Rattle.gd_lists.specs.Lists.{id_list}
use Rattle.gd_lists.specs.Table.{by_node, number_at}
use Rattle.gd_lists.proofs.Entries.{popped}
use Rattle.gd_lists.proofs.Table.{each_changed}
use Rattle.std.specs.Prelude.{slice_set}
use Rattle.gd_lists.proofs.nodes.NodeLists.pop.Goals as goal

pub returns : goal.returns
returns c n =
    let lists = c.self.inside.lists.items in
    let numbers = c.self.inside.numbers.items in
    let k = c.index_of-index.result in
    let is : number_at numbers c.args.node ≡ k + 1 = ap (λ (xs : List ℕ). number_at xs c.args.node) (sym c.as_slice.ensures.value) ∙ ap (number_at c.as_slice.result.now) (sym c.place.ensures) ∙ c.index_of-index.ensures in
    subst (λ (v : List Places). (id_list (by_node (slice_set lists k c.pop_last-last.new.self) numbers) n).ids ≡ without_entry (c.args.node == n) (id_list v n).ids) c.self.view_is
    (each_changed (λ b p q. q.ids ≡ without_entry b p.ids) (λ p. refl) lists numbers c.args.node k c.index_mut.result.now c.pop_last-last.new.self c.self.invariant is c.index_mut.ensures.value
    (popped c.index_mut.result.now c.pop_last-last.new.self c.pop_last-last.result c.pop_last-last.ensures.some c.pop_last-last.ensures.none) n)
