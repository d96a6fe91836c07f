use Rattle.std.proofs.Common.{◌≡◌, ◌∙◌, ◌+◌, ◌≤◌, ap, sym, refl, subst, List, length, arith}
use Rattle.std.specs.Prelude.{slice_set}
use Rattle.std.proofs.lemmas.Grind.{get_or_default_zero}
use Rattle.gd_postings.specs.Postings.{Places}
use Rattle.gd_lists.specs.Lists.{id_list}
use Rattle.gd_lists.specs.Table.{by_node, number_at}
use Rattle.gd_lists.proofs.Table.{each_given}
use Rattle.gd_lists.proofs.nodes.give_list.Goals as goal

pub returns-clause-same : goal.returns-clause-same
returns-clause-same c n =
    let lists = c.args.lists.now.items in
    let numbers = c.args.numbers.now.items in
    let zero_there : number_at numbers c.args.node ≡ 0 = let read = sym (get_or_default_zero numbers c.args.node c.index.result.now c.requires.there) in let own = c.index.ensures in omega (arith, read, own, c.if-index-gt0.false) in
    let is : c.in_ok-number.number ≡ length lists + 1 = c.in_ok-number.ensures ∙ ap (λ (ps : List Places). length ps + 1) c.as_slice.ensures.value in
    subst (λ (ls : List Places). (id_list (by_node ls (slice_set numbers c.args.node c.in_ok-number.number)) n).ids ≡ (id_list (by_node lists numbers) n).ids) (sym c.in_ok-push.ensures.items)
    (each_given (λ b p q. q.ids ≡ p.ids) (λ p. refl) lists numbers c.args.node c.in_ok-number.number c.new.result c.requires.table c.requires.there zero_there is c.new.ensures n)

pub returns-clause-kept : goal.returns-clause-kept
returns-clause-kept c n =
    let lists = c.args.lists.now.items in
    let numbers = c.args.numbers.now.items in
    let zero_there : number_at numbers c.args.node ≡ 0 = let read = sym (get_or_default_zero numbers c.args.node c.index.result.now c.requires.there) in let own = c.index.ensures in omega (arith, read, own, c.if-index-gt0.false) in
    let is : c.in_ok-number.number ≡ length lists + 1 = c.in_ok-number.ensures ∙ ap (λ (ps : List Places). length ps + 1) c.as_slice.ensures.value in
    subst (λ (ls : List Places). (id_list (by_node lists numbers) n).spare ≤ (id_list (by_node ls (slice_set numbers c.args.node c.in_ok-number.number)) n).spare) (sym c.in_ok-push.ensures.items)
    (each_given (λ b p q. p.spare ≤ q.spare) (λ p. omega arith) lists numbers c.args.node c.in_ok-number.number c.new.result c.requires.table c.requires.there zero_there is (omega arith) n)
