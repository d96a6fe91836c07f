use Rattle.std.proofs.Common.{◌≡◌, ◌∙◌, ap, sym, subst, List, Some, length, false}
use Rattle.std.specs.List.{insert}
use Rattle.std.specs.Map.{keys_of, values_of}
use Rattle.std.proofs.lemmas.List.{length-map}
use Rattle.gd_base.specs.declared.datum.Datum.{Datum}
use Rattle.gd_base.specs.contracts.datum.DatumPartialEq.TheImpl as equality
use Rattle.indexmap.specs.IndexMap.{insert_entry}
use Rattle.gd_postings.specs.Postings.{Places}
use Rattle.gd_valueidx.specs.Ranked.{ranked}
use Rattle.gd_valueidx.specs.Runs.{flat, rank}
use Rattle.gd_valueidx.proofs.Each.{Sets, as_sets, new_entries, new_keys, undone}
use Rattle.gd_valueidx.proofs.Ranked.{ordered_parted, ordered_more}
use Rattle.gd_valueidx.proofs.numbering.give_number.Goals as goal

pub place-place-requires : goal.place-place-requires
place-place-requires c = ordered_parted (keys_of c.args.lists.now.entries) c.args.value.now false (flat c.args.order.now.runs.items) c.requires.ordered

pub returns-in-Err-clause-err : goal.returns-in-Err-clause-err
returns-in-Err-clause-err c =
    undone c.insert.new.self.entries c.pop-last.new.self.entries c.args.lists.now.entries (c.args.value.now, c.args.list) c.pop-last.result c.pop-last.ensures.entries c.pop-last.ensures.found.1
    (new_entries c.args.lists.now c.insert.new.self.entries c.args.value.now c.args.list c.requires.none
    (c.in_ok-insert.ensures.entries ∙ ap (λ (d : Datum). insert_entry (equality.ghosts).eq c.args.lists.now.entries d c.args.list) c.in_ok-copy.ensures))

pub returns-in-Err-clause-ordered : goal.returns-in-Err-clause-ordered
returns-in-Err-clause-ordered c =
    c.in-Err.ensures.err ∙ c.requires.ordered
    ∙ sym (ap (λ (es : List (Datum × Places)). values_of (ranked (keys_of es)))
    (undone c.insert.new.self.entries c.pop-last.new.self.entries c.args.lists.now.entries (c.args.value.now, c.args.list) c.pop-last.result c.pop-last.ensures.entries c.pop-last.ensures.found.1
    (new_entries c.args.lists.now c.insert.new.self.entries c.args.value.now c.args.list c.requires.none
    (c.in_ok-insert.ensures.entries ∙ ap (λ (d : Datum). insert_entry (equality.ghosts).eq c.args.lists.now.entries d c.args.list) c.in_ok-copy.ensures))))

pub returns-clause-sets : goal.returns-clause-sets
returns-clause-sets c =
    as_sets c.args.lists.now.entries c.insert.new.self.entries c.args.value.now (Some c.args.list)
    (subst (λ (k : Datum). Sets (equality.ghosts).eq c.args.lists.now.entries c.insert.new.self.entries k (Some c.args.list)) c.in_ok-copy.ensures c.in_ok-insert.ensures.updates.0)

pub returns-clause-keys : goal.returns-clause-keys
returns-clause-keys c =
    new_keys c.args.lists.now.entries c.insert.new.self.entries c.args.value.now c.args.list
    (new_entries c.args.lists.now c.insert.new.self.entries c.args.value.now c.args.list c.requires.none
    (c.in_ok-insert.ensures.entries ∙ ap (λ (d : Datum). insert_entry (equality.ghosts).eq c.args.lists.now.entries d c.args.list) c.in_ok-copy.ensures))

pub returns-clause-ordered : goal.returns-clause-ordered
returns-clause-ordered c =
    let count : c.in_ok-number.number ≡ length (keys_of c.args.lists.now.entries) = c.in_ok-number.ensures ∙ sym (length-map c.args.lists.now.entries (λ (e : Datum × Places). e.0)) in
    let at = rank c.args.order.now.runs.items c.place-place.result.run c.place-place.result.index in
    ordered_more (keys_of c.args.lists.now.entries) c.args.value.now at (flat c.args.order.now.runs.items) (flat c.insert-2.new.self.runs.items) c.requires.none c.requires.ordered c.place-place.ensures.split
    (c.in_default.ensures.ok ∙ ap (λ n. insert (flat c.args.order.now.runs.items) at n) count)
    ∙ ap (λ ks. values_of (ranked ks)) (sym (new_keys c.args.lists.now.entries c.insert.new.self.entries c.args.value.now c.args.list
    (new_entries c.args.lists.now c.insert.new.self.entries c.args.value.now c.args.list c.requires.none
    (c.in_ok-insert.ensures.entries ∙ ap (λ (d : Datum). insert_entry (equality.ghosts).eq c.args.lists.now.entries d c.args.list) c.in_ok-copy.ensures))))
