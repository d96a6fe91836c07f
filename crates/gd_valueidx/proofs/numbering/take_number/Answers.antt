use Rattle.std.proofs.Common.{◌≡◌, ◌∙◌, ◌-◌, ◌<◌, ◌≤◌, subst, List, suc, None, true, arith, ⊎_elim}
use Rattle.std.specs.Map.{keys_of, values_of}
use Rattle.std.proofs.lemmas.Bool.{cases_lt}
use Rattle.gd_base.specs.declared.datum.Datum.{Datum}
use Rattle.gd_base.specs.Order.{datum_eq}
use Rattle.gd_postings.specs.Postings.{Places}
use Rattle.gd_valueidx.specs.Ranked.{ranked}
use Rattle.gd_valueidx.specs.Runs.{flat, rank, stands, IsSplit}
use Rattle.gd_valueidx.proofs.Each.{Sets, as_sets, weaker, popped_last, gone}
use Rattle.gd_valueidx.proofs.Ranked.{ordered_parted, ordered_some, ordered_less}
use Rattle.gd_valueidx.proofs.numbering.take_number.Goals as goal

pub place-place-requires : goal.place-place-requires
place-place-requires c = ordered_parted (keys_of c.args.lists.now.entries) c.args.value.now true (flat c.args.order.now.runs.items) c.requires.ordered

pub remove_before-requires-clause-some : goal.remove_before-requires-clause-some
remove_before-requires-clause-some c =
    let new : List (Datum × Places) = c.pop-last.new.self.entries in
    let runs = c.args.order.now.runs.items in
    let at = rank runs c.place-place.result.run c.place-place.result.index in
    let both = popped_last c.args.lists.now.entries new c.pop-last.result c.args.value.now c.pop-last.ensures.entries c.pop-last.ensures.found.1
    (weaker _ (λ (e : Datum × Places). Sets datum_eq c.args.lists.now.entries new e.0 None) c.pop-last.result (λ e updates. as_sets c.args.lists.now.entries new e.0 None updates.0) c.pop-last.ensures.updates) c.requires.last in
    let none = gone c.args.lists.now.entries new c.args.value.now both.0 in
    let ordered = subst (λ (ks : List Datum). flat runs ≡ values_of (ranked ks)) both.1 c.requires.ordered in
    let split = subst (λ (ks : List Datum). IsSplit (stands ks c.args.value.now true) (flat runs) at) both.1 c.place-place.ensures.split in
    ⊎_elim (λ (h : 0 < c.place-place.result.index). h)
    (λ (h : c.place-place.result.index ≤ 0). absurd (ordered_some (keys_of new) c.args.value.now at (flat runs) none ordered split (c.place-place.ensures.front (omega (arith, h))))) (cases_lt 0 c.place-place.result.index)

pub returns-clause-sets : goal.returns-clause-sets
returns-clause-sets c =
    let new : List (Datum × Places) = c.pop-last.new.self.entries in
    (popped_last c.args.lists.now.entries new c.pop-last.result c.args.value.now c.pop-last.ensures.entries c.pop-last.ensures.found.1
    (weaker _ (λ (e : Datum × Places). Sets datum_eq c.args.lists.now.entries new e.0 None) c.pop-last.result (λ e updates. as_sets c.args.lists.now.entries new e.0 None updates.0) c.pop-last.ensures.updates) c.requires.last).0

pub returns-clause-keys : goal.returns-clause-keys
returns-clause-keys c =
    let new : List (Datum × Places) = c.pop-last.new.self.entries in
    (popped_last c.args.lists.now.entries new c.pop-last.result c.args.value.now c.pop-last.ensures.entries c.pop-last.ensures.found.1
    (weaker _ (λ (e : Datum × Places). Sets datum_eq c.args.lists.now.entries new e.0 None) c.pop-last.result (λ e updates. as_sets c.args.lists.now.entries new e.0 None updates.0) c.pop-last.ensures.updates) c.requires.last).1

pub returns-clause-ordered : goal.returns-clause-ordered
returns-clause-ordered c =
    let new : List (Datum × Places) = c.pop-last.new.self.entries in
    let runs = c.args.order.now.runs.items in
    let at = rank runs c.place-place.result.run c.place-place.result.index in
    let both = popped_last c.args.lists.now.entries new c.pop-last.result c.args.value.now c.pop-last.ensures.entries c.pop-last.ensures.found.1
    (weaker _ (λ (e : Datum × Places). Sets datum_eq c.args.lists.now.entries new e.0 None) c.pop-last.result (λ e updates. as_sets c.args.lists.now.entries new e.0 None updates.0) c.pop-last.ensures.updates) c.requires.last in
    let none = gone c.args.lists.now.entries new c.args.value.now both.0 in
    let ordered = subst (λ (ks : List Datum). flat runs ≡ values_of (ranked ks)) both.1 c.requires.ordered in
    let split = subst (λ (ks : List Datum). IsSplit (stands ks c.args.value.now true) (flat runs) at) both.1 c.place-place.ensures.split in
    let some : 0 < at = ⊎_elim (λ (h : 0 < at). h) (λ (h : at ≤ 0). absurd (ordered_some (keys_of new) c.args.value.now at (flat runs) none ordered split (omega (arith, h)))) (cases_lt 0 at) in
    let next : at ≡ suc (at - 1) = omega (arith, some) in
    c.remove_before.ensures (at - 1) next ∙ ordered_less (keys_of new) c.args.value.now at (at - 1) (flat runs) none ordered split next
