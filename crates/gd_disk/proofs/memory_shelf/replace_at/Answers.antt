use Rattle.std.proofs.Common.{rules, Option, Some, option_map, List, bytes_eq, sym, ◌∙◌, ap}
use Rattle.std.specs.List.{position}
use Rattle.gd_disk.specs.Recorded.{Recorded}
use Rattle.gd_disk.specs.declared.memory_shelf.Slot.{Slot}
use Rattle.gd_disk.proofs.Slots.{none_of, slot_some, slot_set, slot_other}
use Rattle.gd_disk.proofs.memory_shelf.replace_at.Goals as goal

pub returns-in_err-place-clause-was : goal.returns-in_err-place-clause-was
returns-in_err-place-clause-was c =
    let is = ap (λ (l : List Slot). position (λ slot. bytes_eq slot.path c.args.path.now) l) (sym c.deref.ensures.value) ∙ sym c.place_of.ensures ∙ c.in_err-place.was in
    let none = none_of c.args.path.now c.args.slots.now.items is in
    search (rules, c.from_residual.ensures, sym none)

pub returns-in_err-place-clause-now : goal.returns-in_err-place-clause-now
returns-in_err-place-clause-now c =
    let is = ap (λ (l : List Slot). position (λ slot. bytes_eq slot.path c.args.path.now) l) (sym c.deref.ensures.value) ∙ sym c.place_of.ensures ∙ c.in_err-place.was in
    let none = none_of c.args.path.now c.args.slots.now.items is in
    none ∙ sym (ap (λ o. option_map (λ (x : Option Recorded). c.args.disk) o) none)

pub returns-clause-was : goal.returns-clause-was
returns-clause-was c =
    let is = ap (λ (l : List Slot). position (λ slot. bytes_eq slot.path c.args.path.now) l) (sym c.deref.ensures.value) ∙ sym c.place_of.ensures ∙ c.in_ok-place.was in
    let found = slot_some c.args.path.now c.args.slots.now.items c.in_ok-place.place c.index_mut-slot.result.now is in
    ap (λ (o : Option Recorded). Some o) (c.replace.ensures.value ∙ ap (λ (s : Slot). s.disk) c.index_mut-slot.ensures.value) ∙ sym found

pub returns-clause-now : goal.returns-clause-now
returns-clause-now c =
    let is = ap (λ (l : List Slot). position (λ slot. bytes_eq slot.path c.args.path.now) l) (sym c.deref.ensures.value) ∙ sym c.place_of.ensures ∙ c.in_ok-place.was in
    let found = slot_some c.args.path.now c.args.slots.now.items c.in_ok-place.place c.index_mut-slot.result.now is in
    slot_set c.args.path.now c.args.slots.now.items c.in_ok-place.place c.index_mut-slot.result.now _ is (ap (λ (s : Slot). s.path) c.index_mut-slot.ensures.value)
    ∙ ap (λ (o : Option Recorded). Some o) c.replace.ensures.after ∙ sym (ap (λ o. option_map (λ (x : Option Recorded). c.args.disk) o) found)

pub returns-clause-others : goal.returns-clause-others
returns-clause-others c = λ other apart.
    let is = ap (λ (l : List Slot). position (λ slot. bytes_eq slot.path c.args.path.now) l) (sym c.deref.ensures.value) ∙ sym c.place_of.ensures ∙ c.in_ok-place.was in
    slot_other c.args.path.now other c.args.slots.now.items c.in_ok-place.place c.index_mut-slot.result.now _ apart is (ap (λ (s : Slot). s.path) c.index_mut-slot.ensures.value)
