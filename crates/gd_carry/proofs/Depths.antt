-- A member lies no deeper than the clause, and less deep than what it lies in.
use Rattle.std.proofs.Common.{rules, ◌≡◌, ◌<◌, ◌≤◌, ◌+◌, ℕ, zero, suc, max, List, [], ◌∷◌, Vec, Global, length, get_or, refl, ap, arith}
use Rattle.gd_defs.specs.Property.{Property}
use Rattle.gd_defs.specs.Write.Parts as parts
use Rattle.gd_mql.specs.declared.write_parts.CreateWord.{CreateWord}
use Rattle.gd_intent.specs.Seen.{item_view, members_view, many_view}
use Rattle.gd_intent.specs.declared.intent.Entry.{Entry}
use Rattle.gd_intent.specs.declared.intent.Entry.TheVariants as entry
use Rattle.gd_intent.specs.declared.intent.Item.{Item, Nested, Several, the_lemmas}
use Rattle.gd_carry.specs.Depth.{item_depth, many_depth, members_depth, entry_depth}
use Rattle.gd_carry.specs.Outcome.{put}
use Rattle.gd_carry.proofs.Nested.{nested_view}

entry_within : (e : Entry Item) (ms : parts.Members) → members_depth (put e ms) ≡ max (entry_depth e) (members_depth ms)
entry_within (entry.Member name i) ms = refl
entry_within entry.Created ms = omega arith

-- an entry lies no deeper than its clause
pub entry_in : (es : List (Entry Item)) (i : ℕ) (e : Entry Item) → i < length es → e ≡ get_or es i e → entry_depth e ≤ members_depth (members_view es)
entry_in [] i e within is = absurd (omega (arith, within))
entry_in (x ∷ es) zero e within is =
    let same : entry_depth e ≡ entry_depth x = ap entry_depth is in
    omega (arith, same, entry_within x (members_view es))
entry_in (x ∷ es) (suc i) e within is =
    let below = entry_in es i e (omega (arith, within)) is in
    omega (arith, below, entry_within x (members_view es))

-- an item lies no deeper than its list
pub item_in : (is : List Item) (i : ℕ) (x : Item) → i < length is → x ≡ get_or is i x → item_depth (item_view x) ≤ many_depth (many_view is)
item_in [] i x within at = absurd (omega (arith, within))
item_in (y ∷ is) zero x within at =
    let same : item_depth (item_view x) ≡ item_depth (item_view y) = ap (λ (z : Item). item_depth (item_view z)) at in
    omega (arith, same)
item_in (y ∷ is) (suc i) x within at =
    let below = item_in is i x (omega (arith, within)) at in
    omega (arith, below)

-- a list of items
pub several_view : (v : Vec Item Global) → item_view (Several v) ≡ parts.several (many_view v.items)
several_view v = search (rules, the_lemmas)

-- a nested create lies one deeper than its members, a list one deeper than its items
pub nested_deeper : (p : Property) (w : CreateWord) (v : Vec (Entry Item) Global) → item_depth (item_view (Nested p w v)) ≡ 1 + members_depth (members_view v.items)
nested_deeper p w v = ap item_depth (nested_view p w v)

pub several_deeper : (v : Vec Item Global) → item_depth (item_view (Several v)) ≡ 1 + many_depth (many_view v.items)
several_deeper v = ap item_depth (several_view v)
