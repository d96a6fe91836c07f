-- Members whose names rise stand in order already.
use Rattle.std.proofs.Common.{◌≡◌, ℕ, List, true, Ordering, Less, Equal, Greater, refl, ap, ◌∙◌}
use Rattle.std.specs.List.{AllByRecursion}
use Rattle.std.specs.Ordering.{nat_cmp, is_lt, ordering_reverse}
use Rattle.std.specs.Cmp.Lexicographic.{slice_cmp}
use Rattle.std.proofs.lemmas.Bool.{and_parts}
use Rattle.std.proofs.lemmas.Cmp.{nat_list_cmp_total}
use Rattle.json.specs.Json as json
use Rattle.serde_json.specs.Data.{Data, Members, no_members, member, put}
use Rattle.gd_json.specs.Text.{as_data, members_data, plain_members, rises, rises_behind}
use Rattle.gd_json.proofs.Numbers.{keys_of}

abbrev append : Members → Members → Members
append no_members more = more
append (member k d ms) more = member k d (append ms more)

abbrev AreBelow : List ℕ → Members → Type 0
AreBelow k ms = AllByRecursion (λ l. slice_cmp nat_cmp l k ≡ Less) (keys_of ms)

append_more : (ms : Members) (k : List ℕ) (d : Data) (more : Members) → append (append ms (member k d no_members)) more ≡ append ms (member k d more)
append_more no_members k d more = refl
append_more (member l e ms) k d more = ap (member l e) (append_more ms k d more)

-- a name above all others goes last
put_last : (ms : Members) (k : List ℕ) (d : Data) → AreBelow k ms → put k d ms ≡ append ms (member k d no_members)
put_last no_members k d below = refl
put_last (member l e ms) k d below =
    let above : slice_cmp nat_cmp k l ≡ Greater = nat_list_cmp_total.antisymm k l ∙ ap ordering_reverse below.0 in
    rw above (ap (member l e) (put_last ms k d below.1))

below_next : (ms : Members) (k l : List ℕ) (d : Data) → AreBelow k ms → slice_cmp nat_cmp k l ≡ Less → AreBelow l (append ms (member k d no_members))
below_next no_members k l d below less = (less, tt)
below_next (member m e ms) k l d below less = (nat_list_cmp_total.trans m k l below.0 less, below_next ms k l d below.1 less)

is_less : (o : Ordering) → is_lt o ≡ true → o ≡ Less
is_less Less is = refl
is_less Equal is = absurd (cc)
is_less Greater is = absurd (cc)

one_more : (ms : json.Members) (k : List ℕ) (j : json.Json) (found : Members) → AreBelow k found → rises_behind k ms ≡ true
    → members_data (json.member k j ms) found ≡ append found (plain_members (json.member k j ms))
one_more json.no_members k j found below rising = put_last found k (as_data j) below
one_more (json.member l i ms) k j found below rising =
    let parts = and_parts (is_lt (slice_cmp nat_cmp k l)) (rises_behind l ms) rising in
    ap (members_data (json.member l i ms)) (put_last found k (as_data j) below)
    ∙ one_more ms l i (append found (member k (as_data j) no_members)) (below_next found k l (as_data j) below (is_less (slice_cmp nat_cmp k l) parts.0)) parts.1
    ∙ append_more found k (as_data j) (plain_members (json.member l i ms))

pub rising_members : (ms : json.Members) → rises ms ≡ true → members_data ms no_members ≡ plain_members ms
rising_members json.no_members rising = refl
rising_members (json.member k j ms) rising = one_more ms k j no_members tt rising
