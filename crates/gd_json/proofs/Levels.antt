-- What bytes are as JSON is bounded.
use Rattle.std.proofs.Common.{◌≡◌, ◌≤◌, ℕ, suc, ◌+◌, List, ◌∷◌, Option, Some, None, Result, Ok, refl, sym, ap, subst, arith}
use Rattle.std.specs.Prelude.{ℤ, nat_lt, if◌then◌else◌, FitsSigned}
use Rattle.std.specs.Int.{w64}
use Rattle.std.specs.Str.{is_utf8}
use Rattle.std.proofs.lemmas.Bool.{ltb-false}
use Rattle.std.proofs.lemmas.Str.{IsUtf8-from_is_utf8}
use Rattle.serde_json.specs.Data as data_of
use Rattle.serde_json.specs.Data.{Data}
use Rattle.serde_json.specs.Events.{items_len, members_len}
use Rattle.serde_json.specs.Find.{as_i64}
use Rattle.serde_json.specs.Read.{read}
use Rattle.gd_grammar.specs.Chain.{◌>>=◌}
use Rattle.gd_tree.specs.Json.{Json, null, boolean, number, text, list, object, Items, no_items, item, Members, no_members, member}
use Rattle.gd_json.specs.declared.from.JsonFault.{JsonFault}
use Rattle.gd_json.specs.Reading.{within, whole, list_of, object_of, value_at, items_at, members_at, json_from}
use Rattle.gd_tree.specs.Look.{items_len as tree_items_len, members_len as tree_members_len}
use Rattle.gd_tree.specs.Bounds.{json_depth, items_depth, members_depth, IsPlain, ArePlain, MembersPlain}
use Rattle.gd_grammar.proofs.Steps.{steps, ok_same, not_ok, either}
use Rattle.gd_json.specs.Bounded.{names_of, AreRising, AllPass, IsShaped, AreShaped, MembersShaped, IsBounded}
use Rattle.gd_json.proofs.Numbers.{keys_of, DataFits, ItemsFit, MembersFit, read-fits, as_i64-fits}

-- a value at a level is no deeper than what is left of 16, its numbers have 64 bits, its texts and names are UTF-8, its lists and objects are short, and its names rise
pub record IsLevel (level : ℕ) (j : Json) : Type 0 where
  pub depth : level + json_depth j ≤ 17
  pub plain : IsPlain is_utf8 j
  pub shaped : IsShaped is_utf8 j

pub record AreLevel (level : ℕ) (ds : data_of.Items) (js : Items) : Type 0 where
  pub depth : level + items_depth js ≤ 17
  pub plain : ArePlain is_utf8 js
  pub shaped : AreShaped is_utf8 js
  pub count : tree_items_len js ≡ items_len ds

pub record MembersLevel (level : ℕ) (ds : data_of.Members) (ms : Members) : Type 0 where
  pub depth : level + members_depth ms ≤ 17
  pub plain : MembersPlain is_utf8 ms
  pub shaped : MembersShaped is_utf8 ms
  pub count : tree_members_len ms ≡ members_len ds
  pub names : names_of ms ≡ keys_of ds
  pub named : AllPass is_utf8 (names_of ms)

-- a value that is neither too deep nor too wide
inside : (level parts : ℕ) (r : Result Json JsonFault) (j : Json) (P : Type 0) → (level ≤ 16 → parts ≤ 64 → r ≡ Ok j → P) → within level parts r ≡ Ok j → P
inside level parts r j P gives is = either (nat_lt 16 level) _ (if nat_lt 64 parts then _ else r) (Ok j) (λ b err. not_ok _ j err)
    (λ b rest. either (nat_lt 64 parts) _ r (Ok j) (λ c err. not_ok _ j err) (λ c given. gives (ltb-false 16 level b) (ltb-false 64 parts c) given) rest) is

number-level : (level : ℕ) (o : Option ℤ) (j : Json) → ((z : ℤ) → o ≡ Some z → FitsSigned w64 z) → level ≤ 16 → whole o ≡ Ok j → IsLevel level j
number-level level None j fits low is = not_ok _ j is
number-level level (Some z) j fits low is = subst (IsLevel level) (ok_same (number z) j is) (record { depth = omega arith; plain = fits z refl; shaped = tt })

mutual
  value-level : (level : ℕ) (d : Data) (j : Json) → DataFits d → value_at level d ≡ Ok j → IsLevel level j
  value-level level data_of.null j fits is =
      inside level 0 (Ok null) j (IsLevel level j) (λ low few given. subst (IsLevel level) (ok_same null j given) (record { depth = omega arith; plain = tt; shaped = tt })) is
  value-level level (data_of.boolean b) j fits is =
      inside level 0 (Ok (boolean b)) j (IsLevel level j) (λ low few given. subst (IsLevel level) (ok_same (boolean b) j given) (record { depth = omega arith; plain = tt; shaped = tt })) is
  value-level level (data_of.number n) j fits is =
      inside level 0 (whole (as_i64 n)) j (IsLevel level j) (λ low few given. number-level level (as_i64 n) j (λ z same. as_i64-fits n z fits same) low given) is
  value-level level (data_of.string s) j fits is =
      inside level 0 (Ok (text s)) j (IsLevel level j) (λ low few given. subst (IsLevel level) (ok_same (text s) j given) (record { depth = omega arith; plain = fits; shaped = tt })) is
  value-level level (data_of.array ds) j fits is =
      inside level (items_len ds) (list_of (items_at (level + 1) ds)) j (IsLevel level j) (λ low few given.
      let js = steps (items_at (level + 1) ds) (λ js. Ok (list js)) j given in
      let below = items-level (level + 1) ds js.value fits (omega arith) js.gave in
      let deep = below.depth in
      let count = below.count in
      subst (IsLevel level) (ok_same (list js.value) j js.then_gave) (record { depth = omega arith; plain = below.plain; shaped = (omega arith, below.shaped) })) is
  value-level level (data_of.object ms) j fits is =
      inside level (members_len ms) (object_of (members_at (level + 1) ms)) j (IsLevel level j) (λ low few given.
      let js = steps (members_at (level + 1) ms) (λ js. Ok (object js)) j given in
      let below = members-level (level + 1) ms js.value fits.0 (omega arith) js.gave in
      let deep = below.depth in
      let count = below.count in
      subst (IsLevel level) (ok_same (object js.value) j js.then_gave)
      (record { depth = omega arith; plain = below.plain; shaped = (omega arith, subst AreRising (sym below.names) fits.1, below.named, below.shaped) })) is

  items-level : (level : ℕ) (ds : data_of.Items) (js : Items) → ItemsFit ds → level ≤ 17 → items_at level ds ≡ Ok js → AreLevel level ds js
  items-level level data_of.no_items js fits low is = subst (AreLevel level data_of.no_items) (ok_same no_items js is) (record { depth = omega arith; plain = tt; shaped = tt; count = refl })
  items-level level (data_of.item d ds) js fits low is =
      let one = steps (value_at level d) (λ j. items_at level ds >>= λ js. Ok (item j js)) js is in
      let rest = steps (items_at level ds) (λ js. Ok (item one.value js)) js one.then_gave in
      let here = value-level level d one.value fits.0 one.gave in
      let below = items-level level ds rest.value fits.1 low rest.gave in
      let deep = here.depth in
      let deeper = below.depth in
      subst (AreLevel level (data_of.item d ds)) (ok_same (item one.value rest.value) js rest.then_gave)
      (record { depth = omega arith; plain = (here.plain, below.plain); shaped = (here.shaped, below.shaped); count = ap suc below.count })

  members-level : (level : ℕ) (ds : data_of.Members) (js : Members) → MembersFit ds → level ≤ 17 → members_at level ds ≡ Ok js → MembersLevel level ds js
  members-level level data_of.no_members js fits low is =
      subst (MembersLevel level data_of.no_members) (ok_same no_members js is) (record { depth = omega arith; plain = tt; shaped = tt; count = refl; names = refl; named = tt })
  members-level level (data_of.member k d ds) js fits low is =
      let one = steps (value_at level d) (λ j. members_at level ds >>= λ js. Ok (member k j js)) js is in
      let rest = steps (members_at level ds) (λ js. Ok (member k one.value js)) js one.then_gave in
      let here = value-level level d one.value fits.1 one.gave in
      let below = members-level level ds rest.value fits.2 low rest.gave in
      let deep = here.depth in
      let deeper = below.depth in
      subst (MembersLevel level (data_of.member k d ds)) (ok_same (member k one.value rest.value) js rest.then_gave) (record {
        depth = omega arith;
        plain = (here.plain, below.plain);
        shaped = (here.shaped, below.shaped);
        count = ap suc below.count;
        names = ap (λ ks. k ∷ ks) below.names;
        named = (fits.0, below.named);
      })

-- what bytes are as JSON is at most 16 deep, with whole numbers of 64 bits, texts and names of UTF-8, at most 64 parts each, and names that rise
pub json_is_bounded : (bytes : List ℕ) (j : Json) → json_from bytes ≡ Ok j → IsBounded j
json_is_bounded bytes j is = by (read bytes) refl
  where
    by : (o : Option Data) → read bytes ≡ o → IsBounded j
    by None read_is = let given = rw read_is at is in either (is_utf8 bytes) _ _ (Ok j) (λ b err. not_ok _ j err) (λ b err. not_ok _ j err) given
    by (Some d) read_is = let given = rw read_is at is in either (is_utf8 bytes) (value_at 1 d) _ (Ok j)
        (λ b value. let level = value-level 1 d j (read-fits bytes d (IsUtf8-from_is_utf8 bytes b) read_is) value in let deep = level.depth in
        record { depth = omega arith; plain = level.plain; shaped = level.shaped })
        (λ b err. not_ok _ j err) given
