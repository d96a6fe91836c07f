-- The members of a clause, one entry after another.
use Rattle.std.proofs.Common.{◌≡◌, ℕ, ◌+◌, max, List, [], ◌∷◌, ◌++◌, Bool, true, false, Option, Some, None, Result, Ok, Err, refl, sym, ap, subst, ◌∙◌, arith, codes}
use Rattle.std.specs.Prelude.{if◌then◌else◌, bytes_eq}
use Rattle.std.specs.Option.{option_or}
use Rattle.gd_grammar.specs.Chain.{◌>>=◌}
use Rattle.gd_tree.specs.Json.{Json, null, boolean, number, text, list, object}
use Rattle.gd_tree.specs.Look.{text_of}
use Rattle.gd_prim.specs.declared.Primitive.{Primitive}
use Rattle.gd_compile.specs.declared.fault.Unknown.{Unknown}
use Rattle.gd_compile.specs.Fault.{Finds}
use Rattle.gd_defs.specs.Query.{Name, is_computed}
use Rattle.gd_defs.specs.Asked as asked
use Rattle.gd_defs.specs.Change as change
use Rattle.gd_defs.specs.Write.Parts as parts
use Rattle.gd_form_laws.specs.SpelledChange.{entries_depth, entries_len}
use Rattle.gd_mql.specs.Entries.{with_entry as with_spelled}
use Rattle.gd_mql.specs.declared.change.Entry.{Entry as SpelledEntry}
use Rattle.gd_mql.specs.declared.change.Entry.TheVariants as spelled
use Rattle.gd_intent.specs.declared.intent.Entry.{Entry}
use Rattle.gd_intent.specs.declared.intent.Item.{Item}
use Rattle.gd_intent.specs.Seen.{before, item_view, many_before}
use Rattle.gd_intent.specs.Walk.{Outcome, put, entry_depth, member_item, property_item}

one_more : (es : List (Entry Item)) (e : Entry Item) (rest : parts.Members) → before (es ++ e ∷ []) rest ≡ before es (put e rest)
one_more [] e rest = refl
one_more (x ∷ es) e rest = ap (put x) (one_more es e rest)

one_item_more : (is : List Item) (i : Item) (rest : parts.ManyItems) → many_before (is ++ i ∷ []) rest ≡ many_before is (parts.and_then (item_view i) rest)
one_item_more [] i rest = refl
one_item_more (x ∷ is) i rest = ap (parts.and_then (item_view x)) (one_item_more is i rest)

-- nothing stands in front yet
pub none_before : (whole : Outcome) → whole ≡ (whole >>= λ ms. Ok (before [] ms))
none_before (Ok ms) = refl
none_before (Err e) = refl

pub no_item_before : (whole : Result parts.ManyItems asked.Unknown) → whole ≡ (whole >>= λ is. Ok (many_before [] is))
no_item_before (Ok is) = refl
no_item_before (Err e) = refl

-- an entry that leads the rest stands behind those before it
pub entry_added : (whole rest : Outcome) (es new : List (Entry Item)) (e : Entry Item) → whole ≡ (rest >>= λ ms. Ok (put e ms)) → new ≡ es ++ e ∷ []
    → (whole >>= λ ms. Ok (before es ms)) ≡ (rest >>= λ ms. Ok (before new ms))
entry_added whole (Err f) es new e is added = ap (λ (w : Outcome). w >>= λ ms. Ok (before es ms)) is
entry_added whole (Ok ms) es new e is added = ap (λ (w : Outcome). w >>= λ ms. Ok (before es ms)) is
    ∙ ap Ok (sym (one_more es e ms) ∙ ap (λ (xs : List (Entry Item)). before xs ms) (sym added))

-- the same of an item
pub item_added : (first : Result parts.Item asked.Unknown) (rest : Result parts.ManyItems asked.Unknown) (is new : List Item) (i : Item) → first ≡ Ok (item_view i) → new ≡ is ++ i ∷ []
    → ((first >>= λ r. rest >>= λ rs. Ok (parts.and_then r rs)) >>= λ rs. Ok (many_before is rs)) ≡ (rest >>= λ rs. Ok (many_before new rs))
item_added first (Err f) is new i found added = ap (λ (w : Result parts.Item asked.Unknown). (w >>= λ r. Err f) >>= λ rs. Ok (many_before is rs)) found
item_added first (Ok rs) is new i found added = ap (λ (w : Result parts.Item asked.Unknown). (w >>= λ r. Ok (parts.and_then r rs)) >>= λ rs. Ok (many_before is rs)) found
    ∙ ap Ok (sym (one_item_more is i rs) ∙ ap (λ (xs : List Item). many_before xs rs) (sym added))

-- an entry is one more than those behind it
pub one_entry : (e : SpelledEntry) (ms : change.Members) → entries_len (with_spelled e ms) ≡ 1 + entries_len ms
one_entry (spelled.Member n i) ms = refl
one_entry (spelled.Created w) ms = refl

-- and forms lie no deeper in it and behind it than in all
pub entry_within : (e : SpelledEntry) (ms : change.Members) → entries_depth (with_spelled e ms) ≡ max (entry_depth e) (entries_depth ms)
entry_within (spelled.Member n i) ms = refl
entry_within (spelled.Created w) ms = omega arith

-- the text of the member `type`
pub type_plain : (n : Name) (j : Json) (ms : change.Members) → parts.type_text (change.member n (change.plain j) ms) ≡ option_or (if bytes_eq n.spelled (codes "type") then text_of j else None) (parts.type_text ms)
type_plain n (text t) ms = by (bytes_eq n.spelled (codes "type"))
  where
    by : (b : Bool) → (if b then Some t else parts.type_text ms) ≡ option_or (if b then Some t else None) (parts.type_text ms)
    by true = refl
    by false = refl
type_plain n null ms = by (bytes_eq n.spelled (codes "type"))
  where
    by : (b : Bool) → parts.type_text ms ≡ option_or (if b then None else None) (parts.type_text ms)
    by true = refl
    by false = refl
type_plain n (boolean x) ms = by (bytes_eq n.spelled (codes "type"))
  where
    by : (b : Bool) → parts.type_text ms ≡ option_or (if b then None else None) (parts.type_text ms)
    by true = refl
    by false = refl
type_plain n (number x) ms = by (bytes_eq n.spelled (codes "type"))
  where
    by : (b : Bool) → parts.type_text ms ≡ option_or (if b then None else None) (parts.type_text ms)
    by true = refl
    by false = refl
type_plain n (list x) ms = by (bytes_eq n.spelled (codes "type"))
  where
    by : (b : Bool) → parts.type_text ms ≡ option_or (if b then None else None) (parts.type_text ms)
    by true = refl
    by false = refl
type_plain n (object x) ms = by (bytes_eq n.spelled (codes "type"))
  where
    by : (b : Bool) → parts.type_text ms ≡ option_or (if b then None else None) (parts.type_text ms)
    by true = refl
    by false = refl

-- a member that is not computed has a property
pub member_found : (prims : List Primitive) (on context : Option ℕ) (path : List (List ℕ)) (n : Name) (i : change.Item) (r : Result Item Unknown)
    → is_computed n.word ≡ false → Finds item_view (property_item prims on context (path ++ n.spelled ∷ []) n i) r → Finds item_view (member_item prims on context path n i) r
member_found prims on context path n i r other found =
    subst (λ (w : Result parts.Item asked.Unknown). Finds item_view w r) (sym (by (is_computed n.word) other)) found
  where
    by : (b : Bool) → b ≡ false → (if b then Ok (parts.identity_item n i) else property_item prims on context (path ++ n.spelled ∷ []) n i) ≡ property_item prims on context (path ++ n.spelled ∷ []) n i
    by false is = refl
    by true is = cc
