-- Templates as they are written: which texts there are, and how they are read.
use Rattle.std.specs.Prelude.{ℕ, zero, suc, pos, negsuc, ◌+◌, ◌-◌, ◌<◌, ◌≤◌, List, [], ◌∷◌, ◌++◌, length, flat_map, Bool, true, false, not, ◌&&◌, ◌||◌, ◌==◌, nat_lt, Result, Err, if◌then◌else◌, codes, decimal}
use Rattle.std.specs.List.{AllByRecursion, list_any}
use Rattle.std.specs.Str.{IsUtf8}
use Rattle.gd_base.specs.declared.datum.Datum.{Datum}
use Rattle.gd_base.specs.declared.datum.Datum.TheVariants as datum
use Rattle.gd_prim.specs.Limits.{max_prims}
use Rattle.gd_prim.specs.declared.End.{End}
use Rattle.gd_prim.specs.declared.End.TheVariants.{Left, Right, Typ, Scope}
use Rattle.gd_tree.specs.Json.{compact}
use Rattle.gd_grammar.specs.Chain.{◌>>=◌}
use Rattle.gd_grammar.specs.Grammar.{Reads, number_at, more_at, whole, IsText, IsFaultAt}
use Rattle.gd_grammar.specs.Reading.{byte_if}
use Rattle.gd_utf8.specs.Utf8.{Due, start, may_come, after}
use Rattle.gd_defs.specs.Data.{datum_json}
use Rattle.gd_defs.specs.Query.{Mode, required, optional, forbidden}
use Rattle.gd_defs.specs.Template.{Hop, links_by, end_here}
use Rattle.gd_grammar.specs.Choice.{is_byte, either_at, seen_at, word_at, behind_at, list_at}

-- how a value stands to another
pub data Relation : Type 0 where
  equal unequal below at_most above at_least : Relation

-- what is asked of one place, as it is written
pub data Test : Type 0 where
  end_is : End → ℕ → Test
  is_object : Test
  place_in : List ℕ → Test
  place_not : ℕ → Test
  value : Relation → Datum → Test
  value_in : List Datum → Test
  value_like : List ℕ → Test

mutual
  -- an item of a template: a test, or a clause with the items of its template
  pub data Item : Type 0 where
    test : Test → Item
    clause : Mode → Hop → Items → Item

  -- the items of a template, in order
  pub data Items : Type 0 where
    no_items : Items
    item : Item → Items → Items

-- the items that a list has
abbrev pub items_of : List Item → Items
items_of [] = no_items
items_of (i ∷ is) = item i (items_of is)

-- how many items there are
abbrev pub count : Items → ℕ
count no_items = 0
count (item i rest) = 1 + count rest

-- ---- spelling

-- the name of an end
abbrev pub end_text : End → List ℕ
end_text Left = codes "left"
end_text Right = codes "right"
end_text Typ = codes "type"
end_text Scope = codes "scope"

-- what stands between `value` and another value
abbrev pub relation_text : Relation → List ℕ
relation_text equal = codes "="
relation_text unequal = codes "!="
relation_text below = codes "<"
relation_text at_most = codes "<="
relation_text above = codes ">"
relation_text at_least = codes ">="

-- a value: a number, a truth value, or a text in quotes
abbrev pub value_text : Datum → List ℕ
value_text d = compact (datum_json d)

-- a list, with bars between its parts
abbrev pub list_text : {A : Type 0} → (A → List ℕ) → List A → List ℕ
list_text one [] = []
list_text one (x ∷ xs) = one x ++ flat_map (λ y. codes "|" ++ one y) xs

-- the text of a test
abbrev pub test_text : Test → List ℕ
test_text (end_is e n) = end_text e ++ (codes "=" ++ decimal n)
test_text is_object = codes "object"
test_text (place_in ns) = codes "at=" ++ list_text decimal ns
test_text (place_not n) = codes "not=" ++ decimal n
test_text (value r d) = codes "value" ++ (relation_text r ++ value_text d)
test_text (value_in ds) = codes "value" ++ (codes "|=" ++ list_text value_text ds)
test_text (value_like t) = codes "value" ++ (codes "~=" ++ value_text (datum.Text t))

-- what stands before a hop
abbrev pub mode_text : Mode → List ℕ
mode_text required = []
mode_text optional = codes "?"
mode_text forbidden = codes "!"

-- where a clause leads
abbrev pub hop_text : Hop → List ℕ
hop_text (links_by e) = codes "<-" ++ end_text e
hop_text (end_here e) = codes "->" ++ end_text e

abbrev mutual
  -- the text of an item
  pub item_text : Item → List ℕ
  item_text (test t) = test_text t
  item_text (clause mode hop items) = (mode_text mode ++ hop_text hop) ++ (codes " " ++ (codes "(" ++ items_text items))

  -- the text of items up to the bracket that ends them
  pub items_text : Items → List ℕ
  items_text no_items = codes ")"
  items_text (item i rest) = item_text i ++ further_text rest

  -- the text of further items, a space before each, up to the bracket that ends them
  pub further_text : Items → List ℕ
  further_text no_items = codes ")"
  further_text (item i rest) = codes " " ++ (item_text i ++ further_text rest)

-- the text of a template
abbrev pub template_text : Items → List ℕ
template_text items = codes "(" ++ items_text items

-- ---- bounds

-- a place is within the greatest number of primitives
abbrev pub PlaceFits : ℕ → Type 0
PlaceFits n = n ≤ max_prims

-- a text is UTF-8 of at most 4,096 bytes, without bytes below 32
abbrev pub TextFits : List ℕ → Type 0
TextFits t = IsUtf8 t × (length t ≤ 4096) × AllByRecursion (λ c. 31 < c) t

-- a value is a number of 64 bits, a truth value or such a text
abbrev pub ValueFits : Datum → Type 0
ValueFits (datum.Bool b) = Unit {0}
ValueFits (datum.Int (pos n)) = n ≤ 9_223_372_036_854_775_807
ValueFits (datum.Int (negsuc n)) = n ≤ 9_223_372_036_854_775_807
ValueFits (datum.Text t) = TextFits t
ValueFits (datum.Moment ms precision) = ⊥
ValueFits (datum.Object o) = ⊥
ValueFits datum.Empty = ⊥

-- a list has a part, at most 64 of them, and each fits
abbrev pub ListFits : {A : Type 0} → (A → Type 0) → List A → Type 0
ListFits Fits [] = ⊥
ListFits Fits (x ∷ xs) = Fits x × (length xs ≤ 63) × AllByRecursion Fits xs

-- the bounds of a test
abbrev pub TestFits : Test → Type 0
TestFits (end_is e n) = PlaceFits n
TestFits is_object = Unit {0}
TestFits (place_in ns) = ListFits PlaceFits ns
TestFits (place_not n) = PlaceFits n
TestFits (value r d) = ValueFits d
TestFits (value_in ds) = ListFits ValueFits ds
TestFits (value_like t) = TextFits t

abbrev mutual
  -- the bounds of an item
  pub ItemFits : Item → Type 0
  ItemFits (test t) = TestFits t
  ItemFits (clause mode hop items) = (count items ≤ 64) × EachFits items

  -- each item fits
  pub EachFits : Items → Type 0
  EachFits no_items = Unit {0}
  EachFits (item i rest) = ItemFits i × EachFits rest

-- the bounds of a template: at most 64 items, each of which fits
abbrev pub Fits : Items → Type 0
Fits items = (count items ≤ 64) × EachFits items

-- the bytes are the text of this template
abbrev pub IsTemplateText : Items → List ℕ → Type 0
IsTemplateText items bytes = IsText template_text Fits items bytes

-- the bytes are the text of no template, and n of them go with the grammar
abbrev pub IsBadTemplateAt : List ℕ → ℕ → Type 0
IsBadTemplateAt bytes n = IsFaultAt template_text Fits bytes n

-- ---- reading texts

-- the byte is written with a stroke before it
abbrev pub is_escaped : ℕ → Bool
is_escaped c = c == 34 || c == 92

-- the byte may come next as it is, before so many bytes more of the text
abbrev pub may_stand : ℕ → Due → ℕ → Bool
may_stand n s c = nat_lt 31 c && (not (is_escaped c) && may_come n s c)

-- reads a byte that is written with a stroke before it
abbrev pub escape_at : List ℕ → Reads ℕ
escape_at bytes = behind_at (codes "\\") (λ c. c) (byte_if is_escaped) bytes

-- reads a byte of a text, before so many bytes more of it
abbrev pub char_at : ℕ → Due → List ℕ → Reads ℕ
char_at n s bytes = if s.due == 0 then either_at (is_byte 92) escape_at (byte_if (may_stand n s)) bytes else byte_if (may_stand n s) bytes

-- reads the quote that ends a text
abbrev pub quote_at : List ℕ → Reads (List ℕ)
quote_at bytes = word_at (codes "\"") [] bytes

-- reads a byte of a text by one reader, and the others by another
abbrev pub and_tail_at : (List ℕ → Reads ℕ) → (ℕ → List ℕ → Reads (List ℕ)) → List ℕ → Reads (List ℕ)
and_tail_at one others bytes = one bytes >>= λ b. seen_at (λ t. b.0 ∷ t) (others b.0) b.1

-- reads at most so many bytes more of a text and the quote that ends it
unfoldable pub tail_at : ℕ → Due → List ℕ → Reads (List ℕ)
tail_at zero s bytes = quote_at bytes
tail_at (suc n) s bytes = if s.due == 0 then either_at (is_byte 34) quote_at (and_tail_at (char_at n s) (λ b. tail_at n (after s b))) bytes else and_tail_at (char_at n s) (λ b. tail_at n (after s b)) bytes

-- reads a text in quotes
unfoldable pub string_at : List ℕ → Reads (List ℕ)
string_at bytes = behind_at (codes "\"") (λ t. t) (tail_at 4096 start) bytes

-- ---- reading tests

-- reads a number that is not 0
abbrev pub positive_at : ℕ → List ℕ → Reads ℕ
positive_at bound [] = Err []
positive_at bound (c ∷ cs) = if c == 48 then Err (c ∷ cs) else number_at bound (c ∷ cs)

-- reads a number of 64 bits with a sign
unfoldable pub int_at : List ℕ → Reads Datum
int_at bytes = either_at (is_byte 45) (behind_at (codes "-") (λ n. datum.Int (negsuc (n - 1))) (positive_at 9_223_372_036_854_775_808)) (seen_at (λ n. datum.Int (pos n)) (number_at 9_223_372_036_854_775_807)) bytes

-- reads a value
unfoldable pub value_at : List ℕ → Reads Datum
value_at bytes =
    either_at (is_byte 34) (seen_at (λ t. datum.Text t) string_at)
    (either_at (is_byte 116) (word_at (codes "true") (datum.Bool true)) (either_at (is_byte 102) (word_at (codes "false") (datum.Bool false)) int_at)) bytes

-- reads the name of an end
unfoldable pub end_at : List ℕ → Reads End
end_at bytes = either_at (is_byte 108) (word_at (codes "left") Left) (either_at (is_byte 114) (word_at (codes "right") Right) (either_at (is_byte 116) (word_at (codes "type") Typ) (word_at (codes "scope") Scope))) bytes

-- reads a value below or above which the value is to be, or which it may be too
unfoldable pub bound_at : List ℕ → Relation → Relation → List ℕ → Reads Test
bound_at word strict loose bytes = behind_at word (λ t. t) (either_at (is_byte 61) (behind_at (codes "=") (value loose) value_at) (seen_at (value strict) value_at)) bytes

-- reads what is asked of the value
unfoldable pub asked_at : List ℕ → Reads Test
asked_at bytes =
    either_at (is_byte 61) (behind_at (codes "=") (value equal) value_at)
    (either_at (is_byte 33) (behind_at (codes "!=") (value unequal) value_at)
    (either_at (is_byte 124) (behind_at (codes "|=") value_in (list_at 63 124 value_at))
    (either_at (is_byte 126) (behind_at (codes "~=") value_like string_at)
    (either_at (is_byte 60) (bound_at (codes "<") below at_most) (bound_at (codes ">") above at_least))))) bytes

-- the byte begins the name of an end
abbrev pub begins_end : ℕ → Bool
begins_end c = list_any (is_byte c) (codes "lrts")

-- reads an end and the place that it is to be
unfoldable pub end_test_at : List ℕ → Reads Test
end_test_at bytes = end_at bytes >>= λ e. behind_at (codes "=") (end_is e.0) (number_at max_prims) e.1

-- reads a test
unfoldable pub test_at : List ℕ → Reads Test
test_at bytes =
    either_at begins_end end_test_at
    (either_at (is_byte 111) (word_at (codes "object") is_object)
    (either_at (is_byte 97) (behind_at (codes "at=") place_in (list_at 63 124 (number_at max_prims)))
    (either_at (is_byte 110) (behind_at (codes "not=") place_not (number_at max_prims)) (behind_at (codes "value") (λ t. t) asked_at)))) bytes

-- ---- reading templates

-- reads where a clause leads
unfoldable pub hop_at : List ℕ → Reads Hop
hop_at bytes = either_at (is_byte 60) (behind_at (codes "<-") links_by end_at) (behind_at (codes "->") end_here end_at) bytes

-- reads the mode of a clause and where it leads
unfoldable pub head_at : List ℕ → Reads (Mode × Hop)
head_at bytes = either_at (is_byte 63) (behind_at (codes "?") (λ h. (optional, h)) hop_at) (either_at (is_byte 33) (behind_at (codes "!") (λ h. (forbidden, h)) hop_at) (seen_at (λ h. (required, h)) hop_at)) bytes

-- the byte begins a clause
abbrev pub begins_clause : ℕ → Bool
begins_clause c = list_any (is_byte c) (codes "?!<-")

-- reads an item, its template by this reader
unfoldable pub item_at : (List ℕ → Reads Items) → List ℕ → Reads Item
item_at inner bytes = either_at begins_clause (λ b. head_at b >>= λ h. behind_at (codes " ") (clause h.0.0 h.0.1) inner h.1) (seen_at test test_at) bytes

-- reads at most so many further items and the bracket that ends them
unfoldable pub rest_at : (List ℕ → Reads Items) → ℕ → List ℕ → Reads Items
rest_at inner n bytes = more_at n 32 (item_at inner) bytes >>= λ is. word_at (codes ")") (items_of is.0) is.1

-- reads items and the bracket that ends them
unfoldable pub items_at : (List ℕ → Reads Items) → List ℕ → Reads Items
items_at inner bytes = either_at (is_byte 41) (word_at (codes ")") no_items) (λ b. item_at inner b >>= λ i. seen_at (item i.0) (rest_at inner 63) i.1) bytes

-- reads a template in which at most so many more lie one within the other
unfoldable pub template_at : ℕ → List ℕ → Reads Items
template_at zero bytes = word_at (codes "()") no_items bytes
template_at (suc n) bytes = behind_at (codes "(") (λ items. items) (items_at (template_at n)) bytes

-- the template that all of the bytes spell, or how many of them go with the grammar
abbrev pub template_of : List ℕ → Result Items ℕ
template_of bytes = whole (template_at (length bytes)) bytes
