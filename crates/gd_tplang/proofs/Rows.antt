-- Worked rows of lines and their answers over the built-in list.
use Rattle.std.specs.Prelude.{◌≡◌, refl, codes, ℕ, zero, suc, List, [], ◌∷◌, ◌++◌, None, false}
use Rattle.std.specs.Fmt.{digits}
use Rattle.gd_base.specs.declared.datum.Datum.TheVariants.{Text}
use Rattle.gd_prim.specs.declared.Primitive.{Primitive}
use Rattle.gd_prim.specs.Builtin.{builtin}
use Rattle.gd_prim.specs.New.{link, newer}
use Rattle.gd_utf8.specs.Utf8.{may_come, after}
use Rattle.gd_tplang.specs.Written.{tail_at, string_at, int_at, value_at, end_at, bound_at, asked_at, end_test_at, test_at, hop_at, head_at, item_at, rest_at, items_at, template_at}
use Rattle.gd_tplang.specs.Meaning.{answer}

-- what is no template goes so far with the grammar
end_misspelled : answer (codes "(typ=") builtin ≡ codes "! bad 4"
unfolding digits template_at items_at item_at rest_at test_at end_test_at end_at
end_misspelled = refl

-- a place past the greatest one, 0 with a sign, a byte behind a stroke that needs none, and two spaces
great_place : answer (codes "(at=2097152)") builtin ≡ codes "! bad 10"
unfolding digits template_at items_at item_at rest_at test_at end_test_at end_at
great_place = refl

signed_zero : answer (codes "(value=-0)") builtin ≡ codes "! bad 8"
unfolding digits template_at items_at item_at rest_at test_at end_test_at end_at asked_at value_at string_at tail_at int_at bound_at
signed_zero = refl

stroke : answer (codes "(value~=\"a\\b\")") builtin ≡ codes "! bad 11"
unfolding digits template_at items_at item_at rest_at test_at end_test_at end_at asked_at value_at string_at tail_at int_at bound_at may_come after
stroke = refl

two_spaces : answer (codes "(object  object)") builtin ≡ codes "! bad 8"
unfolding digits template_at items_at item_at rest_at test_at end_test_at end_at
two_spaces = refl

-- places that are named, each once and in rising order; another one; none; an end; no typ
named : answer (codes "(at=5|3|5)") builtin ≡ codes "[3;5]"
unfolding digits template_at items_at item_at rest_at test_at end_test_at end_at
named = refl

another : answer (codes "(at=0|1|2 not=1)") builtin ≡ codes "[0;2]"
unfolding digits template_at items_at item_at rest_at test_at end_test_at end_at
another = refl

two_others : answer (codes "(not=0|1)") builtin ≡ codes "! bad 6"
unfolding digits template_at items_at item_at rest_at test_at end_test_at end_at
two_others = refl

none : answer (codes "(scope=0)") builtin ≡ codes "[]"
unfolding digits template_at items_at item_at rest_at test_at end_test_at end_at
none = refl

left_end : answer (codes "(left=5)") builtin ≡ codes "[23;41;68]"
unfolding digits template_at items_at item_at rest_at test_at end_test_at end_at
left_end = refl

right_end : answer (codes "(right=7)") builtin ≡ codes "[55]"
unfolding digits template_at items_at item_at rest_at test_at end_test_at end_at
right_end = refl

objects : answer (codes "(at=3|65 object)") builtin ≡ codes "[3]"
unfolding digits template_at items_at item_at rest_at test_at end_test_at end_at
objects = refl

-- values
truths : answer (codes "(type=17 value=true)") builtin ≡ codes "[61;62;63;64]"
unfolding digits template_at items_at item_at rest_at test_at end_test_at end_at asked_at value_at string_at tail_at int_at bound_at
truths = refl

one_text : answer (codes "(type=13 value=\"Type\")") builtin ≡ codes "[67;68]"
unfolding digits template_at items_at item_at rest_at test_at end_test_at end_at asked_at value_at string_at tail_at int_at bound_at may_come after
one_text = refl

other_texts : answer (codes "(type=13 value!=\"Type\")") builtin ≡ codes "[65;66;69]"
unfolding digits template_at items_at item_at rest_at test_at end_test_at end_at asked_at value_at string_at tail_at int_at bound_at may_come after
other_texts = refl

texts_below : answer (codes "(type=13 value<\"Root\")") builtin ≡ codes "[65;69]"
unfolding digits template_at items_at item_at rest_at test_at end_test_at end_at asked_at value_at string_at tail_at int_at bound_at may_come after
texts_below = refl

texts_from : answer (codes "(type=13 value>=\"Root\")") builtin ≡ codes "[66;67;68]"
unfolding digits template_at items_at item_at rest_at test_at end_test_at end_at asked_at value_at string_at tail_at int_at bound_at may_come after
texts_from = refl

some_texts : answer (codes "(type=13 value|=\"Type\"|\"Root\")") builtin ≡ codes "[66;67;68]"
unfolding digits template_at items_at item_at rest_at test_at end_test_at end_at asked_at value_at string_at tail_at int_at bound_at may_come after
some_texts = refl

words : answer (codes "(type=13 value~=\"ro*\")") builtin ≡ codes "[66]"
unfolding digits template_at items_at item_at rest_at test_at end_test_at end_at asked_at value_at string_at tail_at int_at bound_at may_come after
words = refl

-- clauses: links, ends, an answer that need not be there, one that may not, and clauses within
one_link : answer (codes "(at=5 <-left (type=13))") builtin ≡ codes "[5([68])]"
unfolding digits template_at items_at item_at rest_at test_at end_test_at end_at hop_at head_at
one_link = refl

two_clauses : answer (codes "(at=5 <-left (type=14) <-left (type=13))") builtin ≡ codes "[5([41],[68])]"
unfolding digits template_at items_at item_at rest_at test_at end_test_at end_at hop_at head_at
two_clauses = refl

own_end : answer (codes "(type=16 right=5 ->left ())") builtin ≡ codes "[56([14]);58([16])]"
unfolding digits template_at items_at item_at rest_at test_at end_test_at end_at hop_at head_at
own_end = refl

optional : answer (codes "(at=3|4 ?<-left (type=13))") builtin ≡ codes "[3([65]);4([])]"
unfolding digits template_at items_at item_at rest_at test_at end_test_at end_at hop_at head_at
optional = refl

forbidden : answer (codes "(at=3|4 !<-left (type=13))") builtin ≡ codes "[4([])]"
unfolding digits template_at items_at item_at rest_at test_at end_test_at end_at hop_at head_at
forbidden = refl

nested : answer (codes "(at=12 <-right (type=14 ->left (<-left (type=13))))") builtin ≡ codes "[12([37([0([66])]);38([1([67])])])]"
unfolding digits template_at items_at item_at rest_at test_at end_test_at end_at hop_at head_at
nested = refl

-- a link that is no longer live is not told, nor is what ended it
ended : Primitive
ended = newer 68 false (link 5 None 13 (Text (codes "Type")) 0)

link_ended : answer (codes "(at=5 ?<-left (type=13))") (builtin ++ ended ∷ []) ≡ codes "[5([])]"
unfolding ended digits template_at items_at item_at rest_at test_at end_test_at end_at hop_at head_at
link_ended = refl

-- a text that is no pattern is told before the depth, and what is no template before both
no_pattern : answer (codes "(value~=\"a  b\")") builtin ≡ codes "! pattern"
unfolding digits template_at items_at item_at rest_at test_at end_test_at end_at asked_at value_at string_at tail_at int_at bound_at may_come after
no_pattern = refl

-- so many clauses, each within the one before, and a template within the last
abbrev within : ℕ → List ℕ
within zero = codes "()"
within (suc n) = codes "(<-left " ++ (within n ++ codes ")")

-- 33 templates, one within the other
too_deep : answer (within 32) builtin ≡ codes "! deep"
unfolding digits template_at items_at item_at rest_at test_at end_test_at end_at hop_at head_at
too_deep = refl

-- nothing may stand behind a template
byte_behind : answer (within 32 ++ codes ")") builtin ≡ codes "! bad 290"
unfolding digits template_at items_at item_at rest_at test_at end_test_at end_at hop_at head_at
byte_behind = refl

-- the same bytes so many times
abbrev times : ℕ → List ℕ → List ℕ
times zero bytes = []
times (suc n) bytes = bytes ++ times n bytes

-- a list has 64 parts at most, and a template 64 items
list_of_64 : answer (codes "(at=69" ++ (times 63 (codes "|0") ++ codes ")")) builtin ≡ codes "[0;69]"
unfolding digits template_at items_at item_at rest_at test_at end_test_at end_at
list_of_64 = refl

list_of_65 : answer (codes "(at=69" ++ (times 64 (codes "|0") ++ codes ")")) builtin ≡ codes "! bad 132"
unfolding digits template_at items_at item_at rest_at test_at end_test_at end_at
list_of_65 = refl

items_of_64 : answer (codes "(at=69" ++ (times 63 (codes " type=13") ++ codes ")")) builtin ≡ codes "[69]"
unfolding digits template_at items_at item_at rest_at test_at end_test_at end_at
items_of_64 = refl

items_of_65 : answer (codes "(at=69" ++ (times 64 (codes " type=13") ++ codes ")")) builtin ≡ codes "! bad 510"
unfolding digits template_at items_at item_at rest_at test_at end_test_at end_at
items_of_65 = refl
