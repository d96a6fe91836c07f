-- A code of the members of a write, by which a struct may have a history as its model: the tree as the steps that build it on a stack.
use Rattle.std.specs.Prelude.{◌≡◌, ℕ, List, [], ◌∷◌, ◌++◌, Bool, false, Option, None, ◌==◌, if◌then◌else◌, refl}
use Rattle.std.specs.Coded.{Coded, code_by, coded×, coded_ℕ, coded_bool, coded_list, coded_option}
use Rattle.std.proofs.Common.{◌∙◌, ap}
use Rattle.gd_tree.specs.Json.{Json, null, object, Members as JsonMembers, no_members as no_json_members}
use Rattle.gd_tree.specs.JsonCode.{json_code}
use Rattle.gd_defs.specs.Query.Names.{Operator, no_operator, one_of, differs, below, at_most, above, at_least, words, Name}
use Rattle.gd_defs.specs.Change.{ConnectWord, insert, delete, update, CreateWord, unless_exists, unconditional, Target, to_id, to_literal, to_text, to_key, Item, blank, plain, fact, connect, nested, several, ManyItems, no_more, and_then, Members, no_members, member, created}

-- ---- codes of the parts

abbrev connect_number : ConnectWord → ℕ
connect_number insert = 0
connect_number delete = 1
connect_number update = 2

abbrev connect_of : ℕ → ConnectWord
connect_of n = if n == 0 then insert else if n == 1 then delete else update

pub connect_back : (w : ConnectWord) → connect_of (connect_number w) ≡ w
connect_back insert = refl
connect_back delete = refl
connect_back update = refl

abbrev create_number : CreateWord → ℕ
create_number unless_exists = 0
create_number unconditional = 1

abbrev create_of : ℕ → CreateWord
create_of n = if n == 0 then unless_exists else unconditional

pub create_back : (w : CreateWord) → create_of (create_number w) ≡ w
create_back unless_exists = refl
create_back unconditional = refl

abbrev operator_number : Operator → ℕ
operator_number no_operator = 0
operator_number one_of = 1
operator_number differs = 2
operator_number below = 3
operator_number at_most = 4
operator_number above = 5
operator_number at_least = 6
operator_number words = 7

abbrev operator_of : ℕ → Operator
operator_of n = if n == 0 then no_operator else if n == 1 then one_of else if n == 2 then differs else if n == 3 then below else if n == 4 then at_most else if n == 5 then above else if n == 6 then at_least else words

pub operator_back : (o : Operator) → operator_of (operator_number o) ≡ o
operator_back no_operator = refl
operator_back one_of = refl
operator_back differs = refl
operator_back below = refl
operator_back at_most = refl
operator_back above = refl
operator_back at_least = refl
operator_back words = refl

abbrev target_parts : Target → ℕ × (List ℕ × Json)
target_parts (to_id t) = (0, (t, null))
target_parts (to_literal j) = (1, ([], j))
target_parts (to_text t j) = (2, (t, j))
target_parts (to_key t j) = (3, (t, j))

abbrev target_from : ℕ × (List ℕ × Json) → Target
target_from p = if p.0 == 0 then to_id p.1.0 else if p.0 == 1 then to_literal p.1.1 else if p.0 == 2 then to_text p.1.0 p.1.1 else to_key p.1.0 p.1.1

pub target_back : (t : Target) → target_from (target_parts t) ≡ t
target_back (to_id t) = refl
target_back (to_literal j) = refl
target_back (to_text t j) = refl
target_back (to_key t j) = refl

abbrev members_in : Json → JsonMembers
members_in (object ms) = ms
members_in _ = no_json_members

abbrev operator_code : Coded Operator
operator_code = code_by ℕ coded_ℕ operator_number operator_of operator_back

abbrev name_code : Coded Name
name_code = code_by (List ℕ × (Bool × (List ℕ × Operator))) (coded× (coded_list coded_ℕ) (coded× coded_bool (coded× (coded_list coded_ℕ) operator_code)))
    (λ n. (n.spelled, (n.reversed, (n.word, n.operator)))) (λ p. record { spelled = p.0; reversed = p.1.0; word = p.1.1.0; operator = p.1.1.1 }) (λ n. refl)

abbrev json_members_code : Coded JsonMembers
json_members_code = code_by Json json_code object members_in (λ ms. refl)

abbrev target_code : Coded Target
target_code = code_by (ℕ × (List ℕ × Json)) (coded× coded_ℕ (coded× (coded_list coded_ℕ) json_code)) target_parts target_from target_back

-- ---- steps

-- a step: what it pushes, or what it makes of the top of the stack
pub data Step : Type 0 where
  push_blank push_no_more push_no_members : Step
  push_plain : Json → Step
  push_fact : Target → JsonMembers → Step
  push_connect : ConnectWord → Target → Option ℕ → JsonMembers → Step
  make_nested : CreateWord → Step
  make_several make_and_then : Step
  make_member : Name → Step
  make_created : CreateWord → Step

-- what may lie on the stack
pub data Cell : Type 0 where
  an_item : Item → Cell
  many_items : ManyItems → Cell
  some_members : Members → Cell

-- the stack after a step
abbrev step : Step → List Cell → List Cell
step push_blank cs = an_item blank ∷ cs
step push_no_more cs = many_items no_more ∷ cs
step push_no_members cs = some_members no_members ∷ cs
step (push_plain j) cs = an_item (plain j) ∷ cs
step (push_fact t ms) cs = an_item (fact t ms) ∷ cs
step (push_connect w t p ms) cs = an_item (connect w t p ms) ∷ cs
step (make_nested w) (some_members ms ∷ cs) = an_item (nested w ms) ∷ cs
step make_several (many_items is ∷ cs) = an_item (several is) ∷ cs
step make_and_then (an_item i ∷ many_items is ∷ cs) = many_items (and_then i is) ∷ cs
step (make_member n) (an_item i ∷ some_members ms ∷ cs) = some_members (member n i ms) ∷ cs
step (make_created w) (some_members ms ∷ cs) = some_members (created w ms) ∷ cs
step _ cs = cs

-- the stack after steps, one after another
abbrev run : List Step → List Cell → List Cell
run [] cs = cs
run (s ∷ ss) cs = run ss (step s cs)

abbrev mutual
  -- the steps that build an item
  item_steps : Item → List Step
  item_steps blank = push_blank ∷ []
  item_steps (plain j) = push_plain j ∷ []
  item_steps (fact t ms) = push_fact t ms ∷ []
  item_steps (connect w t p ms) = push_connect w t p ms ∷ []
  item_steps (nested w ms) = members_steps ms ++ make_nested w ∷ []
  item_steps (several is) = many_steps is ++ make_several ∷ []

  -- the steps that build items, from the last one on
  many_steps : ManyItems → List Step
  many_steps no_more = push_no_more ∷ []
  many_steps (and_then i is) = many_steps is ++ (item_steps i ++ make_and_then ∷ [])

  -- the steps that build members, from the last one on
  members_steps : Members → List Step
  members_steps no_members = push_no_members ∷ []
  members_steps (member n i ms) = members_steps ms ++ (item_steps i ++ make_member n ∷ [])
  members_steps (created w ms) = members_steps ms ++ make_created w ∷ []

-- the members that lie on top of a stack
abbrev top : List Cell → Members
top (some_members ms ∷ cs) = ms
top _ = no_members

-- steps and then others make what the others make of what the first made
run-append : (xs ys : List Step) (cs : List Cell) → run (xs ++ ys) cs ≡ run ys (run xs cs)
run-append [] ys cs = refl
run-append (x ∷ xs) ys cs = run-append xs ys (step x cs)

mutual
  -- the steps of an item push it
  pub run-item : (i : Item) (cs : List Cell) → run (item_steps i) cs ≡ an_item i ∷ cs
  run-item blank cs = refl
  run-item (plain j) cs = refl
  run-item (fact t ms) cs = refl
  run-item (connect w t p ms) cs = refl
  run-item (nested w ms) cs = run-append (members_steps ms) (make_nested w ∷ []) cs ∙ ap (run (make_nested w ∷ [])) (run-members ms cs)
  run-item (several is) cs = run-append (many_steps is) (make_several ∷ []) cs ∙ ap (run (make_several ∷ [])) (run-many is cs)

  -- the steps of items push them
  pub run-many : (is : ManyItems) (cs : List Cell) → run (many_steps is) cs ≡ many_items is ∷ cs
  run-many no_more cs = refl
  run-many (and_then i is) cs = run-append (many_steps is) (item_steps i ++ make_and_then ∷ []) cs ∙ ap (run (item_steps i ++ make_and_then ∷ [])) (run-many is cs)
      ∙ run-append (item_steps i) (make_and_then ∷ []) (many_items is ∷ cs) ∙ ap (run (make_and_then ∷ [])) (run-item i (many_items is ∷ cs))

  -- the steps of members push them
  pub run-members : (ms : Members) (cs : List Cell) → run (members_steps ms) cs ≡ some_members ms ∷ cs
  run-members no_members cs = refl
  run-members (member n i ms) cs = run-append (members_steps ms) (item_steps i ++ make_member n ∷ []) cs ∙ ap (run (item_steps i ++ make_member n ∷ [])) (run-members ms cs)
      ∙ run-append (item_steps i) (make_member n ∷ []) (some_members ms ∷ cs) ∙ ap (run (make_member n ∷ [])) (run-item i (some_members ms ∷ cs))
  run-members (created w ms) cs = run-append (members_steps ms) (make_created w ∷ []) cs ∙ ap (run (make_created w ∷ [])) (run-members ms cs)

-- a step by its kind and by all that steps may have
abbrev Parts : Type 0
Parts = ℕ × (ConnectWord × (CreateWord × (Json × (JsonMembers × (Target × (Option ℕ × Name))))))

abbrev no_name : Name
no_name = record { spelled = []; reversed = false; word = []; operator = no_operator }

abbrev alone : ℕ → Parts
alone n = (n, (insert, (unconditional, (null, (no_json_members, (to_id [], (None, no_name)))))))

abbrev to_parts : Step → Parts
to_parts push_blank = alone 0
to_parts push_no_more = alone 1
to_parts push_no_members = alone 2
to_parts (push_plain j) = (3, (insert, (unconditional, (j, (no_json_members, (to_id [], (None, no_name)))))))
to_parts (push_fact t ms) = (4, (insert, (unconditional, (null, (ms, (t, (None, no_name)))))))
to_parts (push_connect w t p ms) = (5, (w, (unconditional, (null, (ms, (t, (p, no_name)))))))
to_parts (make_nested w) = (6, (insert, (w, (null, (no_json_members, (to_id [], (None, no_name)))))))
to_parts make_several = alone 7
to_parts make_and_then = alone 8
to_parts (make_member n) = (9, (insert, (unconditional, (null, (no_json_members, (to_id [], (None, n)))))))
to_parts (make_created w) = (10, (insert, (w, (null, (no_json_members, (to_id [], (None, no_name)))))))

-- the step that such parts spell
abbrev from_parts : Parts → Step
from_parts (kind, (w, (c, (j, (ms, (t, (p, n))))))) = if kind == 0 then push_blank else if kind == 1 then push_no_more else if kind == 2 then push_no_members else if kind == 3 then push_plain j
    else if kind == 4 then push_fact t ms else if kind == 5 then push_connect w t p ms else if kind == 6 then make_nested c else if kind == 7 then make_several
    else if kind == 8 then make_and_then else if kind == 9 then make_member n else make_created c

-- the parts of a step spell it
pub from_parts-to_parts : (s : Step) → from_parts (to_parts s) ≡ s
from_parts-to_parts push_blank = refl
from_parts-to_parts push_no_more = refl
from_parts-to_parts push_no_members = refl
from_parts-to_parts (push_plain j) = refl
from_parts-to_parts (push_fact t ms) = refl
from_parts-to_parts (push_connect w t p ms) = refl
from_parts-to_parts (make_nested w) = refl
from_parts-to_parts make_several = refl
from_parts-to_parts make_and_then = refl
from_parts-to_parts (make_member n) = refl
from_parts-to_parts (make_created w) = refl

-- the code of a step
abbrev step_code : Coded Step
step_code = code_by Parts (coded× coded_ℕ (coded× (code_by ℕ coded_ℕ connect_number connect_of connect_back) (coded× (code_by ℕ coded_ℕ create_number create_of create_back)
    (coded× json_code (coded× json_members_code (coded× target_code (coded× (coded_option coded_ℕ) name_code))))))) to_parts from_parts from_parts-to_parts

-- the code of the members of a write
abbrev pub members_code : Coded Members
members_code = code_by (List Step) (coded_list step_code) members_steps (λ ss. top (run ss [])) (λ ms. ap top (run-members ms []))
