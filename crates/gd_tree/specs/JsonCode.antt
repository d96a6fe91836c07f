-- A code of the JSON tree, by which a struct may have the tree as its model: the tree as the steps that build it on a stack.
use Rattle.std.specs.Prelude.{◌≡◌, ℕ, ℤ, pos, List, [], ◌∷◌, ◌++◌, true, false, ◌==◌, if◌then◌else◌, refl}
use Rattle.std.specs.Coded.{Coded, code_by, coded×, coded_ℕ, coded_ℤ, coded_list}
use Rattle.std.proofs.Common.{◌∙◌, ap}
use Rattle.gd_tree.specs.Json.{Json, null, boolean, number, text, list, object, Items, no_items, item, Members, no_members, member}

-- a step: what it pushes, or what it makes of the top of the stack
pub data Step : Type 0 where
  push_null push_true push_false push_no_items push_no_members : Step
  push_number : ℤ → Step
  push_text : List ℕ → Step
  make_item make_list make_object : Step
  make_member : List ℕ → Step

-- what may lie on the stack
pub data Cell : Type 0 where
  a_value : Json → Cell
  some_items : Items → Cell
  some_members : Members → Cell

-- the stack after a step
abbrev step : Step → List Cell → List Cell
step push_null cs = a_value null ∷ cs
step push_true cs = a_value (boolean true) ∷ cs
step push_false cs = a_value (boolean false) ∷ cs
step push_no_items cs = some_items no_items ∷ cs
step push_no_members cs = some_members no_members ∷ cs
step (push_number n) cs = a_value (number n) ∷ cs
step (push_text t) cs = a_value (text t) ∷ cs
step make_item (a_value j ∷ some_items js ∷ cs) = some_items (item j js) ∷ cs
step make_list (some_items js ∷ cs) = a_value (list js) ∷ cs
step (make_member k) (a_value j ∷ some_members ms ∷ cs) = some_members (member k j ms) ∷ cs
step make_object (some_members ms ∷ cs) = a_value (object ms) ∷ cs
step _ cs = cs

-- the stack after steps, one after another
abbrev run : List Step → List Cell → List Cell
run [] cs = cs
run (s ∷ ss) cs = run ss (step s cs)

abbrev mutual
  -- the steps that build a value
  steps : Json → List Step
  steps null = push_null ∷ []
  steps (boolean true) = push_true ∷ []
  steps (boolean false) = push_false ∷ []
  steps (number n) = push_number n ∷ []
  steps (text t) = push_text t ∷ []
  steps (list js) = items_steps js ++ make_list ∷ []
  steps (object ms) = members_steps ms ++ make_object ∷ []

  -- the steps that build items, from the last one on
  items_steps : Items → List Step
  items_steps no_items = push_no_items ∷ []
  items_steps (item j js) = items_steps js ++ (steps j ++ make_item ∷ [])

  -- the steps that build members, from the last one on
  members_steps : Members → List Step
  members_steps no_members = push_no_members ∷ []
  members_steps (member k j ms) = members_steps ms ++ (steps j ++ make_member k ∷ [])

-- the value that lies on top of a stack
abbrev top : List Cell → Json
top (a_value j ∷ cs) = j
top _ = null

-- steps and then others make what the others make of what the first made
run-append : (xs ys : List Step) (cs : List Cell) → run (xs ++ ys) cs ≡ run ys (run xs cs)
run-append [] ys cs = refl
run-append (x ∷ xs) ys cs = run-append xs ys (step x cs)

mutual
  -- the steps of a value push it
  pub run-steps : (j : Json) (cs : List Cell) → run (steps j) cs ≡ a_value j ∷ cs
  run-steps null cs = refl
  run-steps (boolean true) cs = refl
  run-steps (boolean false) cs = refl
  run-steps (number n) cs = refl
  run-steps (text t) cs = refl
  run-steps (list js) cs = run-append (items_steps js) (make_list ∷ []) cs ∙ ap (run (make_list ∷ [])) (run-items js cs)
  run-steps (object ms) cs = run-append (members_steps ms) (make_object ∷ []) cs ∙ ap (run (make_object ∷ [])) (run-members ms cs)

  -- the steps of items push them
  pub run-items : (js : Items) (cs : List Cell) → run (items_steps js) cs ≡ some_items js ∷ cs
  run-items no_items cs = refl
  run-items (item j js) cs = run-append (items_steps js) (steps j ++ make_item ∷ []) cs ∙ ap (run (steps j ++ make_item ∷ [])) (run-items js cs)
      ∙ run-append (steps j) (make_item ∷ []) (some_items js ∷ cs) ∙ ap (run (make_item ∷ [])) (run-steps j (some_items js ∷ cs))

  -- the steps of members push them
  pub run-members : (ms : Members) (cs : List Cell) → run (members_steps ms) cs ≡ some_members ms ∷ cs
  run-members no_members cs = refl
  run-members (member k j ms) cs = run-append (members_steps ms) (steps j ++ make_member k ∷ []) cs ∙ ap (run (steps j ++ make_member k ∷ [])) (run-members ms cs)
      ∙ run-append (steps j) (make_member k ∷ []) (some_members ms ∷ cs) ∙ ap (run (make_member k ∷ [])) (run-steps j (some_members ms ∷ cs))

-- a step as a number, a signed number and bytes
abbrev to_parts : Step → ℕ × (ℤ × List ℕ)
to_parts push_null = (0, (pos 0, []))
to_parts push_true = (1, (pos 0, []))
to_parts push_false = (2, (pos 0, []))
to_parts push_no_items = (3, (pos 0, []))
to_parts push_no_members = (4, (pos 0, []))
to_parts (push_number n) = (5, (n, []))
to_parts (push_text t) = (6, (pos 0, t))
to_parts make_item = (7, (pos 0, []))
to_parts make_list = (8, (pos 0, []))
to_parts make_object = (9, (pos 0, []))
to_parts (make_member k) = (10, (pos 0, k))

-- the step that such parts spell
abbrev from_parts : ℕ × (ℤ × List ℕ) → Step
from_parts p = if p.0 == 0 then push_null else if p.0 == 1 then push_true else if p.0 == 2 then push_false else if p.0 == 3 then push_no_items
    else if p.0 == 4 then push_no_members else if p.0 == 5 then push_number p.1.0 else if p.0 == 6 then push_text p.1.1 else if p.0 == 7 then make_item
    else if p.0 == 8 then make_list else if p.0 == 9 then make_object else make_member p.1.1

-- the parts of a step spell it
pub from_parts-to_parts : (s : Step) → from_parts (to_parts s) ≡ s
from_parts-to_parts push_null = refl
from_parts-to_parts push_true = refl
from_parts-to_parts push_false = refl
from_parts-to_parts push_no_items = refl
from_parts-to_parts push_no_members = refl
from_parts-to_parts (push_number n) = refl
from_parts-to_parts (push_text t) = refl
from_parts-to_parts make_item = refl
from_parts-to_parts make_list = refl
from_parts-to_parts make_object = refl
from_parts-to_parts (make_member k) = refl

-- the code of steps
abbrev steps_code : Coded (List Step)
steps_code = coded_list (code_by (ℕ × (ℤ × List ℕ)) (coded× coded_ℕ (coded× coded_ℤ (coded_list coded_ℕ))) to_parts from_parts from_parts-to_parts)

-- the code of a JSON tree
abbrev pub json_code : Coded Json
json_code = code_by (List Step) steps_code steps (λ ss. top (run ss [])) (λ j. ap top (run-steps j []))
