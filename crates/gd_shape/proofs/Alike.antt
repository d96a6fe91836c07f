-- What is printed one member or answer at a time is what the definitions print.
use Rattle.std.proofs.Common.{◌≡◌, ℕ, List, [], ◌∷◌, length, Bool, Ok, Err, refl, ap, sym, ◌∙◌}
use Rattle.std.specs.Prelude.{if◌then◌else◌}
use Rattle.gd_prim.specs.declared.Primitive.{Primitive}
use Rattle.json.specs.Token.{Token}
use Rattle.gd_bytes.specs.Frozen.{Walk}
use Rattle.gd_grammar.specs.Chain.{◌>>=◌}
use Rattle.gd_tree.specs.Json.{Json, object, Items, item, Members as JsonMembers}
use Rattle.gd_tree.specs.Trees.{Tree, tree, TreeLists, first_list}
use Rattle.gd_defs.specs.Asked.{Style, as_operand, as_value, as_name, as_id, as_clause, Asking, Members, Asked}
use Rattle.gd_defs.specs.Reply.{operand_of, is_clause}
use Rattle.gd_runs.specs.Shape.{Printed, plain_shape, each_shape, list_shape, answers_shape, object_shape, rows_shape}
use Rattle.gd_runs.specs.Shape.Answers.{Ranked, cut}
use Rattle.gd_shape.specs.Outcome.{written}
use Rattle.gd_shape.specs.Printed.{given_or, found_print, as_object, answer_print, asks_print, rows_print}
use Rattle.gd_shape.proofs.Written.{Now}

-- ---- answers

-- what each answer of a member prints, as the definitions have it
abbrev pub ranked_shape : List Primitive → Asking → Members → Ranked → List Walk → Printed Json
ranked_shape prims a c r vs = if is_clause a.style then (object_shape prims c r.0.link r.0.object r.1 vs >>= λ m. Ok (object m.0, m.1)) else Ok (plain_shape prims a r vs)

answer-same : (prims : List Primitive) (a : Asking) (c : Members) (r : Ranked) (ws : List Walk) → ranked_shape prims a c r ws ≡ answer_print prims a c r ws
answer-same prims a c r ws = by a.style refl
  where
    by : (s : Style) → a.style ≡ s → ranked_shape prims a c r ws ≡ answer_print prims a c r ws
    by (as_operand j) is = rw is refl
    by as_value is = rw is refl
    by as_name is = rw is refl
    by as_id is = rw is refl
    by as_clause is = rw is refl

-- an item in front of those that are printed behind it
abbrev put : Json → Items × List Walk → Printed Items
put j js = Ok (item j js.0, js.1)

abbrev more : (List Walk → Printed Items) → Json × List Walk → Printed Items
more rest j = rest j.1 >>= put j.0

-- answers that print the same one by one do so one after another
each-same : (f g : Ranked → List Walk → Printed Json) (rs : List Ranked) (ws : List Walk) → ((r : Ranked) (vs : List Walk) → f r vs ≡ g r vs) → each_shape f rs ws ≡ each_shape g rs ws
each-same f g [] ws same = refl
each-same f g (r ∷ rs) ws same = ap (λ (x : Printed Json). x >>= more (each_shape f rs)) (same r ws) ∙ by (g r ws) (λ vs. each-same f g rs vs same)
  where
    by : (h : Printed Json) → ((vs : List Walk) → each_shape f rs vs ≡ each_shape g rs vs)
        → ◌≡◌ {A = Printed Items} (h >>= more (each_shape f rs)) (h >>= more (each_shape g rs))
    by (Err e) rest = refl
    by (Ok j) rest = ap (λ (x : Printed Items). x >>= put j.0) (rest j.1)

answers-same : (a : Asking) (f : Ranked → List Walk → Printed Json) (found : ℕ) (rs : List Ranked) (ws : List Walk)
    → answers_shape a f found rs ws ≡ given_or (operand_of a.style) ws (found_print a.single a.listed found (each_shape f rs ws))
answers-same a f found rs ws = by a.style refl
  where
    by : (s : Style) → a.style ≡ s → answers_shape a f found rs ws ≡ given_or (operand_of a.style) ws (found_print a.single a.listed found (each_shape f rs ws))
    by (as_operand j) is = rw is refl
    by as_value is = rw is refl
    by as_name is = rw is refl
    by as_id is = rw is refl
    by as_clause is = rw is refl

-- a member that asks a property prints its answers
pub asks-same : (prims : List Primitive) (a : Asking) (c : Members) (ls : TreeLists) (ws : List Walk)
    → answers_shape a (ranked_shape prims a c) (length (first_list ls)) (cut prims a c ls) ws ≡ asks_print prims a c (first_list ls) ws
asks-same prims a c ls ws =
    answers-same a (ranked_shape prims a c) (length (first_list ls)) (cut prims a c ls) ws
    ∙ ap (λ x. given_or (operand_of a.style) ws (found_print a.single a.listed (length (first_list ls)) x))
    (each-same (ranked_shape prims a c) (answer_print prims a c) (cut prims a c ls) ws (λ r vs. answer-same prims a c r vs))

-- ---- rows and the page

rows-same : (prims : List Primitive) (ms : Members) (ts : List Tree) (ws : List Walk) → rows_shape prims ms ts ws ≡ rows_print prims ms ts ws
rows-same prims ms [] ws = refl
rows-same prims ms (tree o ls ∷ ts) ws = by (object_shape prims ms 0 o ls ws) (λ vs. rows-same prims ms ts vs)
  where
    by : (h : Printed JsonMembers) → ((vs : List Walk) → rows_shape prims ms ts vs ≡ rows_print prims ms ts vs)
        → ◌≡◌ {A = Printed Items} (h >>= λ m. more (rows_shape prims ms ts) (object m.0, m.1)) (as_object h >>= more (rows_print prims ms ts))
    by (Err e) rest = refl
    by (Ok m) rest = ap (λ (x : Printed Items). x >>= put (object m.0)) (rest m.1)

-- what is written of a page's rows is what the page prints
pub page_written : (prims : List Primitive) (q : Asked) (ts : List Tree) (ms : Members) (listed : Bool) (old : List Token) (ws : List Walk) (r : Now) → q.listed ≡ listed → ms ≡ q.members
    → r ≡ written old (list_shape listed (rows_print prims ms ts ws)) → r ≡ written old (list_shape q.listed (rows_shape prims q.members ts ws))
page_written prims q ts ms listed old ws r is same rows =
    rows ∙ ap (λ ks. written old (list_shape listed (rows_print prims ks ts ws))) same
    ∙ ap (λ b. written old (list_shape b (rows_print prims q.members ts ws))) (sym is)
    ∙ ap (λ x. written old (list_shape q.listed x)) (sym (rows-same prims q.members ts ws))
