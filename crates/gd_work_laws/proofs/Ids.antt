-- The ids that a page prints are no more than it prints answers and ids.
use Rattle.std.proofs.Common.{◌≡◌, ◌∙◌, ℕ, ◌+◌, ◌≤◌, List, [], ◌∷◌, ◌++◌, length, map, take, Bool, true, false, Option, Some, None, inl, inr, refl, sym, ap, subst, arith, length-append}
use Rattle.std.specs.Prelude.{sum_by, is_some, if◌then◌else◌}
use Rattle.std.proofs.lemmas.List.Sums.{sum_by-cons}
use Rattle.gd_base.specs.declared.datum.Datum.{Datum}
use Rattle.gd_base.specs.declared.datum.Datum.TheVariants as datum
use Rattle.gd_prim.specs.declared.Primitive.{Primitive}
use Rattle.gd_tree.specs.Json.{Json}
use Rattle.gd_tree.specs.Trees.{TreeLists}
use Rattle.gd_defs.specs.Data.{Kind, of_text}
use Rattle.gd_defs.specs.Property.{Expects, a_value, a_key, an_object_of_system, a_plain_object, answer_datum}
use Rattle.gd_defs.specs.Asked.{Own, its_id, its_guid, its_timestamp, its_link, its_value, its_namespace, its_lang, Style, as_operand, as_value, as_name, as_id, as_clause, SortKey, Asking, Members, no_members, own, asks, Asked}
use Rattle.gd_defs.specs.Rows.{Row, row_of, met, far, printed, own_datum}
use Rattle.gd_defs.specs.Reply.{is_clause, operand_of}
use Rattle.gd_defs.specs.Plan.{answers_of, link_template, clauses_of, template_of}
use Rattle.gd_defs.specs.Template.{tree_of, clause_lists}
use Rattle.gd_match_laws.specs.PassedOn.{printed_count, id_count, own_ids, style_ids, Ranked, ranked, answer_of, cut}
use Rattle.gd_template_laws.specs.Fits.{IsTyped, AsksValues, AsksObjects, IsAsked, AreAsked, ValueMembers}
use Rattle.gd_match_laws.proofs.PassedOn.{found_lists, cut-objects, cut-values, printed-values, carried, AnswersObjects, answer_of-link, place_of-tree}
use Rattle.gd_match_laws.specs.Walks.{id_of, own_listed, where_id, unless_operand, each_listed, object_listed, rows_listed}

-- ---- single ids

ids_counted : (d : Datum) → length (id_of d) ≡ id_count d
ids_counted (datum.Object o) = refl
ids_counted (datum.Bool b) = refl
ids_counted (datum.Int n) = refl
ids_counted (datum.Moment n p) = refl
ids_counted (datum.Text t) = refl
ids_counted datum.Empty = refl

own_counted : (prims : List Primitive) (w : Own) (j : Option Json) (link o : ℕ) → length (own_listed prims w j link o) ≡ own_ids prims w j link o
own_counted prims its_id (Some j) link o = refl
own_counted prims its_guid (Some j) link o = refl
own_counted prims its_timestamp (Some j) link o = refl
own_counted prims its_link (Some j) link o = refl
own_counted prims its_value (Some j) link o = refl
own_counted prims its_namespace (Some j) link o = refl
own_counted prims its_lang (Some j) link o = refl
own_counted prims its_id None link o = ids_counted (own_datum prims its_id link o)
own_counted prims its_guid None link o = refl
own_counted prims its_timestamp None link o = refl
own_counted prims its_link None link o = refl
own_counted prims its_value None link o = refl
own_counted prims its_namespace None link o = ids_counted (own_datum prims its_namespace link o)
own_counted prims its_lang None link o = ids_counted (own_datum prims its_lang link o)

styled : (prims : List Primitive) (a : Asking) (link : ℕ) → length (where_id a.style (id_of (answer_datum prims a.property link))) ≡ style_ids prims a link
styled prims a link = by a.style refl
  where
    by : (s : Style) → a.style ≡ s → length (where_id a.style (id_of (answer_datum prims a.property link))) ≡ style_ids prims a link
    by (as_operand j) is = rw is refl
    by as_value is = rw is refl
    by as_name is = rw is refl
    by as_id is = rw is (ids_counted (answer_datum prims a.property link))
    by as_clause is = rw is refl

two : (xs ys : List ℕ) (m n : ℕ) → length xs ≤ m → length ys ≤ n → length (xs ++ ys) ≤ m + n
two xs ys m n one rest = by _ (length-append xs ys)
  where
    by : (t : ℕ) → t ≡ length xs + length ys → t ≤ m + n
    by t is = omega (arith, is, one, rest)

-- ---- values print what their link tells

value_listed : (prims : List Primitive) (k : Kind) (keys : Bool) (c : Members) → ValueMembers k keys c → (link y z : ℕ) (ls : TreeLists) → length (object_listed prims c link y ls) ≤ printed_count prims c link z
value_listed prims k keys no_members are link y z ls = omega arith
value_listed prims k keys (own name its_link t j ms) are link y z ls = two (own_listed prims its_link j link y) _ _ _ (same (own_counted prims its_link j link y)) (value_listed prims k keys ms are.1 link y z ls)
  where
    same : length (own_listed prims its_link j link y) ≡ own_ids prims its_link j link y → length (own_listed prims its_link j link y) ≤ own_ids prims its_link j link z
    same is = by j is
      where
        by : (j : Option Json) → length (own_listed prims its_link j link y) ≡ own_ids prims its_link j link y → length (own_listed prims its_link j link y) ≤ own_ids prims its_link j link z
        by None is = omega arith
        by (Some x) is = omega arith
value_listed prims k keys (own name its_value t j ms) are link y z ls = two (own_listed prims its_value j link y) _ _ _ (by j) (value_listed prims k keys ms are.1 link y z ls)
  where
    by : (j : Option Json) → length (own_listed prims its_value j link y) ≤ own_ids prims its_value j link z
    by None = omega arith
    by (Some x) = omega arith
value_listed prims k keys (own name its_namespace t j ms) are link y z ls = two (own_listed prims its_namespace j link y) _ _ _ (by j) (value_listed prims k keys ms are.2 link y z ls)
  where
    same : (a b : ℕ) → a ≡ b → a ≤ b
    same a b is = omega (arith, is)

    by : (j : Option Json) → length (own_listed prims its_namespace j link y) ≤ own_ids prims its_namespace j link z
    by None = same _ _ (ids_counted (own_datum prims its_namespace link y))
    by (Some x) = omega arith
value_listed prims k keys (own name its_lang t j ms) are link y z ls = two (own_listed prims its_lang j link y) _ _ _ (by j) (value_listed prims k keys ms are.1 link y z ls)
  where
    same : (a b : ℕ) → a ≡ b → a ≤ b
    same a b is = omega (arith, is)

    by : (j : Option Json) → length (own_listed prims its_lang j link y) ≤ own_ids prims its_lang j link z
    by None = same _ _ (ids_counted (own_datum prims its_lang link y))
    by (Some x) = omega arith
value_listed prims k keys (own name its_id t j ms) are link y z ls = absurd are
value_listed prims k keys (own name its_guid t j ms) are link y z ls = absurd are
value_listed prims k keys (own name its_timestamp t j ms) are link y z ls = absurd are
value_listed prims k keys (asks name a d ms) are link y z ls = absurd are

-- ---- answers

each_counted : {R : Type 0} (g : Ranked → List ℕ) (f : Row → ℕ) (rank : R → Ranked) (row : R → Row) (rs : List R) → ((r : R) → length (g (rank r)) ≤ f (row r)) → length (each_listed g (map rank rs)) ≤ sum_by f (map row rs)
each_counted g f rank row [] less = omega arith
each_counted g f rank row (r ∷ rs) less = by _ (sum_by-cons f (row r) (map row rs)) (two (g (rank r)) (each_listed g (map rank rs)) (f (row r)) _ (less r) (each_counted g f rank row rs less))
  where
    by : (t : ℕ) → t ≡ f (row r) + sum_by f (map row rs) → length (g (rank r) ++ each_listed g (map rank rs)) ≤ f (row r) + sum_by f (map row rs) → length (g (rank r) ++ each_listed g (map rank rs)) ≤ t
    by t is less = omega (arith, is, less)

mapped_rows : (rs : List Row) → map (λ r. r) rs ≡ rs
mapped_rows [] = refl
mapped_rows (r ∷ rs) = ap (λ ys. r ∷ ys) (mapped_rows rs)

-- what an answer lists, and what it counts
abbrev answer_listed : List Primitive → Asking → Members → Ranked → List ℕ
answer_listed prims a c r = if is_clause a.style then object_listed prims c r.0.link r.0.object r.1 else where_id a.style (id_of (answer_datum prims a.property r.0.link))

abbrev answer_counted : List Primitive → Asking → Members → Row → ℕ
answer_counted prims a c r = 1 + style_ids prims a r.link + (if is_clause a.style then printed_count prims c r.link r.object else 0)

one_counted : (prims : List Primitive) (a : Asking) (c : Members) (r : Ranked) (row : Row) → r.0.link ≡ row.link → length (object_listed prims c r.0.link r.0.object r.1) ≤ printed_count prims c row.link row.object
    → length (answer_listed prims a c r) ≤ answer_counted prims a c row
one_counted prims a c r row same less = by (is_clause a.style) (styled prims a row.link)
  where
    more : (n m s : ℕ) → n ≤ m → n ≤ 1 + s + m
    more n m s less = omega (arith, less)

    plain : (n s : ℕ) → n ≡ s → n ≤ 1 + s + 0
    plain n s is = omega (arith, is)

    by : (b : Bool) → length (where_id a.style (id_of (answer_datum prims a.property row.link))) ≡ style_ids prims a row.link
        → length (if b then object_listed prims c r.0.link r.0.object r.1 else where_id a.style (id_of (answer_datum prims a.property r.0.link))) ≤ 1 + style_ids prims a row.link + (if b then printed_count prims c row.link row.object else 0)
    by true is = more _ _ _ less
    by false is = plain _ _ (ap (λ l. length (where_id a.style (id_of (answer_datum prims a.property l)))) same ∙ is)

-- ---- one member

member_counted : (prims : List Primitive) (a : Asking) (c : Members) → IsTyped prims → IsAsked (answers_of a.property) a c (AreAsked c)
    → (AreAsked c → (link o : ℕ) → length (object_listed prims c link o (clause_lists prims (clauses_of a.sort c) o)) ≤ printed_count prims c link o)
    → (o : ℕ) (rest : TreeLists)
    → length (each_listed (answer_listed prims a c) (cut prims a c (found_lists prims a c o rest))) ≤ sum_by (answer_counted prims a c) (printed prims a c o)
member_counted prims a c typed asked inner o rest = by (answers_of a.property) refl asked
  where
    objects : AsksObjects a c (AreAsked c) → AnswersObjects a.property → length (each_listed (answer_listed prims a c) (cut prims a c (found_lists prims a c o rest))) ≤ sum_by (answer_counted prims a c) (printed prims a c o)
    objects here are =
        subst (λ rs. length (each_listed (answer_listed prims a c) rs) ≤ sum_by (answer_counted prims a c) (printed prims a c o)) (sym (cut-objects prims a c typed asked here.sort are o rest))
        (subst (λ rows. length (each_listed (answer_listed prims a c) (map (carried prims a c) (printed prims a c o))) ≤ sum_by (answer_counted prims a c) rows) (mapped_rows (printed prims a c o))
        (each_counted (answer_listed prims a c) (answer_counted prims a c) (carried prims a c) (λ r. r) (printed prims a c o)
        (λ r. one_counted prims a c (carried prims a c r) r refl (inner here.clause r.link r.object))))

    values : (k : Kind) (keys : Bool) → AsksValues k keys a c → length (each_listed (answer_listed prims a c) (cut prims a c (found_lists prims a c o rest))) ≤ sum_by (answer_counted prims a c) (printed prims a c o)
    values k keys here =
        subst (λ rs. length (each_listed (answer_listed prims a c) rs) ≤ sum_by (answer_counted prims a c) (printed prims a c o)) (sym (cut-values prims a c typed asked here.sort o rest))
        (subst (λ rows. length (each_listed (answer_listed prims a c) (map (λ x. ranked a c (answer_of a (tree_of prims (link_template a c (clauses_of a.sort c)) x))) (take a.limit (met prims a c o)))) ≤ sum_by (answer_counted prims a c) rows)
        (printed-values prims a c here.sort o)
        (each_counted (answer_listed prims a c) (answer_counted prims a c) (λ x. ranked a c (answer_of a (tree_of prims (link_template a c (clauses_of a.sort c)) x))) (λ x. row_of prims a.sort x (far prims a.property x)) (take a.limit (met prims a c o))
        (λ x. one x)))
      where
        link : (x : ℕ) → (answer_of a (tree_of prims (link_template a c (clauses_of a.sort c)) x)).link ≡ x
        link x = answer_of-link a (tree_of prims (link_template a c (clauses_of a.sort c)) x) ∙ place_of-tree prims (link_template a c (clauses_of a.sort c)) x

        one : (x : ℕ) → length (answer_listed prims a c (ranked a c (answer_of a (tree_of prims (link_template a c (clauses_of a.sort c)) x)))) ≤ answer_counted prims a c (row_of prims a.sort x (far prims a.property x))
        one x = one_counted prims a c (ranked a c (answer_of a (tree_of prims (link_template a c (clauses_of a.sort c)) x))) (row_of prims a.sort x (far prims a.property x)) (link x)
            (subst (λ l. length (object_listed prims c (answer_of a (tree_of prims (link_template a c (clauses_of a.sort c)) x)).link (answer_of a (tree_of prims (link_template a c (clauses_of a.sort c)) x)).object (answer_of a (tree_of prims (link_template a c (clauses_of a.sort c)) x)).lists) ≤ printed_count prims c l (far prims a.property x)) (link x)
            (value_listed prims k keys c here.clause (answer_of a (tree_of prims (link_template a c (clauses_of a.sort c)) x)).link (answer_of a (tree_of prims (link_template a c (clauses_of a.sort c)) x)).object (far prims a.property x)
            (answer_of a (tree_of prims (link_template a c (clauses_of a.sort c)) x)).lists))

    by : (e : Expects) → answers_of a.property ≡ e → IsAsked e a c (AreAsked c) → length (each_listed (answer_listed prims a c) (cut prims a c (found_lists prims a c o rest))) ≤ sum_by (answer_counted prims a c) (printed prims a c o)
    by (a_value k) is here = values k false here
    by a_key is here = values of_text true here
    by an_object_of_system is here = objects here (inl is)
    by a_plain_object is here = objects here (inr is)

-- an operand is printed in place of answers
unless_counted : (s : Style) (xs : List ℕ) (n : ℕ) → length xs ≤ n → length (unless_operand s xs) ≤ (if is_some (operand_of s) then 0 else n)
unless_counted (as_operand j) xs n less = omega arith
unless_counted as_value xs n less = less
unless_counted as_name xs n less = less
unless_counted as_id xs n less = less
unless_counted as_clause xs n less = less

same_counted : (prims : List Primitive) (w : Own) (j : Option Json) (link o : ℕ) → length (own_listed prims w j link o) ≤ own_ids prims w j link o
same_counted prims w j link o = by _ _ (own_counted prims w j link o)
  where
    by : (a b : ℕ) → a ≡ b → a ≤ b
    by a b is = omega (arith, is)

-- ---- a clause, and rows

clause_counted : (prims : List Primitive) → IsTyped prims → (c : Members) → AreAsked c → (sort : List SortKey) (link o : ℕ) → length (object_listed prims c link o (clause_lists prims (clauses_of sort c) o)) ≤ printed_count prims c link o
clause_counted prims typed no_members are sort link o = omega arith
clause_counted prims typed (own name its_id t j ms) are sort link o = two (own_listed prims its_id j link o) _ _ _ (same_counted prims its_id j link o) (clause_counted prims typed ms are.1 sort link o)
clause_counted prims typed (own name its_guid t j ms) are sort link o = two (own_listed prims its_guid j link o) _ _ _ (same_counted prims its_guid j link o) (clause_counted prims typed ms are.1 sort link o)
clause_counted prims typed (own name its_timestamp t j ms) are sort link o = two (own_listed prims its_timestamp j link o) _ _ _ (same_counted prims its_timestamp j link o) (clause_counted prims typed ms are.1 sort link o)
clause_counted prims typed (own name its_link t j ms) are sort link o = two (own_listed prims its_link j link o) _ _ _ (same_counted prims its_link j link o) (clause_counted prims typed ms are.1 sort link o)
clause_counted prims typed (own name its_value t j ms) are sort link o = absurd are
clause_counted prims typed (own name its_namespace t j ms) are sort link o = absurd are
clause_counted prims typed (own name its_lang t j ms) are sort link o = absurd are
clause_counted prims typed (asks name a c ms) are sort link o =
    two (unless_operand a.style (each_listed (answer_listed prims a c) (cut prims a c (found_lists prims a c o (clause_lists prims (clauses_of sort ms) o))))) (object_listed prims ms link o (clause_lists prims (clauses_of sort ms) o)) _ _
    (unless_counted a.style (each_listed (answer_listed prims a c) (cut prims a c (found_lists prims a c o (clause_lists prims (clauses_of sort ms) o)))) (sum_by (answer_counted prims a c) (printed prims a c o))
    (member_counted prims a c typed are.0 (λ asked link o. clause_counted prims typed c asked a.sort link o) o (clause_lists prims (clauses_of sort ms) o)))
    (clause_counted prims typed ms are.1 sort link o)

pub rows_counted : (prims : List Primitive) → IsTyped prims → (q : Asked) → AreAsked q.members → (rs : List Row)
    → length (rows_listed prims q.members (map (λ (r : Row). tree_of prims (template_of q) r.object) rs)) ≤ sum_by (λ (r : Row). printed_count prims q.members 0 r.object) rs
rows_counted prims typed q are [] = omega arith
rows_counted prims typed q are (r ∷ rs) =
    by _ (sum_by-cons (λ (r : Row). printed_count prims q.members 0 r.object) r rs)
    (two (object_listed prims q.members 0 r.object (clause_lists prims (clauses_of q.sort q.members) r.object)) (rows_listed prims q.members (map (λ (r : Row). tree_of prims (template_of q) r.object) rs)) _ _
    (clause_counted prims typed q.members are q.sort 0 r.object) (rows_counted prims typed q are rs))
  where
    by : (t : ℕ) → t ≡ printed_count prims q.members 0 r.object + sum_by (λ (r : Row). printed_count prims q.members 0 r.object) rs
        → length (object_listed prims q.members 0 r.object (clause_lists prims (clauses_of q.sort q.members) r.object) ++ rows_listed prims q.members (map (λ (r : Row). tree_of prims (template_of q) r.object) rs)) ≤ printed_count prims q.members 0 r.object + sum_by (λ (r : Row). printed_count prims q.members 0 r.object) rs
        → length (object_listed prims q.members 0 r.object (clause_lists prims (clauses_of q.sort q.members) r.object) ++ rows_listed prims q.members (map (λ (r : Row). tree_of prims (template_of q) r.object) rs)) ≤ t
    by t is less = omega (arith, is, less)
