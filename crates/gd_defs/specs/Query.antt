-- A query as the tree of clauses that a JSON value spells.
pub mod Faults
pub mod Names
pub mod Operands
pub mod Directive
pub use Rattle.gd_defs.specs.Query.Faults.{Code, envelope, list_form, bad_word, left_out, bad_directive, bad_operand, bad_write, bad_create, bad_connect, bad_value, bad_operator, value_reversed, object_form, bad_sort, not_met, bad_previous, bad_lang, Fault, root_fault, or_root, fault, or_fault, within, each_numbered}
pub use Rattle.gd_defs.specs.Query.Names.{Operator, no_operator, one_of, differs, below, at_most, above, at_least, words, Name, is_path, name_of, has_operator, is_left_out, is_word, is_identity, is_computed, is_link}
pub use Rattle.gd_defs.specs.Query.Operands.{is_literal, is_id_text, all_items, operand_fits}
pub use Rattle.gd_defs.specs.Query.Directive.{Mode, required, optional, forbidden, SortWord, Directives, no_directives, is_directive, mode_of, limit_of, sort_of, is_count}
use Rattle.std.specs.Prelude.{ℕ, List, Bool, true, false, not, ◌&&◌, ◌||◌, Some, None, Result, Ok, if◌then◌else◌, codes, bytes_eq}
use Rattle.gd_grammar.specs.Chain.{◌>>=◌}
use Rattle.gd_tree.specs.Json.{Json, null, boolean, number, text, list, object, no_items, item, Members as JsonMembers, no_members as no_json_members, member as json_member}
use Rattle.gd_tree.specs.Look.{is_null}

mutual
  -- what a member asks: null, [], a literal, an operator's operand, {..} or [{..}]
  pub data Form : Type 0 where
    ask : Form
    ask_all : Form
    literal : Json → Form
    operand : Json → Form
    one : Directives → Members → Form
    many : Directives → Members → Form

  -- the members of a clause in byte order of names, with the directive `sort` at its place among them
  pub data Members : Type 0 where
    no_members : Members
    member : Name → Form → Members → Members
    sort_by : List SortWord → Members → Members

-- a clause: its directives and its members
abbrev pub Clause : Type 0
Clause = Directives × Members

-- the members that the form `{}` means: the id, the name and the types
abbrev pub default_members : Members
default_members = member (plain (codes "id")) ask (member (plain (codes "name")) ask (member (plain (codes "type")) ask_all no_members))
  where
    plain : List ℕ → Name
    plain word = record { spelled = word; reversed = false; word = word; operator = no_operator }

-- a clause, or where it has no members at all the default members, of which none is required
abbrev pub clause_or_default : JsonMembers → Result Clause Fault → Result Clause Fault
clause_or_default no_json_members c = Ok (record no_directives { mode = Some optional }, default_members)
clause_or_default _ c = c

-- ---- members

-- a member in front of a clause
abbrev pub with_member : Name → Form → Clause → Clause
with_member n f c = (c.0, member n f c.1)

-- the name of a member that is no directive; `link` is no word at the root, and computed words take no `!`
abbrev pub member_name : Bool → List ℕ → Result Name Fault
member_name root k = or_fault bad_word k (name_of k) >>= λ n.
    if is_left_out n.word then fault left_out k
    else if (n.reversed && is_computed n.word) || (root && is_link n.word) then fault bad_word k else Ok n

-- a directive in front of the rest of its clause; the root has no `optional`, and it alone has `return`
abbrev pub with_directive : Bool → List ℕ → Json → Result Clause Fault → Result Clause Fault
with_directive root k j rest =
    if bytes_eq k (codes "optional") then (or_fault bad_directive k (if root then None else mode_of j) >>= λ m. rest >>= λ c. Ok (record c.0 { mode = Some m }, c.1))
    else if bytes_eq k (codes "limit") then (or_fault bad_directive k (limit_of j) >>= λ n. rest >>= λ c. Ok (record c.0 { limit = Some n }, c.1))
    else if bytes_eq k (codes "sort") then (or_fault bad_directive k (sort_of j) >>= λ ws. rest >>= λ c. Ok (c.0, sort_by ws c.1))
    else if root && is_count j then (rest >>= λ c. Ok (record c.0 { count = true }, c.1)) else fault bad_directive k

-- a clause as the form {..} of a member
abbrev pub as_one : List ℕ → Result Clause Fault → Result Form Fault
as_one k c = within k c >>= λ d. Ok (one d.0 d.1)

-- a clause as the form [{..}] of a member
abbrev pub as_many : List ℕ → Result Clause Fault → Result Form Fault
as_many k c = within k c >>= λ d. Ok (many d.0 d.1)

-- the value is a list that is neither empty nor of one object
abbrev pub is_other_list : Json → Bool
is_other_list (list no_items) = false
is_other_list (list (item (object ms) no_items)) = false
is_other_list (list js) = true
is_other_list _ = false

-- what stands behind a name: with an operator its operand, at a computed word or `link` null or a text, elsewhere a form
abbrev pub form_or_operand : Name → Json → Result Form Fault → Result Form Fault
form_or_operand n j form = if has_operator n then (if operand_fits n j then Ok (operand j) else fault bad_operand n.spelled)
    else if not (is_computed n.word || is_link n.word) || is_null j || is_other_list j then form
    else if operand_fits n j then Ok (literal j) else fault bad_operand n.spelled

-- ---- clauses

abbrev mutual
  -- the clause that the members of an object spell, in order; a truth value says whether it is the root
  pub clause_of : Bool → JsonMembers → Result Clause Fault
  clause_of root no_json_members = Ok (no_directives, no_members)
  clause_of root (json_member k j ms) =
      if is_directive k then with_directive root k j (clause_of root ms)
      else (member_name root k >>= λ n. form_or_operand n j (form_of n j) >>= λ f. clause_of root ms >>= λ c. Ok (with_member n f c))

  -- the form that the value of a member without an operator spells
  pub form_of : Name → Json → Result Form Fault
  form_of n null = Ok ask
  form_of n (boolean b) = Ok (literal (boolean b))
  form_of n (number m) = Ok (literal (number m))
  form_of n (text t) = Ok (literal (text t))
  form_of n (object ms) = as_one n.spelled (clause_or_default ms (clause_of false ms))
  form_of n (list no_items) = Ok ask_all
  form_of n (list (item (object ms) no_items)) = as_many n.spelled (clause_or_default ms (clause_of false ms))
  form_of n (list _) = fault list_form n.spelled

-- the query of a read: whether it is a list, and its root clause
pub record Query : Type 0 where
  pub listed : Bool
  pub directives : Directives
  pub members : Members

-- a clause as the root of a query
abbrev pub root_query : Bool → Result Clause Fault → Result Query Fault
root_query listed c = c >>= λ d. Ok (record { listed = listed; directives = d.0; members = d.1 })

-- the query that a JSON value spells: {..} or [{..}]
abbrev pub query_of : Json → Result Query Fault
query_of (object ms) = root_query false (clause_or_default ms (clause_of true ms))
query_of (list (item (object ms) no_items)) = root_query true (clause_or_default ms (clause_of true ms))
query_of (list (item j js)) = root_fault list_form
query_of _ = root_fault envelope
