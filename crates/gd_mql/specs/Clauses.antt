-- Clauses of a query as the definitions have them.
use Rattle.std.specs.Prelude.{ℕ, false, List, [], ◌==◌, unwrap_or, if◌then◌else◌}
use Rattle.gd_json.specs.View.{view, members_view}
use Rattle.gd_defs.specs.Query as query
use Rattle.gd_form_laws.specs.Spelled.{spelled_clause, spelled_members, defaults_left}
use Rattle.gd_mql.specs.Names.{name_view}
use Rattle.gd_mql.specs.declared.clause.Clause.{Clause}
use Rattle.gd_mql.specs.declared.clause.Members.{Members}
use Rattle.gd_mql.specs.declared.clause.SortWords.{SortWords}
use Rattle.gd_mql.specs.declared.clause.Form.{Form}
use Rattle.gd_mql.specs.declared.clause.Form.TheVariants as form
use Rattle.gd_mql.specs.declared.clause.Part.{Part}
use Rattle.gd_mql.specs.declared.clause.Part.TheVariants as part

-- the clause that this is
abbrev pub clause_view : Clause → query.Clause
clause_view c = spelled_clause c.root (members_view c.members.now)

-- the members that are left
abbrev pub left : Members → query.Members
left m = if m.defaults == 0 then spelled_members m.root (members_view m.members.now) else defaults_left m.defaults

-- the sort words that these are
abbrev pub sort_view : SortWords → List query.SortWord
sort_view w = unwrap_or (query.sort_of (view w.spelled.now)) []

-- the form that this is
abbrev pub form_view : Form → query.Form
form_view form.Ask = query.ask
form_view form.AskAll = query.ask_all
form_view (form.Literal j) = query.literal (view j.now)
form_view (form.Operand j) = query.operand (view j.now)
form_view (form.One c) = query.one (clause_view c).0 (clause_view c).1
form_view (form.Many c) = query.many (clause_view c).0 (clause_view c).1

-- a part in front of other members
abbrev pub with_part : Part → query.Members → query.Members
with_part (part.Member n f) ms = query.member (name_view n) (form_view f) ms
with_part (part.Sort ws) ms = query.sort_by (sort_view ws) ms

-- a member's name that is this word
abbrev pub plain_name : List ℕ → query.Name
plain_name word = record { spelled = word; reversed = false; word = word; operator = query.no_operator }
