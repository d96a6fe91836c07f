-- What a query asks, as the definitions have it.
use Rattle.std.specs.Prelude.{List, [], ◌∷◌, map, option_map}
use Rattle.gd_defs.specs.Asked as defs
use Rattle.gd_json.specs.View.{view as json_view}
use Rattle.gd_template.specs.View.{mode_of}
use Rattle.gd_plan.specs.Seen.{own_view, test_view, sort_key_view}
use Rattle.gd_plan.specs.declared.asked.Style.{Style}
use Rattle.gd_plan.specs.declared.asked.Style.TheVariants as style
use Rattle.gd_plan.specs.declared.asked.Asking.{Asking}
use Rattle.gd_plan.specs.declared.asked.Member.{Member, fold-Member}
use Rattle.gd_plan.specs.declared.asked.Member.TheOpen.{Member-F}
use Rattle.gd_plan.specs.declared.asked.Asked.{Asked}

-- how an answer prints
abbrev pub style_view : Style → defs.Style
style_view (style.Operand j) = defs.as_operand (json_view j)
style_view style.Value = defs.as_value
style_view style.Name = defs.as_name
style_view style.Id = defs.as_id
style_view style.Clause = defs.as_clause

-- what a member asks of a property
abbrev pub asking_view : Asking → defs.Asking
asking_view a = record {
  property = a.property;
  test = test_view a.test;
  mode = mode_of a.mode;
  given = a.given;
  counted = a.counted;
  style = style_view a.style;
  listed = a.listed;
  single = a.single;
  sort = map sort_key_view a.sort.items;
  limit = a.limit;
}

-- members, each of which is put in front of those behind it
abbrev pub put_each : List (defs.Members → defs.Members) → defs.Members
put_each [] = defs.no_members
put_each (p ∷ ps) = p (put_each ps)

-- a member in front of others, where those of its clause are already seen
abbrev pub member_step : Member-F (defs.Members → defs.Members) → defs.Members → defs.Members
member_step (Member-F.Own name own test operand) rest = defs.own name (own_view own) (test_view test) (option_map json_view operand) rest
member_step (Member-F.Asks name asking clause) rest = defs.asks name (asking_view asking) (put_each clause.items) rest

-- a member in front of others
abbrev pub put : Member → defs.Members → defs.Members
put = fold-Member (defs.Members → defs.Members) member_step

-- the members of a clause, in order
abbrev pub members_view : List Member → defs.Members
members_view ms = put_each (map put ms)

-- what a query asks
abbrev pub asked_view : Asked → defs.Asked
asked_view q = record {
  listed = q.listed;
  single = q.single;
  count = q.count;
  limit = q.limit;
  members = members_view q.members.items;
  sort = map sort_key_view q.sort.items;
}
