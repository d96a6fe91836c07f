-- Which frozen texts fit a query.
use Rattle.std.proofs.Common.{◌≡◌, refl, ℕ, List, Bool, true, false, codes, Result, Ok, Err}
use Rattle.std.specs.Option.{option_map_or}
use Rattle.gd_prim.specs.Builtin.{builtin}
use Rattle.gd_defs.specs.Asked.{Asked}
use Rattle.gd_bytes.specs.Frozen.{Frozen}
use Rattle.gd_bytes.specs.FrozenRead.{frozen_of}
use Rattle.gd_runs.specs.Owed.{MembersOf}
use Rattle.gd_runs.specs.Fitting.{fits}
use Rattle.gd_runs.proofs.Asking.{asked_from}

-- each iterator has two members
abbrev members : MembersOf
members prims hop t = 2

-- namespaces by name, with a limit of 2
abbrev query : List ℕ
query = codes "[{\"id\":null,\"limit\":2,\"name\":null,\"sort\":\"name\",\"type\":\"/type/namespace\"}]"

abbrev fits_asked : Result Frozen ℕ → Asked → Bool
fits_asked (Ok f) q = fits builtin members q f
fits_asked (Err n) q = false

-- the text fits the query
abbrev it_fits : List ℕ → Bool
it_fits t = option_map_or (fits_asked (frozen_of t)) (asked_from builtin query) false

pub at_start : it_fits (codes "f1:0:-:[]:s[0,0]") ≡ true
unfolding asked_from
at_start = refl

-- `after` always fits
pub any_after : it_fits (codes "f1:0:(2000000,9,9,9):[]:s[70?1,0]") ≡ true
unfolding asked_from
any_after = refl

pub past_end : it_fits (codes "f1:0:-:[]:s[71,0]") ≡ false
unfolding asked_from
past_end = refl

pub no_such_member : it_fits (codes "f1:0:-:[]:s[3?2,0]") ≡ false
unfolding asked_from
no_such_member = refl

pub three_rows : it_fits (codes "f1:0:-:[0,-;1,-;2,-]:s[0,0]") ≡ true
unfolding asked_from
three_rows = refl

pub four_rows : it_fits (codes "f1:0:-:[0,-;1,-;2,-;3,-]:s[0,0]") ≡ false
unfolding asked_from
four_rows = refl

pub no_key : it_fits (codes "f1:0:-:[0]:s[0,0]") ≡ false
unfolding asked_from
no_key = refl

pub row_past_end : it_fits (codes "f1:0:-:[70,-]:s[0,0]") ≡ false
unfolding asked_from
row_past_end = refl

pub key_past_end : it_fits (codes "f1:0:-:[0,70]:s[0,0]") ≡ false
unfolding asked_from
key_past_end = refl

pub index_past_rows : it_fits (codes "f1:0:-:[0,-]:b0:[]:[2,0]") ≡ false
unfolding asked_from
index_past_rows = refl

pub index_marked : it_fits (codes "f1:0:-:[0,-]:b0:[]:[1?0,0]") ≡ false
unfolding asked_from
index_marked = refl

pub trees_above_rows : it_fits (codes "f1:0:-:[]:b0:[0([],[],[])]:[0,0]") ≡ false
unfolding asked_from
trees_above_rows = refl

pub a_tree : it_fits (codes "f1:0:-:[0,-]:b0:[0([],[],[])]:[1,0]") ≡ true
unfolding asked_from
a_tree = refl

pub two_lists : it_fits (codes "f1:0:-:[0,-]:b0:[0([],[])]:[1,0]") ≡ false
unfolding asked_from
two_lists = refl

-- a place that is no object
pub no_object : it_fits (codes "f1:0:-:[0,-]:b0:[64([],[],[])]:[1,0]") ≡ false
unfolding asked_from
no_object = refl

-- one id is printed of one row
pub a_walk : it_fits (codes "f1:0:-:[0,-]:p1:[0([],[],[])]:[/]") ≡ true
unfolding asked_from
a_walk = refl

pub two_walks : it_fits (codes "f1:0:-:[0,-]:p1:[0([],[],[])]:[/;g]") ≡ false
unfolding asked_from
two_walks = refl

pub places_above : it_fits (codes "f1:0:-:[0,-]:p2:[0([],[],[])]:[/]") ≡ false
unfolding asked_from
places_above = refl

-- a walk's place has a text as value
pub no_text : it_fits (codes "f1:0:-:[0,-]:p1:[0([],[],[])]:[0]") ≡ false
unfolding asked_from
no_text = refl
