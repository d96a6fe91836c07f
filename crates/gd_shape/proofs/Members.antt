-- Members, one at a time.
use Rattle.std.proofs.Common.{◌≡◌, ◌≤◌, ◌<◌, ◌+◌, ℕ, List, [], ◌∷◌, ◌++◌, Vec, Global, Ok, Err, map, drop, length, get_or, refl, sym, ap, subst, ◌∙◌, rules, option_map}
use Rattle.gd_prim.specs.declared.Primitive.{Primitive}
use Rattle.gd_tree.specs.Trees as trees
use Rattle.gd_tree.specs.Trees.{TreeLists, first_list, rest_lists}
use Rattle.gd_bytes.specs.Frozen.{Walk}
use Rattle.gd_defs.specs.Asked as defs
use Rattle.json.specs.Token.{Token, end_object, key}
use Rattle.gd_tree.specs.Json.{Members as JsonMembers}
use Rattle.gd_defs.specs.Reply.{Path, under}
use Rattle.gd_json.specs.View.{view as json_view}
use Rattle.gd_plan.specs.Asked.{put, members_view, asking_view}
use Rattle.gd_plan.specs.Seen.{own_view, test_view, sort_key_view}
use Rattle.gd_plan.specs.declared.asked.SortKey.{SortKey}
use Rattle.gd_plan.specs.declared.asked.Asking.{Asking}
use Rattle.gd_plan.specs.declared.asked.Member.{Member, Asks, out-Member, the_lemmas}
use Rattle.gd_plan.specs.declared.asked.Member.TheOpen.{Member-F}
use Rattle.gd_runs.specs.Shape.{Printed, object_shape}
use Rattle.gd_runs.specs.Shape.Answers as shape
use Rattle.gd_shape.specs.Outcome.{seen, written, members_written}
use Rattle.gd_shape.specs.Printed.{in_front, asks_print, first_print, first_name, behind_first}
use Rattle.gd_shape.proofs.Alike.{asks-same}
use Rattle.gd_shape.proofs.Left.{left_at, past}
use Rattle.gd_shape.proofs.Written.{Now, Outcome, member_written, member_path, under_name}

-- a member in front of others, one level opened
abbrev pub opened : Member-F Member → defs.Members → defs.Members
opened (Member-F.Own name own test operand) rest = defs.own name (own_view own) (test_view test) (option_map json_view operand) rest
opened (Member-F.Asks name asking clause) rest = defs.asks name (asking_view asking) (members_view clause.items) rest

pub put_seen : (m : Member) → put m ≡ opened (out-Member m)
put_seen m = search (rules, the_lemmas)

-- a member that asks a property, in front of others
pub asks_put : (name : List ℕ) (asking : Asking) (clause : Vec Member Global) (rest : defs.Members) → put (Asks name asking clause) rest ≡ defs.asks name (asking_view asking) (members_view clause.items) rest
asks_put name asking clause rest = search (rules, the_lemmas)

front_opened : (prims : List Primitive) (m : Member-F Member) (rest : defs.Members) (link o : ℕ) (ls : TreeLists) (ws : List Walk)
    → object_shape prims (opened m rest) link o ls ws
    ≡ in_front (first_name (opened m defs.no_members)) (first_print prims (opened m defs.no_members) link o ls ws) (λ vs. object_shape prims rest link o (behind_first (opened m defs.no_members) ls) vs)
front_opened prims (Member-F.Own name own test operand) rest link o ls ws = refl
front_opened prims (Member-F.Asks name asking clause) rest link o ls ws =
    ap (λ r. in_front name (under name r) (λ vs. object_shape prims rest link o (rest_lists ls) vs)) (asks-same prims (asking_view asking) (members_view clause.items) ls ws)

-- what members print is what the first prints in front of what those behind it print
pub front_put : (prims : List Primitive) (m : Member) (rest : defs.Members) (link o : ℕ) (ls : TreeLists) (ws : List Walk)
    → object_shape prims (put m rest) link o ls ws
    ≡ in_front (first_name (put m defs.no_members)) (first_print prims (put m defs.no_members) link o ls ws) (λ vs. object_shape prims rest link o (behind_first (put m defs.no_members) ls) vs)
front_put prims m rest link o ls ws =
    let P : (defs.Members → defs.Members) → Type 0 = λ p. object_shape prims (p rest) link o ls ws
    ≡ in_front (first_name (p defs.no_members)) (first_print prims (p defs.no_members) link o ls ws) (λ vs. object_shape prims rest link o (behind_first (p defs.no_members) ls) vs) in
    subst P (sym (put_seen m)) (front_opened prims (out-Member m) rest link o ls ws)

-- a place of the next sort key
pub key_more : (sort : List SortKey) (i : ℕ) (s : SortKey) (o : ℕ) (ls : TreeLists) → i < length sort → s ≡ get_or sort i s
    → shape.key_places (map sort_key_view (drop i sort)) o ls ≡ shape.key_place (sort_key_view s).key o ls ∷ shape.key_places (map sort_key_view (drop (i + 1) sort)) o (shape.behind_key (sort_key_view s).key ls)
key_more sort i s o ls within is = ap (λ ks. shape.key_places (map sort_key_view ks) o ls) (left_at sort i s within is)

sort_opened : (m : Member-F Member) (rest : defs.Members) (ls : TreeLists) → shape.sort_lists (opened m rest) ls ≡ shape.sort_lists rest (behind_first (opened m defs.no_members) ls)
sort_opened (Member-F.Own name own test operand) rest ls = refl
sort_opened (Member-F.Asks name asking clause) rest ls = refl

sort_put : (m : Member) (rest : defs.Members) (ls : TreeLists) → shape.sort_lists (put m rest) ls ≡ shape.sort_lists rest (behind_first (put m defs.no_members) ls)
sort_put m rest ls =
    let P : (defs.Members → defs.Members) → Type 0 = λ p. shape.sort_lists (p rest) ls ≡ shape.sort_lists rest (behind_first (p defs.no_members) ls) in
    subst P (sym (put_seen m)) (sort_opened (out-Member m) rest ls)

-- the lists behind that of the next member
pub sort_left : (ms : List Member) (i : ℕ) (m : Member) (ls : TreeLists) → i < length ms → m ≡ get_or ms i m
    → shape.sort_lists (members_view (drop i ms)) ls ≡ shape.sort_lists (members_view (drop (i + 1) ms)) (behind_first (put m defs.no_members) ls)
sort_left ms i m ls within is = ap (λ ks. shape.sort_lists (members_view ks) ls) (left_at ms i m within is) ∙ sort_put m (members_view (drop (i + 1) ms)) ls

-- ---- what members print

abbrev printed_behind : List Primitive → List Member → ℕ → ℕ → ℕ → TreeLists → List Walk → Printed JsonMembers
printed_behind prims ms i link o ls ws = object_shape prims (members_view (drop i ms)) link o ls ws

behind-left : (prims : List Primitive) (ms : List Member) (i : ℕ) (m : Member) (link o : ℕ) (ls : TreeLists) (ws : List Walk) → i < length ms → m ≡ get_or ms i m
    → printed_behind prims ms i link o ls ws
    ≡ in_front (first_name (put m defs.no_members)) (first_print prims (put m defs.no_members) link o ls ws) (λ vs. printed_behind prims ms (i + 1) link o (behind_first (put m defs.no_members) ls) vs)
behind-left prims ms i m link o ls ws within is =
    ap (λ ks. object_shape prims (members_view ks) link o ls ws) (left_at ms i m within is) ∙ front_put prims m (members_view (drop (i + 1) ms)) link o ls ws

-- a member that prints is written
pub members_more : (prims : List Primitive) (ms : List Member) (i : ℕ) (m : Member) (link o : ℕ) (ls behind : TreeLists) (old named new : List Token) (told left : List Walk) (all : Now) → i < length ms → m ≡ get_or ms i m
    → named ≡ old ++ key (first_name (put m defs.no_members)) ∷ [] → Ok (new, left) ≡ written named (first_print prims (put m defs.no_members) link o ls told) → behind ≡ behind_first (put m defs.no_members) ls
    → members_written old (object_shape prims (members_view (drop i ms)) link o ls told) ≡ all
    → members_written new (object_shape prims (members_view (drop (i + 1) ms)) link o behind left) ≡ all
members_more prims ms i m link o ls behind old named new told left all within is key_is prints later was =
    ap (λ ks. members_written new (printed_behind prims ms (i + 1) link o ks left)) later
    ∙ member_written old named new left (first_name (put m defs.no_members)) (first_print prims (put m defs.no_members) link o ls told) (λ vs. printed_behind prims ms (i + 1) link o (behind_first (put m defs.no_members) ls) vs) key_is prints
    ∙ ap (members_written old) (sym (behind-left prims ms i m link o ls told within is)) ∙ was

-- a member that does not
pub members_path : (prims : List Primitive) (ms : List Member) (i : ℕ) (m : Member) (link o : ℕ) (ls : TreeLists) (old named : List Token) (told : List Walk) (path : Path) (all : Now) → i < length ms → m ≡ get_or ms i m
    → Err path ≡ written named (first_print prims (put m defs.no_members) link o ls told)
    → members_written old (object_shape prims (members_view (drop i ms)) link o ls told) ≡ all → Err path ≡ all
members_path prims ms i m link o ls old named told path all within is fails was =
    member_path old named (first_name (put m defs.no_members)) (first_print prims (put m defs.no_members) link o ls told) (λ vs. printed_behind prims ms (i + 1) link o (behind_first (put m defs.no_members) ls) vs) path fails
    ∙ ap (members_written old) (sym (behind-left prims ms i m link o ls told within is)) ∙ was

-- all members are written
pub members_all : (prims : List Primitive) (ms : List Member) (i : ℕ) (link o : ℕ) (ls : TreeLists) (old new : List Token) (told : List Walk) (all : Now) → length ms ≤ i → new ≡ old ++ end_object ∷ []
    → members_written old (object_shape prims (members_view (drop i ms)) link o ls told) ≡ all → Ok (new, told) ≡ all
members_all prims ms i link o ls old new told all end ended was =
    ap (λ ts. Ok (ts, told)) ended ∙ ap (λ ks. members_written old (object_shape prims (members_view ks) link o ls told)) (sym (past ms i end)) ∙ was

-- what a member that asks a property is written as is that of its answers, below its name
pub asks_written : (prims : List Primitive) (m : Member) (name : List ℕ) (asking : Asking) (clause : Vec Member Global) (ms : List Member) (ts : List trees.Tree) (link o : ℕ) (ls : TreeLists) (old : List Token) (now : List Token × List Walk) (told : List Walk) (printed outcome : Outcome)
    → m ≡ Asks name asking clause → ms ≡ clause.items → ts ≡ first_list ls → seen (λ _. now) outcome ≡ under name (seen (λ _. now) printed)
    → seen (λ _. now) printed ≡ written old (asks_print prims (asking_view asking) (members_view ms) ts told)
    → seen (λ _. now) outcome ≡ written old (first_print prims (put m defs.no_members) link o ls told)
asks_written prims m name asking clause ms ts link o ls old now told printed outcome is same first below here =
    let a = asking_view asking in
    below ∙ ap (under name) here ∙ under_name old name (asks_print prims a (members_view ms) ts told)
    ∙ ap (λ ks. written old (under name (asks_print prims a (members_view ks) ts told))) same
    ∙ ap (λ us. written old (under name (asks_print prims a (members_view clause.items) us told))) first
    ∙ sym (ap (λ c. written old (first_print prims c link o ls told)) (asks_put name asking clause defs.no_members))
    ∙ sym (ap (λ k. written old (first_print prims (put k defs.no_members) link o ls told)) is)
