-- A member in front of others.
use Rattle.std.proofs.Common.{◌≡◌, ℕ, suc, ◌<◌, ◌+◌, List, ◌∷◌, drop, length, get_or, Option, Vec, option_map, Global, sym, ap, rules, add-one, drop-cons}
use Rattle.gd_defs.specs.Asked as defs
use Rattle.gd_json.specs.View.{view as json_view}
use Rattle.gd_json.specs.declared.value.Json.{Json}
use Rattle.gd_plan.specs.Seen.{own_view, test_view}
use Rattle.gd_plan.specs.Asked.{asking_view, member_step, put, members_view}
use Rattle.gd_plan.specs.declared.asked.Own.{Own}
use Rattle.gd_plan.specs.declared.test.Test.{Test}
use Rattle.gd_plan.specs.declared.asked.Asking.{Asking}
use Rattle.gd_plan.specs.declared.asked.Member.{Member, Own as Own', Asks, the_lemmas}
use Rattle.gd_plan.specs.declared.asked.Member.TheOpen.{Member-F}
use Rattle.gd_plan.specs.declared.asked.Member.TheFolds.{fold_out-Member}

-- one that is computed
pub put_own : (name : List ℕ) (what : Own) (t : Test) (operand : Option Json) (rest : defs.Members)
    → put (Own' name what t operand) rest ≡ defs.own name (own_view what) (test_view t) (option_map json_view operand) rest
put_own name what t operand rest = search (rules, the_lemmas)

-- one that asks a property
pub put_asks : (name : List ℕ) (asking : Asking) (clause : Vec Member Global) (rest : defs.Members)
    → put (Asks name asking clause) rest ≡ defs.asks name (asking_view asking) (members_view clause.items) rest
put_asks name asking clause rest = search (rules, the_lemmas)

-- any member is put by the step of its layer
pub put_step : (m : Member) → (f : Member-F (defs.Members → defs.Members)) × (put m ≡ member_step f)
put_step m = (_, fold_out-Member (defs.Members → defs.Members) member_step m)

-- what is left at an index begins with what stands there
pub left_at : {A : Type 0} (xs : List A) (i : ℕ) (x : A) → i < length xs → x ≡ get_or xs i x → drop i xs ≡ x ∷ drop (i + 1) xs
left_at xs i x within is = rw (add-one, drop-cons xs i x) (ap (λ y. y ∷ drop (suc i) xs) (sym is))

-- the members from an index on: the first in front of the others
pub members_left : (ms : List Member) (i : ℕ) (m : Member) → i < length ms → m ≡ get_or ms i m → members_view (drop i ms) ≡ put m (members_view (drop (i + 1) ms))
members_left ms i m within is = ap members_view (left_at ms i m within is)
