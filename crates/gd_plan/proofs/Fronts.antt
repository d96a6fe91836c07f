-- Clauses in front of others.
use Rattle.std.proofs.Common.{◌≡◌, ◌≢◌, ◌≤◌, ℕ, ◌<◌, ◌+◌, ◌++◌, List, [], ◌∷◌, map, drop, length, get_or, Option, Some, None, refl, sym, ap, ◌∙◌, arith}
use Rattle.std.proofs.lemmas.List.{at_drop_all}
use Rattle.std.specs.Option.{option_to_list}
use Rattle.gd_defs.specs.Asked as defs
use Rattle.gd_defs.specs.Plan.{sort_clauses, clauses_of}
use Rattle.gd_defs.specs.Template.{Clauses, no_clauses, clause, clauses_depth, max_depth}
use Rattle.gd_template.specs.View.{Parts, parts, clauses_of as listed, clauses_view}
use Rattle.gd_template.specs.declared.template.Clause.{Clause}
use Rattle.gd_plan.specs.Seen.{sort_key_view}
use Rattle.gd_plan.specs.Asked.{member_step, put, members_view}
use Rattle.gd_plan.specs.Making.{parts_depth, in_front, member_parts}
use Rattle.gd_plan.specs.Planned.{with_clause}
use Rattle.gd_plan.specs.declared.fault.PlanFault.{PlanFault}
use Rattle.gd_plan.specs.declared.fault.PlanFault.TheVariants.{Memory}
use Rattle.gd_plan.specs.declared.asked.SortKey.{SortKey}
use Rattle.gd_plan.specs.declared.asked.Member.{Member}
use Rattle.gd_plan.specs.declared.asked.Member.TheOpen.{Member-F}
use Rattle.gd_plan.proofs.Members.{put_step, members_left, left_at}

-- some in front of others in front of the rest
front-append : (xs ys : List Parts) (rest : Clauses) → in_front (xs ++ ys) rest ≡ in_front xs (in_front ys rest)
front-append [] ys rest = refl
front-append (x ∷ xs) ys rest = ap (clause x.0 x.1 x.2) (front-append xs ys rest)

-- with nothing behind them
front_alone : (xs : List Parts) → in_front xs no_clauses ≡ listed xs
front_alone [] = refl
front_alone (x ∷ xs) = ap (clause x.0 x.1 x.2) (front_alone xs)

front_seen : (cs : List Clause) → in_front (map parts cs) no_clauses ≡ clauses_view cs
front_seen cs = front_alone (map parts cs)

-- none of some clauses lies deeper than all
behind_depth : (xs : List Parts) (rest : Clauses) → clauses_depth rest ≤ clauses_depth (in_front xs rest)
behind_depth [] rest = omega arith
behind_depth (x ∷ xs) rest = omega (arith, behind_depth xs rest)

listed_depth : (ys : List Parts) (rest : Clauses) → parts_depth ys ≤ clauses_depth (in_front ys rest)
listed_depth [] rest = omega arith
listed_depth (y ∷ ys) rest = omega (arith, listed_depth ys rest)

among_depth : (xs ys : List Parts) (rest : Clauses) → parts_depth ys ≤ clauses_depth (in_front xs (in_front ys rest))
among_depth xs ys rest = omega (arith, listed_depth ys rest, behind_depth xs (in_front ys rest))

-- a member of a layer in front of others
step_front : (sort : List defs.SortKey) (f : Member-F (defs.Members → defs.Members)) (rest : defs.Members)
    → clauses_of sort (member_step f rest) ≡ in_front (member_parts (member_step f defs.no_members)) (clauses_of sort rest)
step_front sort (Member-F.Own name what t operand) rest = refl
step_front sort (Member-F.Asks name asking inner) rest = refl

-- the clauses of members: that of the first in front of the others
member_front : (sort : List defs.SortKey) (m : Member) (rest : defs.Members)
    → clauses_of sort (put m rest) ≡ in_front (member_parts (put m defs.no_members)) (clauses_of sort rest)
member_front sort m rest = let f = put_step m in rw f.1 (step_front sort f.0 rest)

-- the same of those from an index on
clauses_left : (sort : List defs.SortKey) (ms : List Member) (i : ℕ) (m : Member) → i < length ms → m ≡ get_or ms i m
    → clauses_of sort (members_view (drop i ms)) ≡ in_front (member_parts (put m defs.no_members)) (clauses_of sort (members_view (drop (i + 1) ms)))
clauses_left sort ms i m within is = ap (clauses_of sort) (members_left ms i m within is) ∙ member_front sort m (members_view (drop (i + 1) ms))

-- a step of a walk over members: the clause of the first is put behind those in front
pub member_walked : (sort : List defs.SortKey) (front behind : List Parts) (ms : List Member) (i : ℕ) (m : Member) (all : Clauses) (now : List Parts) → i < length ms → m ≡ get_or ms i m
    → in_front front (clauses_of sort (members_view (drop i ms))) ≡ all
    → behind ≡ member_parts (put m defs.no_members)
    → now ≡ front ++ behind
    → in_front now (clauses_of sort (members_view (drop (i + 1) ms))) ≡ all
member_walked sort front behind ms i m all now within is was put_in pushed =
    ap (λ ps. in_front ps (clauses_of sort (members_view (drop (i + 1) ms)))) pushed
    ∙ front-append front behind _
    ∙ ap (λ ps. in_front front (in_front ps (clauses_of sort (members_view (drop (i + 1) ms))))) put_in
    ∙ ap (in_front front) (sym (clauses_left sort ms i m within is))
    ∙ was

-- the clause of the first is not deeper than all
member_depth : (sort : List defs.SortKey) (front : List Parts) (ms : List Member) (i : ℕ) (m : Member) (all : Clauses) → i < length ms → m ≡ get_or ms i m
    → in_front front (clauses_of sort (members_view (drop i ms))) ≡ all
    → parts_depth (member_parts (put m defs.no_members)) ≤ clauses_depth all
member_depth sort front ms i m all within is was =
    let e : in_front front (in_front (member_parts (put m defs.no_members)) (clauses_of sort (members_view (drop (i + 1) ms)))) ≡ all = ap (in_front front) (sym (clauses_left sort ms i m within is)) ∙ was in
    let h : clauses_depth (in_front front (in_front (member_parts (put m defs.no_members)) (clauses_of sort (members_view (drop (i + 1) ms))))) ≡ clauses_depth all = ap clauses_depth e in
    omega (arith, h, among_depth front (member_parts (put m defs.no_members)) (clauses_of sort (members_view (drop (i + 1) ms))))

-- so a refusal of its clause is one of all
pub member_refused : (sort : List defs.SortKey) (front : List Parts) (ms : List Member) (i : ℕ) (m : Member) (all : Clauses) (fault : PlanFault) → i < length ms → m ≡ get_or ms i m
    → in_front front (clauses_of sort (members_view (drop i ms))) ≡ all
    → (fault ≢ Memory → max_depth < parts_depth (member_parts (put m defs.no_members)))
    → fault ≢ Memory → max_depth < clauses_depth all
member_refused sort front ms i m all fault within is was deep other =
    let h = deep other in
    omega (arith, h, member_depth sort front ms i m all within is was)

-- a clause that may be there, in front of others
some_front : (c : Option Parts) (rest : Clauses) → with_clause c rest ≡ in_front (option_to_list c) rest
some_front (Some c) rest = refl
some_front None rest = refl

-- a step of a walk over sort keys
pub key_walked : (front : List Parts) (c : Option Parts) (ks : List SortKey) (i : ℕ) (k : SortKey) (all : Clauses) (now : List Parts) → i < length ks → k ≡ get_or ks i k
    → in_front front (sort_clauses (map sort_key_view (drop i ks))) ≡ all
    → sort_clauses (sort_key_view k ∷ map sort_key_view (drop (i + 1) ks)) ≡ with_clause c (sort_clauses (map sort_key_view (drop (i + 1) ks)))
    → now ≡ front ++ option_to_list c
    → in_front now (sort_clauses (map sort_key_view (drop (i + 1) ks))) ≡ all
key_walked front c ks i k all now within is was step pushed =
    ap (λ ps. in_front ps (sort_clauses (map sort_key_view (drop (i + 1) ks)))) pushed
    ∙ front-append front (option_to_list c) _
    ∙ ap (in_front front) (sym (ap (λ xs. sort_clauses (map sort_key_view xs)) (left_at ks i k within is) ∙ step ∙ some_front c _))
    ∙ was

-- the end of a walk over sort keys
pub keys_walked : (cs : List Clause) (ks : List SortKey) (i : ℕ) (all : Clauses) → length ks ≤ i
    → in_front (map parts cs) (sort_clauses (map sort_key_view (drop i ks))) ≡ all
    → clauses_view cs ≡ all
keys_walked cs ks i all past was =
    sym (front_seen cs) ∙ sym (at_drop_all (λ xs. in_front (map parts cs) (sort_clauses (map sort_key_view xs))) ks i past) ∙ was
