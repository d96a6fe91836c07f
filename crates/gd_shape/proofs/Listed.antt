-- The objects whose ids are printed, one member, answer or row at a time.
use Rattle.std.proofs.Common.{◌≡◌, ◌≤◌, ◌<◌, ◌+◌, inl, inr, ℕ, zero, suc, List, [], ◌∷◌, ◌++◌, true, false, Vec, Global, Option, Some, None, map, drop, length, get_or, refl, sym, ap, subst, ◌∙◌, arith}
use Rattle.std.proofs.lemmas.List.{append-nil, append_assoc}
use Rattle.gd_prim.specs.declared.Primitive.{Primitive}
use Rattle.gd_prim.specs.Live.{object_datum}
use Rattle.gd_tree.specs.Json.{Json}
use Rattle.gd_tree.specs.Trees as trees
use Rattle.gd_tree.specs.Trees.{TreeLists, first_list, rest_lists, place_of, lists_of}
use Rattle.gd_defs.specs.Asked as defs
use Rattle.gd_defs.specs.Asked.{Style, as_operand, as_value, as_name, as_id, as_clause}
use Rattle.gd_defs.specs.Reply.{operand_of}
use Rattle.gd_order_laws.specs.Window.{In}
use Rattle.gd_runs.specs.Shape.Answers as shape
use Rattle.gd_match_laws.specs.Walks.{id_of, own_listed, where_id, unless_operand, each_listed, object_listed, rows_listed}
use Rattle.gd_plan.specs.Asked.{put, members_view, asking_view}
use Rattle.gd_plan.specs.declared.asked.Asking.{Asking}
use Rattle.gd_plan.specs.declared.asked.Member.{Member, Asks, out-Member}
use Rattle.gd_plan.specs.declared.asked.Member.TheOpen.{Member-F}
use Rattle.gd_trees.specs.View.{view as tree_view}
use Rattle.gd_trees.specs.declared.tree.Tree.{Tree}
use Rattle.gd_shape.specs.Listed.{AreAmong, is_id, answer_listed, asks_listed, first_listed}
use Rattle.gd_shape.specs.Outcome.{LacksOf}
use Rattle.gd_shape.specs.Printed.{behind_first, cut_of}
use Rattle.gd_shape.specs.Ranking.{ranked_view}
use Rattle.gd_shape.specs.declared.ranked.Ranked.{Ranked}
use Rattle.gd_shape.specs.declared.sight.Lack.{Lack}
use Rattle.gd_shape.specs.declared.sight.Lack.TheVariants as lack
use Rattle.gd_shape.proofs.Left.{left_at, past}
use Rattle.gd_shape.proofs.Members.{opened, put_seen, asks_put}

-- ---- what stands in one of two lists

pub in_first : (xs ys : List ℕ) (x : ℕ) → In x xs → In x (xs ++ ys)
in_first [] ys x here = absurd here
in_first (z ∷ xs) ys x (inl same) = inl same
in_first (z ∷ xs) ys x (inr there) = inr (in_first xs ys x there)

pub in_second : (xs ys : List ℕ) (x : ℕ) → In x ys → In x (xs ++ ys)
in_second [] ys x here = here
in_second (z ∷ xs) ys x here = inr (in_second xs ys x here)

-- what is lacking of some is lacking of all
pub lacks_among : (os all : List ℕ) (l : Lack) → AreAmong os all → LacksOf os l → LacksOf all l
lacks_among os all (lack.IdOf object) among here = among object here
lacks_among os all lack.Memory among here = here

pub lacks_same : (os all : List ℕ) (l : Lack) → os ≡ all → LacksOf os l → LacksOf all l
lacks_same os all l same lacks = subst (λ xs. LacksOf xs l) same lacks

-- ---- one of objects at a place

pub is_in : (xs : List ℕ) (i x : ℕ) → i < length xs → x ≡ get_or xs i x → In x xs
is_in [] i x within is = absurd (omega (arith, within))
is_in (y ∷ xs) zero x within is = inl (sym is)
is_in (y ∷ xs) (suc i) x within is = inr (is_in xs i x (omega (arith, within)) is)

-- ---- nothing behind others

pub none_behind : (xs : List ℕ) → xs ≡ xs ++ []
none_behind xs = sym (append-nil xs)

pub none_listed : (o : Option ℕ) (xs : List ℕ) → o ≡ None → xs ≡ xs ++ id_of (object_datum o)
none_listed o xs none = none_behind xs ∙ ap (λ p. xs ++ id_of (object_datum p)) (sym none)

-- a computed member that has an operand prints no id
pub own_given : (prims : List Primitive) (w : defs.Own) (j : Json) (link o : ℕ) → [] ≡ own_listed prims w (Some j) link o
own_given prims defs.its_id j link o = refl
own_given prims defs.its_guid j link o = refl
own_given prims defs.its_timestamp j link o = refl
own_given prims defs.its_link j link o = refl
own_given prims defs.its_value j link o = refl
own_given prims defs.its_namespace j link o = refl
own_given prims defs.its_lang j link o = refl

-- ---- answers by their style

pub no_id : (s : Style) (xs os : List ℕ) → is_id s ≡ false → xs ≡ xs ++ where_id s os
no_id (as_operand j) xs os other = none_behind xs
no_id as_value xs os other = none_behind xs
no_id as_name xs os other = none_behind xs
no_id as_id xs os other = cc
no_id as_clause xs os other = none_behind xs

pub an_id : (s : Style) (new old os ps : List ℕ) → is_id s ≡ true → new ≡ old ++ os → os ≡ ps → new ≡ old ++ where_id s ps
an_id (as_operand j) new old os ps is pushed same = cc
an_id as_value new old os ps is pushed same = cc
an_id as_name new old os ps is pushed same = cc
an_id as_id new old os ps is pushed same = pushed ∙ ap (λ xs. old ++ xs) same
an_id as_clause new old os ps is pushed same = cc

-- an operand prints no id
given : (s : Style) (j : Json) (os : List ℕ) → Some j ≡ operand_of s → unless_operand s os ≡ []
given (as_operand k) j os is = refl
given as_value j os is = cc
given as_name j os is = cc
given as_id j os is = cc
given as_clause j os is = cc

-- else the answers do
answered : (s : Style) (os : List ℕ) → None ≡ operand_of s → unless_operand s os ≡ os
answered (as_operand k) os is = cc
answered as_value os is = refl
answered as_name os is = refl
answered as_id os is = refl
answered as_clause os is = refl

pub asks_none : (prims : List Primitive) (a : defs.Asking) (c : defs.Members) (ts : List trees.Tree) (j : Json) (xs : List ℕ) → Some j ≡ operand_of a.style → xs ≡ xs ++ asks_listed prims a c ts
asks_none prims a c ts j xs is = none_behind xs ∙ ap (λ os. xs ++ os) (sym (given a.style j (each_listed (answer_listed prims a c) (cut_of prims a c ts)) is))

pub asks_each : (prims : List Primitive) (a : defs.Asking) (c : defs.Members) (ts : List trees.Tree) (rows : List shape.Ranked) (new old : List ℕ) → None ≡ operand_of a.style → rows ≡ cut_of prims a c ts
    → new ≡ old ++ each_listed (answer_listed prims a c) rows → new ≡ old ++ asks_listed prims a c ts
asks_each prims a c ts rows new old none cut pushed =
    pushed ∙ ap (λ rs. old ++ each_listed (answer_listed prims a c) rs) cut
    ∙ ap (λ os. old ++ os) (sym (answered a.style (each_listed (answer_listed prims a c) (cut_of prims a c ts)) none))

pub asks_lacks : (prims : List Primitive) (a : defs.Asking) (c : defs.Members) (ts : List trees.Tree) (rows : List shape.Ranked) (l : Lack) → None ≡ operand_of a.style → rows ≡ cut_of prims a c ts
    → LacksOf (each_listed (answer_listed prims a c) rows) l → LacksOf (asks_listed prims a c ts) l
asks_lacks prims a c ts rows l none cut lacks =
    subst (λ os. LacksOf os l) (ap (each_listed (answer_listed prims a c)) cut ∙ sym (answered a.style (each_listed (answer_listed prims a c) (cut_of prims a c ts)) none)) lacks

-- ---- members

front_opened : (prims : List Primitive) (m : Member-F Member) (rest : defs.Members) (link o : ℕ) (ls : TreeLists)
    → object_listed prims (opened m rest) link o ls ≡ first_listed prims (opened m defs.no_members) link o ls ++ object_listed prims rest link o (behind_first (opened m defs.no_members) ls)
front_opened prims (Member-F.Own name own test operand) rest link o ls = refl
front_opened prims (Member-F.Asks name asking clause) rest link o ls = refl

-- those of members are those of the first and of the members behind it
front_put : (prims : List Primitive) (m : Member) (rest : defs.Members) (link o : ℕ) (ls : TreeLists)
    → object_listed prims (put m rest) link o ls ≡ first_listed prims (put m defs.no_members) link o ls ++ object_listed prims rest link o (behind_first (put m defs.no_members) ls)
front_put prims m rest link o ls =
    let P : (defs.Members → defs.Members) → Type 0 = λ p. object_listed prims (p rest) link o ls ≡ first_listed prims (p defs.no_members) link o ls ++ object_listed prims rest link o (behind_first (p defs.no_members) ls) in
    subst P (sym (put_seen m)) (front_opened prims (out-Member m) rest link o ls)

-- what is lacking of its answers is lacking of it
pub asks_first : (prims : List Primitive) (m : Member) (name : List ℕ) (asking : Asking) (clause : Vec Member Global) (ms : List Member) (ts : List trees.Tree) (link o : ℕ) (ls : TreeLists) (l : Lack) → m ≡ Asks name asking clause
    → ms ≡ clause.items → ts ≡ first_list ls → LacksOf (asks_listed prims (asking_view asking) (members_view ms) ts) l → LacksOf (first_listed prims (put m defs.no_members) link o ls) l
asks_first prims m name asking clause ms ts link o ls l is same first lacks =
    let a = asking_view asking in
    subst (λ os. LacksOf os l)
    (ap (λ ks. asks_listed prims a (members_view ks) ts) same
    ∙ ap (asks_listed prims a (members_view clause.items)) first
    ∙ sym (ap (λ c. first_listed prims c link o ls) (asks_put name asking clause defs.no_members))
    ∙ sym (ap (λ k. first_listed prims (put k defs.no_members) link o ls) is))
    lacks

listed_left : (prims : List Primitive) (ms : List Member) (i : ℕ) (m : Member) (link o : ℕ) (ls : TreeLists) → i < length ms → m ≡ get_or ms i m
    → object_listed prims (members_view (drop i ms)) link o ls ≡ first_listed prims (put m defs.no_members) link o ls ++ object_listed prims (members_view (drop (i + 1) ms)) link o (behind_first (put m defs.no_members) ls)
listed_left prims ms i m link o ls within is = ap (λ ks. object_listed prims (members_view ks) link o ls) (left_at ms i m within is) ∙ front_put prims m (members_view (drop (i + 1) ms)) link o ls

-- one more of members
pub listed_more : (prims : List Primitive) (ms : List Member) (i : ℕ) (m : Member) (link o : ℕ) (ls behind : TreeLists) (old new all : List ℕ) → i < length ms → m ≡ get_or ms i m
    → new ≡ old ++ first_listed prims (put m defs.no_members) link o ls → behind ≡ behind_first (put m defs.no_members) ls
    → old ++ object_listed prims (members_view (drop i ms)) link o ls ≡ all
    → new ++ object_listed prims (members_view (drop (i + 1) ms)) link o behind ≡ all
listed_more prims ms i m link o ls behind old new all within is pushed later was =
    let one = first_listed prims (put m defs.no_members) link o ls in
    ap (λ xs. xs ++ object_listed prims (members_view (drop (i + 1) ms)) link o behind) pushed
    ∙ ap (λ ks. old ++ one ++ object_listed prims (members_view (drop (i + 1) ms)) link o ks) later
    ∙ append_assoc old one (object_listed prims (members_view (drop (i + 1) ms)) link o (behind_first (put m defs.no_members) ls))
    ∙ ap (λ os. old ++ os) (sym (listed_left prims ms i m link o ls within is)) ∙ was

-- past the last of them
pub listed_all : (prims : List Primitive) (ms : List Member) (i : ℕ) (link o : ℕ) (ls : TreeLists) (xs all : List ℕ) → length ms ≤ i
    → xs ++ object_listed prims (members_view (drop i ms)) link o ls ≡ all → xs ≡ all
listed_all prims ms i link o ls xs all end was = none_behind xs ∙ ap (λ ks. xs ++ object_listed prims (members_view ks) link o ls) (sym (past ms i end)) ∙ was

-- those of the members behind one are among those of all
pub among_behind : (prims : List Primitive) (ms : List Member) (i : ℕ) (m : Member) (link o : ℕ) (ls behind : TreeLists) (all : List ℕ) → i < length ms → m ≡ get_or ms i m
    → behind ≡ behind_first (put m defs.no_members) ls → AreAmong (object_listed prims (members_view (drop i ms)) link o ls) all
    → AreAmong (object_listed prims (members_view (drop (i + 1) ms)) link o behind) all
among_behind prims ms i m link o ls behind all within is later among x here =
    let rest = object_listed prims (members_view (drop (i + 1) ms)) link o (behind_first (put m defs.no_members) ls) in
    let there : In x rest = subst (λ ks. In x (object_listed prims (members_view (drop (i + 1) ms)) link o ks)) later here in
    among x (subst (λ os. In x os) (sym (listed_left prims ms i m link o ls within is)) (in_second (first_listed prims (put m defs.no_members) link o ls) rest x there))

-- what is lacking of a member is lacking of all
pub member_lacks : (prims : List Primitive) (ms : List Member) (i : ℕ) (m : Member) (link o : ℕ) (ls : TreeLists) (all : List ℕ) (l : Lack) → i < length ms → m ≡ get_or ms i m
    → AreAmong (object_listed prims (members_view (drop i ms)) link o ls) all → LacksOf (first_listed prims (put m defs.no_members) link o ls) l → LacksOf all l
member_lacks prims ms i m link o ls all l within is among =
    let one = first_listed prims (put m defs.no_members) link o ls in
    lacks_among one all l (λ x here. among x (subst (λ os. In x os) (sym (listed_left prims ms i m link o ls within is)) (in_first one (object_listed prims (members_view (drop (i + 1) ms)) link o (behind_first (put m defs.no_members) ls)) x here)))

-- ---- answers

each_left : (f : shape.Ranked → List ℕ) (rows : List Ranked) (i : ℕ) (row : Ranked) → i < length rows → row ≡ get_or rows i row
    → each_listed f (map ranked_view (drop i rows)) ≡ f (ranked_view row) ++ each_listed f (map ranked_view (drop (i + 1) rows))
each_left f rows i row within is = ap (λ rs. each_listed f (map ranked_view rs)) (left_at rows i row within is)

-- one more of answers
pub each_more : (f : shape.Ranked → List ℕ) (rows : List Ranked) (i : ℕ) (row : Ranked) (old new all : List ℕ) → i < length rows → row ≡ get_or rows i row
    → new ≡ old ++ f (ranked_view row) → old ++ each_listed f (map ranked_view (drop i rows)) ≡ all → new ++ each_listed f (map ranked_view (drop (i + 1) rows)) ≡ all
each_more f rows i row old new all within is pushed was =
    ap (λ xs. xs ++ each_listed f (map ranked_view (drop (i + 1) rows))) pushed
    ∙ append_assoc old (f (ranked_view row)) (each_listed f (map ranked_view (drop (i + 1) rows)))
    ∙ ap (λ os. old ++ os) (sym (each_left f rows i row within is)) ∙ was

pub each_all : (f : shape.Ranked → List ℕ) (rows : List Ranked) (i : ℕ) (xs all : List ℕ) → length rows ≤ i → xs ++ each_listed f (map ranked_view (drop i rows)) ≡ all → xs ≡ all
each_all f rows i xs all end was = none_behind xs ∙ ap (λ rs. xs ++ each_listed f (map ranked_view rs)) (sym (past rows i end)) ∙ was

-- those of one are among those of all
among_rows : (f : shape.Ranked → List ℕ) (rows : List Ranked) (i : ℕ) → AreAmong (each_listed f (map ranked_view (drop i rows))) (each_listed f (map ranked_view rows))
among_rows f rows zero x here = here
among_rows f [] (suc i) x here = here
among_rows f (row ∷ rows) (suc i) x here = in_second (f (ranked_view row)) (each_listed f (map ranked_view rows)) x (among_rows f rows i x here)

-- what is lacking of an answer is lacking of all
pub each_lacks : (f : shape.Ranked → List ℕ) (rows : List Ranked) (i : ℕ) (row : Ranked) (l : Lack) → i < length rows → row ≡ get_or rows i row
    → LacksOf (f (ranked_view row)) l → LacksOf (each_listed f (map ranked_view rows)) l
each_lacks f rows i row l within is =
    lacks_among (f (ranked_view row)) (each_listed f (map ranked_view rows)) l
    (λ x here. among_rows f rows i x (subst (λ os. In x os) (sym (each_left f rows i row within is)) (in_first (f (ranked_view row)) (each_listed f (map ranked_view (drop (i + 1) rows))) x here)))

-- what is lacking of the first, or of those behind it, is lacking of all
pub first_lacks : (f : shape.Ranked → List ℕ) (rows rest : List Ranked) (row : Ranked) (l : Lack) → rows ≡ row ∷ rest → LacksOf (f (ranked_view row)) l → LacksOf (each_listed f (map ranked_view rows)) l
first_lacks f rows rest row l is lacks =
    subst (λ rs. LacksOf (each_listed f (map ranked_view rs)) l) (sym is)
    (lacks_among (f (ranked_view row)) (f (ranked_view row) ++ each_listed f (map ranked_view rest)) l (in_first (f (ranked_view row)) (each_listed f (map ranked_view rest))) lacks)

pub rest_lack : (f : shape.Ranked → List ℕ) (rows rest : List Ranked) (row : Ranked) (l : Lack) → rows ≡ row ∷ rest → LacksOf (each_listed f (map ranked_view rest)) l → LacksOf (each_listed f (map ranked_view rows)) l
rest_lack f rows rest row l is lacks =
    subst (λ rs. LacksOf (each_listed f (map ranked_view rs)) l) (sym is)
    (lacks_among (each_listed f (map ranked_view rest)) (f (ranked_view row) ++ each_listed f (map ranked_view rest)) l (in_second (f (ranked_view row)) (each_listed f (map ranked_view rest))) lacks)

-- ---- rows

abbrev pub row_listed : List Primitive → defs.Members → Tree → List ℕ
row_listed prims ms t = object_listed prims ms 0 (place_of (tree_view t)) (lists_of (tree_view t))

row_front : (prims : List Primitive) (ms : defs.Members) (t : trees.Tree) (ts : List trees.Tree) → rows_listed prims ms (t ∷ ts) ≡ object_listed prims ms 0 (place_of t) (lists_of t) ++ rows_listed prims ms ts
row_front prims ms (trees.tree o ls) ts = refl

rows_left : (prims : List Primitive) (ms : defs.Members) (ts : List Tree) (i : ℕ) (t : Tree) → i < length ts → t ≡ get_or ts i t
    → rows_listed prims ms (map tree_view (drop i ts)) ≡ row_listed prims ms t ++ rows_listed prims ms (map tree_view (drop (i + 1) ts))
rows_left prims ms ts i t within is = ap (λ us. rows_listed prims ms (map tree_view us)) (left_at ts i t within is) ∙ row_front prims ms (tree_view t) (map tree_view (drop (i + 1) ts))

-- one more of rows
pub rows_more : (prims : List Primitive) (ms : defs.Members) (ts : List Tree) (i : ℕ) (t : Tree) (old new all : List ℕ) → i < length ts → t ≡ get_or ts i t
    → new ≡ old ++ row_listed prims ms t → old ++ rows_listed prims ms (map tree_view (drop i ts)) ≡ all → new ++ rows_listed prims ms (map tree_view (drop (i + 1) ts)) ≡ all
rows_more prims ms ts i t old new all within is pushed was =
    ap (λ xs. xs ++ rows_listed prims ms (map tree_view (drop (i + 1) ts))) pushed
    ∙ append_assoc old (row_listed prims ms t) (rows_listed prims ms (map tree_view (drop (i + 1) ts)))
    ∙ ap (λ os. old ++ os) (sym (rows_left prims ms ts i t within is)) ∙ was

pub rows_all : (prims : List Primitive) (ms : defs.Members) (ts : List Tree) (i : ℕ) (xs all : List ℕ) → length ts ≤ i → xs ++ rows_listed prims ms (map tree_view (drop i ts)) ≡ all → xs ≡ all
rows_all prims ms ts i xs all end was = none_behind xs ∙ ap (λ us. xs ++ rows_listed prims ms (map tree_view us)) (sym (past ts i end)) ∙ was

among_trees : (prims : List Primitive) (ms : defs.Members) (ts : List Tree) (i : ℕ) → AreAmong (rows_listed prims ms (map tree_view (drop i ts))) (rows_listed prims ms (map tree_view ts))
among_trees prims ms ts zero x here = here
among_trees prims ms [] (suc i) x here = here
among_trees prims ms (t ∷ ts) (suc i) x here = subst (λ os. In x os) (sym (row_front prims ms (tree_view t) (map tree_view ts))) (in_second (row_listed prims ms t) (rows_listed prims ms (map tree_view ts)) x (among_trees prims ms ts i x here))

-- what is lacking of a row is lacking of all
pub rows_lack : (prims : List Primitive) (ms : defs.Members) (ts : List Tree) (i : ℕ) (t : Tree) (l : Lack) → i < length ts → t ≡ get_or ts i t
    → LacksOf (row_listed prims ms t) l → LacksOf (rows_listed prims ms (map tree_view ts)) l
rows_lack prims ms ts i t l within is =
    lacks_among (row_listed prims ms t) (rows_listed prims ms (map tree_view ts)) l
    (λ x here. among_trees prims ms ts i x (subst (λ os. In x os) (sym (rows_left prims ms ts i t within is)) (in_first (row_listed prims ms t) (rows_listed prims ms (map tree_view (drop (i + 1) ts))) x here)))

-- what is lacking of the first row, or of those behind it, is lacking of all
pub first_row_lacks : (prims : List Primitive) (ms : defs.Members) (ts rest : List Tree) (t : Tree) (l : Lack) → ts ≡ t ∷ rest → LacksOf (row_listed prims ms t) l → LacksOf (rows_listed prims ms (map tree_view ts)) l
first_row_lacks prims ms ts rest t l is lacks =
    subst (λ us. LacksOf us l) (sym (row_front prims ms (tree_view t) (map tree_view rest)) ∙ ap (λ us. rows_listed prims ms (map tree_view us)) (sym is))
    (lacks_among (row_listed prims ms t) (row_listed prims ms t ++ rows_listed prims ms (map tree_view rest)) l (in_first (row_listed prims ms t) (rows_listed prims ms (map tree_view rest))) lacks)

pub rest_rows_lack : (prims : List Primitive) (ms : defs.Members) (ts rest : List Tree) (t : Tree) (l : Lack) → ts ≡ t ∷ rest → LacksOf (rows_listed prims ms (map tree_view rest)) l → LacksOf (rows_listed prims ms (map tree_view ts)) l
rest_rows_lack prims ms ts rest t l is lacks =
    subst (λ us. LacksOf us l) (sym (row_front prims ms (tree_view t) (map tree_view rest)) ∙ ap (λ us. rows_listed prims ms (map tree_view us)) (sym is))
    (lacks_among (rows_listed prims ms (map tree_view rest)) (row_listed prims ms t ++ rows_listed prims ms (map tree_view rest)) l (in_second (row_listed prims ms t) (rows_listed prims ms (map tree_view rest))) lacks)
