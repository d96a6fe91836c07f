-- A query that was read has four sort keys at most, and a limit of one at least and of 1,000 at most.
use Rattle.std.proofs.Common.{◌≡◌, ◌≤◌, ◌<◌, ℕ, List, [], ◌∷◌, ◌++◌, Bool, true, false, ◌&&◌, Option, Some, None, Result, Ok, length, refl, ap, sym, subst, arith, pos}
use Rattle.std.specs.Prelude.{if◌then◌else◌, option_map, unwrap_or, negsuc}
use Rattle.std.specs.Option.{option_map_or}
use Rattle.std.specs.Int.{is_in_range}
use Rattle.std.proofs.lemmas.Bool.Decides.{nat_tests}
use Rattle.gd_prim.specs.declared.Primitive.{Primitive}
use Rattle.gd_grammar.specs.Chain.{◌>>=◌}
use Rattle.gd_grammar.proofs.Steps.{steps, ok_same, some_given, maybe, mapped, some_same}
use Rattle.gd_tree.specs.Json.{Json, null, boolean, number, text, list, object, Items, no_items, item, Members as JsonMembers, no_members as no_json_members, member as json_member}
use Rattle.gd_tree.specs.Look.{items_len}
use Rattle.gd_defs.specs.Query as query
use Rattle.gd_defs.specs.Query.{Fault, Name, Form, Members, Clause, Query, SortWord, Directives, no_directives, optional, bad_directive, or_fault, fault, is_directive, mode_of, limit_of, sort_of, is_count, default_members, clause_or_default, with_member, member_name, with_directive, form_or_operand, clause_of, form_of, root_query, query_of}
use Rattle.gd_defs.specs.Query.Directive.{sort_word, sort_words}
use Rattle.gd_defs.proofs.Directives.{sort_name, each_effect}
use Rattle.gd_defs.specs.Asked as defs
use Rattle.gd_defs.specs.Asked.Forms.{asks_single}
use Rattle.gd_defs.specs.Property.{Property}
use Rattle.gd_defs.specs.Asked.{Own, SortKey, Unknown, Asked, asked_query, asked, asked_form, own_of, own_test, member_property, context_of, type_text, sort_key, sort_keys}
use Rattle.gd_template_laws.proofs.AskedMembers.{computed}

-- the sort words in front are four at most
abbrev Few : Members → Type 0
Few query.no_members = Unit {0}
Few (query.member n f ms) = Few ms
Few (query.sort_by ws ms) = length ws ≤ 4

-- a limit that is there is one at least, and 1,000 at most
abbrev Some_one : Option ℕ → Type 0
Some_one None = Unit {0}
Some_one (Some n) = (0 < n) × (n ≤ 1000)

record Bounded (c : Clause) : Type 0 where
  few : Few c.1
  some : Some_one c.0.limit

within_one : (m : ℕ) → is_in_range 1 1000 m ≡ true → 0 < m
within_one m within = grind (arith, nat_tests)

within_all : (m : ℕ) → is_in_range 1 1000 m ≡ true → m ≤ 1000
within_all m within = grind (arith, nat_tests)

limit_some : (j : Json) (n : ℕ) → limit_of j ≡ Some n → (0 < n) × (n ≤ 1000)
limit_some (number (pos m)) n is = by (is_in_range 1 1000 m) refl is
  where
    by : (b : Bool) → is_in_range 1 1000 m ≡ b → (if b then Some m else None) ≡ Some n → (0 < n) × (n ≤ 1000)
    by true within is = let least = within_one m within in let most = within_all m within in let same = some_same m n is in (omega (arith, least, same), omega (arith, most, same))
    by false within is = absurd (cc)
limit_some (number (negsuc m)) n is = absurd (cc)
limit_some null n is = absurd (cc)
limit_some (boolean b) n is = absurd (cc)
limit_some (text t) n is = absurd (cc)
limit_some (list js) n is = absurd (cc)
limit_some (object ms) n is = absurd (cc)

words_len : (js : Items) (ws : List SortWord) → sort_words js ≡ Some ws → length ws ≡ items_len js
words_len no_items ws is = ap length (some_same ws [] (cc))
words_len (item (text t) js) ws is =
    let one = maybe (sort_word t) (λ w. option_map (λ ws. w ∷ ws) (sort_words js)) ws is in
    let more = mapped (sort_words js) (λ ws. one.value ∷ ws) ws one.then_gave in
    let rest = words_len js more.value more.gave in
    let same = ap length more.is in
    omega arith
words_len (item null js) ws is = absurd (cc)
words_len (item (boolean b) js) ws is = absurd (cc)
words_len (item (number n) js) ws is = absurd (cc)
words_len (item (list ks) js) ws is = absurd (cc)
words_len (item (object ms) js) ws is = absurd (cc)

within_four : (m : ℕ) → is_in_range 1 4 m ≡ true → m ≤ 4
within_four m within = grind (arith, nat_tests)

sort_few : (j : Json) (ws : List SortWord) → sort_of j ≡ Some ws → length ws ≤ 4
sort_few (text t) ws is = let one = mapped (sort_word t) (λ w. w ∷ []) ws is in let same = ap length one.is in omega arith
sort_few (list js) ws is = by (is_in_range 1 4 (items_len js)) refl is
  where
    by : (b : Bool) → is_in_range 1 4 (items_len js) ≡ b → (if b then sort_words js else None) ≡ Some ws → length ws ≤ 4
    by true within is = let few = within_four (items_len js) within in let same = words_len js ws is in omega arith
    by false within is = absurd (cc)
sort_few null ws is = absurd (cc)
sort_few (boolean b) ws is = absurd (cc)
sort_few (number n) ws is = absurd (cc)
sort_few (object ms) ws is = absurd (cc)

-- ---- clauses

directive_bounded : (root : Bool) (k : List ℕ) (j : Json) (rest : Result Clause Fault) (c : Clause) → ((d : Clause) → rest ≡ Ok d → Bounded d) → with_directive root k j rest ≡ Ok c → Bounded c
directive_bounded root k j rest c more is =
    each_effect (λ (f : Result Clause Fault → Result Clause Fault). f rest ≡ Ok c → Bounded c) root k j
    (with_value (or_fault bad_directive k (if root then None else mode_of j)) (λ m c. (record c.0 { mode = Some m }, c.1)) (λ x here d bounded. record { few = bounded.few; some = bounded.some }))
    (with_value (or_fault bad_directive k (limit_of j)) (λ n c. (record c.0 { limit = Some n }, c.1)) (λ x here d bounded. record { few = bounded.few; some = limit_some j x (some_given (limit_of j) _ x here) }))
    (with_value (or_fault bad_directive k (sort_of j)) (λ ws c. (c.0, query.sort_by ws c.1)) (λ x here d bounded. record { few = sort_few j x (some_given (sort_of j) _ x here); some = bounded.some }))
    (counted (root && is_count j)) is
  where
    changed : (change : Clause → Clause) → ((d : Clause) → Bounded d → Bounded (change d)) → (rest >>= λ c. Ok (change c)) ≡ Ok c → Bounded c
    changed change keeps is =
        let step = steps rest (λ c. Ok (change c)) c is in
        subst Bounded (ok_same (change step.value) c step.then_gave) (keeps step.value (more step.value step.gave))

    with_value : {V : Type 0} (v : Result V Fault) (change : V → Clause → Clause) → ((x : V) → v ≡ Ok x → (d : Clause) → Bounded d → Bounded (change x d)) → (v >>= λ x. rest >>= λ c. Ok (change x c)) ≡ Ok c → Bounded c
    with_value v change keeps is =
        let step = steps v (λ x. rest >>= λ c. Ok (change x c)) c is in
        changed (change step.value) (keeps step.value step.gave) step.then_gave

    counted : (b : Bool) → (if b then (rest >>= λ (c : Clause). Ok (record c.0 { count = true }, c.1)) else fault bad_directive k) ≡ Ok c → Bounded c
    counted true is = changed (λ c. (record c.0 { count = true }, c.1)) (λ d bounded. record { few = bounded.few; some = bounded.some }) is
    counted false is = absurd (cc)

member_bounded : (root : Bool) (k : List ℕ) (j : Json) (form : Name → Result Form Fault) (rest : Result Clause Fault) (c : Clause) → ((d : Clause) → rest ≡ Ok d → Bounded d)
    → (if is_directive k then with_directive root k j rest else (member_name root k >>= λ n. form_or_operand n j (form n) >>= λ f. rest >>= λ c. Ok (with_member n f c))) ≡ Ok c → Bounded c
member_bounded root k j form rest c more is = by (is_directive k) is
  where
    by : (b : Bool) → (if b then with_directive root k j rest else (member_name root k >>= λ n. form_or_operand n j (form n) >>= λ f. rest >>= λ c. Ok (with_member n f c))) ≡ Ok c → Bounded c
    by true is = directive_bounded root k j rest c more is
    by false is =
        let one = steps (member_name root k) (λ n. form_or_operand n j (form n) >>= λ f. rest >>= λ c. Ok (with_member n f c)) c is in
        let two = steps (form_or_operand one.value j (form one.value)) (λ f. rest >>= λ c. Ok (with_member one.value f c)) c one.then_gave in
        let three = steps rest (λ c. Ok (with_member one.value two.value c)) c two.then_gave in
        let behind = more three.value three.gave in
        subst Bounded (ok_same (with_member one.value two.value three.value) c three.then_gave) (record { few = behind.few; some = behind.some })

clause_bounded : (root : Bool) (ms : JsonMembers) (c : Clause) → clause_of root ms ≡ Ok c → Bounded c
clause_bounded root no_json_members c is = subst Bounded (ok_same (no_directives, query.no_members) c is) (record { few = tt; some = tt })
clause_bounded root (json_member k j ms) c is = member_bounded root k j (λ n. form_of n j) (clause_of root ms) c (λ d made. clause_bounded root ms d made) is

default_bounded : (ms : JsonMembers) (c : Clause) → clause_or_default ms (clause_of true ms) ≡ Ok c → Bounded c
default_bounded no_json_members c is = subst Bounded (ok_same (record no_directives { mode = Some optional }, default_members) c is) (record { few = tt; some = tt })
default_bounded (json_member k j ms) c is = clause_bounded true (json_member k j ms) c is

root_bounded : (listed : Bool) (ms : JsonMembers) (q : Query) → root_query listed (clause_or_default ms (clause_of true ms)) ≡ Ok q → Bounded (q.directives, q.members)
root_bounded listed ms q is =
    let step = steps (clause_or_default ms (clause_of true ms)) (λ d. Ok (as_query d)) q is in
    subst (λ (q : Query). Bounded (q.directives, q.members)) (ok_same (as_query step.value) q step.then_gave) (default_bounded ms step.value step.gave)
  where
    as_query : Clause → Query
    as_query d = record { listed = listed; directives = d.0; members = d.1 }

query_bounded : (j : Json) (q : Query) → query_of j ≡ Ok q → Bounded (q.directives, q.members)
query_bounded (object ms) q is = root_bounded false ms q is
query_bounded (list (item (object ms) no_items)) q is = root_bounded true ms q is
query_bounded (list no_items) q is = absurd (cc)
query_bounded (list (item j js)) q is = absurd (cc)
query_bounded null q is = absurd (cc)
query_bounded (boolean b) q is = absurd (cc)
query_bounded (number n) q is = absurd (cc)
query_bounded (text t) q is = absurd (cc)

-- ---- with words looked up

keys_len : (prims : List Primitive) (context : Option ℕ) (path : List (List ℕ)) (ws : List SortWord) (ks : List SortKey) → sort_keys prims context path ws ≡ Ok ks → length ks ≡ length ws
keys_len prims context path [] ks is = ap length (sym (ok_same [] ks is))
keys_len prims context path (w ∷ ws) ks is =
    let one = steps (sort_key prims context path w) (λ k. sort_keys prims context path ws >>= λ ks. Ok (k ∷ ks)) ks is in
    let more = steps (sort_keys prims context path ws) (λ ks. Ok (one.value ∷ ks)) ks one.then_gave in
    let rest = keys_len prims context path ws more.value more.gave in
    let same = ap length (ok_same (one.value ∷ more.value) ks more.then_gave) in
    omega arith

member_few : (prims : List Primitive) (context : Option ℕ) (path : List (List ℕ)) (n : Name) (f : Form) (r : Result defs.Clause Unknown) (form : Property → Result (defs.Members → defs.Members) Unknown) (c : defs.Clause)
    → ((d : defs.Clause) → r ≡ Ok d → length d.1 ≤ 4)
    → option_map_or (λ o. defs.own_member path n o f (own_test prims path o n.operator) r) (own_of n.word)
    (member_property prims context path n >>= λ p. form p >>= λ g. r >>= λ c. Ok (g c.0, c.1)) ≡ Ok c
    → length c.1 ≤ 4
member_few prims context path n f r form c more is = by (own_of n.word) is
  where
    by : (o : Option Own)
        → option_map_or (λ o. defs.own_member path n o f (own_test prims path o n.operator) r) o (member_property prims context path n >>= λ p. form p >>= λ g. r >>= λ c. Ok (g c.0, c.1)) ≡ Ok c
        → length c.1 ≤ 4
    by (Some o) is =
        let made = computed path n o f (own_test prims path o n.operator) r c (λ t. Unit {0}) tt (λ j t given. tt) is in
        subst (λ (c : defs.Clause). length c.1 ≤ 4) made.is (more made.behind made.gave)
    by None is =
        let one = steps (member_property prims context path n) (λ p. form p >>= λ g. r >>= λ c. Ok (g c.0, c.1)) c is in
        let two = steps (form one.value) (λ g. r >>= λ c. Ok (g c.0, c.1)) c one.then_gave in
        let three = steps r (λ (c : defs.Clause). Ok (two.value c.0, c.1)) c two.then_gave in
        subst (λ (c : defs.Clause). length c.1 ≤ 4) (ok_same (two.value three.value.0, three.value.1) c three.then_gave) (more three.value three.gave)

asked_few : (prims : List Primitive) (context : Option ℕ) (path : List (List ℕ)) (ms : Members) (c : defs.Clause) → Few ms → asked prims context path ms ≡ Ok c → length c.1 ≤ 4
asked_few prims context path query.no_members c few is = subst (λ (c : defs.Clause). length c.1 ≤ 4) (ok_same (defs.no_members, []) c is) (omega arith)
asked_few prims context path (query.sort_by ws ms) c few is =
    let one = steps (sort_keys prims context (path ++ sort_name ∷ []) ws) (λ ks. asked prims context path ms >>= λ c. Ok (c.0, ks)) c is in
    let more = steps (asked prims context path ms) (λ c. Ok (c.0, one.value)) c one.then_gave in
    let len = keys_len prims context (path ++ sort_name ∷ []) ws one.value one.gave in
    subst (λ (c : defs.Clause). length c.1 ≤ 4) (ok_same (more.value.0, one.value) c more.then_gave) (omega arith)
asked_few prims context path (query.member n f ms) c few is =
    member_few prims context (path ++ n.spelled ∷ []) n f (asked prims context path ms) (λ p. asked_form prims (path ++ n.spelled ∷ []) n p f) c (λ d made. asked_few prims context path ms d few made) is

-- the bounds of a query whose words are looked up
record AllBounded (q : Asked) : Type 0 where
  few : length q.sort ≤ 4
  some : 0 < q.limit
  most : q.limit ≤ 1000

all_bounded : (prims : List Primitive) (j : Json) (written : Query) (q : Asked) → query_of j ≡ Ok written → asked_query prims written ≡ Ok q → AllBounded q
all_bounded prims j written q spelled is =
    let bounded = query_bounded j written spelled in
    let one = steps (context_of prims None (type_text written.members)) (λ t. asked prims t [] written.members >>= λ c. Ok (found c)) q is in
    let more = steps (asked prims one.value [] written.members) (λ c. Ok (found c)) q one.then_gave in
    subst AllBounded (ok_same (found more.value) q more.then_gave) (record {
      few = asked_few prims one.value [] written.members more.value bounded.few more.gave;
      some = some_limit written.directives.limit bounded.some;
      most = most_limit written.directives.limit bounded.some;
    })
  where
    found : defs.Clause → Asked
    found c = record { listed = written.listed; single = asks_single written.listed written.directives; count = written.directives.count; limit = unwrap_or written.directives.limit 100; members = c.0; sort = c.1 }

    some_limit : (o : Option ℕ) → Some_one o → 0 < unwrap_or o 100
    some_limit None some = omega arith
    some_limit (Some n) some = some.0

    most_limit : (o : Option ℕ) → Some_one o → unwrap_or o 100 ≤ 1000
    most_limit None some = omega arith
    most_limit (Some n) some = some.1

-- THE LAW: a query that was read has four sort keys at most, and a limit of one at least
pub read_bounded : (prims : List Primitive) (j : Json) (written : Query) (q : Asked) → query_of j ≡ Ok written → asked_query prims written ≡ Ok q → (length q.sort ≤ 4) × (0 < q.limit)
read_bounded prims j written q spelled is = let all = all_bounded prims j written q spelled is in (all.few, all.some)

-- THE LAW: and of 1,000 at most
pub read_limited : (prims : List Primitive) (j : Json) (written : Query) (q : Asked) → query_of j ≡ Ok written → asked_query prims written ≡ Ok q → q.limit ≤ 1000
read_limited prims j written q spelled is = (all_bounded prims j written q spelled is).most
