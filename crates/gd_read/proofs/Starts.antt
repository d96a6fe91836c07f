-- The bound on beginning a read pays for what its query costs, and for choosing among the sets that it names.
use Rattle.std.proofs.Common.{◌≡◌, ◌∙◌, ℕ, ◌+◌, ◌*◌, ◌≤◌, ◌<◌, suc, List, [], ◌∷◌, ◌++◌, length, map, take, get_or, Bool, true, false, ◌&&◌, Option, Some, None, Result, Ok, refl, sym, ap, subst, arith}
use Rattle.std.specs.Prelude.{filter_map, sum_by, if◌then◌else◌}
use Rattle.std.proofs.Math.Seq.{take-suc}
use Rattle.std.proofs.lemmas.List.Sums.{sum_by-cons, sum_by_push, sum_by-take-le}
use Rattle.gd_prim.specs.declared.Primitive.{Primitive}
use Rattle.gd_prim.specs.declared.Batch.{Batch}
use Rattle.gd_prim.specs.History.{prims_of}
use Rattle.gd_defs.specs.Cost.{resolving}
use Rattle.gd_defs.specs.Lines.{Refusal}
use Rattle.gd_defs.specs.Query as query
use Rattle.gd_defs.specs.Asked.{Asked, asked_query}
use Rattle.gd_defs.specs.Plan.{clauses_of}
use Rattle.gd_defs.specs.Template.{Clauses, no_clauses, clause, links_by, end_here, is_required, is_literal}
use Rattle.gd_bytes.specs.Cursor.{Cursor}
use Rattle.gd_runs.specs.Pace.{begin_steps, begin_all_steps}
use Rattle.gd_runs.specs.Request.{ReadRequest, one_query}
use Rattle.gd_runs.specs.RootSets.{sets_by_link}
use Rattle.gd_work_laws.specs.Sources.{Source, sources, source_of, links_asked}
use Rattle.gd_work_laws.proofs.Laws.{sources_are_sets}
use Rattle.gd_roots.specs.Sets.{numbered}
use Rattle.gd_mql.specs.Requests.{read_view}
use Rattle.gd_mql.specs.declared.request.ReadRequest.{ReadRequest as Written}
use Rattle.gd_read.specs.Begun.{asked_from, dateline_from}
use Rattle.gd_read.specs.Start.{start_prims, start_steps}

-- ---- the sets that are chosen among

-- links that are numbered are as many as those that are not
numbered_count : (prims : List Primitive) (n : ℕ) (cs : Clauses) → length (numbered prims n cs) ≡ length (sources prims cs)
numbered_count prims n no_clauses = refl
numbered_count prims n (clause mode (end_here e) t rest) = numbered_count prims (n + 1) rest
numbered_count prims n (clause mode (links_by e) t rest) = by (is_required mode && is_literal t) (numbered_count prims (n + 1) rest)
  where
    both : (ls : List (List ℕ)) (r : List (ℕ × Source)) (q : List Source) → length r ≡ length q → length (map (λ links. (n, (e, (t, links)))) ls ++ r) ≡ length (map (λ links. (e, (t, links))) ls ++ q)
    both [] r q same = same
    both (l ∷ ls) r q same = ap suc (both ls r q same)

    by : (b : Bool) → length (numbered prims (n + 1) rest) ≡ length (sources prims rest)
        → length ((if b then map (λ links. (n, (e, (t, links)))) (links_asked prims t) else []) ++ numbered prims (n + 1) rest) ≡ length ((if b then map (λ links. (e, (t, links))) (links_asked prims t) else []) ++ sources prims rest)
    by true more = both (links_asked prims t) (numbered prims (n + 1) rest) (sources prims rest) more
    by false more = more

kept_less : {A B : Type 0} (f : A → Option B) (xs : List A) → length (filter_map f xs) ≤ length xs
kept_less f [] = omega arith
kept_less f (x ∷ xs) = by (f x) (kept_less f xs)
  where
    by : (o : Option _) → length (filter_map f xs) ≤ length xs → length (Rattle.std.specs.List.cons_option o (filter_map f xs)) ≤ length (x ∷ xs)
    by None le = omega (arith, le)
    by (Some y) le = omega (arith, le)

-- no more sets are chosen among than the query names by its literals
pub chosen_few : (prims : List Primitive) (written : query.Query) (q : Asked) → asked_query prims written ≡ Ok q → length (numbered prims 0 (clauses_of q.sort q.members)) ≤ length (sets_by_link prims q.members)
chosen_few prims written q is =
    let are = sources_are_sets prims written q is in
    let few = kept_less source_of (sets_by_link prims q.members) in
    subst (λ n. n ≤ length (sets_by_link prims q.members)) (sym (numbered_count prims 0 (clauses_of q.sort q.members) ∙ ap length are.1)) few

-- ---- beginning a query

-- LAW: what its words and ids cost pays for looking it up and for choosing
pub starts_paid : (prims : List Primitive) (written : query.Query) (q : Asked) (before mid after : ℕ) → asked_query prims written ≡ Ok q
    → mid + 24 * length (sets_by_link prims q.members) ≤ before + 64 * resolving prims written → after ≤ mid + 24 * length (numbered prims 0 (clauses_of q.sort q.members))
    → after ≤ before + begin_steps prims written
starts_paid prims written q before mid after is room more = by (length (sets_by_link prims q.members)) (length (numbered prims 0 (clauses_of q.sort q.members))) (resolving prims written) (chosen_few prims written q is) room more
  where
    by : (s n r : ℕ) → n ≤ s → mid + 24 * s ≤ before + 64 * r → after ≤ mid + 24 * n → after ≤ before + 64 * (1 + r)
    by s n r few room more = omega (arith, few, room, more)

pub looked_paid : (prims : List Primitive) (written : query.Query) (before after : ℕ) → after ≤ before + 64 * resolving prims written → after ≤ before + begin_steps prims written
looked_paid prims written before after work = by (resolving prims written) work
  where
    by : (r : ℕ) → after ≤ before + 64 * r → after ≤ before + 64 * (1 + r)
    by r le = omega (arith, le)

-- ---- where it begins

-- at the dateline of a cursor, if there is one
pub starts_at : (batches below : List Batch) (latest line : ℕ) (r : ReadRequest) (after : Option Cursor) (before now : ℕ) → latest ≡ length batches → asked_from latest r.cursor ≡ Ok after → line ≡ dateline_from latest after → below ≡ take line batches
    → now ≤ before + begin_steps (prims_of below) r.query → now ≤ before + start_steps batches (one_query r)
starts_at batches below latest line r after before now same given at cut within =
    subst (λ (o : Result (Option Cursor) (ℕ × Refusal)). now ≤ before + begin_steps (start_prims batches o) r.query) (sym (subst (λ n. asked_from n r.cursor ≡ Ok after) same given))
    (subst (λ bs. now ≤ before + begin_steps (prims_of bs) r.query) (cut ∙ ap (λ n. take n batches) (at ∙ ap (λ n. dateline_from n after) same)) within)

-- a cursor that is refused takes no step
pub starts_none : (batches : List Batch) (r : ReadRequest) (before : ℕ) → before ≤ before + start_steps batches (one_query r)
starts_none batches r before = by (start_steps batches (one_query r))
  where
    by : (n : ℕ) → before ≤ before + n
    by n = omega arith

-- ---- queries, one after another

sum_mapped : {A B : Type 0} (g : A → B) (f : B → ℕ) (xs : List A) → sum_by f (map g xs) ≡ sum_by (λ x. f (g x)) xs
sum_mapped g f [] = refl
sum_mapped g f (x ∷ xs) = sum_by-cons f (g x) (map g xs) ∙ (ap (λ n. f (g x) + n) (sum_mapped g f xs) ∙ sym (sum_by-cons (λ x. f (g x)) x xs))

-- an item stands behind those in front of it
front_sum : {A : Type 0} (f : A → ℕ) (items had : List A) (x : A) → had ≡ take (length had) items → length had < length items → x ≡ get_or items (length had) x → sum_by f had + f x ≤ sum_by f items
front_sum f items had x front few there = go (length had) few there (ap (sum_by f) front)
  where
    go : (n : ℕ) → n < length items → x ≡ get_or items n x → sum_by f had ≡ sum_by f (take n items) → sum_by f had + f x ≤ sum_by f items
    go n few there same =
        let more = ap (sum_by f) (take-suc items n x few) in
        let all = sum_by-take-le f items (suc n) in
        let pushed = sum_by_push f (take n items) (get_or items n x) in
        let last = ap f there in
        omega (arith, same, more, all, pushed, last)

-- what queries take together, as the requests are held
all_steps : (prims : List Primitive) (rs : List Written) → begin_all_steps prims (map read_view rs) ≡ sum_by (λ (r : Written). begin_steps prims (read_view r).query) rs
all_steps prims rs = sum_mapped read_view (λ (r : ReadRequest). begin_steps prims r.query) rs

-- a query more takes no more than all together
pub parts_start : (prims : List Primitive) (items had : List Written) (x : Written) (a b c : ℕ) → had ≡ take (length had) items → length had < length items → x ≡ get_or items (length had) x
    → b ≤ a + begin_all_steps prims (map read_view had) → c ≤ b + begin_steps prims (read_view x).query → c ≤ a + begin_all_steps prims (map read_view items)
parts_start prims items had x a b c front few there first one =
    let sum = front_sum (λ (r : Written). begin_steps prims (read_view r).query) items had x front few there in
    by _ _ _ _ _ first one (all_steps prims had) (all_steps prims items) sum
  where
    by : (m n s k l : ℕ) → b ≤ a + m → c ≤ b + s → m ≡ k → n ≡ l → k + s ≤ l → c ≤ a + n
    by m n s k l one two three four five = omega (arith, one, two, three, four, five)

-- and is one more of those that were begun
pub parts_more_start : (prims : List Primitive) (had : List Written) (x : Written) (a b c : ℕ) → b ≤ a + begin_all_steps prims (map read_view had) → c ≤ b + begin_steps prims (read_view x).query
    → c ≤ a + begin_all_steps prims (map read_view (had ++ x ∷ []))
parts_more_start prims had x a b c first one = by _ _ _ _ _ first one (all_steps prims had) (all_steps prims (had ++ x ∷ [])) (sum_by_push (λ (r : Written). begin_steps prims (read_view r).query) had x)
  where
    by : (m n s k l : ℕ) → b ≤ a + m → c ≤ b + s → m ≡ k → n ≡ l → l ≡ k + s → c ≤ a + n
    by m n s k l one two three four five = omega (arith, one, two, three, four, five)
