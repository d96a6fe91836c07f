-- Laws of lists in a table by node: what a change of one list, and a new one, mean for the list of each node.
use Rattle.std.proofs.Common.{◌≡◌, ◌≢◌, ◌∙◌, ◌+◌, ◌<◌, ◌≤◌, ◌==◌, ℕ, zero, suc, List, [], ◌∷◌, ◌++◌, Bool, true, false, refl, sym, ap, subst, length, arith, get_or}
use Rattle.std.specs.Prelude.{slice_set}
use Rattle.std.proofs.lemmas.Bool.{eqb-true, eqb-false}
use Rattle.std.proofs.lemmas.List.{get_or-set_same, get_or-set_other}
use Rattle.std.proofs.Math.ListN.{get_or-append}
use Rattle.std.proofs.Math.Seq.{get_or-append_seam}
use Rattle.gd_postings.specs.Postings.{Places}
use Rattle.gd_lists.specs.Lists.{id_list, nothing}
use Rattle.gd_lists.specs.Table.{list_numbered, by_node, number_at, IsTable}

-- the list of a node
pub look : (lists : List Places) (numbers : List ℕ) (n : ℕ) → id_list (by_node lists numbers) n ≡ list_numbered lists (number_at numbers n)
look lists [] n = refl
look lists (x ∷ numbers) zero = refl
look lists (x ∷ numbers) (suc n) = look lists numbers n

behind : (numbers : List ℕ) (n : ℕ) → length numbers ≤ n → number_at numbers n ≡ 0
behind [] n past = refl
behind (x ∷ numbers) zero past = absurd (omega (arith, past))
behind (x ∷ numbers) (suc n) past = behind numbers n (omega (arith, past))

-- a node with a number is in the table
pub in_table : (numbers : List ℕ) (n : ℕ) → 0 < number_at numbers n → n < length numbers
in_table [] n some = absurd (omega (arith, some))
in_table (x ∷ numbers) zero some = omega arith
in_table (x ∷ numbers) (suc n) some = let rest = in_table numbers n some in omega (arith, rest)

-- a list that is not nothing has a number
pub has_room : (lists : List Places) (numbers : List ℕ) (n : ℕ) → 0 < (id_list (by_node lists numbers) n).spare → 0 < number_at numbers n
has_room lists numbers n some = either (number_at numbers n) (subst (λ (p : Places). 0 < p.spare) (look lists numbers n) some)
  where
    either : (k : ℕ) → 0 < (list_numbered lists k).spare → 0 < k
    either zero room = absurd (omega (arith, room))
    either (suc k) room = omega arith

pub has_ids : (lists : List Places) (numbers : List ℕ) (n : ℕ) → 0 < length (id_list (by_node lists numbers) n).ids → 0 < number_at numbers n
has_ids lists numbers n some = either (number_at numbers n) (subst (λ (p : Places). 0 < length p.ids) (look lists numbers n) some)
  where
    either : (k : ℕ) → 0 < length (list_numbered lists k).ids → 0 < k
    either zero ids = absurd (omega (arith, ids))
    either (suc k) ids = omega arith

-- ---- a list is changed

numbered_same : (lists : List Places) (k m : ℕ) (w : Places) → k < length lists → m ≡ suc k → list_numbered (slice_set lists k w) m ≡ w
numbered_same lists k m w there is = ap (list_numbered (slice_set lists k w)) is ∙ get_or-set_same lists k w nothing there

numbered_other : (lists : List Places) (k m : ℕ) (w : Places) → m ≢ suc k → list_numbered (slice_set lists k w) m ≡ list_numbered lists m
numbered_other lists k zero w other = refl
numbered_other lists k (suc m) w other = get_or-set_other lists k m w nothing (λ same. other (ap suc same))

-- what holds at the node, and of a list with itself where the node is another, holds at each node
pub each_node : (R : Bool → Places → Places → Type 0) → ((p : Places) → R false p p) → (lists : List Places) (numbers : List ℕ) (node k : ℕ) (w : Places)
    → IsTable numbers (length lists) → number_at numbers node ≡ suc k → k < length lists → R true (list_numbered lists (suc k)) w
    → (n : ℕ) → R (node == n) (id_list (by_node lists numbers) n) (id_list (by_node (slice_set lists k w) numbers) n)
each_node R same lists numbers node k w table is there here n =
    subst (λ (p : Places). R (node == n) p (id_list (by_node (slice_set lists k w) numbers) n)) (sym (look lists numbers n))
    (subst (λ (p : Places). R (node == n) (list_numbered lists (number_at numbers n)) p) (sym (look (slice_set lists k w) numbers n)) (either (node == n) refl))
  where
    either : (b : Bool) → (node == n) ≡ b → R b (list_numbered lists (number_at numbers n)) (list_numbered (slice_set lists k w) (number_at numbers n))
    either true yes_same =
        let one : node ≡ n = eqb-true node n yes_same in
        let number : number_at numbers n ≡ suc k = ap (number_at numbers) (sym one) ∙ is in
        subst (λ (p : Places). R true (list_numbered lists (number_at numbers n)) p) (sym (numbered_same lists k (number_at numbers n) w there number))
        (subst (λ (m : ℕ). R true (list_numbered lists m) w) (sym number) here)
    either false not_same =
        let other : number_at numbers n ≢ suc k = λ number. eqb-false node n not_same (table.apart node n (omega (arith, is)) (is ∙ sym number)) in
        subst (λ (p : Places). R false (list_numbered lists (number_at numbers n)) p) (sym (numbered_other lists k (number_at numbers n) w other)) (same (list_numbered lists (number_at numbers n)))

-- ---- a node gets a list

old_numbered : (lists : List Places) (m : ℕ) (w : Places) → m ≤ length lists → list_numbered (lists ++ w ∷ []) m ≡ list_numbered lists m
old_numbered lists zero w within = refl
old_numbered lists (suc m) w within = get_or-append lists (w ∷ []) nothing m (omega (arith, within))

new_numbered : (lists : List Places) (m : ℕ) (w : Places) → m ≡ length lists + 1 → list_numbered (lists ++ w ∷ []) m ≡ w
new_numbered lists m w is =
    let next : m ≡ suc (length lists) = omega (arith, is) in
    ap (list_numbered (lists ++ w ∷ [])) next ∙ get_or-append_seam lists w [] nothing

number_given : (numbers : List ℕ) (node n m : ℕ) → node < length numbers → node ≡ n → number_at (slice_set numbers node m) n ≡ m
number_given numbers node n m there same = ap (number_at (slice_set numbers node m)) (sym same) ∙ get_or-set_same numbers node m 0 there

number_kept : (numbers : List ℕ) (node n m : ℕ) → (node ≡ n → ⊥) → number_at (slice_set numbers node m) n ≡ number_at numbers n
number_kept numbers node n m other = get_or-set_other numbers node n m 0 (λ same. other (sym same))

pub each_given : (R : Bool → Places → Places → Type 0) → ((p : Places) → R false p p) → (lists : List Places) (numbers : List ℕ) (node m : ℕ) (w : Places)
    → IsTable numbers (length lists) → node < length numbers → number_at numbers node ≡ 0 → m ≡ length lists + 1 → R true nothing w
    → (n : ℕ) → R (node == n) (id_list (by_node lists numbers) n) (id_list (by_node (lists ++ w ∷ []) (slice_set numbers node m)) n)
each_given R same lists numbers node m w table there none is here n =
    subst (λ (p : Places). R (node == n) p (id_list (by_node (lists ++ w ∷ []) (slice_set numbers node m)) n)) (sym (look lists numbers n))
    (subst (λ (p : Places). R (node == n) (list_numbered lists (number_at numbers n)) p) (sym (look (lists ++ w ∷ []) (slice_set numbers node m) n)) (either (node == n) refl))
  where
    either : (b : Bool) → (node == n) ≡ b → R b (list_numbered lists (number_at numbers n)) (list_numbered (lists ++ w ∷ []) (number_at (slice_set numbers node m) n))
    either true same_node =
        let one : node ≡ n = eqb-true node n same_node in
        let old : list_numbered lists (number_at numbers n) ≡ nothing = ap (list_numbered lists) (ap (number_at numbers) (sym one) ∙ none) in
        let new : list_numbered (lists ++ w ∷ []) (number_at (slice_set numbers node m) n) ≡ w = new_numbered lists (number_at (slice_set numbers node m) n) w (number_given numbers node n m there one ∙ is) in
        subst (λ (p : Places). R true p (list_numbered (lists ++ w ∷ []) (number_at (slice_set numbers node m) n))) (sym old) (subst (λ (p : Places). R true nothing p) (sym new) here)
    either false other_node =
        let kept = number_kept numbers node n m (eqb-false node n other_node) in
        let new : list_numbered (lists ++ w ∷ []) (number_at (slice_set numbers node m) n) ≡ list_numbered lists (number_at numbers n) = ap (list_numbered (lists ++ w ∷ [])) kept ∙ old_numbered lists (number_at numbers n) w (table.within n) in
        subst (λ (p : Places). R false (list_numbered lists (number_at numbers n)) p) (sym new) (same (list_numbered lists (number_at numbers n)))

pub table_given : (numbers : List ℕ) (count node m : ℕ) → IsTable numbers count → node < length numbers → m ≡ count + 1 → IsTable (slice_set numbers node m) (count + 1)
table_given numbers count node m table there is = record { within = λ i. bound i (node == i) refl; apart = λ i j some same. apart i j (node == i) (node == j) refl refl some same }
  where
    bound : (i : ℕ) (b : Bool) → (node == i) ≡ b → number_at (slice_set numbers node m) i ≤ count + 1
    bound i true one = let given = number_given numbers node i m there (eqb-true node i one) in omega (arith, given, is)
    bound i false other = let kept = number_kept numbers node i m (eqb-false node i other) in let old = table.within i in omega (arith, kept, old)

    apart : (i j : ℕ) (a b : Bool) → (node == i) ≡ a → (node == j) ≡ b → 0 < number_at (slice_set numbers node m) i → number_at (slice_set numbers node m) i ≡ number_at (slice_set numbers node m) j → i ≡ j
    apart i j true true one two some same = sym (eqb-true node i one) ∙ eqb-true node j two
    apart i j true false one two some same =
        let given = number_given numbers node i m there (eqb-true node i one) in
        let kept = number_kept numbers node j m (eqb-false node j two) in
        let old = table.within j in
        absurd (omega (arith, given, kept, old, same, is))
    apart i j false true one two some same =
        let given = number_given numbers node j m there (eqb-true node j two) in
        let kept = number_kept numbers node i m (eqb-false node i one) in
        let old = table.within i in
        absurd (omega (arith, given, kept, old, same, is))
    apart i j false false one two some same =
        let first = number_kept numbers node i m (eqb-false node i one) in
        let second = number_kept numbers node j m (eqb-false node j two) in
        table.apart i j (omega (arith, first, some)) (sym first ∙ same ∙ second)

-- a longer table has the same lists
pub table_longer : (numbers new : List ℕ) (count : ℕ) → IsTable numbers count → ((n : ℕ) → number_at new n ≡ number_at numbers n) → IsTable new count
table_longer numbers new count table same = record {
  within = λ i. let old = table.within i in let is = same i in omega (arith, old, is);
  apart = λ i j some one. let is = same i in table.apart i j (omega (arith, is, some)) (sym (same i) ∙ one ∙ same j);
}

pub lists_longer : (lists : List Places) (numbers new : List ℕ) → ((n : ℕ) → number_at new n ≡ number_at numbers n) → (n : ℕ) → id_list (by_node lists new) n ≡ id_list (by_node lists numbers) n
lists_longer lists numbers new same n = look lists new n ∙ ap (list_numbered lists) (same n) ∙ sym (look lists numbers n)

-- ---- as code reads and writes them

read_list : (lists : List Places) (k : ℕ) (r : Places) → k < length lists → r ≡ get_or lists k r → r ≡ get_or lists k nothing
read_list lists k r there is = is ∙ get_or_any lists k r nothing there
  where
    get_or_any : (lists : List Places) (k : ℕ) (d e : Places) → k < length lists → get_or lists k d ≡ get_or lists k e
    get_or_any [] k d e there = absurd (omega (arith, there))
    get_or_any (x ∷ lists) zero d e there = refl
    get_or_any (x ∷ lists) (suc k) d e there = get_or_any lists k d e (omega (arith, there))

pub own_place : (lists : List Places) (numbers : List ℕ) (node k : ℕ) → IsTable numbers (length lists) → number_at numbers node ≡ k + 1 → k < length lists
own_place lists numbers node k table is = let small = table.within node in omega (arith, small, is)

pub own_list : (lists : List Places) (numbers : List ℕ) (node k : ℕ) (r : Places) → IsTable numbers (length lists) → number_at numbers node ≡ k + 1 → r ≡ get_or lists k r → r ≡ id_list (by_node lists numbers) node
own_list lists numbers node k r table is read =
    let next : number_at numbers node ≡ suc k = omega (arith, is) in
    read_list lists k r (own_place lists numbers node k table is) read ∙ sym (look lists numbers node ∙ ap (list_numbered lists) next)

pub each_changed : (R : Bool → Places → Places → Type 0) → ((p : Places) → R false p p) → (lists : List Places) (numbers : List ℕ) (node k : ℕ) (r w : Places)
    → IsTable numbers (length lists) → number_at numbers node ≡ k + 1 → r ≡ get_or lists k r → R true r w
    → (n : ℕ) → R (node == n) (id_list (by_node lists numbers) n) (id_list (by_node (slice_set lists k w) numbers) n)
each_changed R same lists numbers node k r w table is read here n =
    let next : number_at numbers node ≡ suc k = omega (arith, is) in
    let there = own_place lists numbers node k table is in
    each_node R same lists numbers node k w table next there (subst (λ (p : Places). R true p w) (read_list lists k r there read) here) n

pub length_set : (lists : List Places) (k : ℕ) (w : Places) → length (slice_set lists k w) ≡ length lists
length_set [] k w = refl
length_set (x ∷ lists) zero w = refl
length_set (x ∷ lists) (suc k) w = ap suc (length_set lists k w)

-- a node more without a list
pub pushed_none : (numbers : List ℕ) (n : ℕ) → number_at (numbers ++ 0 ∷ []) n ≡ number_at numbers n
pushed_none [] zero = refl
pushed_none [] (suc n) = refl
pushed_none (x ∷ numbers) zero = refl
pushed_none (x ∷ numbers) (suc n) = pushed_none numbers n

pub own_new : (lists : List Places) (numbers : List ℕ) (node k : ℕ) (w : Places) → IsTable numbers (length lists) → number_at numbers node ≡ k + 1 → id_list (by_node (slice_set lists k w) numbers) node ≡ w
own_new lists numbers node k w table is =
    let next : number_at numbers node ≡ suc k = omega (arith, is) in
    look (slice_set lists k w) numbers node ∙ numbered_same lists k (number_at numbers node) w (own_place lists numbers node k table is) next

pub table_set : (lists : List Places) (numbers : List ℕ) (k : ℕ) (w : Places) → IsTable numbers (length lists) → IsTable numbers (length (slice_set lists k w))
table_set lists numbers k w table = subst (λ (n : ℕ). IsTable numbers n) (sym (length_set lists k w)) table

-- what a look-up by number gives
pub numbered_get : (lists : List Places) (m k : ℕ) → m ≡ suc k → list_numbered lists m ≡ get_or lists k nothing
numbered_get lists m k is = ap (list_numbered lists) is
