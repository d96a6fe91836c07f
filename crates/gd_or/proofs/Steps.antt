-- What a union owes, step by step.
use Rattle.std.proofs.Common.{◌≡◌, ◌∙◌, ◌+◌, ◌-◌, ◌^◌, ◌<◌, ◌≤◌, ℕ, suc, true, List, [], ◌∷◌, length, Option, Some, None, refl, sym, ap, subst, arith, map, get_or, ⊎_elim}
use Rattle.std.specs.Prelude.{All, ◌||◌, max, min}
use Rattle.std.specs.List.{list_all, list_any}
use Rattle.std.proofs.lemmas.Bool.{cases_order}
use Rattle.gd_iter_core.specs.declared.turn.Checked.{Checked}
use Rattle.gd_iter_core.specs.declared.turn.Checked.TheVariants as checked
use Rattle.gd_iter_core.specs.declared.turn.Turn.{Turn}
use Rattle.gd_iter_core.specs.Owed.{Walk, RisesFrom, ids_from, has_id, NextGives, CheckGives, owed_from}
use Rattle.gd_iter_core.specs.Positions.{Moves, at_next, at_skip}
use Rattle.gd_iter_core.specs.Rising.{first_from, rises_from, from_all, from_max}
use Rattle.gd_or.specs.declared.branch.Head.{Head}
use Rattle.gd_or.specs.declared.branch.Head.TheVariants as head
use Rattle.gd_or.specs.Or.{insert_id, sorted_set, joined, union, any_has, or_walk, part, is_known, least, AnyGives}
use Rattle.gd_or.specs.Union.{union_rises, insert_less, insert_same, insert_more}
use Rattle.gd_or.proofs.Unions.{Says, heads_say, union_starts, union_empty, parts_later, from_union, has_union}

-- what the branches owe from a place on
abbrev parts : {B : Type 0} → (B → List ℕ) → (B → Head) → ℕ → List B → List (List ℕ)
parts owed h p bs = map (λ b. part p (owed b) (h b)) bs

pub or_done : {B : Type 0} (owed : B → List ℕ) (h : B → Head) (p q : ℕ) (bs sl old : List B) → ((b : B) → RisesFrom 0 (owed b)) → q ≡ p → sl ≡ bs
    → list_all (λ b. is_known p (h b)) bs ≡ true → None ≡ least q (map h sl) → parts owed h p bs ≡ parts owed h p old
    → (union (parts owed h p old) ≡ []) × (union (parts owed h q bs) ≡ [])
or_done owed h p q bs sl old r eq es known e same =
    let e' : None ≡ least p (map h bs) = e ∙ (ap (λ s. least q (map h s)) es ∙ ap (λ n. least n (map h bs)) eq) in
    let says : Says None (joined (parts owed h p bs)) = subst (λ o. Says o (joined (parts owed h p bs))) (sym e') (heads_say owed h p bs r known) in
    let none : union (parts owed h p bs) ≡ [] = union_empty (parts owed h p bs) says in
    (ap union (sym same) ∙ none, ap (λ n. union (parts owed h n bs)) eq ∙ none)

found_here : {B : Type 0} (owed : B → List ℕ) (h : B → Head) (p q m : ℕ) (bs sl : List B) → ((b : B) → RisesFrom 0 (owed b)) → q ≡ p → sl ≡ bs
    → list_all (λ b. is_known p (h b)) bs ≡ true → Some m ≡ least q (map h sl)
    → union (parts owed h p bs) ≡ m ∷ ids_from (m + 1) (union (parts owed h p bs))
found_here owed h p q m bs sl r eq es known e =
    let e' : Some m ≡ least p (map h bs) = e ∙ (ap (λ s. least q (map h s)) es ∙ ap (λ n. least n (map h bs)) eq) in
    let says : Says (Some m) (joined (parts owed h p bs)) = subst (λ o. Says o (joined (parts owed h p bs))) (sym e') (heads_say owed h p bs r known) in
    union_starts m (parts owed h p bs) says

pub or_low : {B : Type 0} (owed : B → List ℕ) (h : B → Head) (p q m : ℕ) (bs sl : List B) → ((b : B) → RisesFrom 0 (owed b)) → q ≡ p → sl ≡ bs
    → list_all (λ b. is_known p (h b)) bs ≡ true → Some m ≡ least q (map h sl) → p ≤ m
or_low owed h p q m bs sl r eq es known e =
    first_from p m (union (parts owed h p bs)) (ids_from (m + 1) (union (parts owed h p bs)))
    (parts_later owed h p p bs (omega arith) ∙ found_here owed h p q m bs sl r eq es known e)

pub or_found : {B : Type 0} (owed : B → List ℕ) (h : B → Head) (p q m n : ℕ) (bs sl old : List B) → n ≡ m → ((b : B) → RisesFrom 0 (owed b)) → q ≡ p → sl ≡ bs
    → list_all (λ b. is_known p (h b)) bs ≡ true → Some m ≡ least q (map h sl) → parts owed h p bs ≡ parts owed h p old
    → union (parts owed h p old) ≡ m ∷ union (parts owed h (n + 1) bs)
or_found owed h p q m n bs sl old en r eq es known e same =
    let low = or_low owed h p q m bs sl r eq es known e in
    ap union (sym same) ∙ (found_here owed h p q m bs sl r eq es known e ∙ (ap (λ l. m ∷ l) (parts_later owed h p (m + 1) bs (omega (arith, low)))
    ∙ ap (λ k. m ∷ union (parts owed h (k + 1) bs)) (sym en)))

-- from the greater of two places on
pub or_skip : {B : Type 0} (owed : B → List ℕ) (h : B → Head) (p q from : ℕ) (bs cs : List B) → q ≡ max p from → cs ≡ bs
    → union (parts owed h q cs) ≡ ids_from from (union (parts owed h p bs))
or_skip owed h p q from bs cs e same =
    let up : p ≤ q = omega (arith, e) in
    ap (λ xs. union (parts owed h q xs)) same ∙ (sym (parts_later owed h p q bs up) ∙ (ap (λ n. ids_from n (union (parts owed h p bs))) e
    ∙ (from_max p from (union (parts owed h p bs)) ∙ ap (ids_from from) (parts_later owed h p p bs (omega arith)))))

-- what is owed rises from the place
pub or_rises_from : {B : Type 0} (owed : B → List ℕ) (h : B → Head) (p : ℕ) (bs : List B) → RisesFrom p (union (parts owed h p bs))
or_rises_from owed h p bs = subst (RisesFrom p) (parts_later owed h p p bs (omega arith)) (rises_from p 0 (union (parts owed h p bs)) (union_rises (parts owed h p bs)))

map_twice : {A B C : Type 0} (f : A → B) (g : B → C) (xs : List A) → map g (map f xs) ≡ map (λ a. g (f a)) xs
map_twice f g [] = refl
map_twice f g (a ∷ xs) = ap (λ bs. g (f a) ∷ bs) (map_twice f g xs)

asked : {B W : Type 0} (walk : B → Walk W) (w : W) (bs : List B) (id : ℕ) → has_id (union (map (λ v. v.set w) (map walk bs))) id ≡ any_has id (map (λ b. (walk b).set w) bs)
asked walk w bs id = has_union id (map (λ v. v.set w) (map walk bs)) ∙ ap (any_has id) (map_twice walk (λ v. v.set w) bs)

pub check_union : {B W : Type 0} (walk : B → Walk W) (w : W) (bs sl : List B) (id : ℕ) (c : Checked) → sl ≡ bs
    → AnyGives (map (λ b. (walk b).set w) sl) id c → CheckGives (union (map (λ v. v.set w) (map walk bs))) id c
check_union walk w bs sl id checked.Yes same h = asked walk w bs id ∙ (ap (λ xs. any_has id (map (λ b. (walk b).set w) xs)) (sym same) ∙ h)
check_union walk w bs sl id checked.No same h = asked walk w bs id ∙ (ap (λ xs. any_has id (map (λ b. (walk b).set w) xs)) (sym same) ∙ h)
check_union walk w bs sl id checked.Unfinished same h = tt

insert_short : (x : ℕ) (ys : List ℕ) → length (insert_id x ys) ≤ length ys + 1
insert_short x [] = omega arith
insert_short x (y ∷ ys) =
    let rest = insert_short x ys in
    ⊎_elim
    (λ (same : x ≡ y). omega (arith, ap length (insert_same x y ys same)))
    (λ apart. ⊎_elim
    (λ (less : x < y). omega (arith, ap length (insert_less x y ys less)))
    (λ (more : y < x). omega (arith, rest, ap length (insert_more x y ys more)))
    apart)
    (cases_order x y)

sorted_short : (xs : List ℕ) → length (sorted_set xs) ≤ length xs
sorted_short [] = omega arith
sorted_short (x ∷ xs) = let rest = sorted_short xs in let one = insert_short x (sorted_set xs) in omega (arith, rest, one)

pub union_short : {B W : Type 0} (walk : B → Walk W) (w : W) (bs sl : List B) (n : ℕ) → sl ≡ bs
    → min (length (joined (map (λ b. (walk b).set w) sl))) (2 ^ 32 - 1) ≤ n → min (length (union (map (λ v. v.set w) (map walk bs)))) (2 ^ 32 - 1) ≤ n
union_short walk w bs sl n same h =
    let short = sorted_short (joined (map (λ v. v.set w) (map walk bs))) in
    let e : length (joined (map (λ v. v.set w) (map walk bs))) ≡ length (joined (map (λ b. (walk b).set w) sl))
    = ap (λ l. length (joined l)) (map_twice walk (λ v. v.set w) bs ∙ ap (map (λ b. (walk b).set w)) (sym same)) in
    omega (arith, short, e, h)

-- a position that was taken
pub or_thawed : {B W : Type 0} (walk : B → Walk W) (owed : B → List ℕ) (h : B → Head) (w : W) (p q : ℕ) (bs old : List B) (accepted : Option ℕ) → accepted ≡ None → q ≡ p
    → parts owed h p bs ≡ map (λ b. ids_from p ((walk b).set w)) old → union (parts owed h q bs) ≡ owed_from (or_walk (map walk old)) w p accepted
or_thawed walk owed h w p q bs old accepted none eq e =
    rw none (ap (λ n. union (parts owed h n bs)) eq ∙ (ap union (e ∙ sym (ap (map (ids_from p)) (map_twice walk (λ v. v.set w) old) ∙ map_twice (λ b. (walk b).set w) (ids_from p) old))
    ∙ sym (from_union p (map (λ v. v.set w) (map walk old)))))

-- the position after a turn
pub or_at_next : {B W : Type 0} (walk : B → Walk W) (owed : B → List ℕ) (h : B → Head) (w : W) (p q : ℕ) (bs cs : List B) (t : Turn) → map walk cs ≡ map walk bs
    → union (parts owed h p bs) ≡ owed_from (or_walk (map walk bs)) w p None → NextGives (union (parts owed h p bs)) t (union (parts owed h q cs)) → Moves p t q
    → union (parts owed h q cs) ≡ owed_from (or_walk (map walk cs)) w q None
or_at_next walk owed h w p q bs cs t same at gives moves =
    at_next (or_walk (map walk bs)) (or_walk (map walk cs)) w p q None None (union (parts owed h p bs)) (union (parts owed h q cs)) t
    (ap or_walk same) at (or_rises_from owed h q cs) gives moves

-- and where places were given up
pub or_at_skip : {B W : Type 0} (walk : B → Walk W) (owed : B → List ℕ) (h : B → Head) (w : W) (p q from : ℕ) (bs cs : List B) → q ≡ max p from → cs ≡ bs
    → union (parts owed h p bs) ≡ owed_from (or_walk (map walk bs)) w p None → union (parts owed h q cs) ≡ owed_from (or_walk (map walk cs)) w q None
or_at_skip walk owed h w p q from bs cs e same at =
    at_skip (or_walk (map walk bs)) (or_walk (map walk cs)) w p q from None None (union (parts owed h p bs)) (union (parts owed h q cs))
    (ap (λ xs. or_walk (map walk xs)) same) at (or_rises_from owed h q cs) (or_skip owed h p q from bs cs e same) (omega (arith, e)) (omega (arith, e))

-- ---- a new union

-- some member has a place
any_member : {I : Type 0} (set : I → List ℕ) (ms : List I) (id : ℕ) → any_has id (map set ms) ≡ list_any (λ m. has_id (set m) id) ms
any_member set [] id = refl
any_member set (m ∷ ms) id = ap (λ b. has_id (set m) id || b) (any_member set ms id)

-- it walks what some member has
pub new_walks : {B I W : Type 0} (walk : I → Walk W) (iter : B → I) (w : W) (bs : List B) (ms : List I) (id : ℕ) → map iter bs ≡ ms
    → has_id (union (map (λ v. v.set w) (map (λ b. walk (iter b)) bs))) id ≡ list_any (λ m. has_id ((walk m).set w) id) ms
new_walks walk iter w bs ms id same =
    asked (λ b. walk (iter b)) w bs id
    ∙ (ap (any_has id) (sym (map_twice iter (λ m. (walk m).set w) bs)) ∙ (ap (λ l. any_has id (map (λ m. (walk m).set w) l)) same ∙ any_member (λ m. (walk m).set w) ms id))

parts_new : {B I W : Type 0} (walk : I → Walk W) (owed : I → W → List ℕ) (iter : B → I) (h : B → Head) (w : W) (bs : List B) (ms : List I)
    → ((m : I) → RisesFrom 0 ((walk m).set w)) → map iter bs ≡ ms → map h bs ≡ map (λ _. head.Unknown) ms
    → ((k : ℕ) (d : I) → k < length ms → owed (get_or ms k d) w ≡ (walk (get_or ms k d)).set w)
    → map (λ b. part 0 (owed (iter b) w) (h b)) bs ≡ map (λ b. (walk (iter b)).set w) bs
parts_new walk owed iter h w [] ms r same heads fresh = refl
parts_new walk owed iter h w (b ∷ bs) [] r same heads fresh = absurd (cc same)
parts_new {I = I} walk owed iter h w (b ∷ bs) (m ∷ ms) r same heads fresh =
    let is : iter b ≡ m = cc same in
    let unknown : h b ≡ head.Unknown = cc heads in
    let rest : map iter bs ≡ ms = cc same in
    let heads_rest : map h bs ≡ map (λ _. head.Unknown) ms = cc heads in
    let here : owed (iter b) w ≡ (walk (iter b)).set w = subst (λ (i : I). owed i w ≡ (walk i).set w) (sym is) (fresh 0 m (omega arith)) in
    let first : part 0 (owed (iter b) w) (h b) ≡ (walk (iter b)).set w = rw (unknown, here) (from_all 0 0 ((walk (iter b)).set w) (omega arith) (r (iter b))) in
    ap (λ l. l ∷ map (λ b. part 0 (owed (iter b) w) (h b)) bs) first
    ∙ ap (λ ls. (walk (iter b)).set w ∷ ls) (parts_new walk owed iter h w bs ms r rest heads_rest (λ k d there. fresh (suc k) d (omega (arith, there))))

-- and owes all of it
pub new_owes : {B I W : Type 0} (walk : I → Walk W) (owed : I → W → List ℕ) (iter : B → I) (h : B → Head) (w : W) (bs : List B) (ms : List I) (p : ℕ)
    → ((m : I) → RisesFrom 0 ((walk m).set w)) → map iter bs ≡ ms → map h bs ≡ map (λ _. head.Unknown) ms → p ≡ 0
    → All (λ m. owed m w ≡ (walk m).set w) ms
    → union (map (λ b. part p (owed (iter b) w) (h b)) bs) ≡ union (map (λ v. v.set w) (map (λ b. walk (iter b)) bs))
new_owes walk owed iter h w bs ms p r same heads start fresh =
    rw start (ap union (parts_new walk owed iter h w bs ms r same heads fresh ∙ sym (map_twice (λ b. walk (iter b)) (λ v. v.set w) bs)))
