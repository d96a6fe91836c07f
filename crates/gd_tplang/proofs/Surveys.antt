-- The steps of the walk over the text of a template.
use Rattle.std.proofs.Common.{◌≡◌, ◌∙◌, refl, sym, ap, subst, ℕ, zero, suc, ◌+◌, ◌-◌, ◌<◌, ◌≤◌, max, List, [], ◌∷◌, ◌++◌, length, Bool, true, false, ◌||◌, ◌&&◌, ◌==◌, nat_lt, if◌then◌else◌, Result, Ok, Err, arith, ne_eqb, eqb-true, length-append}
use Rattle.std.specs.Prelude.{codes}
use Rattle.std.proofs.lemmas.Bool.Decides.{nat_tests}
use Rattle.std.proofs.Math.Bool.{or-false, or_assoc}
use Rattle.gd_defs.specs.Query.{Mode}
use Rattle.gd_defs.specs.Template.{Hop}
use Rattle.gd_grammar.specs.Chain.{◌>>=◌}
use Rattle.gd_grammar.specs.Grammar.{Reads, text_at, more_at, ended}
use Rattle.gd_grammar.proofs.Scans.{Scans, ok_of, ok_same}
use Rattle.gd_tplang.proofs.Tests.{Good-test, test_head}
use Rattle.gd_tplang.proofs.Templates.{HeadText, Good-head}
use Rattle.gd_tplang.specs.declared.stop.Stop.{Stop}
use Rattle.gd_tplang.specs.declared.stop.Stop.TheVariants.{Bad, Memory}
use Rattle.gd_tplang.specs.Stop.{Stopped}
use Rattle.gd_grammar.specs.Choice.{is_byte, begins, seen_at, word_at, behind_at}
use Rattle.gd_tplang.specs.Written.{Test, Item, test, clause, Items, no_items, item, items_of, head_at, test_at, begins_clause, item_at, rest_at, items_at, template_at}
use Rattle.gd_tplang.specs.Meaning.{has_bad, is_bad_test}
use Rattle.gd_tplang.specs.Survey.{Marks, below, marks_of, adds, level_at, finish, goes_on, enters, space_at}
use Rattle.gd_tplang.proofs.Texts.{stopped_then}

-- a value that was read, seen through a function
abbrev pub sees : {A B : Type 0} → (A → B) → Reads A → Reads B
sees f r = r >>= λ x. Ok (f x.0, x.1)

-- ---- marks

same_marks : (a b : Bool) (m n : ℕ) → a ≡ b → m ≡ n → ◌≡◌ {A = Marks} (record { bad = a; deepest = m }) (record { bad = b; deepest = n })
same_marks a b m n p q = ap (λ x. record { bad = x; deepest = m }) p ∙ ap (λ k. record { bad = b; deepest = k }) q

-- a template that ends adds nothing
pub adds_none : (level : ℕ) (m : Marks) → level ≤ m.deepest → adds level no_items m ≡ m
adds_none level m within = same_marks (m.bad || false) m.bad (max m.deepest (level + 0)) m.deepest (or-false m.bad) (omega (arith, within))

adds_test : (level : ℕ) (t : Test) (rest : Items) (m : Marks) → adds level (item (test t) rest) m ≡ adds level rest (record { bad = m.bad || is_bad_test t; deepest = m.deepest })
adds_test level t rest m = same_marks _ _ _ _ (sym (or_assoc m.bad (is_bad_test t) (has_bad rest))) refl

deeper : (d level b r : ℕ) → max d (level + max (1 + b) r) ≡ max (max (max d (level + 1)) (level + 1 + b)) (level + r)
deeper d level b r = omega arith

adds_clause : (level : ℕ) (mode : Mode) (hop : Hop) (t rest : Items) (m : Marks)
    → adds level (item (clause mode hop t) rest) m ≡ adds level rest (adds (level + 1) t (record { bad = m.bad; deepest = max m.deepest (level + 1) }))
adds_clause level mode hop t rest m = same_marks _ _ _ _ (sym (or_assoc m.bad (has_bad t) (has_bad rest))) (deeper m.deepest level (below t) (below rest))

-- ---- an item

no_begin : (b : ℕ) (bytes : List ℕ) → begins (is_byte 41) bytes ≡ false → text_at (41 ∷ []) bytes ≡ Err bytes
no_begin b [] f = refl
no_begin b (c ∷ cs) f = ap (λ t. if t then Ok (tt, cs) else Err (c ∷ cs)) (turned c f)
  where
    turned : (c : ℕ) → (c == 41) ≡ false → (41 == c) ≡ false
    turned c f = ne_eqb 41 c (λ e. differ (c == 41) f (Rattle.std.proofs.Common.eq-eqb c 41 (sym e)))
      where
        differ : (t : Bool) → t ≡ false → t ≡ true → ⊥
        differ t p q = cc

abbrev space_by : ℕ → List ℕ → Bool → Reads (Unit {0})
space_by d ds b = if b then Ok (tt, ds) else Err (d ∷ ds)

module _ (inner : List ℕ → Reads Items) where
  -- what follows an item
  abbrev behind_item : ℕ → Reads Item → Reads Items
  behind_item c r = r >>= λ i. seen_at (item i.0) (level_at inner c) i.1

  -- no bracket and no item: no text
  rest_none : (n : ℕ) (bytes : List ℕ) → begins (is_byte 41) bytes ≡ false → more_at n 32 (item_at inner) bytes ≡ Ok ([], bytes) → rest_at inner n bytes ≡ Err bytes
  unfolding rest_at
  rest_none n bytes other none = ap (λ (r : Reads (List Item)). r >>= λ is. word_at (codes ")") (items_of is.0) is.1) none ∙ ap (λ (r : Reads (Unit {0})). r >>= λ u. Ok (no_items, u.1)) (no_begin 41 bytes other)

  -- a space and an item
  pub rest_one : (n : ℕ) (bytes : List ℕ) → rest_at inner (suc n) (32 ∷ bytes) ≡ (item_at inner bytes >>= λ i. seen_at (item i.0) (rest_at inner n) i.1)
  unfolding rest_at
  rest_one n bytes = at_item (item_at inner bytes)
    where
      at_more : (i : Item) (r : Reads (List Item)) → (sees (λ xs. i ∷ xs) r >>= λ is. word_at (codes ")") (items_of is.0) is.1) ≡ sees (item i) (r >>= λ is. word_at (codes ")") (items_of is.0) is.1)
      at_more i (Ok (is, rest)) = at_word (text_at (codes ")") rest)
        where
          at_word : (r : Reads (Unit {0})) → sees (λ u. item i (items_of is)) r ≡ sees (item i) (sees (λ u. items_of is) r)
          at_word (Ok u) = refl
          at_word (Err e) = refl
      at_more i (Err e) = refl

      at_item : (r : Reads Item) → ((r >>= λ x. sees (λ xs. x.0 ∷ xs) (more_at n 32 (item_at inner) x.1)) >>= λ is. word_at (codes ")") (items_of is.0) is.1) ≡ (r >>= λ i. seen_at (item i.0) (λ bs. more_at n 32 (item_at inner) bs >>= λ is. word_at (codes ")") (items_of is.0) is.1) i.1)
      at_item (Ok (i, rest)) = at_more i (more_at n 32 (item_at inner) rest)
      at_item (Err e) = refl

  -- a bracket ends the template
  pub level_closed : (c : ℕ) (rest : List ℕ) → level_at inner c (41 ∷ rest) ≡ Ok (no_items, rest)
  unfolding items_at rest_at
  level_closed zero rest = refl
  level_closed (suc c) rest = by (64 - suc c)
    where
      by : (n : ℕ) → (more_at n 32 (item_at inner) (41 ∷ rest) >>= λ is. word_at (codes ")") (items_of is.0) is.1) ≡ Ok (no_items, rest)
      by zero = refl
      by (suc n) = refl

  first_item : (bytes : List ℕ) → begins (is_byte 41) bytes ≡ false → level_at inner 0 bytes ≡ behind_item 1 (item_at inner bytes)
  unfolding items_at
  first_item bytes other = ap (λ b. if b then word_at (codes ")") no_items bytes else (item_at inner bytes >>= λ i. seen_at (item i.0) (rest_at inner 63) i.1)) other

  -- anything else is an item
  pub level_item : (c : ℕ) (bytes : List ℕ) → begins (is_byte 41) bytes ≡ false → level_at inner c bytes ≡ (space_at c bytes >>= λ u. behind_item (suc c) (item_at inner u.1))
  level_item zero bytes other = first_item bytes other
  level_item (suc c) bytes other = by (nat_lt (suc c) 64) refl
    where
      at : (bs : List ℕ) → begins (is_byte 41) bs ≡ false → suc c < 64 → rest_at inner (64 - suc c) bs ≡ (text_at (codes " ") bs >>= λ u. item_at inner u.1 >>= λ i. seen_at (item i.0) (rest_at inner (64 - suc (suc c))) i.1)
      at [] f few = rest_none (64 - suc c) [] f (no_more (64 - suc c))
        where
          no_more : (n : ℕ) → more_at n 32 (item_at inner) [] ≡ Ok ([], [])
          no_more zero = refl
          no_more (suc n) = refl
      at (d ∷ ds) f few = by_space (d == 32) refl
        where
          left : 64 - suc c ≡ suc (64 - suc (suc c))
          left = omega (arith, few)

          spaced : (x : ℕ) (xs : List ℕ) → x ≡ 32 → rest_at inner (64 - suc c) (x ∷ xs) ≡ (text_at (codes " ") (x ∷ xs) >>= λ u. item_at inner u.1 >>= λ i. seen_at (item i.0) (rest_at inner (64 - suc (suc c))) i.1)
          spaced x xs e = subst (λ y. rest_at inner (64 - suc c) (y ∷ xs) ≡ (text_at (codes " ") (y ∷ xs) >>= λ u. item_at inner u.1 >>= λ i. seen_at (item i.0) (rest_at inner (64 - suc (suc c))) i.1)) (sym e)
              (ap (λ n. rest_at inner n (32 ∷ xs)) left ∙ rest_one (64 - suc (suc c)) xs)

          by_space : (b : Bool) → (d == 32) ≡ b → rest_at inner (64 - suc c) (d ∷ ds) ≡ (text_at (codes " ") (d ∷ ds) >>= λ u. item_at inner u.1 >>= λ i. seen_at (item i.0) (rest_at inner (64 - suc (suc c))) i.1)
          by_space true e = spaced d ds (eqb-true d 32 e)
          by_space false e = rest_none (64 - suc c) (d ∷ ds) f (none (64 - suc c)) ∙ sym (ap (λ t. space_by d ds t >>= λ u. item_at inner u.1 >>= λ i. seen_at (item i.0) (rest_at inner (64 - suc (suc c))) i.1) turned)
            where
              turned : (32 == d) ≡ false
              turned = ne_eqb 32 d (λ q. differ (d == 32) e (Rattle.std.proofs.Common.eq-eqb d 32 (sym q)))
                where
                  differ : (t : Bool) → t ≡ false → t ≡ true → ⊥
                  differ t p q = cc

              none : (n : ℕ) → more_at n 32 (item_at inner) (d ∷ ds) ≡ Ok ([], d ∷ ds)
              none zero = refl
              none (suc n) = ap (λ b. if b then (item_at inner ds >>= λ x. sees (λ xs. x.0 ∷ xs) (more_at n 32 (item_at inner) x.1)) else Ok ([], d ∷ ds)) e

      by : (b : Bool) → nat_lt (suc c) 64 ≡ b → rest_at inner (64 - suc c) bytes ≡ ((if b then text_at (codes " ") bytes else Err bytes) >>= λ u. behind_item (suc (suc c)) (item_at inner u.1))
      by true e = at bytes other (few e)
        where
          few : nat_lt (suc c) 64 ≡ true → suc c < 64
          few e = grind (arith, nat_tests)
      by false e = rest_none (64 - suc c) bytes other (full (64 - suc c) (many e))
        where
          many : nat_lt (suc c) 64 ≡ false → 64 - suc c ≡ 0
          many e = grind (arith, nat_tests)

          full : (n : ℕ) → n ≡ 0 → more_at n 32 (item_at inner) bytes ≡ Ok ([], bytes)
          full n none = ap (λ k. more_at k 32 (item_at inner) bytes) none

-- ---- the steps

-- a bracket ends the innermost template
pub step_closes : (k c : ℕ) (cs : List ℕ) (m : Marks) (rest : List ℕ) → suc (length cs) ≤ m.deepest → finish k (c ∷ cs) m (41 ∷ rest) ≡ finish k cs m rest
step_closes k c cs m rest within = ap (λ (r : Reads Items). r >>= λ t. finish k cs (adds (suc (length cs)) t.0 m) t.1) (level_closed (template_at (k - suc (length cs))) c rest) ∙ ap (λ n. finish k cs n rest) (adds_none (suc (length cs)) m within)

-- an item comes
pub step_enters : (k c : ℕ) (cs : List ℕ) (m : Marks) (bytes : List ℕ) → begins (is_byte 41) bytes ≡ false → finish k (c ∷ cs) m bytes ≡ (space_at c bytes >>= λ u. enters k (suc c) cs m u.1)
step_enters k c cs m bytes other = ap (λ (r : Reads Items). r >>= λ t. finish k cs (adds (suc (length cs)) t.0 m) t.1) (level_item (template_at (k - suc (length cs))) c bytes other) ∙ at_space (space_at c bytes)
  where
    inner : List ℕ → Reads Items
    inner = template_at (k - suc (length cs))

    at_rest : (i : Item) (r : Reads Items) → (sees (item i) r >>= λ t. finish k cs (adds (suc (length cs)) t.0 m) t.1) ≡ (r >>= λ t. finish k cs (adds (suc (length cs)) (item i t.0) m) t.1)
    at_rest i (Ok t) = refl
    at_rest i (Err e) = refl

    at_item : (r : Reads Item) → ((r >>= λ i. seen_at (item i.0) (level_at (template_at (k - suc (length cs))) (suc c)) i.1) >>= λ t. finish k cs (adds (suc (length cs)) t.0 m) t.1) ≡ (r >>= λ i. goes_on k (suc c) cs m i.0 i.1)
    at_item (Ok (i, rest)) = at_rest i (level_at (template_at (k - suc (length cs))) (suc c) rest)
    at_item (Err e) = refl

    at_space : (r : Reads (Unit {0})) → ((r >>= λ u. item_at (template_at (k - suc (length cs))) u.1 >>= λ i. seen_at (item i.0) (level_at (template_at (k - suc (length cs))) (suc c)) i.1) >>= λ t. finish k cs (adds (suc (length cs)) t.0 m) t.1) ≡ (r >>= λ u. enters k (suc c) cs m u.1)
    at_space (Ok (u, rest)) = at_item (item_at (template_at (k - suc (length cs))) rest)
    at_space (Err e) = refl

-- a test
pub step_tests : (k c : ℕ) (cs : List ℕ) (m : Marks) (bytes : List ℕ) → begins begins_clause bytes ≡ false
    → enters k c cs m bytes ≡ (test_at bytes >>= λ t. finish k (c ∷ cs) (record { bad = m.bad || is_bad_test t.0; deepest = m.deepest }) t.1)
unfolding item_at
step_tests k c cs m bytes other = ap (λ b. (if b then (head_at bytes >>= λ h. behind_at (codes " ") (clause h.0.0 h.0.1) (template_at (k - suc (length cs))) h.1) else sees test (test_at bytes)) >>= λ i. goes_on k c cs m i.0 i.1) other ∙ at_test (test_at bytes)
  where
    at_level : (t : Test) (r : Reads Items) → (r >>= λ x. finish k cs (adds (suc (length cs)) (item (test t) x.0) m) x.1) ≡ (r >>= λ x. finish k cs (adds (suc (length cs)) x.0 (record { bad = m.bad || is_bad_test t; deepest = m.deepest })) x.1)
    at_level t (Ok (x, rest)) = ap (λ n. finish k cs n rest) (adds_test (suc (length cs)) t x m)
    at_level t (Err e) = refl

    at_test : (r : Reads Test) → (sees test r >>= λ i. goes_on k c cs m i.0 i.1) ≡ (r >>= λ t. finish k (c ∷ cs) (record { bad = m.bad || is_bad_test t.0; deepest = m.deepest }) t.1)
    at_test (Ok (t, rest)) = at_level t (level_at (template_at (k - suc (length cs))) c rest)
    at_test (Err e) = refl

-- a clause opens a template
pub step_opens : (k c : ℕ) (cs : List ℕ) (m : Marks) (bytes : List ℕ) → suc (length cs) < k → begins begins_clause bytes ≡ true
    → enters k c cs m bytes ≡ (head_at bytes >>= λ h. text_at (codes " ") h.1 >>= λ u. text_at (codes "(") u.1 >>= λ v. finish k (0 ∷ c ∷ cs) (record { bad = m.bad; deepest = max m.deepest (suc (length cs) + 1) }) v.1)
unfolding item_at template_at
step_opens k c cs m bytes enough comes = ap (λ b. (if b then (head_at bytes >>= λ h. behind_at (codes " ") (clause h.0.0 h.0.1) (template_at (k - suc (length cs))) h.1) else sees test (test_at bytes)) >>= λ i. goes_on k c cs m i.0 i.1) comes
    ∙ ap (λ n. (head_at bytes >>= λ h. behind_at (codes " ") (clause h.0.0 h.0.1) (template_at n) h.1) >>= λ i. goes_on k c cs m i.0 i.1) levels ∙ at_head (head_at bytes)
  where
    j : ℕ
    j = k - suc (suc (length cs))

    levels : k - suc (length cs) ≡ suc (k - suc (suc (length cs)))
    levels = omega (arith, enough)

    level : ℕ
    level = suc (length cs)

    opened : Marks → Marks
    opened m = record { bad = m.bad; deepest = max m.deepest (suc (length cs) + 1) }

    at_level : (mode : Mode) (hop : Hop) (t : Items) (r : Reads Items) → (r >>= λ x. finish k cs (adds (suc (length cs)) (item (clause mode hop t) x.0) m) x.1)
        ≡ (r >>= λ x. finish k cs (adds (suc (length cs)) x.0 (adds (suc (length cs) + 1) t (record { bad = m.bad; deepest = max m.deepest (suc (length cs) + 1) }))) x.1)
    at_level mode hop t (Ok (x, rest)) = ap (λ n. finish k cs n rest) (adds_clause (suc (length cs)) mode hop t x m)
    at_level mode hop t (Err e) = refl

    deeper_marks : (t : Items) → adds (suc (length cs) + 1) t (record { bad = m.bad; deepest = max m.deepest (suc (length cs) + 1) }) ≡ adds (suc (suc (length cs))) t (record { bad = m.bad; deepest = max m.deepest (suc (length cs) + 1) })
    deeper_marks t = ap (λ n. adds n t (record { bad = m.bad; deepest = max m.deepest (suc (length cs) + 1) })) (omega arith)

    at_items : (mode : Mode) (hop : Hop) (r : Reads Items) → (sees (clause mode hop) r >>= λ i. goes_on k c cs m i.0 i.1)
        ≡ (r >>= λ t. finish k (c ∷ cs) (adds (suc (suc (length cs))) t.0 (record { bad = m.bad; deepest = max m.deepest (suc (length cs) + 1) })) t.1)
    at_items mode hop (Ok (t, rest)) = at_level mode hop t (level_at (template_at (k - suc (length cs))) c rest) ∙ ap (λ n. finish k (c ∷ cs) n rest) (deeper_marks t)
    at_items mode hop (Err e) = refl

    same_reads : (r : Reads Items) → sees (λ t. t) r ≡ r
    same_reads (Ok t) = refl
    same_reads (Err e) = refl

    at_bracket : (mode : Mode) (hop : Hop) (r : Reads (Unit {0}))
        → (sees (clause mode hop) (r >>= λ u. sees (λ t. t) (items_at (template_at (k - suc (suc (length cs)))) u.1)) >>= λ i. goes_on k c cs m i.0 i.1)
        ≡ (r >>= λ v. finish k (0 ∷ c ∷ cs) (record { bad = m.bad; deepest = max m.deepest (suc (length cs) + 1) }) v.1)
    at_bracket mode hop (Ok (u, rest)) = ap (λ (r : Reads Items). sees (clause mode hop) r >>= λ i. goes_on k c cs m i.0 i.1) (same_reads (items_at (template_at (k - suc (suc (length cs)))) rest)) ∙ at_items mode hop (items_at (template_at (k - suc (suc (length cs)))) rest)
    at_bracket mode hop (Err e) = refl

    at_space : (mode : Mode) (hop : Hop) (r : Reads (Unit {0}))
        → ((r >>= λ u. sees (clause mode hop) (template_at (suc (k - suc (suc (length cs)))) u.1)) >>= λ i. goes_on k c cs m i.0 i.1)
        ≡ (r >>= λ u. text_at (codes "(") u.1 >>= λ v. finish k (0 ∷ c ∷ cs) (record { bad = m.bad; deepest = max m.deepest (suc (length cs) + 1) }) v.1)
    at_space mode hop (Ok (u, rest)) = at_bracket mode hop (text_at (codes "(") rest)
    at_space mode hop (Err e) = refl

    at_head : (r : Reads (Mode × Hop)) → ((r >>= λ h. behind_at (codes " ") (clause h.0.0 h.0.1) (template_at (suc (k - suc (suc (length cs))))) h.1) >>= λ i. goes_on k c cs m i.0 i.1)
        ≡ (r >>= λ h. text_at (codes " ") h.1 >>= λ u. text_at (codes "(") u.1 >>= λ v. finish k (0 ∷ c ∷ cs) (record { bad = m.bad; deepest = max m.deepest (suc (length cs) + 1) }) v.1)
    at_head (Ok ((mode, hop), rest)) = at_space mode hop (text_at (codes " ") rest)
    at_head (Err e) = refl

-- ---- what a step leaves

-- what is left is no longer than what was there
pub no_longer : {A : Type 0} (spells : A → List ℕ → Type 0) (read : List ℕ → Reads A) → Scans spells read → (bytes : List ℕ) (a : A) (rest : List ℕ) → read bytes ≡ Ok (a, rest) → length rest ≤ length bytes
no_longer spells read reads bytes a rest is = let f = reads.found bytes a rest is in let split = ap length f.split in let sum = length-append f.text rest in omega (arith, split, sum)

pub byte_gone : (c : ℕ) (bytes : List ℕ) (rest : List ℕ) → text_at (c ∷ []) bytes ≡ Ok (tt, rest) → bytes ≡ c ∷ rest
byte_gone c [] rest is = cc
byte_gone c (d ∷ ds) rest is = by (c == d) refl is
  where
    by : (b : Bool) → (c == d) ≡ b → space_by d ds b ≡ Ok (tt, rest) → d ∷ ds ≡ c ∷ rest
    by true e same = let head = eqb-true c d e in let tail : ds ≡ rest = ap (λ p. p.1) (ok_same same) in ap (λ x. x ∷ ds) (sym head) ∙ ap (λ l. c ∷ l) tail
    by false e same = cc

pub space_gone : (c : ℕ) (bytes : List ℕ) (rest : List ℕ) → space_at c bytes ≡ Ok (tt, rest) → length rest ≤ length bytes
space_gone zero bytes rest is = let same : bytes ≡ rest = ap (λ p. p.1) (ok_same is) in let l = ap length same in omega (arith, l)
space_gone (suc c) bytes rest is = by (nat_lt (suc c) 64) is
  where
    by : (b : Bool) → (if b then text_at (codes " ") bytes else Err bytes) ≡ Ok (tt, rest) → length rest ≤ length bytes
    by true e = let l = ap length (byte_gone 32 bytes rest e) in omega (arith, l)
    by false e = cc

pub head_gone : (bytes : List ℕ) (h : Mode × Hop) (rest : List ℕ) → head_at bytes ≡ Ok (h, rest) → length rest ≤ length bytes
head_gone bytes h rest is = no_longer HeadText head_at Good-head.scans bytes h rest is

pub test_gone : (bytes : List ℕ) (t : Test) (rest : List ℕ) → test_at bytes ≡ Ok (t, rest) → length rest < length bytes
test_gone bytes t rest is =
    let f = Good-test.scans.found bytes t rest is in
    let (c, x, text_is, other) = test_head t f.text f.spelled in
    let split = ap length f.split in
    let sum = length-append f.text rest in
    let some = ap length text_is in
    omega (arith, split, sum, some)

-- the whole text begins with a bracket
pub begun : (bytes rest : List ℕ) → text_at (codes "(") bytes ≡ Ok (tt, rest) → sees marks_of (template_at (length bytes) bytes) ≡ finish (length bytes) (0 ∷ []) (record { bad = false; deepest = 1 }) rest
unfolding template_at
begun [] rest is = cc
begun (b ∷ bs) rest is = ap (λ (r : Reads (Unit {0})). sees marks_of (r >>= λ u. sees (λ t. t) (items_at (template_at (length bs)) u.1))) is ∙ ap (λ n. sees marks_of (sees (λ t. t) (items_at (template_at n) rest))) (omega arith) ∙ at_items (items_at (template_at (suc (length bs) - 1)) rest)
  where
    one : (t : Items) → marks_of t ≡ adds 1 t (record { bad = false; deepest = 1 })
    one t = same_marks _ _ _ _ refl (omega arith)

    at_items : (r : Reads Items) → sees marks_of (sees (λ t. t) r) ≡ (r >>= λ t. Ok (adds 1 t.0 (record { bad = false; deepest = 1 }), t.1))
    at_items (Ok (t, rest)) = ap (λ (m : Marks). ok_of (m, rest)) (one t)
    at_items (Err e) = refl

pub not_begun : (e : Stop) (bytes : List ℕ) → Stopped e (text_at (codes "(") bytes) → Stopped e (sees marks_of (template_at (length bytes) bytes) >>= ended)
unfolding template_at
not_begun e [] s = empty e s
  where
    empty : (e : Stop) → Stopped e (text_at (codes "(") []) → Stopped e (sees marks_of (template_at 0 []) >>= ended)
    empty (Bad left) s = s
    empty Memory s = tt
not_begun e (b ∷ bs) s = stopped_then e (sees marks_of (template_at (suc (length bs)) (b ∷ bs))) ended (stopped_then e (template_at (suc (length bs)) (b ∷ bs)) (λ x. Ok (marks_of x.0, x.1)) (stopped_then e (text_at (codes "(") (b ∷ bs)) (λ u. sees (λ t. t) (items_at (template_at (length bs)) u.1)) s))
