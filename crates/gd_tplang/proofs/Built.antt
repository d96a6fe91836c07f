-- What is gathered of items is what they mean.
use Rattle.std.proofs.Common.{◌≡◌, ◌∙◌, refl, sym, ap, subst, ℕ, zero, suc, ◌≤◌, List, [], ◌∷◌, ◌++◌, Bool, true, false, if◌then◌else◌, Result, Ok, Err, arith, append_assoc, eqb-true}
use Rattle.std.specs.Prelude.{codes}
use Rattle.std.proofs.lemmas.List.{append-nil}
use Rattle.gd_defs.specs.Template as defs
use Rattle.gd_template.specs.View.{Parts as ClauseParts, clauses_of}
use Rattle.gd_grammar.specs.Chain.{◌>>=◌}
use Rattle.gd_grammar.specs.Grammar.{Reads, text_at, more_at}
use Rattle.gd_grammar.proofs.Scans.{Says, read_all, ok_of, ok_same}
use Rattle.gd_tplang.proofs.Whole.{template_says}
use Rattle.gd_tplang.specs.declared.stop.Stop.{Stop}
use Rattle.gd_tplang.specs.declared.stop.Stop.TheVariants.{Bad, Memory}
use Rattle.gd_tplang.specs.Stop.{Stopped}
use Rattle.gd_grammar.specs.Choice.{is_byte, begins, seen_at, word_at}
use Rattle.gd_tplang.specs.Steps.{next_at}
use Rattle.gd_tplang.specs.Written.{Item, test, clause, Items, no_items, item, items_of, template_text, EachFits, Fits, item_at, rest_at, items_at, template_at, template_of}
use Rattle.gd_tplang.specs.Meaning.{constraints_in, clauses_in, with_clause, meaning}
use Rattle.gd_tplang.specs.Building.{IsBuildable, Gathered, nothing, item_constraints, item_clauses, parts_in, with_item, with_items}
use Rattle.gd_tplang.proofs.Texts.{stopped_then}
use Rattle.gd_tplang.proofs.Lists.{stopped_same}
use Rattle.gd_tplang.proofs.Surveys.{sees, rest_one}
use Rattle.gd_tplang.proofs.Templates.{EachIn, ItemIn, TemplateIn, Good-template}

-- ---- the same parts

clauses_parts : (t : Items) → clauses_of (parts_in t) ≡ clauses_in t
clauses_parts no_items = refl
clauses_parts (item (test t) rest) = clauses_parts rest
clauses_parts (item (clause mode hop t) rest) = ap (defs.clause mode hop (meaning t)) (clauses_parts rest)

constraints_item : (i : Item) (rest : Items) → constraints_in (item i rest) ≡ item_constraints i ++ constraints_in rest
constraints_item (test t) rest = refl
constraints_item (clause mode hop t) rest = refl

same_gathered : (a b : List defs.Constraint) (c d : List ClauseParts) → a ≡ b → c ≡ d → ◌≡◌ {A = Gathered} (record { constraints = a; clauses = c }) (record { constraints = b; clauses = d })
same_gathered a b c d p q = ap (λ x. record { constraints = x; clauses = c }) p ∙ ap (λ x. record { constraints = b; clauses = x }) q

-- an item and then the others
with_more : (i : Item) (rest : Items) (g : Gathered) → with_items (item i rest) g ≡ with_items rest (with_item i g)
with_more i rest g = same_gathered _ _ _ _ (ap (λ l. g.constraints ++ l) (constraints_item i rest) ∙ sym (append_assoc g.constraints (item_constraints i) (constraints_in rest))) (sym (append_assoc g.clauses (item_clauses i) (parts_in rest)))

with_none : (g : Gathered) → with_items no_items g ≡ g
with_none g = same_gathered (g.constraints ++ []) g.constraints (g.clauses ++ []) g.clauses (append-nil g.constraints) (append-nil g.clauses)

-- ---- depths

mutual
  each_depth : (k : ℕ) (t : Items) → EachIn k t → defs.clauses_depth (clauses_in t) ≤ suc k
  each_depth k no_items each = omega arith
  each_depth k (item i rest) (one, each) = item_depth k i rest one (each_depth k rest each)

  item_depth : (k : ℕ) (i : Item) (rest : Items) → ItemIn k i → defs.clauses_depth (clauses_in rest) ≤ suc k → defs.clauses_depth (with_clause i (clauses_in rest)) ≤ suc k
  item_depth k (test t) rest one others = others
  item_depth zero (clause mode hop no_items) rest one others = omega (arith, others)
  item_depth zero (clause mode hop (item i more)) rest one others = absurd one
  item_depth (suc k) (clause mode hop t) rest (few, each) others = let below = each_depth k t each in omega (arith, below, others)

template_depth : (k : ℕ) (t : Items) → TemplateIn k t → defs.depth (meaning t) ≤ suc k
template_depth zero no_items bare = omega arith
template_depth zero (item i rest) bare = absurd bare
template_depth (suc k) t (few, each) = let below = each_depth k t each in omega (arith, below)

-- what is read with so many levels has no more of them
depth_read : (k : ℕ) (bytes : List ℕ) (t : Items) (rest : List ℕ) → template_at k bytes ≡ Ok (t, rest) → defs.depth (meaning t) ≤ suc k
depth_read k bytes t rest is = let f = (Good-template k).scans.found bytes t rest is in template_depth k t f.spelled.0

-- ---- what was read, seen through a function

pub record Mapped {A B : Type 0} (f : A → B) (r : Reads A) (b : B) (rest : List ℕ) : Type 0 where
  pub value : A
  pub gave : r ≡ Ok (value, rest)
  pub is : b ≡ f value

pub seen_of : {A B : Type 0} (f : A → B) (r : Reads A) (b : B) (rest : List ℕ) → sees f r ≡ Ok (b, rest) → Mapped f r b rest
seen_of {A} {B} f (Ok (a, end)) b rest is =
    let pairs = ok_same is in
    let ends : end ≡ rest = ap (λ p. p.1) pairs in
    record { value = a; gave = ap (λ (l : List ℕ). ok_of (a, l)) ends; is = sym (ap (λ p. p.0) pairs) }
seen_of f (Err e) b rest is = cc

unseen : {A B : Type 0} (e : Stop) (f : A → B) (r : Reads A) → Stopped e (sees f r) → Stopped e r
unseen (Bad left) f (Ok x) s = absurd s
unseen (Bad left) f (Err rest) s = s
unseen Memory f r s = tt

-- ---- the loop over items

module _ (inner : List ℕ → Reads Items) where
  abbrev item_then : ℕ → Reads Item → Reads Items
  item_then n r = r >>= λ i. seen_at (item i.0) (rest_at inner n) i.1

  rest_more : (n : ℕ) (bytes : List ℕ) → begins (is_byte 32) bytes ≡ true → rest_at inner (suc n) bytes ≡ item_then n (next_at 32 (item_at inner) bytes)
  unfolding next_at
  rest_more n [] there = cc
  rest_more n (c ∷ cs) there = subst (λ d. rest_at inner (suc n) (d ∷ cs) ≡ item_then n (text_at (32 ∷ []) (d ∷ cs) >>= λ u. item_at inner u.1)) (sym (eqb-true c 32 there)) (rest_one inner n cs)

  rest_end : (n : ℕ) (bytes : List ℕ) → begins (is_byte 32) bytes ≡ false → rest_at inner n bytes ≡ word_at (codes ")") no_items bytes
  unfolding rest_at
  rest_end n bytes other = ap (λ (r : Reads (List Item)). r >>= λ is. word_at (codes ")") (items_of is.0) is.1) (none n bytes other)
    where
      none : (n : ℕ) (bytes : List ℕ) → begins (is_byte 32) bytes ≡ false → more_at n 32 (item_at inner) bytes ≡ Ok ([], bytes)
      none zero bytes f = refl
      none (suc n) [] f = refl
      none (suc n) (c ∷ cs) f = ap (λ b. if b then (item_at inner cs >>= λ x. sees (λ xs. x.0 ∷ xs) (more_at n 32 (item_at inner) x.1)) else Ok ([], c ∷ cs)) f

  rest_full : (bytes : List ℕ) → rest_at inner 0 bytes ≡ word_at (codes ")") no_items bytes
  unfolding rest_at
  rest_full bytes = refl

  -- what was gathered, with what is read of the rest
  abbrev pub gathers : Gathered → Reads Items → Reads Gathered
  gathers g r = sees (λ t. with_items t g) r

  move : (i : Item) (g : Gathered) (r : Reads Items) → sees (λ t. with_items t g) (sees (item i) r) ≡ gathers (with_item i g) r
  move i g (Ok (t, rest)) = ap (λ (x : Gathered). ok_of (x, rest)) (with_more i t g)
  move i g (Err e) = refl

  moved : (n : ℕ) (g more : Gathered) (r : Reads Item) (behind : List ℕ) → Mapped (λ i. with_item i g) r more behind → gathers g (item_then n r) ≡ gathers more (rest_at inner n behind)
  moved n g more r behind s = ap (λ (q : Reads Item). gathers g (item_then n q)) s.gave ∙ move s.value g (rest_at inner n behind) ∙ ap (λ x. gathers x (rest_at inner n behind)) (sym s.is)

  item_stops : (e : Stop) (n : ℕ) (g : Gathered) (r : Reads Item) → Stopped e (sees (λ i. with_item i g) r) → Stopped e (gathers g (item_then n r))
  item_stops e n g r s = stopped_then e (item_then n r) (λ t. Ok (with_items t.0 g, t.1)) (stopped_then e r (λ i. seen_at (item i.0) (rest_at inner n) i.1) (unseen e (λ i. with_item i g) r s))

  -- one item more
  pub items_more : (n m : ℕ) (g more : Gathered) (bytes behind : List ℕ) (whole : Reads Gathered) → n ≡ suc m → begins (is_byte 32) bytes ≡ true → sees (λ i. with_item i g) (next_at 32 (item_at inner) bytes) ≡ Ok (more, behind)
      → gathers g (rest_at inner n bytes) ≡ whole → gathers more (rest_at inner m behind) ≡ whole
  items_more n m g more bytes behind whole n_is there is left =
      sym (moved m g more (next_at 32 (item_at inner) bytes) behind (seen_of (λ i. with_item i g) (next_at 32 (item_at inner) bytes) more behind is)) ∙ ap (gathers g) (sym (ap (λ k. rest_at inner k bytes) n_is ∙ rest_more m bytes there)) ∙ left

  pub items_stop : (e : Stop) (n m : ℕ) (g : Gathered) (bytes : List ℕ) (whole : Reads Gathered) → n ≡ suc m → begins (is_byte 32) bytes ≡ true → Stopped e (sees (λ i. with_item i g) (next_at 32 (item_at inner) bytes)) → gathers g (rest_at inner n bytes) ≡ whole → Stopped e whole
  items_stop e n m g bytes whole n_is there s left =
      stopped_same e _ _ (ap (gathers g) (sym (ap (λ k. rest_at inner k bytes) n_is ∙ rest_more m bytes there)) ∙ left) (item_stops e m g (next_at 32 (item_at inner) bytes) s)

  -- no item more
  pub items_end : (n : ℕ) (g : Gathered) (bytes : List ℕ) (whole : Reads Gathered) → begins (is_byte 32) bytes ≡ false → gathers g (rest_at inner n bytes) ≡ whole → gathers g (word_at (codes ")") no_items bytes) ≡ whole
  items_end n g bytes whole other left = ap (gathers g) (sym (rest_end n bytes other)) ∙ left

  pub items_full : (n : ℕ) (g : Gathered) (bytes : List ℕ) (whole : Reads Gathered) → n ≡ 0 → gathers g (rest_at inner n bytes) ≡ whole → gathers g (word_at (codes ")") no_items bytes) ≡ whole
  items_full n g bytes whole none left = ap (gathers g) (sym (ap (λ k. rest_at inner k bytes) none ∙ rest_full bytes)) ∙ left

  items_by : List ℕ → Bool → Reads Items
  items_by bytes b = if b then word_at (codes ")") no_items bytes else item_then 63 (item_at inner bytes)

  -- no items
  pub items_none : (g : Gathered) (bytes : List ℕ) → begins (is_byte 41) bytes ≡ true → gathers g (word_at (codes ")") no_items bytes) ≡ gathers g (items_at inner bytes)
  unfolding items_at items_by
  items_none g bytes there = ap (gathers g) (sym (ap (items_by bytes) there))

  -- the first item
  pub items_first : (g more : Gathered) (bytes behind : List ℕ) → begins (is_byte 41) bytes ≡ false → sees (λ i. with_item i g) (item_at inner bytes) ≡ Ok (more, behind) → gathers more (rest_at inner 63 behind) ≡ gathers g (items_at inner bytes)
  unfolding items_at items_by
  items_first g more bytes behind other is = sym (moved 63 g more (item_at inner bytes) behind (seen_of (λ i. with_item i g) (item_at inner bytes) more behind is)) ∙ ap (gathers g) (sym (ap (items_by bytes) other))

  pub items_first_stop : (e : Stop) (g : Gathered) (bytes : List ℕ) → begins (is_byte 41) bytes ≡ false → Stopped e (sees (λ i. with_item i g) (item_at inner bytes)) → Stopped e (gathers g (items_at inner bytes))
  unfolding items_at items_by
  items_first_stop e g bytes other s = stopped_same e _ _ (ap (gathers g) (sym (ap (items_by bytes) other))) (item_stops e 63 g (item_at inner bytes) s)

-- ---- the whole template

-- behind its bracket a template is its items
template_is : (k : ℕ) (bytes rest : List ℕ) → text_at (codes "(") bytes ≡ Ok (tt, rest) → template_at (suc k) bytes ≡ sees (λ t. t) (items_at (template_at k) rest)
unfolding template_at
template_is k bytes rest is = ap (λ (r : Reads (Unit {0})). r >>= λ u. sees (λ t. t) (items_at (template_at k) u.1)) is

same_reads : {A : Type 0} (r : Reads A) → sees (λ a. a) r ≡ r
same_reads (Ok (a, rest)) = refl
same_reads (Err e) = refl

pub record Made (k : ℕ) (bytes rest end : List ℕ) (g : Gathered) : Type 0 where
  pub value : Items
  pub read : template_at (suc k) bytes ≡ Ok (value, end)
  pub same : defs.template g.constraints (clauses_of g.clauses) ≡ meaning value
  pub deep : defs.depth (defs.template g.constraints (clauses_of g.clauses)) ≤ suc (suc k)
  pub means : sees meaning (template_at (suc k) bytes) ≡ Ok (defs.template g.constraints (clauses_of g.clauses), end)

-- what was gathered of the items is what the template means
pub template_made : (k : ℕ) (bytes rest end : List ℕ) (g : Gathered) → text_at (codes "(") bytes ≡ Ok (tt, rest) → gathers (template_at k) nothing (items_at (template_at k) rest) ≡ Ok (g, end) → Made k bytes rest end g
template_made k bytes rest end g begun is =
    let s = seen_of (λ t. with_items t nothing) (items_at (template_at k) rest) g end is in
    let whole : template_at (suc k) bytes ≡ Ok (s.value, end) = template_is k bytes rest begun ∙ same_reads (items_at (template_at k) rest) ∙ s.gave in
    let same : defs.template g.constraints (clauses_of g.clauses) ≡ meaning s.value = ap (λ x. defs.template x.constraints (clauses_of x.clauses)) s.is ∙ ap (defs.template (constraints_in s.value)) (clauses_parts s.value) in
    record {
      value = s.value;
      read = whole;
      same = same;
      deep = subst (λ t. defs.depth t ≤ suc (suc k)) (sym same) (depth_read (suc k) bytes s.value end whole);
      means = ap (sees meaning) whole ∙ ap (λ (t : defs.Template). ok_of (t, end)) (sym same);
    }

pub template_items_stop : (e : Stop) (k : ℕ) (bytes rest : List ℕ) → text_at (codes "(") bytes ≡ Ok (tt, rest) → Stopped e (gathers (template_at k) nothing (items_at (template_at k) rest)) → Stopped e (sees meaning (template_at (suc k) bytes))
template_items_stop e k bytes rest begun s =
    stopped_then e (template_at (suc k) bytes) (λ t. Ok (meaning t.0, t.1)) (stopped_same e _ _ (sym (template_is k bytes rest begun ∙ same_reads (items_at (template_at k) rest))) (unseen e (λ t. with_items t nothing) (items_at (template_at k) rest) s))

pub template_bracket_stop : (e : Stop) (k : ℕ) (bytes : List ℕ) → Stopped e (text_at (codes "(") bytes) → Stopped e (sees meaning (template_at (suc k) bytes))
unfolding template_at
template_bracket_stop e k bytes s = stopped_then e (template_at (suc k) bytes) (λ t. Ok (meaning t.0, t.1)) (stopped_then e (text_at (codes "(") bytes) (λ u. sees (λ t. t) (items_at (template_at k) u.1)) s)

-- ---- a text that is not too deep

mutual
  each_shallow : (k : ℕ) (t : Items) → EachFits t → defs.clauses_depth (clauses_in t) ≤ k → EachIn k t
  each_shallow k no_items each deep = tt
  each_shallow k (item (test t) rest) (one, each) deep = (one, each_shallow k rest each deep)
  each_shallow zero (item (clause mode hop t) rest) (one, each) deep = absurd (omega (arith, deep))
  each_shallow (suc k) (item (clause mode hop t) rest) ((few, one), each) deep = ((few, each_shallow k t one (omega (arith, deep))), each_shallow (suc k) rest each (omega (arith, deep)))

-- what all of the bytes spell is read with 32 levels, where it is not too deep
pub shallow_read : (bytes : List ℕ) (t : Items) → template_of bytes ≡ Ok t → defs.depth (meaning t) ≤ 32 → template_at 32 bytes ≡ Ok (t, [])
shallow_read bytes t is deep =
    let (fits, spelled) = subst (Says template_text Fits bytes) is (template_says bytes) in
    read_all template_text (TemplateIn 32) (template_at 32) (Good-template 32).scans t bytes ((fits.0, each_shallow 31 t fits.1 (omega (arith, deep))), spelled)

pub shallow_depth : (bytes : List ℕ) → IsBuildable bytes → (t : Items) (rest : List ℕ) → template_at 32 bytes ≡ Ok (t, rest) → defs.depth (meaning t) ≤ 32
shallow_depth bytes (u, is, deep) t rest read = let pairs = ok_same (sym (shallow_read bytes u is deep) ∙ read) in let same : u ≡ t = ap (λ p. p.0) pairs in subst (λ x. defs.depth (meaning x) ≤ 32) same deep

pub shallow_means : (bytes : List ℕ) → IsBuildable bytes → (template : defs.Template) (rest : List ℕ) → sees meaning (template_at 32 bytes) ≡ Ok (template, rest) → (t : Items) → template_of bytes ≡ Ok t → template ≡ meaning t
shallow_means bytes (u, is, deep) made rest read t spelled =
    let same : u ≡ t = ok_value u t (sym is ∙ spelled) in
    let whole : sees meaning (template_at 32 bytes) ≡ Ok (meaning u, []) = ap (sees meaning) (shallow_read bytes u is deep) in
    let pairs = ok_same (sym read ∙ whole) in
    ap (λ p. p.0) pairs ∙ ap meaning same
  where
    ok_value : (x y : Items) → ◌≡◌ {A = Result Items ℕ} (Ok x) (Ok y) → x ≡ y
    ok_value x y e = cc

pub shallow_never : (left : ℕ) (bytes : List ℕ) → IsBuildable bytes → Stopped (Bad left) (sees meaning (template_at 32 bytes)) → ⊥
shallow_never left bytes (u, is, deep) s = subst (λ r. Stopped (Bad left) (sees meaning r)) (shallow_read bytes u is deep) s
