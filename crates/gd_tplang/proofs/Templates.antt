-- Templates of a bounded depth are read exactly.
use Rattle.std.proofs.Common.{◌≡◌, refl, ◌⊎◌, inl, inr, ⊎_elim, ℕ, zero, suc, ◌+◌, ◌≤◌, ◌==◌, true, false, List, [], ◌∷◌, ◌++◌, length, flat_map, sym, ◌∙◌, ap, subst, arith, append_assoc, ne_eqb}
use Rattle.std.specs.Prelude.{codes}
use Rattle.std.specs.List.{AllByRecursion}
use Rattle.gd_defs.specs.Query.{Mode, required, optional, forbidden}
use Rattle.gd_defs.specs.Template.{Hop, links_by, end_here}
use Rattle.gd_grammar.specs.Grammar.{Reads, IsText, more_at}
use Rattle.gd_grammar.proofs.Scans.{Then, chain}
use Rattle.gd_grammar.specs.Choice.{is_byte, seen_at, word_at, behind_at}
use Rattle.gd_tplang.specs.Written.{Item, test, clause, Items, no_items, item, items_of, count, end_text, mode_text, hop_text, item_text, items_text, further_text, template_text, TestFits, end_at, test_at, hop_at, head_at, begins_clause, item_at, rest_at, items_at, template_at}
use Rattle.gd_grammar.proofs.Exact.{Mapped}
use Rattle.gd_grammar.proofs.Good.{Good, Good-same, Good-less, Good-seen, Good-word, Good-behind, Good-then, Good-and, Good-more, Any, Means, Behind, More, Head}
use Rattle.gd_tplang.proofs.Tests.{EndText, Good-end, TestText, Good-test, test_head, test_start, Closing, heads, Good-or}

-- ---- where a clause leads

abbrev HopText : Hop → List ℕ → Type 0
HopText = IsText hop_text (λ h. Unit {0})

Good-hop : Good Any HopText hop_at
unfolding hop_at
Good-hop = Good-same (λ h w. Behind (codes "<-") links_by EndText h w ⊎ Behind (codes "->") end_here EndText h w) HopText hop_at to from
    (Good-or (is_byte 60) (Good-behind Any (codes "<-") links_by EndText end_at Good-end) (Good-behind Any (codes "->") end_here EndText end_at Good-end) (λ h w (e, v, h_is, s, w_is). (60, _, w_is, refl)) (λ h w (e, v, h_is, s, w_is). (45, _, w_is, refl)))
  where
    to : (h : Hop) (w : List ℕ) → Behind (codes "<-") links_by EndText h w ⊎ Behind (codes "->") end_here EndText h w → HopText h w
    to h w (inl (e, v, h_is, (unit, v_is), w_is)) = subst (λ x. HopText x w) (sym h_is) (tt, w_is ∙ ap (λ l. codes "<-" ++ l) v_is)
    to h w (inr (e, v, h_is, (unit, v_is), w_is)) = subst (λ x. HopText x w) (sym h_is) (tt, w_is ∙ ap (λ l. codes "->" ++ l) v_is)

    from : (h : Hop) (w : List ℕ) → HopText h w → Behind (codes "<-") links_by EndText h w ⊎ Behind (codes "->") end_here EndText h w
    from (links_by e) w (unit, w_is) = inl (e, end_text e, refl, (tt, refl), w_is)
    from (end_here e) w (unit, w_is) = inr (e, end_text e, refl, (tt, refl), w_is)

-- the text before the template of a clause
abbrev head_text : Mode × Hop → List ℕ
head_text h = mode_text h.0 ++ hop_text h.1

abbrev pub HeadText : Mode × Hop → List ℕ → Type 0
HeadText = IsText head_text (λ h. Unit {0})

hop_other : (k : ℕ) → (60 == k) ≡ false → (45 == k) ≡ false → (h : Hop) (w : List ℕ) → HopText h w → Head (λ c. is_byte k c ≡ false) w
hop_other k p q (links_by e) w (unit, w_is) = (60, _, w_is, p)
hop_other k p q (end_here e) w (unit, w_is) = (45, _, w_is, q)

pub Good-head : Good Any HeadText head_at
unfolding head_at
Good-head = Good-same (λ h w. Behind (codes "?") (λ x. (optional, x)) HopText h w ⊎ (Behind (codes "!") (λ x. (forbidden, x)) HopText h w ⊎ Mapped (λ x. (required, x)) HopText h w)) HeadText head_at to from
    (Good-or (is_byte 63) (Good-behind Any (codes "?") (λ x. (optional, x)) HopText hop_at Good-hop)
    (Good-or (is_byte 33) (Good-behind Any (codes "!") (λ x. (forbidden, x)) HopText hop_at Good-hop) (Good-seen Any (λ x. (required, x)) HopText hop_at Good-hop) (λ h w (e, v, h_is, s, w_is). (33, _, w_is, refl)) (λ h w (x, h_is, s). hop_other 33 refl refl x w s))
    (λ h w (e, v, h_is, s, w_is). (63, _, w_is, refl)) (heads (λ h w (e, v, h_is, s, w_is). (33, _, w_is, refl)) (λ h w (x, h_is, s). hop_other 63 refl refl x w s)))
  where
    to : (h : Mode × Hop) (w : List ℕ) → Behind (codes "?") (λ x. (optional, x)) HopText h w ⊎ (Behind (codes "!") (λ x. (forbidden, x)) HopText h w ⊎ Mapped (λ x. (required, x)) HopText h w) → HeadText h w
    to h w (inl (x, v, h_is, (unit, v_is), w_is)) = subst (λ y. HeadText y w) (sym h_is) (tt, w_is ∙ ap (λ l. codes "?" ++ l) v_is)
    to h w (inr (inl (x, v, h_is, (unit, v_is), w_is))) = subst (λ y. HeadText y w) (sym h_is) (tt, w_is ∙ ap (λ l. codes "!" ++ l) v_is)
    to h w (inr (inr (x, h_is, (unit, w_is)))) = subst (λ y. HeadText y w) (sym h_is) (tt, w_is)

    from : (h : Mode × Hop) (w : List ℕ) → HeadText h w → Behind (codes "?") (λ x. (optional, x)) HopText h w ⊎ (Behind (codes "!") (λ x. (forbidden, x)) HopText h w ⊎ Mapped (λ x. (required, x)) HopText h w)
    from (optional, x) w (unit, w_is) = inl (x, hop_text x, refl, (tt, refl), w_is)
    from (forbidden, x) w (unit, w_is) = inr (inl (x, hop_text x, refl, (tt, refl), w_is))
    from (required, x) w (unit, w_is) = inr (inr (x, refl, (tt, w_is)))

head_head : (h : Mode × Hop) (w : List ℕ) → HeadText h w → Head (λ c. begins_clause c ≡ true) w
head_head (optional, x) w (unit, w_is) = (63, _, w_is, refl)
head_head (forbidden, x) w (unit, w_is) = (33, _, w_is, refl)
head_head (required, links_by e) w (unit, w_is) = (60, _, w_is, refl)
head_head (required, end_here e) w (unit, w_is) = (45, _, w_is, refl)

-- ---- bounds with a depth

-- a template without items
abbrev IsBare : Items → Type 0
IsBare no_items = Unit {0}
IsBare (item i rest) = ⊥

abbrev mutual
  -- each item fits, and at most so many templates lie one within the other below it
  pub EachIn : ℕ → Items → Type 0
  EachIn k no_items = Unit {0}
  EachIn k (item i rest) = ItemIn k i × EachIn k rest

  pub ItemIn : ℕ → Item → Type 0
  ItemIn k (test t) = TestFits t
  ItemIn zero (clause mode hop t) = IsBare t
  ItemIn (suc k) (clause mode hop t) = (count t ≤ 64) × EachIn k t

-- a template fits, and at most so many more lie one within the other below it
abbrev pub TemplateIn : ℕ → Items → Type 0
TemplateIn zero t = IsBare t
TemplateIn (suc k) t = (count t ≤ 64) × EachIn k t

in_clause : (k : ℕ) (mode : Mode) (hop : Hop) (t : Items) → TemplateIn k t → ItemIn k (clause mode hop t)
in_clause zero mode hop t s = s
in_clause (suc k) mode hop t s = s

of_clause : (k : ℕ) (mode : Mode) (hop : Hop) (t : Items) → ItemIn k (clause mode hop t) → TemplateIn k t
of_clause zero mode hop t s = s
of_clause (suc k) mode hop t s = s

abbrev pub TemplateText : ℕ → Items → List ℕ → Type 0
TemplateText k = IsText template_text (TemplateIn k)

abbrev ItemText : ℕ → Item → List ℕ → Type 0
ItemText k = IsText item_text (ItemIn k)

-- items and the bracket that ends them
abbrev ItemsText : ℕ → Items → List ℕ → Type 0
ItemsText k = IsText items_text (λ t. (count t ≤ 64) × EachIn k t)

-- ---- items as a list

abbrev list_of : Items → List Item
list_of no_items = []
list_of (item i rest) = i ∷ list_of rest

items_again : (t : Items) → t ≡ items_of (list_of t)
items_again no_items = refl
items_again (item i rest) = ap (item i) (items_again rest)

count_list : (is : List Item) → count (items_of is) ≡ length is
count_list [] = refl
count_list (i ∷ is) = ap (λ n. 1 + n) (count_list is) ∙ omega arith

length_items : (t : Items) → length (list_of t) ≡ count t
length_items t = sym (ap count (items_again t) ∙ count_list (list_of t))

each_list : (k : ℕ) (is : List Item) → AllByRecursion (ItemIn k) is → EachIn k (items_of is)
each_list k [] each = tt
each_list k (i ∷ is) (one, each) = (one, each_list k is each)

list_each : (k : ℕ) (t : Items) → EachIn k t → AllByRecursion (ItemIn k) (list_of t)
list_each k no_items each = tt
list_each k (item i rest) (one, each) = (one, list_each k rest each)

further_list : (is : List Item) → further_text (items_of is) ≡ flat_map (λ i. 32 ∷ item_text i) is ++ codes ")"
further_list [] = refl
further_list (i ∷ is) = ap (λ l. 32 ∷ (item_text i ++ l)) (further_list is) ∙ ap (λ l. 32 ∷ l) (sym (append_assoc (item_text i) (flat_map (λ i. 32 ∷ item_text i) is) (codes ")")))

-- ---- one level

module _ (k : ℕ) (inner : List ℕ → Reads Items) (g : Good Any (TemplateText k) inner) where
  abbrev Clause : Item → List ℕ → Type 0
  Clause = Then HeadText (λ h. Behind (codes " ") (clause h.0 h.1) (TemplateText k))

  abbrev clause_at : List ℕ → Reads Item
  clause_at = chain head_at (λ h. behind_at (codes " ") (clause h.0 h.1) inner)

  good_clause : Good Closing Clause clause_at
  good_clause = Good-and Closing HeadText (λ h. Behind (codes " ") (clause h.0 h.1) (TemplateText k)) head_at (λ h. behind_at (codes " ") (clause h.0 h.1) inner) Good-head
      (λ h w s. Good-behind Closing (codes " ") (clause h.0 h.1) (TemplateText k) inner (Good-less (TemplateText k) inner (λ b p. tt) g))

  clause_head : (i : Item) (w : List ℕ) → Clause i w → Head (λ c. begins_clause c ≡ true) w
  clause_head i w (h, v, u, s, b, w_is) = let (c, t, v_is, passes) = head_head h v s in (c, t ++ u, w_is ∙ ap (λ l. l ++ u) v_is, passes)

  to_item : (i : Item) (w : List ℕ) → Clause i w ⊎ Mapped test TestText i w → ItemText k i w
  to_item i w (inl (h, v, u, (unit, v_is), (t, x, i_is, (fits, x_is), u_is), w_is)) =
      subst (λ y. ItemText k y w) (sym i_is) (in_clause k h.0 h.1 t fits, w_is ∙ ap (λ l. l ++ u) v_is ∙ ap (λ l. head_text h ++ l) (u_is ∙ ap (λ l. codes " " ++ l) x_is))
  to_item i w (inr (t, i_is, (fits, w_is))) = subst (λ y. ItemText k y w) (sym i_is) (fits, w_is)

  from_item : (i : Item) (w : List ℕ) → ItemText k i w → Clause i w ⊎ Mapped test TestText i w
  from_item (test t) w (fits, w_is) = inr (t, refl, (fits, w_is))
  from_item (clause mode hop t) w (fits, w_is) = inl ((mode, hop), head_text (mode, hop), codes " " ++ template_text t, (tt, refl), (t, template_text t, refl, (of_clause k mode hop t fits, refl), refl), w_is)

  Good-item : Good Closing (ItemText k) (item_at inner)
  unfolding item_at
  Good-item = Good-same (λ i w. Clause i w ⊎ Mapped test TestText i w) (ItemText k) (item_at inner) to_item from_item
      (Good-or begins_clause good_clause (Good-seen Closing test TestText test_at Good-test) clause_head (λ i w (t, i_is, s). test_head t w s))

  -- an item begins with no bracket
  item_head : (i : Item) (w : List ℕ) → ItemText k i w → Head (λ c. is_byte 41 c ≡ false) w
  item_head i w s = ⊎_elim (λ c. of_clause_head (clause_head i w c)) (λ (t, i_is, x). test_start t w x) (from_item i w s)
    where
      no_clause : (c : ℕ) → begins_clause c ≡ true → is_byte 41 c ≡ false
      no_clause c passes = ne_eqb c 41 (λ e. differ (subst (λ x. begins_clause x ≡ true) e passes))
        where
          differ : false ≡ true → ⊥
          differ e = cc

      of_clause_head : Head (λ c. begins_clause c ≡ true) w → Head (λ c. is_byte 41 c ≡ false) w
      of_clause_head (c, t, is, passes) = (c, t, is, no_clause c passes)

  abbrev Bracket : ℕ → Type 0
  Bracket b = b ≡ 41

  no_space : (b : ℕ) → Bracket b → b ≡ 32 → ⊥
  no_space b e is = omega (arith, e, is)

  abbrev Further : ℕ → List Item → List ℕ → Type 0
  Further = More Bracket Closing item_text (ItemIn k) (item_at inner) 32 Good-item (inl refl) (λ b e. inr e) no_space

  abbrev Rest : ℕ → Items → List ℕ → Type 0
  Rest n = Then (Further n) (λ is. Means (codes ")") (items_of is))

  good_rest : (n : ℕ) → Good Any (Rest n) (rest_at inner n)
  unfolding rest_at
  good_rest n = Good-then Any Bracket (Further n) (λ is. Means (codes ")") (items_of is)) (more_at n 32 (item_at inner)) (λ is. word_at (codes ")") (items_of is))
      (Good-more Bracket Closing item_text (ItemIn k) (item_at inner) 32 Good-item (inl refl) (λ b e. inr e) no_space n) (λ is w s. Good-word Any (codes ")") (items_of is)) (λ is v t u s (t_is, u_is). inr (41, [], u_is, refl))

  abbrev Filled : Items → List ℕ → Type 0
  Filled = Then (ItemText k) (λ i. Mapped (item i) (Rest 63))

  rest_head : (t : Items) (w : List ℕ) → Rest 63 t w → Head Closing w
  rest_head t w ([], v, u, (few, each, v_is), (t_is, u_is), w_is) = (41, [], w_is ∙ ap (λ l. l ++ u) v_is ∙ u_is, inr refl)
  rest_head t w (i ∷ is, v, u, (few, each, v_is), (t_is, u_is), w_is) = (32, _, w_is ∙ ap (λ l. l ++ u) v_is, inl refl)

  good_filled : Good Any Filled (chain (item_at inner) (λ i. seen_at (item i) (rest_at inner 63)))
  good_filled = Good-then Any Closing (ItemText k) (λ i. Mapped (item i) (Rest 63)) (item_at inner) (λ i. seen_at (item i) (rest_at inner 63)) Good-item (λ i w s. Good-seen Any (item i) (Rest 63) (rest_at inner 63) (good_rest 63)) (λ i v t u s (r, t_is, rest). inr (rest_head r u rest))

  filled_head : (t : Items) (w : List ℕ) → Filled t w → Head (λ c. is_byte 41 c ≡ false) w
  filled_head t w (i, v, u, s, rest, w_is) = let (c, x, v_is, other) = item_head i v s in (c, x ++ u, w_is ∙ ap (λ l. l ++ u) v_is, other)

  to_items : (t : Items) (w : List ℕ) → Means (codes ")") no_items t w ⊎ Filled t w → ItemsText k t w
  to_items t w (inl (t_is, w_is)) = subst (λ x. ItemsText k x w) (sym t_is) ((omega arith, tt), w_is)
  to_items t w (inr (i, v, u, (fits, v_is), (r, t_is, (is, x, y, (few, each, x_is), (r_is, y_is), u_is)), w_is)) =
      let shape : t ≡ item i (items_of is) = t_is ∙ ap (item i) r_is in
      let long = count_list is in
      let rest : u ≡ further_text (items_of is) = u_is ∙ ap (λ l. l ++ y) x_is ∙ ap (λ l. flat_map (λ j. 32 ∷ item_text j) is ++ l) y_is ∙ sym (further_list is) in
      subst (λ z. ItemsText k z w) (sym shape) ((omega (arith, long, few), (fits, each_list k is each)), w_is ∙ ap (λ l. l ++ u) v_is ∙ ap (λ l. item_text i ++ l) rest)

  from_items : (t : Items) (w : List ℕ) → ItemsText k t w → Means (codes ")") no_items t w ⊎ Filled t w
  from_items no_items w (fits, w_is) = inl (refl, w_is)
  from_items (item i rest) w ((few, (one, each)), w_is) =
      let long = length_items rest in
      let text : further_text rest ≡ flat_map (λ j. 32 ∷ item_text j) (list_of rest) ++ codes ")" = ap further_text (items_again rest) ∙ further_list (list_of rest) in
      inr (i, item_text i, further_text rest, (one, refl), (rest, refl, (list_of rest, flat_map (λ j. 32 ∷ item_text j) (list_of rest), codes ")", (omega (arith, long, few), list_each k rest each, refl), (items_again rest, refl), text)), w_is)

  pub Good-items : Good Any (ItemsText k) (items_at inner)
  unfolding items_at
  Good-items = Good-same (λ t w. Means (codes ")") no_items t w ⊎ Filled t w) (ItemsText k) (items_at inner) to_items from_items
      (Good-or (is_byte 41) (Good-word Any (codes ")") no_items) good_filled (λ t w (t_is, w_is). (41, [], w_is, refl)) filled_head)

-- ---- every level

pub Good-template : (k : ℕ) → Good Any (TemplateText k) (template_at k)
unfolding template_at
Good-template zero = Good-same (Means (codes "()") no_items) (TemplateText 0) (template_at 0) to from (Good-word Any (codes "()") no_items)
  where
    to : (t : Items) (w : List ℕ) → Means (codes "()") no_items t w → TemplateText 0 t w
    to t w (t_is, w_is) = subst (λ x. TemplateText 0 x w) (sym t_is) (tt, w_is)

    from : (t : Items) (w : List ℕ) → TemplateText 0 t w → Means (codes "()") no_items t w
    from no_items w (bare, w_is) = (refl, w_is)
    from (item i rest) w (bare, w_is) = absurd bare
Good-template (suc k) = Good-same (Behind (codes "(") (λ (t : Items). t) (ItemsText k)) (TemplateText (suc k)) (template_at (suc k)) to from
    (Good-behind Any (codes "(") (λ t. t) (ItemsText k) (items_at (template_at k)) (Good-items k (template_at k) (Good-template k)))
  where
    to : (t : Items) (w : List ℕ) → Behind (codes "(") (λ (t : Items). t) (ItemsText k) t w → TemplateText (suc k) t w
    to t w (x, v, t_is, (fits, v_is), w_is) = subst (λ y. TemplateText (suc k) y w) (sym t_is) (fits, w_is ∙ ap (λ l. codes "(" ++ l) v_is)

    from : (t : Items) (w : List ℕ) → TemplateText (suc k) t w → Behind (codes "(") (λ (t : Items). t) (ItemsText k) t w
    from t w (fits, w_is) = (t, items_text t, refl, (fits, refl), w_is)
