-- What each byte of the text of trees makes.
use Rattle.std.proofs.Common.{◌≡◌, ◌∙◌, refl, sym, ap, subst, arith, ℕ, zero, suc, ◌+◌, ◌-◌, ◌*◌, ◌<◌, ◌≤◌, ◌^◌, List, [], ◌∷◌, ◌++◌, length, flat_map, Bool, true, false, not, ◌&&◌, ◌==◌, nat_le, if◌then◌else◌, Option, Some, None, Result, Ok, Err, length-append, append_assoc, decimal, codes, eqb-true, le-leb}
use Rattle.std.proofs.lemmas.List.{append-nil}
use Rattle.std.proofs.lemmas.Bool.Decides.{nat_tests}
use Rattle.std.proofs.lemmas.Fmt.{decimal_digit, decimal_step}
use Rattle.std.specs.Char.{is_ascii_digit}
use Rattle.std.specs.List.{AllByRecursion}
use Rattle.gd_grammar.proofs.Numbers.{digit_more, one_digit}
use Rattle.gd_tree.specs.Trees.{Tree, tree, Trees, no_trees, and_tree, TreeLists, no_lists, and_list, trees_of, tree_lists_of}
use Rattle.gd_prim.specs.Limits.{max_prims}
use Rattle.gd_bytes.specs.Frozen.{tree_text, trees_text, tree_in_bounds, trees_in_bounds, lists_in_bounds, place_in_bounds}
use Rattle.gd_frozen.specs.declared.tree.Piece.{Piece}
use Rattle.gd_frozen.specs.declared.tree.Piece.TheVariants as piece
use Rattle.gd_frozen.specs.declared.tree.At.{At}
use Rattle.gd_frozen.specs.declared.tree.At.TheVariants as at
use Rattle.gd_frozen.specs.Pieces.{Open, Growing, nothing_grown, settled, opened, closed, put, grown, Move, stops, ends, goes, step, after_tree, close_list, begin_place, begins_place, place_goes_on}
use Rattle.gd_frozen.proofs.TreeTexts.{before, lists_before, opens_text, list_text, lists_text, before_more, lists_more, pieces_of, placed, opening, closing}

-- ---- bounds

abbrev pub Trees_fit : List Tree → Type 0
Trees_fit ts = AllByRecursion (λ t. tree_in_bounds t ≡ true) ts

abbrev pub Lists_fit : List Trees → Type 0
Lists_fit ls = AllByRecursion (λ l. trees_in_bounds l ≡ true) ls

-- a list that is open lies within the bounds
abbrev pub Open_fits : Open → Type 0
Open_fits o = Trees_fit o.done × (o.place ≤ max_prims) × Lists_fit o.lists

abbrev pub Last_fits : Option (ℕ × List Trees) → Type 0
Last_fits None = Unit {0}
Last_fits (Some l) = (l.0 ≤ max_prims) × Lists_fit l.1

pub record Fit (g : Growing) : Type 0 where
  pub outer : AllByRecursion Open_fits g.outer
  pub done : Trees_fit g.done
  pub last : Last_fits g.last

pub all_more : {A : Type 0} (P : A → Type 0) (xs : List A) (x : A) → AllByRecursion P xs → P x → AllByRecursion P (xs ++ x ∷ [])
all_more P [] x all p = (p, tt)
all_more P (y ∷ xs) x (q, all) p = (q, all_more P xs x all p)

lists_bound : (ls : List Trees) → Lists_fit ls → lists_in_bounds (tree_lists_of ls) ≡ true
lists_bound [] fit = refl
lists_bound (l ∷ ls) (p, fit) = ap (λ (b : Bool). b && lists_in_bounds (tree_lists_of ls)) p ∙ lists_bound ls fit

pub trees_bound : (ts : List Tree) → Trees_fit ts → trees_in_bounds (trees_of ts) ≡ true
trees_bound [] fit = refl
trees_bound (t ∷ ts) (p, fit) = ap (λ (b : Bool). b && trees_in_bounds (trees_of ts)) p ∙ trees_bound ts fit

pub tree_bound : (p : ℕ) (ls : List Trees) → p ≤ max_prims → Lists_fit ls → tree_in_bounds (tree p (tree_lists_of ls)) ≡ true
tree_bound p ls within fit = ap (λ (b : Bool). b && lists_in_bounds (tree_lists_of ls)) (le-leb p max_prims within) ∙ lists_bound ls fit

pub settled_fit : (done : List Tree) (last : Option (ℕ × List Trees)) → Trees_fit done → Last_fits last → Trees_fit (settled done last)
settled_fit done None fit also = fit
settled_fit done (Some l) fit (within, lists) = all_more (λ t. tree_in_bounds t ≡ true) done (tree l.0 (tree_lists_of l.1)) fit (tree_bound l.0 l.1 within lists)

-- ---- where the text stands

-- behind the bracket of a list
pub record InItems (g : Growing) (w : List ℕ) : Type 0 where
  pub none : settled g.done g.last ≡ []
  pub is : w ≡ opens_text g.outer

-- behind a semicolon
pub record InNext (g : Growing) (w : List ℕ) : Type 0 where
  pub is : w ≡ opens_text g.outer ++ before (settled g.done g.last)

-- in a number
pub record InNumber (n : ℕ) (g : Growing) (w : List ℕ) : Type 0 where
  pub within : n ≤ max_prims
  pub is : w ≡ opens_text g.outer ++ (before (settled g.done g.last) ++ decimal n)

-- behind the parenthesis of lists, or a comma
pub record InLists (g : Growing) (w : List ℕ) : Type 0 where
  pub place : ℕ
  pub lists : List Trees
  pub last : g.last ≡ Some (place, lists)
  pub is : w ≡ opens_text g.outer ++ (before g.done ++ (decimal place ++ (codes "(" ++ lists_before lists)))

-- behind a list of a tree
pub record InClosed (g : Growing) (w : List ℕ) : Type 0 where
  pub place : ℕ
  pub lists : List Trees
  pub list : Trees
  pub last : g.last ≡ Some (place, lists ++ list ∷ [])
  pub is : w ≡ opens_text g.outer ++ (before g.done ++ (decimal place ++ (codes "(" ++ (lists_before lists ++ trees_text list))))

-- behind a tree
pub record InEnded (g : Growing) (w : List ℕ) : Type 0 where
  pub place : ℕ
  pub lists : List Trees
  pub last : g.last ≡ Some (place, lists)
  pub is : w ≡ opens_text g.outer ++ (before g.done ++ tree_text (tree place (tree_lists_of lists)))

abbrev pub Stands : At → Growing → List ℕ → Type 0
Stands at.Items g w = InItems g w
Stands at.Next g w = InNext g w
Stands (at.Number n) g w = InNumber n g w
Stands at.Lists g w = InLists g w
Stands at.Closed g w = InClosed g w
Stands at.Ended g w = InEnded g w

-- the text of trees stands here, below so many open lists
pub record Text (a : At) (d : ℕ) (g : Growing) (w : List ℕ) : Type 0 where
  pub stands : Stands a g w
  pub fit : Fit g
  pub deep : length g.outer ≡ d

-- trees are at their end
pub record Ended (g : Growing) (w : List ℕ) : Type 0 where
  pub fit : Trees_fit (settled g.done g.last)
  pub none : g.outer ≡ []
  pub is : trees_text (trees_of (settled g.done g.last)) ≡ w

-- what a move makes of it with its byte
abbrev pub Moved : Growing → List ℕ → Move → Type 0
Moved g w stops = Unit {0}
Moved g w (ends ps) = Ended (grown g ps) w × (pieces_of (grown g ps) ≡ pieces_of g ++ ps)
Moved g w (goes a d ps) = Text a d (grown g ps) w × (pieces_of (grown g ps) ≡ pieces_of g ++ ps)

-- ---- single moves

-- the bytes that are there, with one more
abbrev plus : List ℕ → ℕ → List ℕ
plus w c = w ++ c ∷ []

-- a list ends behind its last tree, or behind its bracket
data AtEnd (g : Growing) (w : List ℕ) : Type 0 where
  empty : settled g.done g.last ≡ [] → w ≡ opens_text g.outer → AtEnd g w
  some : (ds : List Tree) (t : Tree) → settled g.done g.last ≡ ds ++ t ∷ [] → w ≡ opens_text g.outer ++ (before ds ++ tree_text t) → AtEnd g w

-- the text of the list that ends
end_text : (g : Growing) (w : List ℕ) (front : List ℕ) → AtEnd g w → opens_text g.outer ≡ front ++ codes "[" → w ++ codes "]" ≡ front ++ trees_text (trees_of (settled g.done g.last))
end_text g w front (empty none is) begun =
    ap (λ (l : List ℕ). l ++ codes "]") (is ∙ begun) ∙ append_assoc front (codes "[") (codes "]") ∙ ap (λ (ts : List Tree). front ++ trees_text (trees_of ts)) (sym none)
end_text g w front (some ds t is_some is) begun =
    let whole : (front ++ codes "[") ++ (before ds ++ tree_text t) ++ codes "]" ≡ front ++ (91 ∷ (before ds ++ (tree_text t ++ codes "]"))) = simp append_assoc in
    ap (λ (l : List ℕ). l ++ codes "]") (is ∙ ap (λ (l : List ℕ). l ++ (before ds ++ tree_text t)) begun) ∙ whole ∙ ap (λ (l : List ℕ). front ++ l) (list_text ds t) ∙ ap (λ (ts : List Tree). front ++ trees_text (trees_of ts)) (sym is_some)

-- the outermost list ends
whole_ends : (g : Growing) (w : List ℕ) → Fit g → g.outer ≡ [] → AtEnd g w → Ended g (plus w 93)
whole_ends g w fit none at_end = record { fit = settled_fit g.done g.last fit.done fit.last; none = none; is = sym (end_text g w [] at_end (ap opens_text none)) }

-- a list below a tree ends
inner_ends : (g : Growing) (w : List ℕ) (o : Open) (os : List Open) → Fit g → g.outer ≡ o ∷ os → AtEnd g w → Text at.Closed (length os) (put g piece.Closes) (plus w 93)
inner_ends g w o os fit is at_end =
    let ts = settled g.done g.last in
    let all : AllByRecursion Open_fits (o ∷ os) = subst (AllByRecursion Open_fits) is fit.outer in
    let front = opens_text os ++ (before o.done ++ (decimal o.place ++ (codes "(" ++ lists_before o.lists))) in
    let begun : opens_text g.outer ≡ front ++ codes "[" = ap opens_text is ∙ sym (assoc (opens_text os) (before o.done) (decimal o.place) (lists_before o.lists)) in
    let text = end_text g w front at_end begun in
    let made : put g piece.Closes ≡ record { outer = os; done = o.done; last = Some (o.place, o.lists ++ trees_of ts ∷ []) } = ap (λ (l : List Open). closed l ts) is in
    subst (λ (h : Growing). Text at.Closed (length os) h (plus w 93)) (sym made) (record {
      stands = record { place = o.place; lists = o.lists; list = trees_of ts; last = refl; is = text ∙ assoc_list (opens_text os) (before o.done) (decimal o.place) (lists_before o.lists) (trees_text (trees_of ts)) };
      fit = record { outer = all.1; done = all.0.0; last = (all.0.1, all_more (λ l. trees_in_bounds l ≡ true) o.lists (trees_of ts) all.0.2 (trees_bound ts (settled_fit g.done g.last fit.done fit.last))) };
      deep = refl;
    })
  where
    assoc : (a b c d : List ℕ) → (a ++ (b ++ (c ++ (codes "(" ++ d)))) ++ codes "[" ≡ a ++ (b ++ (c ++ (codes "(" ++ (d ++ codes "["))))
    assoc a b c d = simp append_assoc

    assoc_list : (a b c d e : List ℕ) → (a ++ (b ++ (c ++ (codes "(" ++ d)))) ++ e ≡ a ++ (b ++ (c ++ (codes "(" ++ (d ++ e))))
    assoc_list a b c d e = simp append_assoc

pub grown_more : (g : Growing) (ps qs : List Piece) → grown g (ps ++ qs) ≡ grown (grown g ps) qs
grown_more g [] qs = refl
grown_more g (p ∷ ps) qs = grown_more (put g p) ps qs

-- a list ends, behind pieces
close_moves : (h g : Growing) (ps : List Piece) (d : ℕ) (w : List ℕ) → g ≡ grown h ps → pieces_of g ≡ pieces_of h ++ ps → Fit g → length g.outer ≡ d → AtEnd g w → Moved h (plus w 93) (close_list d ps)
close_moves h g ps zero w is pieces fit deep at_end = (subst (λ (x : Growing). Ended x (plus w 93)) is (whole_ends g w fit (none g.outer deep) at_end), subst (λ (x : Growing). pieces_of x ≡ pieces_of h ++ ps) is pieces)
  where
    none : (os : List Open) → length os ≡ 0 → os ≡ []
    none [] e = refl
    none (o ∷ os) e = absurd (omega (arith, e))
close_moves h g ps (suc d) w is pieces fit deep at_end = by g.outer refl
  where
    made : grown h (ps ++ piece.Closes ∷ []) ≡ put g piece.Closes
    made = grown_more h ps (piece.Closes ∷ []) ∙ ap (λ (x : Growing). put x piece.Closes) (sym is)

    by : (os : List Open) → g.outer ≡ os → Moved h (plus w 93) (goes at.Closed d (ps ++ piece.Closes ∷ []))
    by [] e = let l = ap length e in absurd (omega (arith, l, deep))
    by (o ∷ os) e =
        let l = ap length e in
        let deeper : length os ≡ d = omega (arith, l, deep) in
        let text = inner_ends g w o os fit e at_end in
        let all = closing g o os e ∙ ap (λ (x : List Piece). x ++ piece.Closes ∷ []) pieces ∙ append_assoc (pieces_of h) ps (piece.Closes ∷ []) in
        (subst (λ (x : Growing). Text at.Closed d x (plus w 93)) (sym made) (subst (λ (n : ℕ). Text at.Closed n (put g piece.Closes) (plus w 93)) deeper text), subst (λ (x : Growing). pieces_of x ≡ pieces_of h ++ (ps ++ piece.Closes ∷ [])) (sym made) all)

-- behind a tree, and pieces
tree_moves : (h g : Growing) (ps : List Piece) (d : ℕ) (w : List ℕ) (c : ℕ) (ds : List Tree) (t : Tree) → g ≡ grown h ps → pieces_of g ≡ pieces_of h ++ ps → Fit g → length g.outer ≡ d → settled g.done g.last ≡ ds ++ t ∷ []
    → w ≡ opens_text g.outer ++ (before ds ++ tree_text t) → Moved h (plus w c) (after_tree d c ps)
tree_moves h g ps d w c ds t is pieces fit deep trees text = by (c == 59) refl
  where
    move : Bool → Bool → Move
    move p q = if p then goes at.Next d ps else if q then close_list d ps else stops

    last : (q : Bool) → (c == 93) ≡ q → Moved h (plus w c) (move false q)
    last true e = subst (λ (x : ℕ). Moved h (plus w x) (close_list d ps)) (sym (eqb-true c 93 e)) (close_moves h g ps d w is pieces fit deep (some ds t trees text))
    last false e = tt

    further : plus w 59 ≡ opens_text g.outer ++ before (settled g.done g.last)
    further =
        ap (λ (l : List ℕ). l ++ codes ";") text ∙ assoc (opens_text g.outer) (before ds) (tree_text t)
        ∙ ap (λ (l : List ℕ). opens_text g.outer ++ l) (sym (before_more ds t)) ∙ ap (λ (ts : List Tree). opens_text g.outer ++ before ts) (sym trees)
      where
        assoc : (a b c : List ℕ) → (a ++ (b ++ c)) ++ codes ";" ≡ a ++ (b ++ (c ++ codes ";"))
        assoc a b c = simp append_assoc

    by : (p : Bool) → (c == 59) ≡ p → Moved h (plus w c) (move p (c == 93))
    by true e =
        let there : Text at.Next d g (plus w 59) = record { stands = record { is = further }; fit = fit; deep = deep } in
        (subst (λ (x : ℕ). Text at.Next d (grown h ps) (plus w x)) (sym (eqb-true c 59 e)) (subst (λ (x : Growing). Text at.Next d x (plus w 59)) is there), subst (λ (x : Growing). pieces_of x ≡ pieces_of h ++ ps) is pieces)
    by false e = last (c == 93) refl

-- where a place comes
place_moves : (g : Growing) (d : ℕ) (w : List ℕ) (c : ℕ) → Fit g → length g.outer ≡ d → w ≡ opens_text g.outer ++ before (settled g.done g.last) → Moved g (plus w c) (begin_place d c)
place_moves g d w c fit deep text = by (begins_place c) refl
  where
    move : Bool → Move
    move t = if t then goes (at.Number (c - 48)) d [] else stops

    digit : begins_place c ≡ true → (48 ≤ c) × (c ≤ 57) × (c - 48 ≤ max_prims)
    digit e = (grind (arith, nat_tests, e), grind (arith, nat_tests, e), grind (arith, nat_tests, e))

    by : (t : Bool) → begins_place c ≡ t → Moved g (plus w c) (move t)
    by true e =
        let (low, high, within) = digit e in (
          record {
            stands = record { within = within; is = ap (λ (l : List ℕ). l ++ c ∷ []) text ∙ append_assoc (opens_text g.outer) (before (settled g.done g.last)) (c ∷ []) ∙ ap (λ (l : List ℕ). opens_text g.outer ++ (before (settled g.done g.last) ++ l)) (sym (one_digit c low high)) };
            fit = fit;
            deep = deep;
          },
          sym (append-nil (pieces_of g)),
        )
    by false e = tt

-- a place is there
fit_placed : (g : Growing) (n : ℕ) → n ≤ max_prims → Fit g → Fit (put g (piece.Place n))
fit_placed g n within fit = record { outer = fit.outer; done = settled_fit g.done g.last fit.done fit.last; last = (within, tt) }

-- in a number
number_moves : (g : Growing) (n d : ℕ) (w : List ℕ) (c : ℕ) → Fit g → length g.outer ≡ d → InNumber n g w → Moved g (plus w c) (step (at.Number n) d c)
number_moves g n d w c fit deep s = by (place_goes_on n c) refl
  where
    h : Growing
    h = put g (piece.Place n)

    move : Bool → Bool → Move
    move p q = if p then goes (at.Number (10 * n + (c - 48))) d [] else if q then goes at.Lists d (piece.Place n ∷ []) else after_tree d c (piece.Place n ∷ [])

    digit : place_goes_on n c ≡ true → (48 ≤ c) × (c ≤ 57) × (0 < n) × (10 * n + (c - 48) ≤ max_prims)
    digit e = (grind (arith, nat_tests, e), grind (arith, nat_tests, e), grind (arith, nat_tests, e), grind (arith, nat_tests, e))

    assoc : (a b c d : List ℕ) → (a ++ (b ++ c)) ++ d ≡ a ++ (b ++ (c ++ d))
    assoc a b c d = simp append_assoc

    last : (q : Bool) → (c == 40) ≡ q → Moved g (plus w c) (move false q)
    last true e =
        let there : Text at.Lists d h (plus w 40) = record {
          stands = record { place = n; lists = []; last = refl; is = ap (λ (l : List ℕ). l ++ codes "(") s.is ∙ assoc (opens_text g.outer) (before (settled g.done g.last)) (decimal n) (codes "(") };
          fit = fit_placed g n s.within fit;
          deep = deep;
        } in
        (subst (λ (x : ℕ). Text at.Lists d h (plus w x)) (sym (eqb-true c 40 e)) there, placed g n)
    last false e = tree_moves g h (piece.Place n ∷ []) d w c (settled g.done g.last) (tree n no_lists) refl (placed g n) (fit_placed g n s.within fit) deep refl s.is

    by : (p : Bool) → place_goes_on n c ≡ p → Moved g (plus w c) (move p (c == 40))
    by true e =
        let (low, high, more, within) = digit e in
        let longer = digit_more n c more low high (omega (arith, within)) in (
          record {
            stands = record { within = within; is = ap (λ (l : List ℕ). l ++ c ∷ []) s.is ∙ assoc (opens_text g.outer) (before (settled g.done g.last)) (decimal n) (c ∷ []) ∙ ap (λ (l : List ℕ). opens_text g.outer ++ (before (settled g.done g.last) ++ l)) (sym longer) };
            fit = fit;
            deep = deep;
          },
          sym (append-nil (pieces_of g)),
        )
    by false e = last (c == 40) refl

-- behind the parenthesis of lists, or a comma
lists_moves : (g : Growing) (d : ℕ) (w : List ℕ) (c : ℕ) → Fit g → length g.outer ≡ d → InLists g w → Moved g (plus w c) (step at.Lists d c)
lists_moves g d w c fit deep s = by (c == 91) refl
  where
    move : Bool → Move
    move p = if p then goes at.Items (suc d) (piece.Opens ∷ []) else stops

    made : put g piece.Opens ≡ record { outer = record { done = g.done; place = s.place; lists = s.lists } ∷ g.outer; done = []; last = None }
    made = ap (opened g) s.last

    last : Last_fits (Some (s.place, s.lists))
    last = subst Last_fits s.last fit.last

    assoc : (a b c d : List ℕ) → (a ++ (b ++ (c ++ (codes "(" ++ d)))) ++ codes "[" ≡ a ++ (b ++ (c ++ (codes "(" ++ (d ++ codes "["))))
    assoc a b c d = simp append_assoc

    by : (p : Bool) → (c == 91) ≡ p → Moved g (plus w c) (move p)
    by true e =
        let there : Text at.Items (suc d) (record { outer = record { done = g.done; place = s.place; lists = s.lists } ∷ g.outer; done = []; last = None }) (plus w 91) = record {
          stands = record { none = refl; is = ap (λ (l : List ℕ). l ++ codes "[") s.is ∙ assoc (opens_text g.outer) (before g.done) (decimal s.place) (lists_before s.lists) };
          fit = record { outer = ((fit.done, last.0, last.1), fit.outer); done = tt; last = tt };
          deep = ap suc deep;
        } in
        (subst (λ (x : ℕ). Text at.Items (suc d) (put g piece.Opens) (plus w x)) (sym (eqb-true c 91 e)) (subst (λ (x : Growing). Text at.Items (suc d) x (plus w 91)) (sym made) there), opening g s.place s.lists s.last)
    by false e = tt

-- behind a list of a tree
closed_moves : (g : Growing) (d : ℕ) (w : List ℕ) (c : ℕ) → Fit g → length g.outer ≡ d → InClosed g w → Moved g (plus w c) (step at.Closed d c)
closed_moves g d w c fit deep s = by (c == 44) refl
  where
    move : Bool → Bool → Move
    move p q = if p then goes at.Lists d [] else if q then goes at.Ended d [] else stops

    assoc : (a b c d e f : List ℕ) → (a ++ (b ++ (c ++ (codes "(" ++ (d ++ e))))) ++ f ≡ a ++ (b ++ (c ++ (codes "(" ++ (d ++ (e ++ f)))))
    assoc a b c d e f = simp append_assoc

    last : (q : Bool) → (c == 41) ≡ q → Moved g (plus w c) (move false q)
    last true e =
        let there : Text at.Ended d g (plus w 41) = record {
          stands = record {
            place = s.place;
            lists = s.lists ++ s.list ∷ [];
            last = s.last;
            is = ap (λ (l : List ℕ). l ++ codes ")") s.is ∙ assoc (opens_text g.outer) (before g.done) (decimal s.place) (lists_before s.lists) (trees_text s.list) (codes ")")
                ∙ ap (λ (l : List ℕ). opens_text g.outer ++ (before g.done ++ l)) (lists_text s.place s.lists s.list);
          };
          fit = fit;
          deep = deep;
        } in
        (subst (λ (x : ℕ). Text at.Ended d g (plus w x)) (sym (eqb-true c 41 e)) there, sym (append-nil (pieces_of g)))
    last false e = tt

    by : (p : Bool) → (c == 44) ≡ p → Moved g (plus w c) (move p (c == 41))
    by true e =
        let there : Text at.Lists d g (plus w 44) = record {
          stands = record {
            place = s.place;
            lists = s.lists ++ s.list ∷ [];
            last = s.last;
            is = ap (λ (l : List ℕ). l ++ codes ",") s.is ∙ assoc (opens_text g.outer) (before g.done) (decimal s.place) (lists_before s.lists) (trees_text s.list) (codes ",")
                ∙ ap (λ (l : List ℕ). opens_text g.outer ++ (before g.done ++ (decimal s.place ++ (codes "(" ++ l)))) (sym (lists_more s.lists s.list));
          };
          fit = fit;
          deep = deep;
        } in
        (subst (λ (x : ℕ). Text at.Lists d g (plus w x)) (sym (eqb-true c 44 e)) there, sym (append-nil (pieces_of g)))
    by false e = last (c == 41) refl

-- each byte
pub moves : (a : At) (d : ℕ) (g : Growing) (w : List ℕ) (c : ℕ) → Text a d g w → Moved g (plus w c) (step a d c)
moves at.Items d g w c t = by (c == 93) refl
  where
    move : Bool → Move
    move p = if p then close_list d [] else begin_place d c

    by : (p : Bool) → (c == 93) ≡ p → Moved g (plus w c) (move p)
    by true e = subst (λ (x : ℕ). Moved g (plus w x) (close_list d [])) (sym (eqb-true c 93 e)) (close_moves g g [] d w refl (sym (append-nil (pieces_of g))) t.fit t.deep (empty t.stands.none t.stands.is))
    by false e = place_moves g d w c t.fit t.deep (t.stands.is ∙ sym (append-nil (opens_text g.outer)) ∙ ap (λ (ts : List Tree). opens_text g.outer ++ before ts) (sym t.stands.none))
moves at.Next d g w c t = place_moves g d w c t.fit t.deep t.stands.is
moves (at.Number n) d g w c t = number_moves g n d w c t.fit t.deep t.stands
moves at.Lists d g w c t = lists_moves g d w c t.fit t.deep t.stands
moves at.Closed d g w c t = closed_moves g d w c t.fit t.deep t.stands
moves at.Ended d g w c t =
    let s = t.stands in
    tree_moves g g [] d w c g.done (tree s.place (tree_lists_of s.lists)) refl (sym (append-nil (pieces_of g))) t.fit t.deep (ap (settled g.done) s.last) s.is
