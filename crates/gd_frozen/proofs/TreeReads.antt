-- The text of each tree is read to its end, and its pieces make it again.
use Rattle.std.proofs.Common.{◌≡◌, ◌∙◌, refl, sym, ap, subst, arith, ◌⊎◌, inl, inr, ℕ, zero, suc, ◌+◌, ◌-◌, ◌*◌, ◌<◌, ◌≤◌, ◌^◌, List, [], ◌∷◌, ◌++◌, length, Bool, true, false, not, ◌&&◌, ◌==◌, nat_le, if◌then◌else◌, Option, Some, None, Result, Ok, Err, length-append, append_assoc, decimal, codes, eqb-true, ne_eqb, leb-true}
use Rattle.std.proofs.lemmas.List.{append-nil}
use Rattle.std.proofs.lemmas.Bool.Decides.{nat_tests}
use Rattle.std.proofs.lemmas.Fmt.{decimal_nonempty, decimal_injective}
use Rattle.std.specs.Char.{is_ascii_digit}
use Rattle.gd_grammar.specs.Chain.{◌>>=◌}
use Rattle.gd_grammar.specs.Grammar.{Reads}
use Rattle.gd_grammar.proofs.Numbers.{digit_more, one_digit, digit_behind, digit_within, first_digit}
use Rattle.gd_grammar.proofs.Scans.{ok_of}
use Rattle.gd_tree.specs.Trees.{Tree, tree, Trees, no_trees, and_tree, TreeLists, no_lists, and_list, trees_of, tree_lists_of, list_of, place_of}
use Rattle.gd_prim.specs.Limits.{max_prims}
use Rattle.gd_bytes.specs.Frozen.{tree_text, trees_text, more_trees, more_lists, tree_in_bounds, trees_in_bounds, lists_in_bounds, place_in_bounds}
use Rattle.gd_frozen.specs.declared.tree.Piece.{Piece}
use Rattle.gd_frozen.specs.declared.tree.Piece.TheVariants as piece
use Rattle.gd_frozen.specs.declared.tree.At.{At}
use Rattle.gd_frozen.specs.declared.tree.At.TheVariants as at
use Rattle.gd_frozen.specs.Pieces.{tree_pieces, trees_pieces, lists_pieces, Open, Growing, nothing_grown, settled, opened, closed, put, grown, trees_in, Move, stops, ends, goes, step, after_tree, close_list, begin_place, begins_place, place_goes_on, follow, run, behind_pieces}

-- ---- pieces make their trees again

abbrev lists_list : TreeLists → List Trees
lists_list no_lists = []
lists_list (and_list ts ls) = ts ∷ lists_list ls

trees_again : (ts : Trees) → trees_of (list_of ts) ≡ ts
trees_again no_trees = refl
trees_again (and_tree t ts) = ap (and_tree t) (trees_again ts)

lists_again : (ls : TreeLists) → tree_lists_of (lists_list ls) ≡ ls
lists_again no_lists = refl
lists_again (and_list ts ls) = ap (and_list ts) (lists_again ls)

-- what some pieces have made when they are put
record Grew (g : Growing) (ts : List Tree) (ps qs : List Piece) : Type 0 where
  now : Growing
  is : grown g (ps ++ qs) ≡ grown now qs
  outer : now.outer ≡ g.outer
  trees : settled now.done now.last ≡ settled g.done g.last ++ ts

mutual
  grow_tree : (t : Tree) (g : Growing) (qs : List Piece) → Grew g (t ∷ []) (tree_pieces t) qs
  grow_tree (tree p ls) g qs = record {
    now = record { outer = g.outer; done = settled g.done g.last; last = Some (p, [] ++ lists_list ls) };
    is = grow_lists ls (put g (piece.Place p)) p [] qs refl;
    outer = refl;
    trees = ap (λ (l : TreeLists). settled g.done g.last ++ tree p l ∷ []) (lists_again ls);
  }

  grow_trees : (ts : Trees) (g : Growing) (qs : List Piece) → Grew g (list_of ts) (trees_pieces ts) qs
  grow_trees no_trees g qs = record { now = g; is = refl; outer = refl; trees = sym (append-nil (settled g.done g.last)) }
  grow_trees (and_tree t ts) g qs =
      let one = grow_tree t g (trees_pieces ts ++ qs) in
      let more = grow_trees ts one.now qs in
      record {
        now = more.now;
        is = ap (grown g) (append_assoc (tree_pieces t) (trees_pieces ts) qs) ∙ one.is ∙ more.is;
        outer = more.outer ∙ one.outer;
        trees = more.trees ∙ ap (λ (l : List Tree). l ++ list_of ts) one.trees ∙ append_assoc (settled g.done g.last) (t ∷ []) (list_of ts);
      }

  grow_lists : (ls : TreeLists) (g : Growing) (p : ℕ) (ks : List Trees) (qs : List Piece) → g.last ≡ Some (p, ks) → grown g (lists_pieces ls ++ qs) ≡ grown (record { outer = g.outer; done = g.done; last = Some (p, ks ++ lists_list ls) }) qs
  grow_lists no_lists g p ks qs last = ap (λ (o : Option (ℕ × List Trees)). grown (record { outer = g.outer; done = g.done; last = o }) qs) (last ∙ ap (λ (l : List Trees). Some (p, l)) (sym (append-nil ks)))
  grow_lists (and_list ts ls) g p ks qs last =
      let inside : Growing = record { outer = record { done = g.done; place = p; lists = ks } ∷ g.outer; done = []; last = None } in
      let behind : List Piece = piece.Closes ∷ (lists_pieces ls ++ qs) in
      let list = grow_trees ts inside behind in
      let after : Growing = record { outer = g.outer; done = g.done; last = Some (p, ks ++ trees_of (list_of ts) ∷ []) } in
      let shut : put list.now piece.Closes ≡ after = ap (λ (os : List Open). closed os (settled list.now.done list.now.last)) list.outer ∙ ap (λ (us : List Tree). closed inside.outer us) list.trees in
      let text : (trees_pieces ts ++ (piece.Closes ∷ lists_pieces ls)) ++ qs ≡ trees_pieces ts ++ behind = append_assoc (trees_pieces ts) (piece.Closes ∷ lists_pieces ls) qs in
      let more = grow_lists ls after p (ks ++ trees_of (list_of ts) ∷ []) qs refl in
      ap (λ (o : Option (ℕ × List Trees)). grown (opened g o) ((trees_pieces ts ++ (piece.Closes ∷ lists_pieces ls)) ++ qs)) last
      ∙ ap (grown inside) text ∙ list.is ∙ ap (λ (h : Growing). grown h (lists_pieces ls ++ qs)) shut ∙ more
      ∙ ap (λ (l : List Trees). grown (record { outer = g.outer; done = g.done; last = Some (p, l) }) qs) (append_assoc ks (trees_of (list_of ts) ∷ []) (lists_list ls) ∙ ap (λ (us : Trees). ks ++ us ∷ lists_list ls) (trees_again ts))

-- pieces of trees make these trees
pub trees_back : (ts : Trees) → trees_in (trees_pieces ts) ≡ ts
unfolding trees_in
trees_back ts =
    let all = grow_trees ts nothing_grown [] in
    ap (λ (ps : List Piece). let g : Growing = grown nothing_grown ps in trees_of (settled g.done g.last)) (sym (append-nil (trees_pieces ts)))
    ∙ ap (λ (g : Growing). trees_of (settled g.done g.last)) all.is ∙ ap trees_of all.trees ∙ trees_again ts

-- ---- each text is read

behind_nil : (r : Reads (List Piece)) → behind_pieces [] r ≡ r
behind_nil (Ok x) = refl
behind_nil (Err e) = refl

behind_both : (ps qs : List Piece) (r : Reads (List Piece)) → behind_pieces (ps ++ qs) r ≡ behind_pieces ps (behind_pieces qs r)
behind_both ps qs (Ok x) = ap (λ (l : List Piece). ok_of (l, x.1)) (append_assoc ps qs x.0)
behind_both ps qs (Err e) = refl

place_small : max_prims < 2 ^ 64
place_small = omega arith

-- the digits of a number
number_runs : (w : List ℕ) (m n d : ℕ) (rest : List ℕ) → m ≤ max_prims → n ≤ max_prims → decimal n ≡ decimal m ++ w → run (at.Number m) d (w ++ rest) ≡ run (at.Number n) d rest
number_runs [] m n d rest m_in n_in is =
    let same = decimal_injective n m (omega (arith, n_in)) (omega (arith, m_in)) (is ∙ append-nil (decimal m)) in
    ap (λ (k : ℕ). run (at.Number k) d rest) (sym same)
number_runs (c ∷ w) m n d rest m_in n_in is =
    let (low, high, more, fits) = digit_behind m n c w (omega (arith, m_in)) (omega (arith, n_in)) is in
    let within : 10 * m + (c - 48) ≤ max_prims = omega (arith, fits, n_in) in
    let longer = digit_more m c more low high (omega (arith, within)) in
    let there : decimal n ≡ decimal (10 * m + (c - 48)) ++ w = is ∙ sym (ap (λ (l : List ℕ). l ++ w) longer ∙ append_assoc (decimal m) (c ∷ []) w) in
    ap (λ (t : Bool). follow c (w ++ rest) (if t then goes (at.Number (10 * m + (c - 48))) d [] else if c == 40 then goes at.Lists d (piece.Place m ∷ []) else after_tree d c (piece.Place m ∷ [])) (λ b e. run b e (w ++ rest))) (goes_on low high more within)
    ∙ behind_nil (run (at.Number (10 * m + (c - 48))) d (w ++ rest)) ∙ number_runs w (10 * m + (c - 48)) n d rest within n_in there
  where
    goes_on : 48 ≤ c → c ≤ 57 → 0 < m → 10 * m + (c - 48) ≤ max_prims → place_goes_on m c ≡ true
    goes_on p q r s = grind (arith, nat_tests)

-- a number where a place comes
begin_runs : (n d : ℕ) (rest : List ℕ) → n ≤ max_prims → run at.Next d (decimal n ++ rest) ≡ run (at.Number n) d rest
begin_runs n d rest within = by (decimal n) refl
  where
    big : n < 2 ^ 64
    big = omega (arith, within)

    by : (l : List ℕ) → decimal n ≡ l → run at.Next d (l ++ rest) ≡ run (at.Number n) d rest
    by [] e = let some = decimal_nonempty n big in let none = ap length e in absurd (omega (arith, some, none))
    by (c ∷ t) e =
        let (low, high) = first_digit n c t big e in
        let least = digit_within n c t big e in
        let fits : c - 48 ≤ max_prims = omega (arith, least, within) in
        let there : decimal n ≡ decimal (c - 48) ++ t = e ∙ ap (λ (l : List ℕ). l ++ t) (sym (one_digit c low high)) in
        ap (λ (b : Bool). follow c (t ++ rest) (if b then goes (at.Number (c - 48)) d [] else stops) (λ b e. run b e (t ++ rest))) (begins low high fits) ∙ behind_nil (run (at.Number (c - 48)) d (t ++ rest)) ∙ number_runs t (c - 48) n d rest fits within there
      where
        begins : 48 ≤ c → c ≤ 57 → c - 48 ≤ max_prims → begins_place c ≡ true
        begins p q r = grind (arith, nat_tests)

-- behind the bracket of a list a place comes alike
items_runs : (n d : ℕ) (rest : List ℕ) → n ≤ max_prims → run at.Items d (decimal n ++ rest) ≡ run at.Next d (decimal n ++ rest)
items_runs n d rest within = by (decimal n) refl
  where
    big : n < 2 ^ 64
    big = omega (arith, within)

    by : (l : List ℕ) → decimal n ≡ l → run at.Items d (l ++ rest) ≡ run at.Next d (l ++ rest)
    by [] e = let some = decimal_nonempty n big in let none = ap length e in absurd (omega (arith, some, none))
    by (c ∷ t) e =
        let (low, high) = first_digit n c t big e in
        ap (λ (b : Bool). follow c (t ++ rest) (if b then close_list d [] else begin_place d c) (λ b e. run b e (t ++ rest))) (ne_eqb c 93 (λ same. omega (arith, high, same)))

-- the text of trees without its brackets
abbrev pub inner_text : Trees → List ℕ
inner_text no_trees = []
inner_text (and_tree t ts) = tree_text t ++ more_trees ts

pub inner_is : (ts : Trees) → trees_text ts ≡ 91 ∷ (inner_text ts ++ codes "]")
inner_is no_trees = refl
inner_is (and_tree t ts) = simp append_assoc

-- a list ends, or a further tree comes
abbrev IsBehind : ℕ → Type 0
IsBehind c = (c ≡ 59) ⊎ (c ≡ 93)

-- behind a number that is a tree
number_ends : (n d c : ℕ) (cs : List ℕ) → IsBehind c → run (at.Number n) d (c ∷ cs) ≡ behind_pieces (piece.Place n ∷ []) (run at.Ended d (c ∷ cs))
number_ends n d c cs (inl is) = subst (λ (x : ℕ). run (at.Number n) d (x ∷ cs) ≡ behind_pieces (piece.Place n ∷ []) (run at.Ended d (x ∷ cs))) (sym is) (ap (behind_pieces (piece.Place n ∷ [])) (sym (behind_nil (run at.Next d cs))))
number_ends n zero c cs (inr is) = subst (λ (x : ℕ). run (at.Number n) zero (x ∷ cs) ≡ behind_pieces (piece.Place n ∷ []) (run at.Ended zero (x ∷ cs))) (sym is) refl
number_ends n (suc d) c cs (inr is) =
    subst (λ (x : ℕ). run (at.Number n) (suc d) (x ∷ cs) ≡ behind_pieces (piece.Place n ∷ []) (run at.Ended (suc d) (x ∷ cs))) (sym is) (behind_both (piece.Place n ∷ []) (piece.Closes ∷ []) (run at.Closed d cs))

both : (a b : Bool) → (a && b) ≡ true → (a ≡ true) × (b ≡ true)
both true b e = (refl, e)
both false b e = cc

-- a tree is read before a list ends or a further tree comes
abbrev RunsAlone : Tree → ℕ → Type 0
RunsAlone t d = (c : ℕ) (cs : List ℕ) → IsBehind c → run at.Next d (tree_text t ++ (c ∷ cs)) ≡ behind_pieces (tree_pieces t) (run at.Ended d (c ∷ cs))

-- a tree and those behind it, and the end of their list
first_runs : (t : Tree) (ts : Trees) (d : ℕ) (cs : List ℕ) → RunsAlone t d → run at.Ended d (more_trees ts ++ (93 ∷ cs)) ≡ behind_pieces (trees_pieces ts) (run at.Ended d (93 ∷ cs))
    → run at.Next d (tree_text t ++ (more_trees ts ++ (93 ∷ cs))) ≡ behind_pieces (trees_pieces (and_tree t ts)) (run at.Ended d (93 ∷ cs))
first_runs t no_trees d cs alone more = alone 93 cs (inr refl) ∙ ap (λ (l : List Piece). behind_pieces l (run at.Ended d (93 ∷ cs))) (sym (append-nil (tree_pieces t)))
first_runs t (and_tree u us) d cs alone more =
    let text : more_trees (and_tree u us) ++ (93 ∷ cs) ≡ 59 ∷ (tree_text u ++ (more_trees us ++ (93 ∷ cs))) = simp append_assoc in
    ap (λ (l : List ℕ). run at.Next d (tree_text t ++ l)) text ∙ alone 59 (tree_text u ++ (more_trees us ++ (93 ∷ cs))) (inl refl)
    ∙ ap (λ (l : List ℕ). behind_pieces (tree_pieces t) (run at.Ended d l)) (sym text) ∙ ap (behind_pieces (tree_pieces t)) more ∙ sym (behind_both (tree_pieces t) (trees_pieces (and_tree u us)) (run at.Ended d (93 ∷ cs)))

mutual
  tree_runs : (t : Tree) (d c : ℕ) (cs : List ℕ) → tree_in_bounds t ≡ true → IsBehind c → run at.Next d (tree_text t ++ (c ∷ cs)) ≡ behind_pieces (tree_pieces t) (run at.Ended d (c ∷ cs))
  tree_runs (tree p no_lists) d c cs fit is =
      let within = leb-true p max_prims (both (place_in_bounds p) true fit).0 in
      begin_runs p d (c ∷ cs) within ∙ number_ends p d c cs is
  tree_runs (tree p (and_list ts ls)) d c cs fit is =
      let parts = both (place_in_bounds p) (trees_in_bounds ts && lists_in_bounds ls) fit in
      let within = leb-true p max_prims parts.0 in
      let below = both (trees_in_bounds ts) (lists_in_bounds ls) parts.1 in
      let one = one_runs ts d (more_lists ls ++ (41 ∷ (c ∷ cs))) below.0 in
      let more = lists_run ls d (c ∷ cs) below.1 in
      let text : tree_text (tree p (and_list ts ls)) ++ (c ∷ cs) ≡ decimal p ++ (40 ∷ (trees_text ts ++ (more_lists ls ++ (41 ∷ (c ∷ cs))))) = simp append_assoc in
      let pieces : behind_pieces (piece.Place p ∷ []) (behind_pieces (piece.Opens ∷ (trees_pieces ts ++ piece.Closes ∷ [])) (behind_pieces (lists_pieces ls) (run at.Ended d (c ∷ cs)))) ≡ behind_pieces (tree_pieces (tree p (and_list ts ls))) (run at.Ended d (c ∷ cs))
      = ap (behind_pieces (piece.Place p ∷ [])) (sym (behind_both (piece.Opens ∷ (trees_pieces ts ++ piece.Closes ∷ [])) (lists_pieces ls) (run at.Ended d (c ∷ cs)))) ∙ sym (behind_both (piece.Place p ∷ []) ((piece.Opens ∷ (trees_pieces ts ++ piece.Closes ∷ [])) ++ lists_pieces ls) (run at.Ended d (c ∷ cs)))
      ∙ ap (λ (l : List Piece). behind_pieces (piece.Place p ∷ (piece.Opens ∷ l)) (run at.Ended d (c ∷ cs))) (append_assoc (trees_pieces ts) (piece.Closes ∷ []) (lists_pieces ls)) in
      ap (run at.Next d) text ∙ begin_runs p d (40 ∷ (trees_text ts ++ (more_lists ls ++ (41 ∷ (c ∷ cs))))) within
      ∙ ap (behind_pieces (piece.Place p ∷ [])) (one ∙ ap (behind_pieces (piece.Opens ∷ (trees_pieces ts ++ piece.Closes ∷ []))) more) ∙ pieces

  -- trees behind one, and the end of their list
  more_runs : (ts : Trees) (d : ℕ) (cs : List ℕ) → trees_in_bounds ts ≡ true → run at.Ended d (more_trees ts ++ (93 ∷ cs)) ≡ behind_pieces (trees_pieces ts) (run at.Ended d (93 ∷ cs))
  more_runs no_trees d cs fit = sym (behind_nil (run at.Ended d (93 ∷ cs)))
  more_runs (and_tree t ts) d cs fit =
      let parts = both (tree_in_bounds t) (trees_in_bounds ts) fit in
      let text : more_trees (and_tree t ts) ++ (93 ∷ cs) ≡ 59 ∷ (tree_text t ++ (more_trees ts ++ (93 ∷ cs))) = simp append_assoc in
      ap (run at.Ended d) text ∙ behind_nil (run at.Next d (tree_text t ++ (more_trees ts ++ (93 ∷ cs)))) ∙ first_runs t ts d cs (λ c cs is. tree_runs t d c cs parts.0 is) (more_runs ts d cs parts.1)

  -- a list of a tree
  one_runs : (ts : Trees) (d : ℕ) (rest : List ℕ) → trees_in_bounds ts ≡ true → run at.Lists d (trees_text ts ++ rest) ≡ behind_pieces (piece.Opens ∷ (trees_pieces ts ++ piece.Closes ∷ [])) (run at.Closed d rest)
  one_runs no_trees d rest fit = sym (behind_both (piece.Opens ∷ []) (piece.Closes ∷ []) (run at.Closed d rest))
  one_runs (and_tree t ts) d rest fit =
      let parts = both (tree_in_bounds t) (trees_in_bounds ts) fit in
      let text : trees_text (and_tree t ts) ++ rest ≡ 91 ∷ (tree_text t ++ (more_trees ts ++ (93 ∷ rest))) = simp append_assoc in
      let inside = tree_items t (suc d) (more_trees ts ++ (93 ∷ rest)) parts.0 ∙ first_runs t ts (suc d) rest (λ c cs is. tree_runs t (suc d) c cs parts.0 is) (more_runs ts (suc d) rest parts.1) in
      ap (run at.Lists d) text ∙ ap (behind_pieces (piece.Opens ∷ [])) (inside ∙ sym (behind_both (trees_pieces (and_tree t ts)) (piece.Closes ∷ []) (run at.Closed d rest)))
      ∙ sym (behind_both (piece.Opens ∷ []) (trees_pieces (and_tree t ts) ++ piece.Closes ∷ []) (run at.Closed d rest))

  -- lists of a tree behind one
  lists_run : (ls : TreeLists) (d : ℕ) (cs : List ℕ) → lists_in_bounds ls ≡ true → run at.Closed d (more_lists ls ++ (41 ∷ cs)) ≡ behind_pieces (lists_pieces ls) (run at.Ended d cs)
  lists_run no_lists d cs fit = refl
  lists_run (and_list ts ls) d cs fit =
      let parts = both (trees_in_bounds ts) (lists_in_bounds ls) fit in
      let text : more_lists (and_list ts ls) ++ (41 ∷ cs) ≡ 44 ∷ (trees_text ts ++ (more_lists ls ++ (41 ∷ cs))) = simp append_assoc in
      ap (run at.Closed d) text ∙ behind_nil (run at.Lists d (trees_text ts ++ (more_lists ls ++ (41 ∷ cs)))) ∙ one_runs ts d (more_lists ls ++ (41 ∷ cs)) parts.0
      ∙ ap (behind_pieces (piece.Opens ∷ (trees_pieces ts ++ piece.Closes ∷ []))) (lists_run ls d cs parts.1) ∙ sym (behind_both (piece.Opens ∷ (trees_pieces ts ++ piece.Closes ∷ [])) (lists_pieces ls) (run at.Ended d cs))
      ∙ ap (λ (l : List Piece). behind_pieces (piece.Opens ∷ l) (run at.Ended d cs)) (append_assoc (trees_pieces ts) (piece.Closes ∷ []) (lists_pieces ls))

  -- a tree behind the bracket of its list
  tree_items : (t : Tree) (d : ℕ) (rest : List ℕ) → tree_in_bounds t ≡ true → run at.Items d (tree_text t ++ rest) ≡ run at.Next d (tree_text t ++ rest)
  tree_items (tree p no_lists) d rest fit = items_runs p d rest (leb-true p max_prims (both (place_in_bounds p) true fit).0)
  tree_items (tree p (and_list ts ls)) d rest fit =
      let within = leb-true p max_prims (both (place_in_bounds p) (trees_in_bounds ts && lists_in_bounds ls) fit).0 in
      let text : tree_text (tree p (and_list ts ls)) ++ rest ≡ decimal p ++ (40 ∷ (trees_text ts ++ (more_lists ls ++ (41 ∷ rest)))) = simp append_assoc in
      ap (run at.Items d) text ∙ items_runs p d (40 ∷ (trees_text ts ++ (more_lists ls ++ (41 ∷ rest)))) within ∙ ap (run at.Next d) (sym text)

-- the text of trees behind its first bracket
pub trees_run : (ts : Trees) (rest : List ℕ) → trees_in_bounds ts ≡ true → run at.Items 0 (inner_text ts ++ (93 ∷ rest)) ≡ Ok (trees_pieces ts, rest)
trees_run no_trees rest fit = refl
trees_run (and_tree t ts) rest fit =
    let parts = both (tree_in_bounds t) (trees_in_bounds ts) fit in
    ap (run at.Items 0) (append_assoc (tree_text t) (more_trees ts) (93 ∷ rest)) ∙ tree_items t 0 (more_trees ts ++ (93 ∷ rest)) parts.0 ∙ first_runs t ts 0 rest (λ c cs is. tree_runs t 0 c cs parts.0 is) (more_runs ts 0 rest parts.1) ∙ ap (λ (l : List Piece). ok_of (l, rest)) (append-nil (trees_pieces (and_tree t ts)))
