-- Trees are read exactly.
use Rattle.std.proofs.Common.{◌≡◌, ◌∙◌, refl, sym, ap, subst, arith, ℕ, zero, suc, ◌+◌, ◌<◌, ◌≤◌, List, [], ◌∷◌, ◌++◌, length, Bool, true, false, Option, Some, None, Result, Ok, Err, length-append, append_assoc, decimal, codes}
use Rattle.std.proofs.lemmas.List.{append-nil}
use Rattle.std.specs.List.{AllByRecursion}
use Rattle.gd_grammar.specs.Chain.{◌>>=◌}
use Rattle.gd_grammar.specs.Grammar.{Reads, IsText, text_at}
use Rattle.gd_grammar.proofs.Scans.{Begins, Then, chain, Only, ok_of, ok_same}
use Rattle.gd_grammar.proofs.Numbers.{Word}
use Rattle.gd_grammar.proofs.Steady.{Steady, Begun, Clear, nothing, Steady-word, Steady-then, Steady-same, Steady-only, same_front}
use Rattle.gd_tree.specs.Trees.{Tree, tree, Trees, no_trees, and_tree, TreeLists, no_lists, and_list, trees_of, tree_lists_of}
use Rattle.gd_prim.specs.Limits.{max_prims}
use Rattle.gd_bytes.specs.Frozen.{tree_text, trees_text, tree_in_bounds, trees_in_bounds}
use Rattle.gd_frozen.specs.declared.tree.Piece.{Piece}
use Rattle.gd_frozen.specs.declared.tree.Piece.TheVariants as piece
use Rattle.gd_frozen.specs.declared.tree.At.{At}
use Rattle.gd_frozen.specs.declared.tree.At.TheVariants as at
use Rattle.gd_frozen.specs.Pieces.{trees_pieces, Open, Growing, nothing_grown, settled, put, grown, trees_in, Move, stops, ends, goes, step, follow, run, behind_pieces, pieces_at, trees_at}
use Rattle.gd_frozen.proofs.Runs.{run_same, run_fails, behind_ok, behind_err}
use Rattle.gd_frozen.proofs.TreeTexts.{before, lists_before, opens_text, list_text, lists_text, forest_pieces, forest_is, pieces_of}
use Rattle.gd_frozen.proofs.TreeSteps.{Trees_fit, Lists_fit, Open_fits, Last_fits, Fit, all_more, trees_bound, tree_bound, settled_fit, Text, Ended, Moved, moves, grown_more}
use Rattle.gd_frozen.proofs.TreeReads.{inner_text, inner_is, trees_run, trees_back}

-- ---- what was read

-- reading comes to the end of trees
record Reached (g : Growing) (w bytes : List ℕ) (ps : List Piece) (rest : List ℕ) : Type 0 where
  text : List ℕ
  split : bytes ≡ text ++ rest
  ended : Ended (grown g ps) (w ++ text)
  pieces : pieces_of (grown g ps) ≡ pieces_of g ++ ps

trace : (bytes : List ℕ) (a : At) (d : ℕ) (g : Growing) (w : List ℕ) (ps : List Piece) (rest : List ℕ) → Text a d g w → run a d bytes ≡ Ok (ps, rest) → Reached g w bytes ps rest
trace [] a d g w ps rest t is = cc
trace (c ∷ cs) a d g w ps rest t is = by (λ b e h qs u is. trace cs b e h (w ++ c ∷ []) qs rest u is) (step a d c) (moves a d g w c t) is
  where
    by : ((b : At) (e : ℕ) (h : Growing) (qs : List Piece) → Text b e h (w ++ c ∷ []) → run b e cs ≡ Ok (qs, rest) → Reached h (w ++ c ∷ []) cs qs rest) → (m : Move) → Moved g (w ++ c ∷ []) m → follow c cs m (λ b e. run b e cs) ≡ Ok (ps, rest)
        → Reached g w (c ∷ cs) ps rest
    by ih stops moved e = cc
    by ih (ends qs) moved e =
        let pairs = ok_same e in
        let qs_is : qs ≡ ps = ap (λ p. p.0) pairs in
        let tail : cs ≡ rest = ap (λ p. p.1) pairs in
        subst (λ (l : List Piece). Reached g w (c ∷ cs) l rest) qs_is (record { text = c ∷ []; split = ap (λ (l : List ℕ). c ∷ l) tail; ended = moved.0; pieces = moved.1 })
    by ih (goes b k qs) moved e =
        let f = behind_ok qs ps rest (run b k cs) e in
        let r = ih b k (grown g qs) f.more moved.0 f.reads in
        let both : grown g (qs ++ f.more) ≡ grown (grown g qs) f.more = grown_more g qs f.more in
        let text : (w ++ c ∷ []) ++ r.text ≡ w ++ (c ∷ r.text) = append_assoc w (c ∷ []) r.text in
        subst (λ (l : List Piece). Reached g w (c ∷ cs) l rest) (sym f.is) (record {
          text = c ∷ r.text;
          split = ap (λ (l : List ℕ). c ∷ l) r.split;
          ended = subst (λ (h : Growing). Ended h (w ++ (c ∷ r.text))) (sym both) (subst (Ended (grown (grown g qs) f.more)) text r.ended);
          pieces = ap pieces_of both ∙ r.pieces ∙ ap (λ (l : List Piece). l ++ f.more) moved.1 ∙ append_assoc (pieces_of g) qs f.more;
        })

-- ---- where it stopped

-- the bytes begin the text of trees within the bounds
abbrev Whole : List ℕ → Type 0
Whole w = (ts : Trees) × (m : List ℕ) × (trees_in_bounds ts ≡ true) × (trees_text ts ≡ w ++ m)

-- what is longer begins it as well
further : (w v m : List ℕ) → w ++ m ≡ v → Whole v → Whole w
further w v m is (ts, n, fit, text) = (ts, m ++ n, fit, text ∙ ap (λ (l : List ℕ). l ++ n) (sym is) ∙ append_assoc w m n)

-- behind a tree
tree_whole : (os : List Open) (done : List Tree) (t : Tree) → AllByRecursion Open_fits os → Trees_fit done → tree_in_bounds t ≡ true → Whole (opens_text os ++ (before done ++ tree_text t))
tree_whole [] done t fit all one = (trees_of (done ++ t ∷ []), codes "]", trees_bound (done ++ t ∷ []) (all_more (λ u. tree_in_bounds u ≡ true) done t all one), sym (list_text done t) ∙ sym (assoc (before done) (tree_text t)))
  where
    assoc : (a b : List ℕ) → (codes "[" ++ (a ++ b)) ++ codes "]" ≡ 91 ∷ (a ++ (b ++ codes "]"))
    assoc a b = simp append_assoc
tree_whole (o ∷ os) done t ((o_done, o_place, o_lists), fit) all one =
    let us = trees_of (done ++ t ∷ []) in
    let us_fit = trees_bound (done ++ t ∷ []) (all_more (λ u. tree_in_bounds u ≡ true) done t all one) in
    let t' = tree o.place (tree_lists_of (o.lists ++ us ∷ [])) in
    let t'_fit = tree_bound o.place (o.lists ++ us ∷ []) o_place (all_more (λ l. trees_in_bounds l ≡ true) o.lists us o_lists us_fit) in
    let next = tree_whole os o.done t' fit o_done t'_fit in
    let list = list_text done t in
    let text : (opens_text (o ∷ os) ++ (before done ++ tree_text t)) ++ codes "])" ≡ opens_text os ++ (before o.done ++ tree_text t')
    = assoc (opens_text os) (before o.done) (decimal o.place) (lists_before o.lists) (before done) (tree_text t)
    ∙ ap (λ (l : List ℕ). opens_text os ++ (before o.done ++ (decimal o.place ++ (40 ∷ (lists_before o.lists ++ (l ++ codes ")")))))) list
    ∙ ap (λ (l : List ℕ). opens_text os ++ (before o.done ++ l)) (lists_text o.place o.lists us) in
    further (opens_text (o ∷ os) ++ (before done ++ tree_text t)) (opens_text os ++ (before o.done ++ tree_text t')) (codes "])") text next
  where
    assoc : (a b c d e f : List ℕ) → ((a ++ (b ++ (c ++ (codes "(" ++ (d ++ codes "["))))) ++ (e ++ f)) ++ codes "])" ≡ a ++ (b ++ (c ++ (40 ∷ (d ++ ((91 ∷ (e ++ (f ++ codes "]"))) ++ codes ")")))))
    assoc a b c d e f = simp append_assoc

-- behind lists of a tree
lists_whole : (os : List Open) (done : List Tree) (p : ℕ) (ls : List Trees) (l : Trees) → AllByRecursion Open_fits os → Trees_fit done → p ≤ max_prims → Lists_fit ls → trees_in_bounds l ≡ true
    → Whole (opens_text os ++ (before done ++ (decimal p ++ (codes "(" ++ (lists_before ls ++ trees_text l)))))
lists_whole os done p ls l fit all within lists one =
    further (opens_text os ++ (before done ++ (decimal p ++ (codes "(" ++ (lists_before ls ++ trees_text l))))) (opens_text os ++ (before done ++ tree_text (tree p (tree_lists_of (ls ++ l ∷ []))))) (codes ")")
    (assoc (opens_text os) (before done) (decimal p) (lists_before ls) (trees_text l) ∙ ap (λ (x : List ℕ). opens_text os ++ (before done ++ x)) (lists_text p ls l))
    (tree_whole os done (tree p (tree_lists_of (ls ++ l ∷ []))) fit all (tree_bound p (ls ++ l ∷ []) within (all_more (λ k. trees_in_bounds k ≡ true) ls l lists one)))
  where
    assoc : (a b c d e : List ℕ) → (a ++ (b ++ (c ++ (codes "(" ++ (d ++ e))))) ++ codes ")" ≡ a ++ (b ++ (c ++ (40 ∷ (d ++ (e ++ codes ")")))))
    assoc a b c d e = simp append_assoc

-- behind the bracket of a list
items_whole : (os : List Open) → AllByRecursion Open_fits os → Whole (opens_text os)
items_whole [] fit = (no_trees, codes "]", refl, refl)
items_whole (o ∷ os) ((o_done, o_place, o_lists), fit) =
    further (opens_text (o ∷ os)) (opens_text os ++ (before o.done ++ (decimal o.place ++ (codes "(" ++ (lists_before o.lists ++ trees_text no_trees))))) (codes "]")
    (assoc (opens_text os) (before o.done) (decimal o.place) (lists_before o.lists)) (lists_whole os o.done o.place o.lists no_trees fit o_done o_place o_lists refl)
  where
    assoc : (a b c d : List ℕ) → (a ++ (b ++ (c ++ (codes "(" ++ (d ++ codes "["))))) ++ codes "]" ≡ a ++ (b ++ (c ++ (codes "(" ++ (d ++ codes "[]"))))
    assoc a b c d = simp append_assoc

-- wherever the text of trees stands
stands_whole : (a : At) (d : ℕ) (g : Growing) (w : List ℕ) → Text a d g w → Whole w
stands_whole at.Items d g w t = subst Whole (sym t.stands.is) (items_whole g.outer t.fit.outer)
stands_whole at.Next d g w t =
    let trees = settled g.done g.last in
    further w (opens_text g.outer ++ (before trees ++ tree_text (tree 0 no_lists))) (decimal 0) (ap (λ (l : List ℕ). l ++ decimal 0) t.stands.is ∙ append_assoc (opens_text g.outer) (before trees) (decimal 0))
    (tree_whole g.outer trees (tree 0 no_lists) t.fit.outer (settled_fit g.done g.last t.fit.done t.fit.last) refl)
stands_whole (at.Number n) d g w t =
    let trees = settled g.done g.last in
    subst Whole (sym t.stands.is) (tree_whole g.outer trees (tree n no_lists) t.fit.outer (settled_fit g.done g.last t.fit.done t.fit.last) (tree_bound n [] t.stands.within tt))
stands_whole at.Lists d g w t =
    let s = t.stands in
    let last : Last_fits (Some (s.place, s.lists)) = subst Last_fits s.last t.fit.last in
    further w (opens_text g.outer ++ (before g.done ++ (decimal s.place ++ (codes "(" ++ (lists_before s.lists ++ trees_text no_trees))))) (codes "[]")
    (ap (λ (l : List ℕ). l ++ codes "[]") s.is ∙ assoc (opens_text g.outer) (before g.done) (decimal s.place) (lists_before s.lists)) (lists_whole g.outer g.done s.place s.lists no_trees t.fit.outer t.fit.done last.0 last.1 refl)
  where
    assoc : (a b c d : List ℕ) → (a ++ (b ++ (c ++ (codes "(" ++ d)))) ++ codes "[]" ≡ a ++ (b ++ (c ++ (codes "(" ++ (d ++ codes "[]"))))
    assoc a b c d = simp append_assoc
stands_whole at.Closed d g w t =
    let s = t.stands in
    let last : Last_fits (Some (s.place, s.lists ++ s.list ∷ [])) = subst Last_fits s.last t.fit.last in
    let (lists, one) = all_but (λ l. trees_in_bounds l ≡ true) s.lists s.list last.1 in
    subst Whole (sym s.is) (lists_whole g.outer g.done s.place s.lists s.list t.fit.outer t.fit.done last.0 lists one)
  where
    all_but : (P : Trees → Type 0) (xs : List Trees) (x : Trees) → AllByRecursion P (xs ++ x ∷ []) → AllByRecursion P xs × P x
    all_but P [] x (p, rest) = (tt, p)
    all_but P (y ∷ xs) x (q, rest) = let (all, p) = all_but P xs x rest in ((q, all), p)
stands_whole at.Ended d g w t =
    let s = t.stands in
    let last : Last_fits (Some (s.place, s.lists)) = subst Last_fits s.last t.fit.last in
    subst Whole (sym s.is) (tree_whole g.outer g.done (tree s.place (tree_lists_of s.lists)) t.fit.outer t.fit.done (tree_bound s.place s.lists last.0 last.1))

-- reading stopped where the text of trees stands
record Stopped (w bytes rest : List ℕ) : Type 0 where
  text : List ℕ
  split : bytes ≡ text ++ rest
  whole : Whole (w ++ text)

halt : (bytes : List ℕ) (a : At) (d : ℕ) (g : Growing) (w rest : List ℕ) → Text a d g w → run a d bytes ≡ Err rest → Stopped w bytes rest
halt [] a d g w rest t is = record { text = []; split = cc; whole = subst Whole (sym (append-nil w)) (stands_whole a d g w t) }
halt (c ∷ cs) a d g w rest t is = by (λ b e h u is. halt cs b e h (w ++ c ∷ []) rest u is) (step a d c) (moves a d g w c t) is
  where
    by : ((b : At) (e : ℕ) (h : Growing) → Text b e h (w ++ c ∷ []) → run b e cs ≡ Err rest → Stopped (w ++ c ∷ []) cs rest) → (m : Move) → Moved g (w ++ c ∷ []) m → follow c cs m (λ b e. run b e cs) ≡ Err rest → Stopped w (c ∷ cs) rest
    by ih stops moved e = record { text = []; split = cc; whole = subst Whole (sym (append-nil w)) (stands_whole a d g w t) }
    by ih (ends qs) moved e = cc
    by ih (goes b k qs) moved e =
        let s = ih b k (grown g qs) moved.0 (behind_err qs rest (run b k cs) e) in
        record { text = c ∷ s.text; split = ap (λ (l : List ℕ). c ∷ l) s.split; whole = subst Whole (append_assoc w (c ∷ []) s.text) s.whole }

-- ---- trees without their first bracket

-- pieces are those of trees whose text this is behind its first bracket
pub record Inner (ps : List Piece) (w : List ℕ) : Type 0 where
  pub trees : Trees
  pub fit : trees_in_bounds trees ≡ true
  pub pieces : ps ≡ trees_pieces trees
  pub is : trees_text trees ≡ 91 ∷ w

begins : Text at.Items 0 nothing_grown (codes "[")
begins = record { stands = record { none = refl; is = refl }; fit = record { outer = tt; done = tt; last = tt }; deep = refl }

pub inner_found : (bytes : List ℕ) (ps : List Piece) (rest : List ℕ) → run at.Items 0 bytes ≡ Ok (ps, rest) → (w : List ℕ) × Inner ps w × (bytes ≡ w ++ rest)
inner_found bytes ps rest is =
    let r = trace bytes at.Items 0 nothing_grown (codes "[") ps rest begins is in
    let h = grown nothing_grown ps in
    let all : pieces_of h ≡ forest_pieces (settled h.done h.last) = ap (λ (os : List Open). outer_of os ++ forest_pieces (settled h.done h.last)) r.ended.none in
    (r.text, record { trees = trees_of (settled h.done h.last); fit = trees_bound (settled h.done h.last) r.ended.fit; pieces = sym r.pieces ∙ all ∙ sym (forest_is (settled h.done h.last)); is = r.ended.is }, r.split)
  where
    outer_of : List Open → List Piece
    outer_of os = Rattle.gd_frozen.proofs.TreeTexts.outer_pieces os

inner_all : (ps : List Piece) (w rest : List ℕ) → Inner ps w → run at.Items 0 (w ++ rest) ≡ Ok (ps, rest)
inner_all ps w rest i =
    let w_is : inner_text i.trees ++ codes "]" ≡ w = cc (inner_is i.trees, i.is) in
    ap (λ (l : List ℕ). run at.Items 0 (l ++ rest)) (sym w_is) ∙ ap (run at.Items 0) (append_assoc (inner_text i.trees) (codes "]") rest) ∙ trees_run i.trees rest i.fit ∙ ap (λ (l : List Piece). ok_of (l, rest)) (sym i.pieces)

inner_begun : (bytes rest : List ℕ) → run at.Items 0 bytes ≡ Err rest → Begun Inner bytes rest
inner_begun bytes rest is =
    let s = halt bytes at.Items 0 nothing_grown (codes "[") rest begins is in
    let (ts, m, fit, text) = s.whole in
    (s.text, s.split, (trees_pieces ts, s.text ++ m, m, record { trees = ts; fit = fit; pieces = refl; is = text }, refl))

Steady-inner : Steady Inner (run at.Items 0) nothing
Steady-inner = record {
  some = ([], codes "]", record { trees = no_trees; fit = refl; pieces = refl; is = refl });
  found = inner_found;
  all = λ ps w rest i clear. inner_all ps w rest i;
  begun = inner_begun;
  same = λ ps w b more m is. run_same w at.Items 0 ps b more m is;
  fails = λ w b more m is. run_fails w at.Items 0 b more m is;
}

-- ---- trees

-- trees lie within the bounds
abbrev pub Trees_in : Trees → Type 0
Trees_in ts = trees_in_bounds ts ≡ true

-- the pieces of trees, and their text
pub record Pieces_of (ps : List Piece) (w : List ℕ) : Type 0 where
  pub trees : Trees
  pub fit : Trees_in trees
  pub pieces : ps ≡ trees_pieces trees
  pub is : w ≡ trees_text trees

pub Steady-pieces : Steady Pieces_of pieces_at nothing
Steady-pieces =
    Steady-same (Then (Word (codes "[")) (λ u. Inner)) Pieces_of pieces_at nothing nothing
    (λ ps w (u, v, t, v_is, i, w_is). record { trees = i.trees; fit = i.fit; pieces = i.pieces; is = w_is ∙ ap (λ (l : List ℕ). l ++ t) v_is ∙ sym i.is })
    (λ ps w p. (tt, codes "[", inner_text p.trees ++ codes "]", refl, record { trees = p.trees; fit = p.fit; pieces = p.pieces; is = inner_is p.trees }, p.is ∙ inner_is p.trees))
    (λ rest clear. clear)
    (Steady-then (Word (codes "[")) (λ u. Inner) (text_at (codes "[")) (λ u. run at.Items 0) nothing nothing (Steady-word (codes "[")) (λ u w is. Steady-inner) (λ u ps t rest i clear. free (t ++ rest)))
  where
    free : (l : List ℕ) → Clear nothing l
    free [] = tt
    free (c ∷ cs) = refl

pub Steady-trees : Steady (IsText trees_text Trees_in) trees_at nothing
Steady-trees =
    Steady-same (Then Pieces_of (λ ps. Only (trees_in ps))) (IsText trees_text Trees_in) trees_at nothing nothing
    (λ ts w (ps, v, u, p, (ts_is, none), w_is).
    let same : ts ≡ p.trees = ts_is ∙ ap trees_in p.pieces ∙ trees_back p.trees in
    subst (λ (x : Trees). IsText trees_text Trees_in x w) (sym same) (p.fit, w_is ∙ ap (λ (l : List ℕ). v ++ l) none ∙ append-nil v ∙ p.is))
    (λ ts w (fit, is). (trees_pieces ts, w, [], record { trees = ts; fit = fit; pieces = refl; is = is }, (sym (trees_back ts), refl), sym (append-nil w)))
    (λ rest clear. clear)
    (Steady-then Pieces_of (λ ps. Only (trees_in ps)) pieces_at (λ ps b. Ok (trees_in ps, b)) nothing nothing Steady-pieces (λ ps w p. Steady-only (trees_in ps) nothing) (λ ps ts u rest s clear. free (u ++ rest)))
  where
    free : (l : List ℕ) → Clear nothing l
    free [] = tt
    free (c ∷ cs) = refl
