-- What is written is the spelling.
use Rattle.std.proofs.Common.{◌≡◌, ◌∙◌, refl, sym, ap, subst, ℕ, zero, suc, List, [], ◌∷◌, ◌++◌, length, map, flat_map, Bool, true, false, Option, Some, None, append_assoc, decimal, codes}
use Rattle.std.specs.Prelude.{IsTrue}
use Rattle.std.specs.List.{join_with_byte}
use Rattle.std.proofs.lemmas.List.{append-nil}
use Rattle.gd_grammar.specs.Mark.{Mark, place_text}
use Rattle.gd_tree.specs.Trees.{Tree, tree, Trees, no_trees, and_tree, TreeLists, no_lists, and_list, tree_lists_of, has_list}
use Rattle.gd_bytes.specs.Frozen.{IterAt, Frame, Scan, Walk, by_guid, is_root, by_links, Body, scanning, building, printing, Frozen, tree_text, trees_text, more_trees, more_lists, row_text, after_text, bracketed, iter_text, lists_text, frame_text, scan_text, walk_text, body_text, spelling}
use Rattle.gd_frozen.specs.declared.tree.Piece.{Piece}
use Rattle.gd_frozen.specs.declared.tree.Piece.TheVariants as piece
use Rattle.gd_frozen.specs.declared.writing.Last.{Last}
use Rattle.gd_frozen.specs.declared.writing.Last.TheVariants as last
use Rattle.gd_frozen.specs.Pieces.{tree_pieces, trees_pieces, lists_pieces, trees_in}
use Rattle.gd_frozen.specs.Printing.{parted, added, behind_it, print}
use Rattle.gd_frozen.specs.Flatly.{flat_items, flat_row, flat_after, flat_accepted, flat_iter, lists_list, flat_lists, flat_frame, flat_scan, flat_walk, flat_body, flat_spelling}
use Rattle.std.specs.Prelude.{◌&&◌, nat_le, option_map}
use Rattle.std.specs.List.{AllByRecursion}
use Rattle.gd_bytes.specs.Frozen.{max_number, trees_in_bounds, scan_in_bounds, body_in_bounds, Fits}
use Rattle.gd_frozen.specs.declared.frozen.RowAt.{RowAt}
use Rattle.gd_frozen.specs.declared.frozen.FrozenFrame.{FrozenFrame}
use Rattle.gd_frozen.specs.declared.frozen.FrozenScan.{FrozenScan}
use Rattle.gd_frozen.specs.declared.frozen.Walk as Walks
use Rattle.gd_frozen.specs.declared.frozen.Walk.TheVariants as walk
use Rattle.gd_frozen.specs.declared.frozen.FrozenBody.{FrozenBody}
use Rattle.gd_frozen.specs.declared.frozen.FrozenBody.TheVariants as body
use Rattle.gd_frozen.specs.declared.frozen.FrozenReading.{FrozenReading}
use Rattle.gd_frozen.specs.Meaning.{row_of, frame_of, scan_of, walk_of, body_of, reading_of}
use Rattle.gd_frozen.specs.Written.{row_written, after_written, iter_written, trees_written, frame_written, scan_written, walk_written, body_written, reading_written}
use Rattle.gd_frozen.proofs.FrozenSteady.{joined, lists_more, both, body_lists, scan_lists}
use Rattle.gd_frozen.proofs.TreeReads.{inner_text, inner_is}

-- ---- trees

-- no list begins next
NotOpens : List Piece → Type 0
NotOpens [] = Unit {0}
NotOpens (piece.Place p ∷ ps) = Unit {0}
NotOpens (piece.Opens ∷ ps) = ⊥
NotOpens (piece.Closes ∷ ps) = Unit {0}

closes_not : (ps : List Piece) → NotOpens (piece.Closes ∷ ps)
unfolding NotOpens
closes_not ps = tt

nil_not : NotOpens []
unfolding NotOpens
nil_not = tt

closed_named : (ps : List Piece) → NotOpens ps → print last.Closed ps ≡ 41 ∷ print last.Named ps
unfolding NotOpens
closed_named [] n = refl
closed_named (piece.Place p ∷ ps) n = refl
closed_named (piece.Opens ∷ ps) n = absurd n
closed_named (piece.Closes ∷ ps) n = refl

-- behind trees no list begins
trees_not : (ts : Trees) (ps : List Piece) → NotOpens ps → NotOpens (trees_pieces ts ++ ps)
unfolding NotOpens
trees_not no_trees ps n = n
trees_not (and_tree (tree p ls) ts) ps n = tt

print_place : (l : Last) (p : ℕ) (ps : List Piece) → print l (piece.Place p ∷ ps) ≡ parted l ++ (decimal p ++ print last.Named ps)
print_place last.Opened p ps = refl
print_place last.Named p ps = refl
print_place last.Closed p ps = refl

-- the text of a list behind its bracket
list_ends : (ts : Trees) (rest : List ℕ) → 91 ∷ (inner_text ts ++ (93 ∷ rest)) ≡ trees_text ts ++ rest
list_ends ts rest = ap (λ (x : List ℕ). 91 ∷ x) (sym (append_assoc (inner_text ts) (codes "]") rest)) ∙ ap (λ (x : List ℕ). x ++ rest) (sym (inner_is ts))

-- the lists of a tree, where those behind the first are known
print_first : (front : List ℕ) (ts : Trees) (ls : TreeLists) (ps : List Piece) → print last.Opened (trees_pieces ts ++ (piece.Closes ∷ (lists_pieces ls ++ ps))) ≡ inner_text ts ++ print last.Named (piece.Closes ∷ (lists_pieces ls ++ ps))
    → print last.Closed (lists_pieces ls ++ ps) ≡ more_lists ls ++ (41 ∷ print last.Named ps)
    → front ++ (91 ∷ print last.Opened ((trees_pieces ts ++ (piece.Closes ∷ lists_pieces ls)) ++ ps)) ≡ front ++ (trees_text ts ++ (more_lists ls ++ (41 ∷ print last.Named ps)))
print_first front ts ls ps inside more =
    ap (λ (x : List Piece). front ++ (91 ∷ print last.Opened x)) (append_assoc (trees_pieces ts) (piece.Closes ∷ lists_pieces ls) ps)
    ∙ ap (λ (x : List ℕ). front ++ (91 ∷ x)) (inside ∙ ap (λ (x : List ℕ). inner_text ts ++ (93 ∷ x)) more) ∙ ap (λ (x : List ℕ). front ++ x) (list_ends ts (more_lists ls ++ (41 ∷ print last.Named ps)))

mutual
  print_tree : (t : Tree) (l : Last) (ps : List Piece) → NotOpens ps → print l (tree_pieces t ++ ps) ≡ parted l ++ (tree_text t ++ print last.Named ps)
  print_tree (tree p no_lists) l ps n = print_place l p ps
  print_tree (tree p (and_list ts ls)) l ps n =
      let text : decimal p ++ (40 ∷ (trees_text ts ++ (more_lists ls ++ (41 ∷ print last.Named ps)))) ≡ tree_text (tree p (and_list ts ls)) ++ print last.Named ps = simp append_assoc in
      print_place l p (lists_pieces (and_list ts ls) ++ ps) ∙ ap (λ (x : List ℕ). parted l ++ (decimal p ++ x)) (print_first (codes "(") ts ls ps (print_inner ts (lists_pieces ls ++ ps)) (print_closed ls ps n)) ∙ ap (λ (x : List ℕ). parted l ++ x) text

  print_closed : (ls : TreeLists) (ps : List Piece) → NotOpens ps → print last.Closed (lists_pieces ls ++ ps) ≡ more_lists ls ++ (41 ∷ print last.Named ps)
  print_closed no_lists ps n = closed_named ps n
  print_closed (and_list ts ls) ps n =
      let text : codes "," ++ (trees_text ts ++ (more_lists ls ++ (41 ∷ print last.Named ps))) ≡ more_lists (and_list ts ls) ++ (41 ∷ print last.Named ps) = simp append_assoc in
      print_first (codes ",") ts ls ps (print_inner ts (lists_pieces ls ++ ps)) (print_closed ls ps n) ∙ text

  -- trees behind the bracket of their list, which ends with them
  print_inner : (ts : Trees) (ps : List Piece) → print last.Opened (trees_pieces ts ++ (piece.Closes ∷ ps)) ≡ inner_text ts ++ print last.Named (piece.Closes ∷ ps)
  print_inner no_trees ps = refl
  print_inner (and_tree t ts) ps =
      ap (print last.Opened) (append_assoc (tree_pieces t) (trees_pieces ts) (piece.Closes ∷ ps)) ∙ print_tree t last.Opened (trees_pieces ts ++ (piece.Closes ∷ ps)) (trees_not ts (piece.Closes ∷ ps) (closes_not ps))
      ∙ ap (λ (x : List ℕ). tree_text t ++ x) (print_more ts (piece.Closes ∷ ps) (closes_not ps)) ∙ sym (append_assoc (tree_text t) (more_trees ts) (print last.Named (piece.Closes ∷ ps)))

  -- trees behind one
  print_more : (ts : Trees) (ps : List Piece) → NotOpens ps → print last.Named (trees_pieces ts ++ ps) ≡ more_trees ts ++ print last.Named ps
  print_more no_trees ps n = refl
  print_more (and_tree t ts) ps n =
      let text : 59 ∷ (tree_text t ++ (more_trees ts ++ print last.Named ps)) ≡ more_trees (and_tree t ts) ++ print last.Named ps = simp append_assoc in
      ap (print last.Named) (append_assoc (tree_pieces t) (trees_pieces ts) ps) ∙ print_tree t last.Named (trees_pieces ts ++ ps) (trees_not ts ps n) ∙ ap (λ (x : List ℕ). 59 ∷ (tree_text t ++ x)) (print_more ts ps n) ∙ text

-- the text of trees from their pieces
pub trees_print : (ts : Trees) → 91 ∷ (print last.Opened (trees_pieces ts) ++ codes "]") ≡ trees_text ts
trees_print no_trees = refl
trees_print (and_tree t ts) =
    let one = print_tree t last.Opened (trees_pieces ts ++ []) (trees_not ts [] nil_not) in
    let more = print_more ts [] nil_not in
    let pieces : trees_pieces (and_tree t ts) ≡ tree_pieces t ++ (trees_pieces ts ++ []) = ap (λ (x : List Piece). tree_pieces t ++ x) (sym (append-nil (trees_pieces ts))) in
    let text : 91 ∷ ((tree_text t ++ (more_trees ts ++ [])) ++ codes "]") ≡ trees_text (and_tree t ts) = simp (append_assoc, append-nil) in
    ap (λ (x : List Piece). 91 ∷ (print last.Opened x ++ codes "]")) pieces ∙ ap (λ (x : List ℕ). 91 ∷ (x ++ codes "]")) (one ∙ ap (λ (x : List ℕ). tree_text t ++ x) more) ∙ text

-- pieces of trees are written as their text
pub pieces_print : (ps : List Piece) → trees_pieces (trees_in ps) ≡ ps → 91 ∷ (print last.Opened ps ++ codes "]") ≡ trees_text (trees_in ps)
pieces_print ps flat = ap (λ (x : List Piece). 91 ∷ (print last.Opened x ++ codes "]")) (sym flat) ∙ trees_print (trees_in ps)

-- ---- all of it

items_is : {A : Type 0} (c : ℕ) (f g : A → List ℕ) → ((x : A) → f x ≡ g x) → (xs : List A) → flat_items (c ∷ []) f xs ≡ join_with_byte c (map g xs)
items_is c f g same [] = refl
items_is {A} c f g same (x ∷ xs) = ap (λ (k : A → List ℕ). k x ++ flat_map (λ y. c ∷ k y) xs) (λ i y. same y i) ∙ sym (joined c g (g x) xs)

row_is : (r : Mark) → flat_row r ≡ row_text r
row_is r = sym (joined 44 place_text (decimal r.object) r.keys)

after_is : (a : Option Mark) → flat_after a ≡ after_text a
after_is None = refl
after_is (Some r) = ap (λ (l : List ℕ). 40 ∷ (l ++ codes ")")) (row_is r)

iter_is : (i : IterAt) → flat_iter i ≡ iter_text i
iter_is i = by i.accepted refl
  where
    by : (o : Option ℕ) → i.accepted ≡ o → flat_iter i ≡ iter_text i
    by None e = let j : i ≡ record { place = i.place; accepted = None } = ap (λ (o : Option ℕ). record { place = i.place; accepted = o }) e in ap flat_iter j ∙ sym (ap iter_text j)
    by (Some n) e = let j : i ≡ record { place = i.place; accepted = Some n } = ap (λ (o : Option ℕ). record { place = i.place; accepted = o }) e in ap flat_iter j ∙ sym (ap iter_text j)

lists_again : (ls : TreeLists) → tree_lists_of (lists_list ls) ≡ ls
lists_again no_lists = refl
lists_again (and_list ts ls) = ap (and_list ts) (lists_again ls)

lists_is : (ls : TreeLists) → has_list ls ≡ true → flat_lists (lists_list ls) ≡ lists_text ls
lists_is no_lists some = cc
lists_is (and_list ts ls) some =
    let more : flat_map (λ l. 44 ∷ trees_text l) (lists_list ls) ≡ more_lists ls = sym (lists_more (lists_list ls)) ∙ ap more_lists (lists_again ls) in
    ap (λ (x : List ℕ). 40 ∷ ((trees_text ts ++ x) ++ codes ")")) more

-- each frame has a list
pub Have_lists : List Frame → Type 0
Have_lists [] = Unit {0}
Have_lists (f ∷ fs) = (has_list f.lists ≡ true) × Have_lists fs

frame_is : (f : Frame) → has_list f.lists ≡ true → flat_frame f ≡ frame_text f
frame_is f some =
    let assoc : decimal f.place ++ (codes "," ++ (iter_text f.iter ++ (codes "," ++ lists_text f.lists))) ≡ frame_text f = simp append_assoc in
    ap (λ (x : List ℕ). decimal f.place ++ (44 ∷ (x ++ (44 ∷ flat_lists (lists_list f.lists))))) (iter_is f.iter) ∙ ap (λ (x : List ℕ). decimal f.place ++ (44 ∷ (iter_text f.iter ++ (44 ∷ x)))) (lists_is f.lists some) ∙ assoc

frames_is : (fs : List Frame) → Have_lists fs → flat_map (λ f. 59 ∷ flat_frame f) fs ≡ flat_map (λ f. 59 ∷ frame_text f) fs
unfolding Have_lists
frames_is [] all = refl
frames_is (f ∷ fs) (some, all) = ap (λ (x : List ℕ). (59 ∷ x) ++ flat_map (λ f. 59 ∷ flat_frame f) fs) (frame_is f some) ∙ ap (λ (x : List ℕ). (59 ∷ frame_text f) ++ x) (frames_is fs all)

scan_is : (s : Scan) → Have_lists s.frames → flat_scan s ≡ scan_text s
scan_is s all =
    let front = iter_text s.iter ++ codes "," ++ decimal s.weight in
    let tail = flat_map (λ f. 59 ∷ frame_text f) s.frames in
    let assoc : codes "[" ++ (iter_text s.iter ++ (codes "," ++ (decimal s.weight ++ (tail ++ codes "]")))) ≡ codes "[" ++ (front ++ tail) ++ codes "]" = simp append_assoc in
    ap (λ (x : List ℕ). 91 ∷ (x ++ (44 ∷ (decimal s.weight ++ (flat_map (λ f. 59 ∷ flat_frame f) s.frames ++ codes "]"))))) (iter_is s.iter)
    ∙ ap (λ (x : List ℕ). 91 ∷ (iter_text s.iter ++ (44 ∷ (decimal s.weight ++ (x ++ codes "]"))))) (frames_is s.frames all)
    ∙ assoc ∙ ap (λ (x : List ℕ). codes "[" ++ x ++ codes "]") (sym (joined 59 frame_text front s.frames))

walk_is : (w : Walk) → flat_walk w ≡ walk_text w
walk_is by_guid = refl
walk_is is_root = refl
walk_is (by_links ks) = items_is 44 decimal decimal (λ k. refl) ks

-- the frames of a body
abbrev pub Body_lists : Body → Type 0
Body_lists (scanning s) = Have_lists s.frames
Body_lists (building w ts s) = Have_lists s.frames
Body_lists (printing n ts ws) = Unit {0}

five : (k : ℕ) (a b c : List ℕ) → k ∷ (a ++ (58 ∷ (b ++ (58 ∷ c)))) ≡ ((((k ∷ []) ++ a) ++ codes ":") ++ b) ++ codes ":" ++ c
five k a b c = simp append_assoc

parts : (d a rs b : List ℕ) → codes "f1:" ++ (d ++ (58 ∷ (a ++ (58 ∷ (rs ++ (58 ∷ b)))))) ≡ ((((((codes "f1:" ++ d) ++ codes ":") ++ a) ++ codes ":") ++ rs) ++ codes ":") ++ b
parts d a rs b = simp append_assoc

all_of : (d a rs b : List ℕ) → codes "f1:" ++ (d ++ (codes ":" ++ (a ++ (codes ":[" ++ (rs ++ (codes "]:" ++ b)))))) ≡ ((((((codes "f1:" ++ d) ++ codes ":") ++ a) ++ codes ":") ++ (codes "[" ++ rs ++ codes "]")) ++ codes ":") ++ b
all_of d a rs b = ap (λ (l : List ℕ). codes "f1:" ++ (d ++ (58 ∷ (a ++ (58 ∷ (91 ∷ l)))))) (sym (append_assoc rs (codes "]") (58 ∷ b))) ∙ parts d a (codes "[" ++ rs ++ codes "]") b

body_is : (b : Body) → Body_lists b → flat_body b ≡ body_text b
body_is (scanning s) all = ap (λ (x : List ℕ). 115 ∷ x) (scan_is s all)
body_is (building w ts s) all =
    ap (λ (x : List ℕ). 98 ∷ (decimal w ++ (58 ∷ (trees_text ts ++ (58 ∷ x))))) (scan_is s all) ∙ five 98 (decimal w) (trees_text ts) (scan_text s)
body_is (printing n ts ws) all =
    let inside = join_with_byte 59 (map walk_text ws) in
    ap (λ (x : List ℕ). 112 ∷ (decimal n ++ (58 ∷ (trees_text ts ++ (58 ∷ (91 ∷ (x ++ codes "]"))))))) (items_is 59 flat_walk walk_text walk_is ws) ∙ five 112 (decimal n) (trees_text ts) (codes "[" ++ inside ++ codes "]")

-- the steps write the spelling
pub flat_is : (f : Frozen) → Body_lists f.body → flat_spelling f ≡ spelling f
flat_is f all =
    let rows = join_with_byte 59 (map row_text f.rows) in
    ap (λ (x : List ℕ). codes "f1:" ++ (decimal f.dateline ++ (codes ":" ++ (x ++ (codes ":[" ++ (flat_items (codes ";") flat_row f.rows ++ (codes "]:" ++ flat_body f.body))))))) (after_is f.after)
    ∙ ap (λ (x : List ℕ). codes "f1:" ++ (decimal f.dateline ++ (codes ":" ++ (after_text f.after ++ (codes ":[" ++ (x ++ (codes "]:" ++ flat_body f.body))))))) (items_is 59 flat_row row_text row_is f.rows)
    ∙ ap (λ (x : List ℕ). codes "f1:" ++ (decimal f.dateline ++ (codes ":" ++ (after_text f.after ++ (codes ":[" ++ (rows ++ (codes "]:" ++ x))))))) (body_is f.body all) ∙ all_of (decimal f.dateline) (after_text f.after) rows (body_text f.body)

-- ---- what the code writes

map_items : {A B : Type 0} (s : List ℕ) (f : B → List ℕ) (g : A → B) (k : A → List ℕ) → ((x : A) → k x ≡ f (g x)) → (xs : List A) → flat_items s k xs ≡ flat_items s f (map g xs)
map_items s f g k same [] = refl
map_items {A} s f g k same (x ∷ xs) = ap (λ (h : A → List ℕ). h x ++ flat_map (λ y. s ++ h y) xs) (λ i y. same y i) ∙ ap (λ (l : List ℕ). f (g x) ++ l) (by xs)
  where
    by : (ys : List A) → flat_map (λ y. s ++ f (g y)) ys ≡ flat_map (λ y. s ++ f y) (map g ys)
    by [] = refl
    by (y ∷ ys) = ap (λ (l : List ℕ). (s ++ f (g y)) ++ l) (by ys)

map_flat : {A B : Type 0} (s : List ℕ) (f : B → List ℕ) (g : A → B) (k : A → List ℕ) → ((x : A) → k x ≡ f (g x)) → (xs : List A) → flat_map (λ y. s ++ k y) xs ≡ flat_map (λ y. s ++ f y) (map g xs)
map_flat s f g k same [] = refl
map_flat s f g k same (x ∷ xs) = ap (λ (l : List ℕ). (s ++ l) ++ flat_map (λ y. s ++ k y) xs) (same x) ∙ ap (λ (l : List ℕ). (s ++ f (g x)) ++ l) (map_flat s f g k same xs)

again_lists : (ls : List Trees) → lists_list (tree_lists_of ls) ≡ ls
again_lists [] = refl
again_lists (l ∷ ls) = ap (λ (k : List Trees). l ∷ k) (again_lists ls)

frame_written_is : (f : FrozenFrame) → frame_written f ≡ flat_frame (frame_of f)
frame_written_is f =
    ap (λ (l : List ℕ). decimal f.place ++ (44 ∷ (iter_written f.iter ++ (44 ∷ (40 ∷ (l ++ codes ")"))))))
    (map_items (codes ",") trees_text trees_in trees_written (λ ps. refl) f.lists.items ∙ ap (flat_items (codes ",") trees_text) (sym (again_lists (map trees_in f.lists.items))))

scan_written_is : (s : FrozenScan) → scan_written s ≡ flat_scan (scan_of s)
scan_written_is s = ap (λ (l : List ℕ). 91 ∷ (iter_written s.iter ++ (44 ∷ (decimal s.weight ++ (l ++ codes "]"))))) (map_flat (codes ";") flat_frame frame_of frame_written frame_written_is s.frames.items)

walk_written_is : (w : Walks.Walk) → walk_written w ≡ flat_walk (walk_of w)
walk_written_is walk.Guid = refl
walk_written_is walk.Root = refl
walk_written_is (walk.Links ks) = refl

body_written_is : (b : FrozenBody) → body_written b ≡ flat_body (body_of b)
body_written_is (body.Scan s) = ap (λ (l : List ℕ). 115 ∷ l) (scan_written_is s)
body_written_is (body.Build w ts s) = ap (λ (l : List ℕ). 98 ∷ (decimal w ++ (58 ∷ (trees_written ts ++ (58 ∷ l))))) (scan_written_is s)
body_written_is (body.Print n ts ws) = ap (λ (l : List ℕ). 112 ∷ (decimal n ++ (58 ∷ (trees_written ts ++ (58 ∷ (91 ∷ (l ++ codes "]"))))))) (map_items (codes ";") flat_walk walk_of walk_written walk_written_is ws.items)

after_written_is : (a : Option RowAt) → after_written a ≡ flat_after (option_map row_of a)
after_written_is None = refl
after_written_is (Some r) = refl

reading_written_is : (f : FrozenReading) → reading_written f ≡ flat_spelling (reading_of f)
reading_written_is f =
    ap (λ (x : List ℕ). codes "f1:" ++ (decimal f.dateline ++ (codes ":" ++ (x ++ (codes ":[" ++ (flat_items (codes ";") row_written f.rows.items ++ (codes "]:" ++ body_written f.body))))))) (after_written_is f.after)
    ∙ ap (λ (x : List ℕ). codes "f1:" ++ (decimal f.dateline ++ (codes ":" ++ (flat_after (option_map row_of f.after) ++ (codes ":[" ++ (x ++ (codes "]:" ++ body_written f.body))))))) (map_items (codes ";") flat_row row_of row_written (λ r. refl) f.rows.items)
    ∙ ap (λ (x : List ℕ). codes "f1:" ++ (decimal f.dateline ++ (codes ":" ++ (flat_after (option_map row_of f.after) ++ (codes ":[" ++ (flat_items (codes ";") flat_row (map row_of f.rows.items) ++ (codes "]:" ++ x))))))) (body_written_is f.body)

have_lists : (fs : List Frame) → AllByRecursion (λ f. has_list f.lists ≡ true) fs → Have_lists fs
unfolding Have_lists
have_lists [] all = tt
have_lists (f ∷ fs) (p, all) = (p, have_lists fs all)

lists_there : (b : Body) → body_in_bounds b ≡ true → Body_lists b
lists_there (scanning s) fit = have_lists s.frames (scan_lists s fit)
lists_there (building w ts s) fit = have_lists s.frames (scan_lists s (both (nat_le w max_number && trees_in_bounds ts) (scan_in_bounds s) fit).1)
lists_there (printing n ts ws) fit = tt

-- what is written of a reading within the bounds is its text
pub written_is : (f : FrozenReading) → Fits (reading_of f) → reading_written f ≡ spelling (reading_of f)
written_is f fit = reading_written_is f ∙ flat_is (reading_of f) (lists_there (reading_of f).body (body_lists (reading_of f) fit))
