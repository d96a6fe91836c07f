-- The text of a frozen reading is ASCII, and so UTF-8.
use Rattle.std.proofs.Common.{◌≡◌, ℕ, zero, suc, ◌+◌, ◌<◌, ◌/◌, ◌%◌, ◌==◌, ◌&&◌, Bool, true, false, nat_lt, if◌then◌else◌, List, [], ◌∷◌, ◌++◌, map, codes, decimal, Option, Some, None, refl, arith, ltb-true}
use Rattle.std.specs.Fmt.{digits, digits_onto, digit_glyph}
use Rattle.std.specs.List.{join_with_byte}
use Rattle.std.specs.Str.{IsAscii, IsUtf8}
use Rattle.std.proofs.lemmas.Str.{IsAscii-append, IsUtf8-from_ascii}
use Rattle.std.proofs.lemmas.Str.Ascii.{IsAscii-nil}
use Rattle.gd_grammar.specs.Mark.{Mark, place_text}
use Rattle.gd_tree.specs.Trees.{Tree, tree, Trees, no_trees, and_tree, TreeLists, no_lists, and_list}
use Rattle.gd_bytes.specs.Frozen.{IterAt, Frame, Scan, Walk, by_guid, is_root, by_links, Body, scanning, building, printing, Frozen, row_text, after_text, bracketed, iter_text, tree_text, trees_text, more_trees, more_lists, lists_text, frame_text, scan_text, walk_text, body_text, spelling}

-- ---- bytes

first : (c : ℕ) (cs : List ℕ) → c < 128 → IsAscii cs → IsAscii (c ∷ cs)
first c cs small low zero = small
first c cs small low (suc i) = low i

abbrev is_low : List ℕ → Bool
is_low [] = true
is_low (c ∷ cs) = nat_lt c 128 && is_low cs

both : (a b : Bool) → (a && b) ≡ true → (a ≡ true) × (b ≡ true)
both true b is = (refl, is)
both false b is = cc

-- a literal
by_test : (cs : List ℕ) → is_low cs ≡ true → IsAscii cs
by_test [] is = IsAscii-nil
by_test (c ∷ cs) is = let (small, low) = both (nat_lt c 128) (is_low cs) is in first c cs (ltb-true c 128 small) (by_test cs low)

-- ---- numbers

either : (b : Bool) (xs ys : List ℕ) → IsAscii xs → IsAscii ys → IsAscii (if b then xs else ys)
either true xs ys p q = p
either false xs ys p q = q

below : (b : Bool) (m n : ℕ) → m < 128 → n < 128 → (if b then m else n) < 128
below true m n p q = p
below false m n p q = q

glyph : (n : ℕ) → digit_glyph false (n % 10) < 128
glyph n = below (nat_lt (n % 10) 10) (48 + n % 10) (87 + n % 10) (omega arith) (omega arith)

onto : (k n : ℕ) (behind : List ℕ) → IsAscii behind → IsAscii (digits_onto k 10 false n behind)
onto zero n behind low = low
onto (suc k) n behind low =
    either (n / 10 == 0) (digit_glyph false (n % 10) ∷ behind) (digits_onto k 10 false (n / 10) (digit_glyph false (n % 10) ∷ behind)) (first _ behind (glyph n) low)
    (onto k (n / 10) (digit_glyph false (n % 10) ∷ behind) (first _ behind (glyph n) low))

number : (n : ℕ) → IsAscii (decimal n)
unfolding digits
number n = onto 64 n [] IsAscii-nil

-- ---- parts in a row

two : (xs ys : List ℕ) → IsAscii xs → IsAscii ys → IsAscii (xs ++ ys)
two = IsAscii-append

joined : {X : Type 0} (text : X → List ℕ) → ((x : X) → IsAscii (text x)) → (c : ℕ) → c < 128 → (xs : List X) → IsAscii (join_with_byte c (map text xs))
joined text each c small [] = IsAscii-nil
joined text each c small (x ∷ []) = each x
joined text each c small (x ∷ y ∷ xs) = two (text x) (c ∷ join_with_byte c (map text (y ∷ xs))) (each x) (first c _ small (joined text each c small (y ∷ xs)))

in_brackets : {X : Type 0} (text : X → List ℕ) → ((x : X) → IsAscii (text x)) → (xs : List X) → IsAscii (bracketed (map text xs))
in_brackets text each xs = two (codes "[" ++ join_with_byte 59 (map text xs)) (codes "]") (two (codes "[") _ (by_test (codes "[") refl) (joined text each 59 (omega arith) xs)) (by_test (codes "]") refl)

-- ---- rows

place : (o : Option ℕ) → IsAscii (place_text o)
place None = by_test (codes "-") refl
place (Some p) = number p

row : (r : Mark) → IsAscii (row_text r)
row r = by r.keys
  where
    by : (ks : List (Option ℕ)) → IsAscii (join_with_byte 44 (decimal r.object ∷ map place_text ks))
    by [] = number r.object
    by (k ∷ ks) = two (decimal r.object) (44 ∷ join_with_byte 44 (map place_text (k ∷ ks))) (number r.object) (first 44 _ (omega arith) (joined place_text place 44 (omega arith) (k ∷ ks)))

after : (o : Option Mark) → IsAscii (after_text o)
after None = by_test (codes "-") refl
after (Some r) = two (codes "(" ++ row_text r) (codes ")") (two (codes "(") (row_text r) (by_test (codes "(") refl) (row r)) (by_test (codes ")") refl)

-- ---- trees

mutual
  tree_low : (t : Tree) → IsAscii (tree_text t)
  tree_low (tree p no_lists) = number p
  tree_low (tree p (and_list ts ls)) = two (decimal p ++ codes "(" ++ trees_text ts ++ more_lists ls) (codes ")")
      (two (decimal p ++ codes "(" ++ trees_text ts) (more_lists ls) (two (decimal p ++ codes "(") (trees_text ts) (two (decimal p) (codes "(") (number p) (by_test (codes "(") refl)) (trees_low ts)) (lists_low ls)) (by_test (codes ")") refl)

  trees_low : (ts : Trees) → IsAscii (trees_text ts)
  trees_low no_trees = by_test (codes "[]") refl
  trees_low (and_tree t ts) = two (codes "[" ++ tree_text t ++ more_trees ts) (codes "]") (two (codes "[" ++ tree_text t) (more_trees ts) (two (codes "[") (tree_text t) (by_test (codes "[") refl) (tree_low t)) (more_low ts)) (by_test (codes "]") refl)

  more_low : (ts : Trees) → IsAscii (more_trees ts)
  more_low no_trees = IsAscii-nil
  more_low (and_tree t ts) = two (codes ";" ++ tree_text t) (more_trees ts) (two (codes ";") (tree_text t) (by_test (codes ";") refl) (tree_low t)) (more_low ts)

  lists_low : (ls : TreeLists) → IsAscii (more_lists ls)
  lists_low no_lists = IsAscii-nil
  lists_low (and_list ts ls) = two (codes "," ++ trees_text ts) (more_lists ls) (two (codes ",") (trees_text ts) (by_test (codes ",") refl) (trees_low ts)) (lists_low ls)

-- ---- scans

iter : (i : IterAt) → IsAscii (iter_text i)
iter i = by i.accepted
  where
    by : (m : Option ℕ) → IsAscii (iter_text (record { place = i.place; accepted = m }))
    by None = two (decimal i.place) [] (number i.place) IsAscii-nil
    by (Some m) = two (decimal i.place) (codes "?" ++ decimal m) (number i.place) (two (codes "?") (decimal m) (by_test (codes "?") refl) (number m))

of_lists : (ls : TreeLists) → IsAscii (lists_text ls)
of_lists no_lists = IsAscii-nil
of_lists (and_list ts ls) = two (codes "(" ++ trees_text ts ++ more_lists ls) (codes ")") (two (codes "(" ++ trees_text ts) (more_lists ls) (two (codes "(") (trees_text ts) (by_test (codes "(") refl) (trees_low ts)) (lists_low ls)) (by_test (codes ")") refl)

frame : (f : Frame) → IsAscii (frame_text f)
frame f = two (decimal f.place ++ codes "," ++ iter_text f.iter ++ codes ",") (lists_text f.lists)
    (two (decimal f.place ++ codes "," ++ iter_text f.iter) (codes ",") (two (decimal f.place ++ codes ",") (iter_text f.iter) (two (decimal f.place) (codes ",") (number f.place) (by_test (codes ",") refl)) (iter f.iter)) (by_test (codes ",") refl))
    (of_lists f.lists)

scan : (s : Scan) → IsAscii (scan_text s)
scan s = two (codes "[" ++ join_with_byte 59 (at ∷ map frame_text s.frames)) (codes "]") (two (codes "[") (join_with_byte 59 (at ∷ map frame_text s.frames)) (by_test (codes "[") refl) (by s.frames)) (by_test (codes "]") refl)
  where
    at : List ℕ
    at = iter_text s.iter ++ codes "," ++ decimal s.weight

    at_low : IsAscii at
    at_low = two (iter_text s.iter ++ codes ",") (decimal s.weight) (two (iter_text s.iter) (codes ",") (iter s.iter) (by_test (codes ",") refl)) (number s.weight)

    by : (fs : List Frame) → IsAscii (join_with_byte 59 (at ∷ map frame_text fs))
    by [] = at_low
    by (f ∷ fs) = two at (59 ∷ join_with_byte 59 (map frame_text (f ∷ fs))) at_low (first 59 _ (omega arith) (joined frame_text frame 59 (omega arith) (f ∷ fs)))

-- ---- the whole text

walk : (w : Walk) → IsAscii (walk_text w)
walk by_guid = by_test (codes "g") refl
walk is_root = by_test (codes "/") refl
walk (by_links ks) = joined decimal number 44 (omega arith) ks

body : (b : Body) → IsAscii (body_text b)
body (scanning s) = two (codes "s") (scan_text s) (by_test (codes "s") refl) (scan s)
body (building w ts s) = two (codes "b" ++ decimal w ++ codes ":" ++ trees_text ts ++ codes ":") (scan_text s)
    (two (codes "b" ++ decimal w ++ codes ":" ++ trees_text ts) (codes ":") (two (codes "b" ++ decimal w ++ codes ":") (trees_text ts) (two (codes "b" ++ decimal w) (codes ":") (two (codes "b") (decimal w) (by_test (codes "b") refl) (number w)) (by_test (codes ":") refl)) (trees_low ts)) (by_test (codes ":") refl))
    (scan s)
body (printing n ts ws) = two (codes "p" ++ decimal n ++ codes ":" ++ trees_text ts ++ codes ":") (bracketed (map walk_text ws))
    (two (codes "p" ++ decimal n ++ codes ":" ++ trees_text ts) (codes ":") (two (codes "p" ++ decimal n ++ codes ":") (trees_text ts) (two (codes "p" ++ decimal n) (codes ":") (two (codes "p") (decimal n) (by_test (codes "p") refl) (number n)) (by_test (codes ":") refl)) (trees_low ts)) (by_test (codes ":") refl))
    (in_brackets walk_text walk ws)

whole : (f : Frozen) → IsAscii (spelling f)
whole f =
    two (codes "f1:" ++ decimal f.dateline ++ codes ":" ++ after_text f.after ++ codes ":" ++ bracketed (map row_text f.rows) ++ codes ":") (body_text f.body)
    (two (codes "f1:" ++ decimal f.dateline ++ codes ":" ++ after_text f.after ++ codes ":" ++ bracketed (map row_text f.rows)) (codes ":")
    (two (codes "f1:" ++ decimal f.dateline ++ codes ":" ++ after_text f.after ++ codes ":") (bracketed (map row_text f.rows))
    (two (codes "f1:" ++ decimal f.dateline ++ codes ":" ++ after_text f.after) (codes ":")
    (two (codes "f1:" ++ decimal f.dateline ++ codes ":") (after_text f.after)
    (two (codes "f1:" ++ decimal f.dateline) (codes ":") (two (codes "f1:") (decimal f.dateline) (by_test (codes "f1:") refl) (number f.dateline)) (by_test (codes ":") refl))
    (after f.after)) (by_test (codes ":") refl)) (in_brackets row_text row f.rows)) (by_test (codes ":") refl)) (body f.body)

pub spelling_utf8 : (f : Frozen) → IsUtf8 (spelling f)
spelling_utf8 f = IsUtf8-from_ascii (spelling f) (whole f)
