-- The text of a frozen reading in the steps of the code, which is its spelling.
use Rattle.std.specs.Prelude.{ℕ, List, [], ◌∷◌, ◌++◌, map, flat_map, Option, Some, None, codes, decimal}
use Rattle.gd_grammar.specs.Mark.{Mark, place_text}
use Rattle.gd_tree.specs.Trees.{Trees, TreeLists, no_lists, and_list}
use Rattle.gd_bytes.specs.Frozen.{IterAt, Frame, Scan, Walk, by_guid, is_root, by_links, Body, scanning, building, printing, Frozen, trees_text}

-- items, a separating byte before each but the first
abbrev pub flat_items : {A : Type 0} → List ℕ → (A → List ℕ) → List A → List ℕ
flat_items separator f [] = []
flat_items separator f (x ∷ xs) = f x ++ flat_map (λ y. separator ++ f y) xs

abbrev pub flat_row : Mark → List ℕ
flat_row r = decimal r.object ++ flat_map (λ k. codes "," ++ place_text k) r.keys

abbrev pub flat_after : Option Mark → List ℕ
flat_after None = codes "-"
flat_after (Some r) = codes "(" ++ (flat_row r ++ codes ")")

abbrev pub flat_accepted : Option ℕ → List ℕ
flat_accepted None = []
flat_accepted (Some m) = codes "?" ++ decimal m

abbrev pub flat_iter : IterAt → List ℕ
flat_iter i = decimal i.place ++ flat_accepted i.accepted

-- lists of trees as a list
abbrev pub lists_list : TreeLists → List Trees
lists_list no_lists = []
lists_list (and_list ts ls) = ts ∷ lists_list ls

abbrev pub flat_lists : List Trees → List ℕ
flat_lists ls = codes "(" ++ (flat_items (codes ",") trees_text ls ++ codes ")")

abbrev pub flat_frame : Frame → List ℕ
flat_frame f = decimal f.place ++ (codes "," ++ (flat_iter f.iter ++ (codes "," ++ flat_lists (lists_list f.lists))))

abbrev pub flat_scan : Scan → List ℕ
flat_scan s = codes "[" ++ (flat_iter s.iter ++ (codes "," ++ (decimal s.weight ++ (flat_map (λ f. codes ";" ++ flat_frame f) s.frames ++ codes "]"))))

abbrev pub flat_walk : Walk → List ℕ
flat_walk by_guid = codes "g"
flat_walk is_root = codes "/"
flat_walk (by_links ks) = flat_items (codes ",") decimal ks

abbrev pub flat_body : Body → List ℕ
flat_body (scanning s) = codes "s" ++ flat_scan s
flat_body (building w ts s) = codes "b" ++ (decimal w ++ (codes ":" ++ (trees_text ts ++ (codes ":" ++ flat_scan s))))
flat_body (printing n ts ws) = codes "p" ++ (decimal n ++ (codes ":" ++ (trees_text ts ++ (codes ":[" ++ (flat_items (codes ";") flat_walk ws ++ codes "]")))))

abbrev pub flat_spelling : Frozen → List ℕ
flat_spelling f = codes "f1:" ++ (decimal f.dateline ++ (codes ":" ++ (flat_after f.after ++ (codes ":[" ++ (flat_items (codes ";") flat_row f.rows ++ (codes "]:" ++ flat_body f.body))))))
