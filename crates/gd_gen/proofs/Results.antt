-- The results that lines tell, and their summary.
use Rattle.std.proofs.Common.{◌≡◌, refl, ℕ, zero, suc, ◌+◌, ◌-◌, ◌<◌, ◌≤◌, List, [], ◌∷◌, ◌++◌, length, take, drop, map, Bool, true, false, ◌&&◌, nat_le, Some, None, cond, ◌∙◌, sym, ap, append_assoc, append-nil, arith, length-drop}
use Rattle.std.specs.List.{list_all}
use Rattle.std.proofs.Math.Seq.{take-nil}
use Rattle.std.proofs.lemmas.Bool.{le-leb, lt-leb}
use Rattle.std.proofs.lemmas.List.{take_all, map-append}
use Rattle.gd_tree.specs.Json as tree
use Rattle.gd_json.specs.declared.value.Json.{Json}
use Rattle.gd_json.specs.View.{view}
use Rattle.gd_gen.specs.Replies.{reply_lines, is_ok_line, result_of}
use Rattle.gd_gen.specs.Summary.{summary, summary_of_lines, ok_count, summary_of}

-- of a line and others one more is taken than of the others
take_one : (more fewer : ℕ) (l : List ℕ) (ls : List (List ℕ)) → more ≡ fewer + 1 → take more (l ∷ ls) ≡ l ∷ take fewer ls
take_one zero fewer l ls e = absurd (omega arith)
take_one (suc more) fewer l ls e = let h : more ≡ fewer = omega arith in ap (λ n. l ∷ take n ls) h

-- the result of a line more was found: with those that are left it is still all
pub found_more : (count i : ℕ) (line : List ℕ) (lines left : List (List ℕ)) (found longer : List Json) (j : Json) (all : List tree.Json) → i < count
    → lines ≡ line ∷ left → view j ≡ result_of line → longer ≡ found ++ j ∷ []
    → map view found ++ map result_of (take (count - i) lines) ≡ all → map view longer ++ map result_of (take (count - (i + 1)) left) ≡ all
found_more count i line lines left found longer j all h parts told grown kept =
    let more : count - i ≡ count - (i + 1) + 1 = omega arith in
    let one : take (count - i) lines ≡ line ∷ take (count - (i + 1)) left = rw parts (take_one (count - i) (count - (i + 1)) line left more) in
    let last : map view found ++ (result_of line ∷ map result_of (take (count - (i + 1)) left)) ≡ all = rw one at kept in
    rw (grown, map-append view found (j ∷ []), told, append_assoc (map view found) (result_of line ∷ []) (map result_of (take (count - (i + 1)) left))) last

-- where no line is left, what was found is all
pub found_all : (n : ℕ) (lines : List (List ℕ)) (found : List Json) (all : List tree.Json) → lines ≡ [] → map view found ++ map result_of (take n lines) ≡ all → map view found ≡ all
found_all n lines found all none kept =
    let empty : take n lines ≡ [] = rw none (take-nil n) in
    let last : map view found ++ [] ≡ all = rw empty at kept in
    sym (append-nil (map view found)) ∙ last

-- the results of the last 20 lines, ten and ten, make the summary
pub summarized : (lines reads : List (List ℕ)) (count : ℕ) (counts linked : List tree.Json) → count ≡ length lines → 20 ≤ count → reads ≡ drop (count - 20) lines
    → counts ≡ map result_of (take 10 reads) → linked ≡ map result_of (take 10 (drop 10 reads)) → summary counts (count - 20) linked ≡ summary_of_lines lines
unfolding summary_of_lines
summarized lines reads count counts linked e h last first second =
    let few : length (drop 10 (drop (count - 20) lines)) ≤ 10 = omega (arith, length-drop 10 (drop (count - 20) lines), length-drop (count - 20) lines) in
    rw (first, second, last, take_all 10 (drop 10 (drop (count - 20) lines)) few, e) refl

-- a choice by two tests of which both pass
both_pass : (b : Bool) (m n : ℕ) (x y : List ℕ) → Some n ≡ cond b (Some m) None → 20 ≤ n → x ≡ y → Some x ≡ cond (b && nat_le 20 m) (Some y) None
both_pass false m n x y e h is = absurd (cc)
both_pass true m n x y e h is = let same : n ≡ m = cc in let test : nat_le 20 m ≡ true = le-leb 20 m (omega arith) in rw (test, is) refl

-- a choice by two tests of which the second fails
second_fails : (b : Bool) (m n : ℕ) (y : List ℕ) → Some n ≡ cond b (Some m) None → n < 20 → None ≡ cond (b && nat_le 20 m) (Some y) None
second_fails false m n y e h = absurd (cc)
second_fails true m n y e h = let same : n ≡ m = cc in let test : nat_le 20 m ≡ false = lt-leb 20 m (omega arith) in rw test refl

-- a choice by two tests of which the first fails
first_fails : (b : Bool) (m : ℕ) (y : List ℕ) → None ≡ cond b (Some m) None → None ≡ cond (b && nat_le 20 m) (Some y) None
first_fails false m y e = refl
first_fails true m y e = absurd (cc)

-- so many lines are ok, and enough: the summary is theirs
pub enough : (output : List ℕ) (n : ℕ) (line : List ℕ) → Some n ≡ ok_count (reply_lines output) → 20 ≤ n → line ≡ summary_of_lines (reply_lines output)
    → Some line ≡ summary_of output
unfolding summary_of
enough output n line e h is = both_pass (list_all is_ok_line (reply_lines output)) (length (reply_lines output)) n line (summary_of_lines (reply_lines output)) e h is

-- so many lines are ok, and too few: there is no summary
pub too_few : (output : List ℕ) (n : ℕ) → Some n ≡ ok_count (reply_lines output) → n < 20 → None ≡ summary_of output
unfolding summary_of
too_few output n e h = second_fails (list_all is_ok_line (reply_lines output)) (length (reply_lines output)) n (summary_of_lines (reply_lines output)) e h

-- a line is not ok: there is no summary
pub not_ok : (output : List ℕ) → None ≡ ok_count (reply_lines output) → None ≡ summary_of output
unfolding summary_of
not_ok output e = first_fails (list_all is_ok_line (reply_lines output)) (length (reply_lines output)) (summary_of_lines (reply_lines output)) e
