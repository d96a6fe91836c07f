-- The lines of an output, taken off one by one.
use Rattle.std.proofs.Common.{◌≡◌, ◌≢◌, refl, ℕ, ◌+◌, ◌-◌, ◌<◌, ◌≤◌, List, [], ◌∷◌, length, take, drop, Bool, true, false, nat_lt, ◌==◌, Some, None, cond, ◌∙◌, sym, ap, arith, length-drop}
use Rattle.std.proofs.lemmas.Bool.{ltb-true, ltb-false, eqb-true}
use Rattle.std.proofs.lemmas.List.Sums.{fails_before_first}
use Rattle.std.specs.List.{slice_split, position_or_len, position}
use Rattle.std.proofs.lemmas.List.{take_all, drop-drop}
use Rattle.std.proofs.lemmas.List.Splits.{slice_split_first, slice_split_none, length-slice_split}
use Rattle.std.proofs.lemmas.List.Sums.{count_by-le-length}
use Rattle.gd_gen.specs.Replies.{is_newline, without_last, reply_lines}

-- a part with others behind it stays
stays : (p : List ℕ) (ps : List (List ℕ)) → 0 < length ps → without_last (p ∷ ps) ≡ p ∷ without_last ps
stays p [] h = absurd (omega arith)
stays [] (q ∷ qs) h = refl
stays (c ∷ cs) (q ∷ qs) h = refl

-- there is a part
some_part : (xs : List ℕ) → 0 < length (slice_split is_newline xs)
some_part xs = omega (arith, length-slice_split is_newline xs)

-- a choice that gives a place was made by a test that passed, and gives that place
chosen : (b : Bool) (m n : ℕ) → cond b (Some m) None ≡ Some n → (b ≡ true) × (m ≡ n)
chosen true m n e = (refl, cc)
chosen false m n e = absurd (cc)

-- one that gives none was made by a test that failed
not_chosen : (b : Bool) (m : ℕ) → cond b (Some m) None ≡ None → b ≡ false
not_chosen true m e = absurd (cc)
not_chosen false m e = refl

-- up to a newline stands the first line, and behind it stand the others
pub line_and_more : (xs : List ℕ) (n : ℕ) → position is_newline xs ≡ Some n
    → reply_lines xs ≡ take n xs ∷ reply_lines (take (length xs - (n + 1)) (drop (n + 1) xs))
unfolding reply_lines
line_and_more xs n e =
    let both : (nat_lt (position_or_len is_newline xs) (length xs) ≡ true) × (position_or_len is_newline xs ≡ n) = chosen _ _ _ e in
    let within : position_or_len is_newline xs < length xs = ltb-true (position_or_len is_newline xs) (length xs) both.0 in
    let split : slice_split is_newline xs ≡ take n xs ∷ slice_split is_newline (drop (n + 1) xs) = rw (← both.1) (slice_split_first is_newline xs 0 within) in
    let all : length (drop (n + 1) xs) ≤ length xs - (n + 1) = omega (arith, length-drop (n + 1) xs) in
    rw (split, take_all (length xs - (n + 1)) (drop (n + 1) xs) all) (stays (take n xs) (slice_split is_newline (drop (n + 1) xs)) (some_part (drop (n + 1) xs)))

-- bytes are one line, if there are some
alone : (xs : List ℕ) → xs ≢ [] → without_last (xs ∷ []) ≡ xs ∷ []
alone [] some = absurd (some refl)
alone (x ∷ xs) some = refl

-- where there is no newline, all bytes are one line
pub one_line : (xs : List ℕ) → position is_newline xs ≡ None → xs ≢ [] → reply_lines xs ≡ xs ∷ reply_lines []
unfolding reply_lines
one_line xs e some =
    let none : nat_lt (position_or_len is_newline xs) (length xs) ≡ false = not_chosen _ _ e in
    let all : length xs ≤ position_or_len is_newline xs = ltb-false (position_or_len is_newline xs) (length xs) none in
    let split : slice_split is_newline xs ≡ xs ∷ [] = slice_split_none is_newline xs (λ k d h. fails_before_first is_newline xs k d (omega (arith, all))) in
    rw split (alone xs some)

-- no bytes are no line
pub no_line : (xs : List ℕ) → true ≡ (length xs == 0) → reply_lines xs ≡ []
unfolding reply_lines
no_line [] e = refl
no_line (x ∷ xs) e = let h : length (x ∷ xs) ≡ 0 = eqb-true (length (x ∷ xs)) 0 (sym e) in absurd (omega arith)

-- a line more is passed: those behind the ones that are still to be passed are the same
pub passed : (count i : ℕ) (lines left wanted : List (List ℕ)) → i < count → left ≡ drop 1 lines → drop (count - i) lines ≡ wanted → drop (count - (i + 1)) left ≡ wanted
passed count i lines left wanted h e kept =
    let more : 1 + (count - (i + 1)) ≡ count - i = omega arith in
    rw e (drop-drop (count - (i + 1)) 1 lines ∙ ap (λ n. drop n lines) more ∙ kept)

-- parts without an empty last one are no more than before
no_more : (ps : List (List ℕ)) → length (without_last ps) ≤ length ps
no_more [] = omega arith
no_more ([] ∷ []) = omega arith
no_more ((c ∷ cs) ∷ []) = omega arith
no_more ([] ∷ q ∷ qs) = omega (arith, no_more (q ∷ qs))
no_more ((c ∷ cs) ∷ q ∷ qs) = omega (arith, no_more (q ∷ qs))

-- an output has at most one line more than bytes
pub few_lines : (xs : List ℕ) → length (reply_lines xs) ≤ length xs + 1
unfolding reply_lines
few_lines xs = omega (arith, no_more (slice_split is_newline xs), length-slice_split is_newline xs, count_by-le-length is_newline xs)
