-- What the steps of a reader give for all of the bytes.
use Rattle.std.proofs.Common.{◌≡◌, ◌∙◌, ◌-◌, ◌≤◌, ℕ, List, [], ◌∷◌, ◌++◌, Result, Ok, Err, Bool, true, false, ◌==◌, refl, sym, ap, subst, arith, length, length-append}
use Rattle.std.specs.Prelude.{if◌then◌else◌}
use Rattle.gd_grammar.specs.Chain.{◌>>=◌}
use Rattle.gd_grammar.specs.Grammar.{Reads, text_at, ended, with_offset}
use Rattle.gd_grammar.proofs.Scans.{Says}
use Rattle.gd_bytes.specs.Cursor.{Cursor, cursor_at, cursor_of, spelling, Fits, IsCursorText, IsBadCursorAt}
use Rattle.gd_bytes.proofs.CursorLaws.{Scans-cursor, cursor_says}
use Rattle.gd_frozen.specs.declared.stop.Stop.{Stop}
use Rattle.gd_frozen.specs.Finds.{Stopped, head_at, rest_at, read_at, whole_cursor_at}

-- what is behind a byte, if it is the right one
abbrev behind_byte : Bool → ℕ → List ℕ → Reads (Unit {0})
behind_byte b d ds = if b then Ok (tt, ds) else Err (d ∷ ds)

text_first : (c : ℕ) (cs bytes : List ℕ) → text_at (c ∷ cs) bytes ≡ (text_at (c ∷ []) bytes >>= λ u. text_at cs u.1)
text_first c cs [] = refl
text_first c cs (d ∷ ds) = by (c == d)
  where
    by : (b : Bool) → (if b then text_at cs ds else Err (d ∷ ds)) ≡ (behind_byte b d ds >>= λ u. text_at cs u.1)
    by true = refl
    by false = refl

head_is : (bytes : List ℕ) → head_at bytes ≡ text_at (99 ∷ 49 ∷ 58 ∷ []) bytes
unfolding head_at
head_is bytes = sym (text_first 99 (49 ∷ 58 ∷ []) bytes ∙ ap (λ (f : Unit {0} × List ℕ → Reads (Unit {0})). text_at (99 ∷ []) bytes >>= f) (λ i u. text_first 49 (58 ∷ []) u.1 i))

-- byte by byte the same is read
pub read_is : (bytes : List ℕ) → read_at bytes ≡ cursor_at bytes
unfolding read_at rest_at
read_is bytes = ap (λ (r : Reads (Unit {0})). r >>= λ t. rest_at t.1) (head_is bytes)

whole_is : (bytes : List ℕ) → whole_cursor_at bytes ≡ (cursor_at bytes >>= ended)
whole_is bytes = ap (λ (r : Reads Cursor). r >>= ended) (read_is bytes)

-- where a reader stops, and what is left there
pub stopped_at : {A : Type 0} (e : Stop) (r : Result A (List ℕ)) → Stopped e r → (rest : List ℕ) × (r ≡ Err rest) × (e.left ≡ length rest)
stopped_at e (Ok x) s = absurd s
stopped_at e (Err rest) s = (rest, refl, s)

-- what is left is a part of the bytes
pub left_within : (bytes rest : List ℕ) → whole_cursor_at bytes ≡ Err rest → length rest ≤ length bytes
left_within bytes rest is = by (cursor_at bytes) refl (sym (whole_is bytes) ∙ is)
  where
    shorter : (front end : List ℕ) → bytes ≡ front ++ end → length end ≤ length bytes
    shorter front end split = let long = ap length split in let sum = length-append front end in omega (arith, long, sum)

    by : (r : Reads Cursor) → cursor_at bytes ≡ r → (r >>= ended) ≡ Err rest → length rest ≤ length bytes
    by (Ok (c, [])) e same = cc
    by (Ok (c, b ∷ bs)) e same =
        let f = Scans-cursor.found bytes c (b ∷ bs) e in
        let rest_is : b ∷ bs ≡ rest = cc in
        subst (λ (l : List ℕ). length l ≤ length bytes) rest_is (shorter f.text (b ∷ bs) f.split)
    by (Err end) e same =
        let s = Scans-cursor.stops bytes end e in
        let rest_is : end ≡ rest = cc in
        subst (λ (l : List ℕ). length l ≤ length bytes) rest_is (shorter s.front end s.split)

-- the cursor that was read is the one that the bytes spell
pub found_is : (bytes : List ℕ) (c : Cursor) → whole_cursor_at bytes ≡ Ok c → cursor_of bytes ≡ Ok c
found_is bytes c is = ap (with_offset bytes) (sym (whole_is bytes) ∙ is)

pub found_spelled : (bytes : List ℕ) (c : Cursor) → whole_cursor_at bytes ≡ Ok c → IsCursorText c bytes
found_spelled bytes c is = subst (Says spelling Fits bytes) (found_is bytes c is) (cursor_says bytes)

-- bytes at which reading stops are no cursor, with their offset
pub bad_is : (bytes rest : List ℕ) (n : ℕ) → whole_cursor_at bytes ≡ Err rest → n ≡ length rest → cursor_of bytes ≡ Err (length bytes - n)
bad_is bytes rest n is n_is = ap (with_offset bytes) (sym (whole_is bytes) ∙ is) ∙ ap (λ k. Err (length bytes - k)) (sym n_is)

pub bad_spelled : (bytes rest : List ℕ) (n : ℕ) → whole_cursor_at bytes ≡ Err rest → n ≡ length rest → IsBadCursorAt bytes (length bytes - n)
bad_spelled bytes rest n is n_is = subst (Says spelling Fits bytes) (bad_is bytes rest n is n_is) (cursor_says bytes)
