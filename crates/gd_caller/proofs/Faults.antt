-- How many replies of a round tell a failure of the disk: no more than there are writes of which that is kept.
use Rattle.std.proofs.Common.{◌≡◌, ℕ, zero, suc, ◌+◌, ◌<◌, ◌≤◌, ◌==◌, List, [], ◌∷◌, length, codes, count_by, cond, fold, Bool, true, false, if◌then◌else◌, Option, Some, None, Result, Ok, Err, slice_get, refl, sym, ap, ◌∙◌, ⊎_elim, nat_lt, arith}
use Rattle.gd_prim.specs.declared.Primitive.{Primitive}
use Rattle.gd_prim.specs.declared.Batch.{Batch}
use Rattle.gd_prim.specs.History.{prims_at}
use Rattle.gd_tree.specs.Json.{Json}
use Rattle.gd_bytes.specs.Cursor.{Cursor, cursor_of}
use Rattle.gd_defs.specs.Lines.{Refusal, refused_at, bad_cursor, cursor_ahead, ok_line, ok_cursor_line, err_line, too_wide, too_large}
use Rattle.gd_defs.specs.Query.{Query}
use Rattle.gd_defs.specs.Asked.{Asked, Unknown, asked_query}
use Rattle.gd_defs.specs.Reply.{Path, Mark, reply, meant_line, asked_line, result_line, within_reply, unknown_refusal, rows_after, page, page_cursor, has_more, result_json, has_heavy_candidate, is_heavy_page, max_candidate_weight, max_page_weight, max_reply}
use Rattle.gd_runs.specs.Request.{ReadSet, CursorAsk, no_cursor, first_page, page_after, reply_of, page_reply, bad_line, bad_form}
use Rattle.gd_json.specs.declared.from.JsonFault.TheVariants as json_fault
use Rattle.gd_runs.specs.Input.{InputFault, line_too_long, no_json, no_line, input_fault_line}
use Rattle.gd_runs.specs.Explained.{tells_fault, fault_count, memory_line}
use Rattle.gd_runs.specs.Side.{Kept, kept_stored, kept_late, kept_refused, kept_doubt, kept_unsettled, kept_memory, is_fault, Told}
use Rattle.gd_core_laws.specs.Bounds.{kept_of}
use Rattle.gd_core_laws.specs.Round.{kept_reply}
use Rattle.gd_core_laws.proofs.Lock.{same_numbers}
use Rattle.gd_core_laws.proofs.Reading.{same_number}
use Rattle.gd_core_laws.proofs.Quiet.{Quiet, read_quiet, fault_quiet, memory_quiet}
use Rattle.gd_caller.specs.Told.{reply_or}
use Rattle.gd_round_lines.specs.Works.{IsFirstReply}

module _ (k : ℕ) where
  -- the reply to a write tells one only where that is kept
  pub kept_quiet : (line : ℕ) (kept : Kept) → is_fault kept ≡ false → Quiet k (kept_reply line kept)
  kept_quiet line (kept_stored e r) none = refl
  kept_quiet line (kept_late e) none = refl
  kept_quiet line (kept_refused f n) none = refl
  kept_quiet line (kept_doubt n) none = cc
  kept_quiet line kept_unsettled none = cc
  kept_quiet line kept_memory none = refl

-- ---- how many

abbrev one_if : Bool → ℕ
one_if b = cond b 1 0

-- one, if a failure is kept
abbrev pub fault_in : Option Kept → ℕ
fault_in None = 0
fault_in (Some kept) = cond (is_fault kept) 1 0

-- one, if a failure is kept of line k
abbrev pub fault_at_line : List Told → ℕ → ℕ
fault_at_line outs k = fault_in (kept_of outs k)

-- how many of so many lines from one on
abbrev pub faults_at : List Told → ℕ → ℕ → ℕ
faults_at outs k zero = 0
faults_at outs k (suc n) = fault_at_line outs k + faults_at outs (k + 1) n

abbrev pub kept_faults : List Told → ℕ
kept_faults outs = count_by (λ (t : Told). is_fault t.kept) outs

fold_from : (a : ℕ) (ts : List Told) → fold (λ (n : ℕ) (t : Told). n + cond (is_fault t.kept) 1 0) a ts ≡ a + kept_faults ts
fold_from a [] = omega arith
fold_from a (t ∷ ts) =
    let first = fold_from (a + cond (is_fault t.kept) 1 0) ts in
    let rest = fold_from (0 + cond (is_fault t.kept) 1 0) ts in
    omega (arith, first, rest)

pub faults_first : (t : Told) (ts : List Told) → kept_faults (t ∷ ts) ≡ cond (is_fault t.kept) 1 0 + kept_faults ts
faults_first t ts = let rest = fold_from (0 + cond (is_fault t.kept) 1 0) ts in omega (arith, rest)

-- another line's outcome changes nothing
at_line : (t : Told) (ts : List Told) (k : ℕ) → fault_at_line (t ∷ ts) k ≤ cond (is_fault t.kept) 1 0 + fault_at_line ts k
at_line t ts k = by (t.line == k) refl
  where
    by : (b : Bool) → (t.line == k) ≡ b → fault_at_line (t ∷ ts) k ≤ cond (is_fault t.kept) 1 0 + fault_at_line ts k
    by true is = rw is (omega arith)
    by false is = rw is (omega arith)

other_line : (t : Told) (ts : List Told) (k : ℕ) → (t.line ≡ k → ⊥) → fault_at_line (t ∷ ts) k ≡ fault_at_line ts k
other_line t ts k other = by (t.line == k) refl
  where
    by : (b : Bool) → (t.line == k) ≡ b → fault_at_line (t ∷ ts) k ≡ fault_at_line ts k
    by true is = absurd (other (same_numbers t.line k is))
    by false is = rw is refl

others : (t : Told) (ts : List Told) (k n : ℕ) → t.line < k → faults_at (t ∷ ts) k n ≡ faults_at ts k n
others t ts k zero less = refl
others t ts k (suc n) less =
    let here = other_line t ts k (λ is. omega (arith, is, less)) in
    let rest = others t ts (k + 1) n (omega (arith, less)) in
    omega (arith, here, rest)

one_more : (t : Told) (ts : List Told) (k n : ℕ) → faults_at (t ∷ ts) k n ≤ cond (is_fault t.kept) 1 0 + faults_at ts k n
one_more t ts k zero = omega arith
one_more t ts k (suc n) = by (t.line == k) refl (one_more t ts (k + 1) n)
  where
    by : (b : Bool) → (t.line == k) ≡ b → faults_at (t ∷ ts) (k + 1) n ≤ cond (is_fault t.kept) 1 0 + faults_at ts (k + 1) n → faults_at (t ∷ ts) k (suc n) ≤ cond (is_fault t.kept) 1 0 + faults_at ts k (suc n)
    by true is rest =
        let line = same_numbers t.line k is in
        let here = at_line t ts k in
        let behind = others t ts (k + 1) n (omega (arith, line)) in
        omega (arith, here, behind)
    by false is rest =
        let here = other_line t ts k (λ same. differs is same) in
        omega (arith, here, rest)
      where
        differs : (t.line == k) ≡ false → t.line ≡ k → ⊥
        differs isnt same = apart (sym (ap (λ (m : ℕ). m == k) same ∙ same_number k) ∙ isnt)
          where
            apart : true ≡ false → ⊥
            apart q = cc

pub faults_most : (outs : List Told) (k n : ℕ) → faults_at outs k n ≤ kept_faults outs
faults_most [] k n = let none = no_faults k n in omega (arith, none)
  where
    no_faults : (k n : ℕ) → faults_at [] k n ≡ 0
    no_faults k zero = refl
    no_faults k (suc n) = let rest = no_faults (k + 1) n in omega (arith, rest)
faults_most (t ∷ ts) k n =
    let one = one_more t ts k n in
    let rest = faults_most ts k n in
    let first = faults_first t ts in
    omega (arith, one, rest, first)

-- LAW: where a reply tells a failure only if that is kept of its line, no more replies do than there are such lines
pub faults_told_most : (outs : List Told) (k : ℕ) (replies : List (List ℕ)) → ((j : ℕ) (reply : List ℕ) → slice_get replies j ≡ Some reply → fault_at_line outs (k + j) ≡ 0 → tells_fault (k + j) reply ≡ false) → fault_count k replies ≤ kept_faults outs
faults_told_most outs k replies quiet =
    let most = faults_most outs k (length replies) in
    let below = told k replies quiet in
    omega (arith, most, below)
  where
    none_told : (b : Bool) (n m : ℕ) → (n ≡ 0 → b ≡ false) → (if b then 1 else 0) + m ≤ n + m
    none_told false n m quiet = omega arith
    none_told true zero m quiet = absurd (apart (quiet refl))
      where
        apart : true ≡ false → ⊥
        apart q = cc
    none_told true (suc n) m quiet = omega arith

    told : (k : ℕ) (replies : List (List ℕ)) → ((j : ℕ) (reply : List ℕ) → slice_get replies j ≡ Some reply → fault_at_line outs (k + j) ≡ 0 → tells_fault (k + j) reply ≡ false) → fault_count k replies ≤ faults_at outs k (length replies)
    told k [] quiet = omega arith
    told k (r ∷ rs) quiet =
        let rest = told (k + 1) rs (λ j reply at none. shifted j reply at none) in
        let first = none_told (tells_fault k r) (fault_at_line outs k) (faults_at outs (k + 1) (length rs)) here in
        omega (arith, rest, first)
      where
        here : fault_at_line outs k ≡ 0 → tells_fault k r ≡ false
        here none = let place : k + 0 ≡ k = omega arith in ap (λ (n : ℕ). tells_fault n r) (sym place) ∙ quiet 0 r refl (ap (fault_at_line outs) place ∙ none)

        shifted : (j : ℕ) (reply : List ℕ) → slice_get rs j ≡ Some reply → fault_at_line outs (k + 1 + j) ≡ 0 → tells_fault (k + 1 + j) reply ≡ false
        shifted j reply at none = let place : k + suc j ≡ k + 1 + j = omega arith in ap (λ (n : ℕ). tells_fault n reply) (sym place) ∙ quiet (suc j) reply at (ap (fault_at_line outs) place ∙ none)

-- the reply to a line tells none where none is kept of it and its first reply told none
pub quiet_or : (k line : ℕ) (was : List ℕ) (o : Option Kept) → tells_fault k was ≡ false → fault_in o ≡ 0 → tells_fault k (reply_or line was o) ≡ false
quiet_or k line was None quiet none = quiet
quiet_or k line was (Some kept) quiet none = kept_quiet k line kept (by (is_fault kept) refl none)
  where
    by : (b : Bool) → is_fault kept ≡ b → one_if b ≡ 0 → is_fault kept ≡ false
    by true is one = absurd (omega (arith, one))
    by false is one = is

pub first_quiet : (k : ℕ) (bytes was : List ℕ) → IsFirstReply k bytes was → tells_fault k was ≡ false
first_quiet k bytes was first = ⊎_elim (λ (f, asks, is). ap (tells_fault k) is ∙ fault_quiet k k f) (λ is. ap (tells_fault k) is ∙ memory_quiet k k) first
