-- The dateline of a read, by the words of reading and by those of what is kept.
use Rattle.std.proofs.Common.{◌≡◌, ◌∙◌, sym, ap, refl, ℕ, List, Bool, true, false, Option, Some, None, Result, Ok, Err, arith}
use Rattle.std.specs.Prelude.{◌≢◌, nat_le, nat_lt, if◌then◌else◌}
use Rattle.std.proofs.lemmas.Bool.{leb-true, le-leb, ltb-false, ltb-true}
use Rattle.gd_bytes.specs.Cursor.{Cursor, cursor_of}
use Rattle.gd_runs.specs.Request.{CursorAsk, no_cursor, first_page, page_after, ReadSet, one_query, queries}
use Rattle.gd_cache.specs.Asked.{ask_at, dateline_at}
use Rattle.gd_read.specs.declared.fault.ReadFault.{ReadFault}
use Rattle.gd_read.specs.declared.fault.ReadFault.TheVariants as fault
use Rattle.gd_read.specs.Begun.{Begins, page_dateline, read_dateline}

-- what a result gives, if it gives something
abbrev pub given : {A E : Type 0} → Result A E → Option A
given (Ok x) = Some x
given (Err e) = None

at_most : (n m : ℕ) → (b : Bool) → nat_lt n m ≡ b → nat_le m n ≡ (if b then false else true)
at_most n m true is = by (nat_le m n) refl
  where
    by : (c : Bool) → nat_le m n ≡ c → c ≡ false
    by true low = let high = ltb-true n m is in let below = leb-true m n low in absurd (omega (arith, high, below))
    by false low = refl
at_most n m false is = le-leb m n (ltb-false n m is)

page_same : (n : ℕ) (t : List ℕ) (r : Result Cursor ℕ) → cursor_of t ≡ r → ask_at n (page_after t) ≡ given (page_dateline n (page_after t))
page_same n t (Err offset) is = rw is refl
page_same n t (Ok c) is = by (nat_lt n c.dateline) refl
  where
    by : (b : Bool) → nat_lt n c.dateline ≡ b → ask_at n (page_after t) ≡ given (page_dateline n (page_after t))
    by true high = rw is (rw high (rw (at_most n c.dateline true high) refl))
    by false low = rw is (rw low (rw (at_most n c.dateline false low) refl))

-- a read has the dateline that reading gives it
pub dateline_given : (n : ℕ) (q : ReadSet) → dateline_at n q ≡ given (read_dateline n q)
dateline_given n (queries rs) = refl
dateline_given n (one_query r) = by r.cursor
  where
    by : (c : CursorAsk) → ask_at n c ≡ given (page_dateline n c)
    by no_cursor = refl
    by first_page = refl
    by (page_after t) = page_same n t (cursor_of t) refl

-- a read that is refused for its cursor has none
pub refused_none : {A : Type 0} (view : A → ℕ) (n : ℕ) (q : ReadSet) (f : ReadFault) → Begins n view (read_dateline n q) (Err f) → f ≢ fault.Memory → None ≡ dateline_at n q
refused_none view n q f begins told = sym (dateline_given n q ∙ ap given (begins told))

-- and one that is not has the one that it begins at
pub begun_some : {A : Type 0} (view : A → ℕ) (n : ℕ) (q : ReadSet) (a : A) → Begins n view (read_dateline n q) (Ok a) → Some (view a) ≡ dateline_at n q
begun_some view n q a begins = sym (dateline_given n q ∙ ap given begins)
