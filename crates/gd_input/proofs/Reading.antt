-- Reading a line chunk by chunk.
use Rattle.std.proofs.Common.{◌≡◌, ℕ, ◌+◌, List, [], ◌∷◌, ◌++◌, length, Bool, true, false, Option, Some, None, refl, sym, ap, subst, ◌∙◌, arith, append_assoc, append-nil, length-append}
use Rattle.std.specs.Prelude.{if◌then◌else◌}
use Rattle.std.specs.Io.KnownBytes.{prepend_known, Keeps, Consumes, IsAtEnd}
use Rattle.std.proofs.KnownBytes.{Consumes-nil, Consumes-trans, Consumes-kept}
use Rattle.gd_base.specs.Counts.{RoseBy}
use Rattle.gd_runs.specs.Explained.{pieces, without_return}
use Rattle.gd_runs.proofs.Rounds.{one_piece, last_piece}
use Rattle.gd_input.specs.declared.line.RoundLine.{RoundLine}
use Rattle.gd_input.specs.declared.piece.Piece.{Piece}
use Rattle.gd_input.specs.Held.{Held}
use Rattle.gd_input.specs.Line.{IsKept}
use Rattle.gd_input.specs.Pieces.{IsPlain, TakesChunk, TakesPieceWithin, Known, Advances, StopsInLine}
use Rattle.gd_input.specs.Taken.{ended_lines}

plain-append : (xs ys : List ℕ) → IsPlain xs → IsPlain ys → IsPlain (xs ++ ys)
plain-append [] ys p q = q
plain-append (x ∷ xs) ys (here, later) q = (here, plain-append xs ys later q)

-- since the start a line has begun, which may have so many bytes: a piece without a newline was consumed, and is kept
pub record Reading (most : ℕ) (start now : Option (List ℕ)) (m n : ℕ) (line : RoundLine) : Type 0 where
  pub piece : List ℕ
  pub plain : IsPlain piece
  pub kept : IsKept (most + 1) line piece
  pub consumed : Consumes start now piece
  pub counted : n ≡ m + length piece

pub at_start : (most : ℕ) (start : Option (List ℕ)) (m : ℕ) (line : RoundLine) → IsKept (most + 1) line [] → Reading most start start m m line
at_start most start m line kept = record { piece = []; plain = tt; kept = kept; consumed = Consumes-nil start; counted = omega arith }

pub filled : (most : ℕ) (start now new : Option (List ℕ)) (m n k : ℕ) (line : RoundLine) → Reading most start now m n line → Keeps now new → k ≡ n → Reading most start new m k line
filled most start now new m n k line r keeps same = record { piece = r.piece; plain = r.plain; kept = r.kept; consumed = Consumes-kept start now new r.piece r.consumed keeps; counted = same ∙ r.counted }

pub advanced : (most : ℕ) (start now : Option (List ℕ)) (m n : ℕ) (line : RoundLine) → Reading most start now m n line → Advances start now m n
advanced most start now m n line r = record { bytes = r.piece; consumed = r.consumed; counted = r.counted }

-- known bytes that begin with others lose them
let_go : (a : Option (List ℕ)) (old front new : List ℕ) → old ≡ front ++ new → Consumes (prepend_known old a) (prepend_known new a) front
let_go None old front new is = tt
let_go (Some ys) old front new is = ap (λ l. l ++ ys) is ∙ append_assoc front new ys

pub longer : (most : ℕ) (start source : Option (List ℕ)) (old new : Held) (m : ℕ) (line : RoundLine) (piece : Piece) → Reading most start (prepend_known old.bytes source) m old.consumed line
    → TakesChunk (most + 1) old new line piece → piece.by_newline ≡ false → Reading most start (prepend_known new.bytes source) m new.consumed piece.line
longer most start source old new m line piece r chunk more =
    let parts : old.bytes ≡ chunk.chunk ++ new.bytes = chunk.parts ∙ ap (λ (b : Bool). chunk.chunk ++ (if b then 10 ∷ new.bytes else new.bytes)) more in
    record {
      piece = r.piece ++ chunk.chunk;
      plain = plain-append r.piece chunk.chunk r.plain chunk.plain;
      kept = chunk.kept r.piece r.kept;
      consumed = Consumes-trans start _ _ r.piece chunk.chunk r.consumed (let_go source old.bytes chunk.chunk new.bytes parts);
      counted = omega (arith, r.counted, chunk.counted, ap length parts, length-append chunk.chunk new.bytes, length-append r.piece chunk.chunk);
    }

-- ---- lines in bytes

-- bytes up to a newline are the first line, whatever follows
ended_one : (front line more : List ℕ) → IsPlain line → ended_lines front ((line ++ 10 ∷ []) ++ more) ≡ without_return (front ++ line) ∷ ended_lines [] more
ended_one front [] more plain = ap (λ (l : List ℕ). without_return l ∷ ended_lines [] more) (sym (append-nil front))
ended_one front (c ∷ line) more (other, plain) =
    ap (λ (b : Bool). if b then without_return front ∷ ended_lines [] ((line ++ 10 ∷ []) ++ more) else ended_lines (front ++ c ∷ []) ((line ++ 10 ∷ []) ++ more)) other
    ∙ (ended_one (front ++ c ∷ []) line more plain ∙ ap (λ (l : List ℕ). without_return l ∷ ended_lines [] more) (append_assoc front (c ∷ []) line))

-- bytes without a newline end no line
pub ended_none : (front line : List ℕ) → IsPlain line → ended_lines front line ≡ []
ended_none front [] plain = refl
ended_none front (c ∷ line) (other, plain) =
    ap (λ (b : Bool). if b then without_return front ∷ ended_lines [] line else ended_lines (front ++ c ∷ []) line) other ∙ ended_none (front ++ c ∷ []) line plain

-- a line that was read so far
pub stopped : (most : ℕ) (start now : Option (List ℕ)) (m n : ℕ) (line : RoundLine) → Reading most start now m n line → Known start now StopsInLine
stopped most None now m n line r = tt
stopped most (Some xs) None m n line r = r.consumed
stopped most (Some xs) (Some ys) m n line r = record { bytes = r.piece; plain = r.plain; parts = r.consumed }

-- taking the held bytes changes no count
pub chunk_counted : (most : ℕ) (old new : Held) (line : RoundLine) (piece : Piece) (given : ℕ) → TakesChunk (most + 1) old new line piece → (before : ℕ) → RoseBy before given (old.consumed + length old.bytes) → RoseBy before given (new.consumed + length new.bytes)
chunk_counted most old new line piece given chunk before rose = omega (arith, chunk.counted, rose)

-- ---- a line that a newline ended

-- what was consumed with the newline
whole : (most : ℕ) (start source : Option (List ℕ)) (old new : Held) (m : ℕ) (line : RoundLine) (piece : Piece) (r : Reading most start (prepend_known old.bytes source) m old.consumed line)
    (chunk : TakesChunk (most + 1) old new line piece) → piece.by_newline ≡ true → Consumes start (prepend_known new.bytes source) ((r.piece ++ chunk.chunk) ++ (10 ∷ []))
whole most start source old new m line piece r chunk ends =
    let parts : old.bytes ≡ (chunk.chunk ++ 10 ∷ []) ++ new.bytes = chunk.parts ∙ (ap (λ (b : Bool). chunk.chunk ++ (if b then 10 ∷ new.bytes else new.bytes)) ends ∙ sym (append_assoc chunk.chunk (10 ∷ []) new.bytes)) in
    subst (Consumes start (prepend_known new.bytes source)) (sym (append_assoc r.piece chunk.chunk (10 ∷ [])))
    (Consumes-trans start _ _ r.piece (chunk.chunk ++ 10 ∷ []) r.consumed (let_go source old.bytes (chunk.chunk ++ 10 ∷ []) new.bytes parts))

pub advanced_past : (most : ℕ) (start source : Option (List ℕ)) (old new : Held) (m : ℕ) (line : RoundLine) (piece : Piece) → Reading most start (prepend_known old.bytes source) m old.consumed line
    → TakesChunk (most + 1) old new line piece → piece.by_newline ≡ true → Advances start (prepend_known new.bytes source) m new.consumed
advanced_past most start source old new m line piece r chunk ends =
    let parts : old.bytes ≡ chunk.chunk ++ (10 ∷ new.bytes) = chunk.parts ∙ ap (λ (b : Bool). chunk.chunk ++ (if b then 10 ∷ new.bytes else new.bytes)) ends in
    record {
      bytes = (r.piece ++ chunk.chunk) ++ (10 ∷ []);
      consumed = whole most start source old new m line piece r chunk ends;
      counted = omega (arith, r.counted, chunk.counted, ap length parts, length-append chunk.chunk (10 ∷ new.bytes), length-append r.piece chunk.chunk, length-append (r.piece ++ chunk.chunk) (10 ∷ []));
    }

first_of : (most : ℕ) (start after : Option (List ℕ)) (p : List ℕ) (l : RoundLine) → IsPlain p → IsKept most l (without_return p) → Consumes start after (p ++ (10 ∷ [])) → Known start after (TakesPieceWithin most (record { line = l; by_newline = true }))
first_of most None after p l plain kept consumed = tt
first_of most (Some xs) None p l plain kept consumed = consumed
first_of most (Some xs) (Some ys) p l plain kept consumed = record {
  line = without_return p;
  bytes = p ++ 10 ∷ [];
  parts = consumed;
  whole = λ is more. ended_one [] p more plain;
  kept = kept;
  first = ap (pieces []) (consumed ∙ append_assoc p (10 ∷ []) ys) ∙ one_piece [] p ys plain;
  ended = λ is. cc;
}

pub by_newline : (most : ℕ) (start source : Option (List ℕ)) (old new : Held) (m : ℕ) (line : RoundLine) (piece : Piece) (l : RoundLine) → Reading most start (prepend_known old.bytes source) m old.consumed line
    → TakesChunk (most + 1) old new line piece → piece.by_newline ≡ true → ((begun : List ℕ) → IsKept (most + 1) piece.line begun → IsKept most l (without_return begun))
    → Known start (prepend_known new.bytes source) (TakesPieceWithin most (record { line = l; by_newline = true }))
by_newline most start source old new m line piece l r chunk ends ended =
    first_of most start (prepend_known new.bytes source) (r.piece ++ chunk.chunk) l (plain-append r.piece chunk.chunk r.plain chunk.plain)
    (ended (r.piece ++ chunk.chunk) (chunk.kept r.piece r.kept)) (whole most start source old new m line piece r chunk ends)

-- ---- a line that the input's end ended

last_of : (most : ℕ) (start after : Option (List ℕ)) (p : List ℕ) (l : RoundLine) → IsPlain p → IsKept most l p → Consumes start after p → IsAtEnd after → Known start after (TakesPieceWithin most (record { line = l; by_newline = false }))
last_of most None after p l plain kept consumed end = tt
last_of most (Some xs) None p l plain kept consumed end = consumed
last_of most (Some xs) (Some ys) p l plain kept consumed end = record {
  line = p;
  bytes = p;
  parts = consumed;
  whole = λ is. absurd (cc);
  kept = kept;
  first = ap (pieces []) (consumed ∙ ap (λ l. p ++ l) end ∙ append-nil p) ∙ last_piece [] p plain;
  ended = λ is. end;
}

none_left : (source : Option (List ℕ)) (bytes : List ℕ) → bytes ≡ [] → IsAtEnd source → IsAtEnd (prepend_known bytes source)
none_left None bytes none end = tt
none_left (Some ys) bytes none end = ap (λ l. l ++ ys) none ∙ end

pub at_end : (most : ℕ) (start source : Option (List ℕ)) (bytes : List ℕ) (m n : ℕ) (line l : RoundLine) → Reading most start (prepend_known bytes source) m n line → bytes ≡ [] → IsAtEnd source
    → ((begun : List ℕ) → IsKept (most + 1) line begun → IsKept most l begun) → Known start (prepend_known bytes source) (TakesPieceWithin most (record { line = l; by_newline = false }))
at_end most start source bytes m n line l r none end ended = last_of most start (prepend_known bytes source) r.piece l r.plain (ended r.piece r.kept) r.consumed (none_left source bytes none end)
