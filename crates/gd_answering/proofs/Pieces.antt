-- A piece of the input, as the line that it is.
use Rattle.std.proofs.Common.{◌≡◌, ℕ, ◌+◌, List, [], ◌∷◌, ◌++◌, bytes_eq, false, Option, refl, sym, subst, arith}
use Rattle.std.specs.Prelude.{replicate}
use Rattle.std.proofs.lemmas.List.{length-replicate}
use Rattle.gd_input.specs.declared.line.RoundLine.{RoundLine}
use Rattle.gd_input.specs.declared.line.RoundLine.TheVariants.{Bytes, TooLong}
use Rattle.gd_input.specs.Line.{IsKept, HasAtMost}
use Rattle.gd_answering.specs.Runs.{LineFront, PieceReplies, PieceFront}

module _ {A : Type 0} (answers : A → ℕ → List ℕ → List ℕ → A → Type 0) where
  one_line : (s : A) (k c : ℕ) (cs reply : List ℕ) (t : A) → answers s k (c ∷ cs) reply t → PieceReplies answers s k (c ∷ cs) (reply ++ 10 ∷ []) t
  one_line s k c cs reply t line = λ round. (reply, t, [], line, refl, (refl, refl))

  -- a line of which a front is printed
  pub line_front : (s : A) (k : ℕ) (piece : List ℕ) (t : A) (old new : Option (List ℕ)) → bytes_eq piece [] ≡ false → LineFront answers s k piece t old new → PieceFront answers s k piece t old new
  line_front s k [] t old new some front = absurd (cc)
  line_front s k (c ∷ cs) t old new some front = record {
    output = front.front.piece;
    rest = front.front.rest;
    replies = subst (λ (out : List ℕ). PieceReplies answers s k (c ∷ cs) out t) (sym front.front.parts) (one_line s k c cs front.reply t front.line);
    gained = front.front.gained;
  }

-- ---- each line has bytes

-- the bytes that a line keeps, or some that are too many
pub some_bytes : (most : ℕ) (line : RoundLine) → HasAtMost most line → (bytes : List ℕ) × IsKept most line bytes
some_bytes most (Bytes v) short = (v.items, (refl, short))
some_bytes most TooLong short = let count = length-replicate {A = ℕ} (most + 1) 0 in (replicate (most + 1) 0, omega (arith, count))
