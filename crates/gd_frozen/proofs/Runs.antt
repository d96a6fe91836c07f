-- Reading trees byte by byte: what it does hangs on no byte behind the one at which it stops.
use Rattle.std.proofs.Common.{◌≡◌, ◌∙◌, refl, sym, ap, subst, arith, ℕ, zero, suc, ◌+◌, ◌<◌, ◌≤◌, List, [], ◌∷◌, ◌++◌, length, Result, Ok, Err, length-append}
use Rattle.gd_grammar.specs.Chain.{◌>>=◌}
use Rattle.gd_grammar.specs.Grammar.{Reads}
use Rattle.gd_grammar.proofs.Scans.{ok_of, ok_same}
use Rattle.gd_grammar.proofs.Steady.{same_front}
use Rattle.gd_frozen.specs.declared.tree.Piece.{Piece}
use Rattle.gd_frozen.specs.declared.tree.At.{At}
use Rattle.gd_frozen.specs.Pieces.{Move, stops, ends, goes, step, follow, run, behind_pieces}

-- what is read is shorter than the bytes, and where reading stops no more is left
abbrev IsShort : ℕ → Reads (List Piece) → Type 0
IsShort n (Ok x) = length x.1 < n
IsShort n (Err rest) = length rest ≤ n

short_behind : (n : ℕ) (ps : List Piece) (r : Reads (List Piece)) → IsShort n r → IsShort (suc n) (behind_pieces ps r)
short_behind n ps (Ok x) s = omega (arith, s)
short_behind n ps (Err rest) s = omega (arith, s)

pub run_short : (a : At) (d : ℕ) (bytes : List ℕ) → IsShort (length bytes) (run a d bytes)
run_short a d [] = omega arith
run_short a d (c ∷ cs) = by (λ b e. run_short b e cs) (step a d c)
  where
    by : ((b : At) (e : ℕ) → IsShort (length cs) (run b e cs)) → (m : Move) → IsShort (suc (length cs)) (follow c cs m (λ b e. run b e cs))
    by ih stops = omega arith
    by ih (ends ps) = omega arith
    by ih (goes b e ps) = short_behind (length cs) ps (run b e cs) (ih b e)

-- it can't be that what is left is longer
long_ok : (bytes rest : List ℕ) (ps : List Piece) (a : At) (d : ℕ) → run a d bytes ≡ Ok (ps, rest) → length bytes ≤ length rest → ⊥
long_ok bytes rest ps a d is long = let s = subst (IsShort (length bytes)) is (run_short a d bytes) in omega (arith, s, long)

long_err : (bytes rest : List ℕ) (a : At) (d : ℕ) → run a d bytes ≡ Err rest → length bytes < length rest → ⊥
long_err bytes rest a d is long = let s = subst (IsShort (length bytes)) is (run_short a d bytes) in omega (arith, s, long)

-- what is read behind pieces
pub record Behind (ps qs : List Piece) (rest : List ℕ) (r : Reads (List Piece)) : Type 0 where
  pub more : List Piece
  pub reads : r ≡ Ok (more, rest)
  pub is : qs ≡ ps ++ more

pub behind_ok : (ps qs : List Piece) (rest : List ℕ) (r : Reads (List Piece)) → behind_pieces ps r ≡ Ok (qs, rest) → Behind ps qs rest r
behind_ok ps qs rest (Ok (more, end)) is =
    let pairs = ok_same is in
    let end_is : end ≡ rest = ap (λ p. p.1) pairs in
    record { more = more; reads = ap (λ (l : List ℕ). ok_of (more, l)) end_is; is = sym (ap (λ p. p.0) pairs) }
behind_ok ps qs rest (Err e) is = absurd (differ is)
  where
    differ : ◌≡◌ {A = Reads (List Piece)} (Err e) (Ok (qs, rest)) → ⊥
    differ q = cc

pub behind_err : (ps : List Piece) (rest : List ℕ) (r : Reads (List Piece)) → behind_pieces ps r ≡ Err rest → r ≡ Err rest
behind_err ps rest (Ok (more, end)) is = absurd (differ is)
  where
    differ : ok_of {X = List Piece × List ℕ} {Y = List ℕ} (ps ++ more, end) ≡ Err rest → ⊥
    differ q = cc
behind_err ps rest (Err e) is = cc

pub run_same : (w : List ℕ) (a : At) (d : ℕ) (ps : List Piece) (b : ℕ) (more m : List ℕ) → run a d (w ++ (b ∷ more)) ≡ Ok (ps, b ∷ more) → run a d (w ++ (b ∷ m)) ≡ Ok (ps, b ∷ m)
run_same [] a d ps b more m is = by (step a d b) is
  where
    by : (v : Move) → follow b more v (λ x e. run x e more) ≡ Ok (ps, b ∷ more) → follow b m v (λ x e. run x e m) ≡ Ok (ps, b ∷ m)
    by stops e = cc
    by (ends qs) e = let l = ap length (ap (λ p. p.1) (ok_same e)) in absurd (omega (arith, l))
    by (goes x k qs) e = let f = behind_ok qs ps (b ∷ more) (run x k more) e in absurd (long_ok more (b ∷ more) f.more x k f.reads (omega arith))
run_same (c ∷ w) a d ps b more m is = by (λ x e qs. run_same w x e qs b more m) (step a d c) is
  where
    by : ((x : At) (e : ℕ) (qs : List Piece) → run x e (w ++ (b ∷ more)) ≡ Ok (qs, b ∷ more) → run x e (w ++ (b ∷ m)) ≡ Ok (qs, b ∷ m)) → (v : Move)
        → follow c (w ++ (b ∷ more)) v (λ x e. run x e (w ++ (b ∷ more))) ≡ Ok (ps, b ∷ more) → follow c (w ++ (b ∷ m)) v (λ x e. run x e (w ++ (b ∷ m))) ≡ Ok (ps, b ∷ m)
    by ih stops e = cc
    by ih (ends qs) e =
        let pairs = ok_same e in
        let none : w ≡ [] = same_front w [] (b ∷ more) (ap (λ p. p.1) pairs) in
        ap (λ (l : List ℕ). ok_of (qs, l ++ (b ∷ m))) none ∙ ap (λ (l : List Piece). ok_of (l, b ∷ m)) (ap (λ p. p.0) pairs)
    by ih (goes x k qs) e =
        let f = behind_ok qs ps (b ∷ more) (run x k (w ++ (b ∷ more))) e in
        ap (behind_pieces qs) (ih x k f.more f.reads) ∙ ap (λ (l : List Piece). ok_of (l, b ∷ m)) (sym f.is)

pub run_fails : (w : List ℕ) (a : At) (d : ℕ) (b : ℕ) (more m : List ℕ) → run a d (w ++ (b ∷ more)) ≡ Err (b ∷ more) → run a d (w ++ (b ∷ m)) ≡ Err (b ∷ m)
run_fails [] a d b more m is = by (step a d b) is
  where
    by : (v : Move) → follow b more v (λ x e. run x e more) ≡ Err (b ∷ more) → follow b m v (λ x e. run x e m) ≡ Err (b ∷ m)
    by stops e = refl
    by (ends qs) e = cc
    by (goes x k qs) e = absurd (long_err more (b ∷ more) x k (behind_err qs (b ∷ more) (run x k more) e) (omega arith))
run_fails (c ∷ w) a d b more m is = by (λ x e. run_fails w x e b more m) (step a d c) is
  where
    by : ((x : At) (e : ℕ) → run x e (w ++ (b ∷ more)) ≡ Err (b ∷ more) → run x e (w ++ (b ∷ m)) ≡ Err (b ∷ m)) → (v : Move)
        → follow c (w ++ (b ∷ more)) v (λ x e. run x e (w ++ (b ∷ more))) ≡ Err (b ∷ more) → follow c (w ++ (b ∷ m)) v (λ x e. run x e (w ++ (b ∷ m))) ≡ Err (b ∷ m)
    by ih stops e =
        let l = ap length (err_same e) in
        let n = length-append w (b ∷ more) in
        absurd (omega (arith, l, n))
      where
        err_same : {p q : List ℕ} → ◌≡◌ {A = Reads (List Piece)} (Err p) (Err q) → p ≡ q
        err_same e = cc
    by ih (ends qs) e = cc
    by ih (goes x k qs) e = ap (behind_pieces qs) (ih x k (behind_err qs (b ∷ more) (run x k (w ++ (b ∷ more))) e))
