-- How far an input was taken.
use Rattle.std.proofs.Common.{◌≡◌, inl, ◌∙◌, refl, sym, ap, subst, ℕ, ◌+◌, List, [], ◌∷◌, ◌++◌, length, drop, Option, Some, None, IfSome, arith, append_assoc, append-nil, length-append}
use Rattle.std.specs.List.{AllByRecursion}
use Rattle.std.specs.Io.KnownBytes.{prepend_known, Consumes, Keeps, IsAtEnd}
use Rattle.std.proofs.KnownBytes.{Consumes-kept}
use Rattle.gd_prim.specs.declared.Batch.{Batch}
use Rattle.gd_dump_laws.specs.Restoring.{in_groups}
use Rattle.gd_dump.specs.Read.{Reader, HasRead}
use Rattle.gd_input.specs.Held.{Held, IsBounded}
use Rattle.gd_input.specs.Pieces.{Advances}
use Rattle.gd_input.specs.declared.fault.InputFault.{InputFault}
use Rattle.gd_input.specs.declared.fault.InputFault.TheVariants as input
use Rattle.gd_log.specs.Stored.{IsEarly}
use Rattle.gd_restore.specs.Gathered.{Gathered, IsReady, HasBegun, Upto, HoldsAs, Tells}
use Rattle.gd_restore.specs.Restores.{StopsAs}
use Rattle.gd_restore.specs.Stops.{stop_of_input}
use Rattle.gd_restore.specs.declared.stop.RestoreStop.TheVariants as stop

-- These bytes were taken off the front of the input, where it is known, and counted, and this holds of them.
pub record HasTaken (old new : Option (List ℕ)) (count : ℕ) (P : List ℕ → Type 0) : Type 0 where
  pub seen : List ℕ
  pub consumed : Consumes old new seen
  pub counted : count ≡ length seen
  pub so : P seen

-- a piece more
pub taken_more : (a before b : Option (List ℕ)) (piece now : List ℕ) (n m : ℕ) (P Q : List ℕ → Type 0) → HasTaken a before n P → Keeps before (prepend_known piece b) → now ≡ [] → m ≡ n + length piece → ((seen : List ℕ) → P seen → Q (seen ++ piece))
    → HasTaken a (prepend_known now b) m Q
taken_more a before b piece now n m P Q t kept none many so = record {
  seen = t.seen ++ piece;
  consumed = subst (λ (l : List ℕ). Consumes a (prepend_known l b) (t.seen ++ piece)) (sym none) (by a b (Consumes-kept a before (prepend_known piece b) t.seen t.consumed kept));
  counted = omega (arith, many, t.counted, length-append t.seen piece);
  so = so t.seen t.so;
}
  where
    by : (a b : Option (List ℕ)) → Consumes a (prepend_known piece b) t.seen → Consumes a (prepend_known [] b) (t.seen ++ piece)
    by None b c = tt
    by (Some x) None c = absurd c
    by (Some x) (Some y) c = c ∙ sym (append_assoc t.seen piece y)

-- what is so of all that was taken, a piece and whatever is left is so of the input
pub input_so : (a before b : Option (List ℕ)) (piece : List ℕ) (n : ℕ) (P R : List ℕ → Type 0) → HasTaken a before n P → Keeps before (prepend_known piece b) → ((seen left : List ℕ) → P seen → R ((seen ++ piece) ++ left)) → IfSome a R
input_so a before b piece n P R t kept so = by a b (Consumes-kept a before (prepend_known piece b) t.seen t.consumed kept)
  where
    by : (a b : Option (List ℕ)) → Consumes a (prepend_known piece b) t.seen → IfSome a R
    by None b c = tt
    by (Some x) None c = absurd c
    by (Some x) (Some y) c = subst R (append_assoc t.seen piece y ∙ sym c) (so t.seen y t.so)

-- where nothing is held and nothing is left, what is so of all that was taken
pub end_so : (a before b : Option (List ℕ)) (piece : List ℕ) (n : ℕ) (P R : List ℕ → Type 0) → HasTaken a before n P → Keeps before (prepend_known piece b) → piece ≡ [] → IsAtEnd b → ((seen : List ℕ) → P seen → R seen) → IfSome a R
end_so a before b piece n P R t kept none ended so = by a b (Consumes-kept a before (prepend_known piece b) t.seen t.consumed kept) ended
  where
    by : (a b : Option (List ℕ)) → Consumes a (prepend_known piece b) t.seen → IsAtEnd b → IfSome a R
    by None b c e = tt
    by (Some x) None c e = absurd c
    by (Some x) (Some y) c e = subst R (sym (c ∙ (λ k. t.seen ++ (none k ++ e k)) ∙ append-nil t.seen)) (so t.seen t.so)

-- what was taken, as it is counted
pub taken_advances : (a b : Option (List ℕ)) (n : ℕ) (P : List ℕ → Type 0) → HasTaken a b n P → Advances a b 0 n
taken_advances a b n P t = record { bytes = t.seen; consumed = t.consumed; counted = omega (arith, t.counted) }

-- ---- a run as it begins

pub begun_ready : {D : Type 0} (s : Gathered D) → HasBegun s → IsReady s
begun_ready s b = record {
  no_doubt = b.no_doubt;
  part = ap (in_groups []) b.group;
  early = subst (λ (l : List Batch). AllByRecursion IsEarly l) (sym b.group) tt;
}

pub begun_upto : {D : Type 0} (content : D → Option (List ℕ)) (images : D → List ℕ → Type 0) (s : Gathered D) (r : Reader) → HasBegun s → HasRead r [] [] → (Tells (content s.stored.log.disk) → HoldsAs content images s.stored None)
    → Upto content images s.stored.batches [] s r
begun_upto content images s r b read holds = record {
  batches = [];
  read = read;
  gathers = record { done = []; groups = refl; parts = sym b.group; follow = refl; stored = sym (append-nil s.stored.batches); count = b.have; holds = holds };
  begins = inl refl;
}

pub begun_taken : (a : Option (List ℕ)) (held : Held) (P : List ℕ → Type 0) → held ≡ record { bytes = []; consumed = 0 } → P [] → HasTaken a (prepend_known held.bytes a) held.consumed P
begun_taken a held P new so = subst (λ (h : Held). HasTaken a (prepend_known h.bytes a) h.consumed P) (sym new) (record { seen = []; consumed = by a; counted = refl; so = so })
  where
    by : (a : Option (List ℕ)) → Consumes a (prepend_known [] a) []
    by None = tt
    by (Some x) = refl

pub begun_bounded : (held : Held) → held ≡ record { bytes = []; consumed = 0 } → IsBounded held
begun_bounded held new = subst (λ (h : Held). IsBounded h) (sym new) (record { buffered = omega arith; taken = omega arith })

-- ---- how it stops

-- a fault of the input stops a run with what was appended
pub input_stops : (leaves : List Batch → List (List Batch) → Type 0) (list : List Batch) (text : List ℕ) (after : List Batch) (f : InputFault) → StopsAs stop.Memory leaves list text after → StopsAs (stop_of_input f) leaves list text after
input_stops leaves list text after input.Failed front = front
input_stops leaves list text after input.TooMuch front = front
input_stops leaves list text after input.Memory front = front

-- all that is held was let go
pub all_dropped : (xs ys : List ℕ) → ys ≡ xs → drop (length ys) xs ≡ []
all_dropped xs ys same = ap (λ (n : ℕ). drop n xs) (ap length same) ∙ by xs
  where
    by : (xs : List ℕ) → drop (length xs) xs ≡ []
    by [] = refl
    by (x ∷ xs) = by xs
