-- Fronts of what is printed.
use Rattle.std.proofs.Common.{◌≡◌, ℕ, List, [], ◌++◌, take, drop, Option, Result, Ok, Err, OnErr, refl, sym, ap, ◌∙◌, append_assoc, append-nil, subst}
use Rattle.std.proofs.lemmas.List.{take-append-drop}
use Rattle.std.proofs.KnownBytes.{Appends-trans, Appends-nil}
use Rattle.std.specs.Io.KnownBytes.{Appends}
use Rattle.gd_outside.specs.Gains.{GainsFront}

-- a fact that holds anyway, of an error
pub at_err : {T E P : Type 0} (r : Result T E) → P → OnErr r P
at_err (Ok x) p = tt
at_err (Err e) p = p

-- the first so many bytes
pub front_of : (old new : Option (List ℕ)) (bytes : List ℕ) (n : ℕ) → Appends old new (take n bytes) → GainsFront old new bytes
front_of old new bytes n gained = record { piece = take n bytes; rest = drop n bytes; parts = take-append-drop n bytes; gained = gained }

-- the first so many bytes, and then none
pub front_stuck : (old mid new : Option (List ℕ)) (bytes rest : List ℕ) (w n : ℕ) → n ≡ 0 → Appends old mid (take w bytes) → Appends mid new (take n rest) → GainsFront old new bytes
front_stuck old mid new bytes rest w n none first then = front_of old new bytes w
    (subst (Appends old new) (ap (λ (m : ℕ). take w bytes ++ take m rest) none ∙ append-nil (take w bytes)) (Appends-trans old mid new (take w bytes) (take n rest) first then))

-- a front of the first part
pub front_first : (old new : Option (List ℕ)) (xs ys : List ℕ) → GainsFront old new xs → GainsFront old new (xs ++ ys)
front_first old new xs ys front = record { piece = front.piece; rest = front.rest ++ ys; parts = sym (append_assoc front.piece front.rest ys) ∙ ap (λ (zs : List ℕ). zs ++ ys) front.parts; gained = front.gained }

-- the first part and a front of the second
pub front_second : (old mid new : Option (List ℕ)) (xs ys : List ℕ) → Appends old mid xs → GainsFront mid new ys → GainsFront old new (xs ++ ys)
front_second old mid new xs ys first front = record {
  piece = xs ++ front.piece;
  rest = front.rest;
  parts = append_assoc xs front.piece front.rest ∙ ap (λ (zs : List ℕ). xs ++ zs) front.parts;
  gained = Appends-trans old mid new xs front.piece first front.gained;
}

-- nothing of it
pub front_none : (held : Option (List ℕ)) (whole : List ℕ) → GainsFront held held whole
front_none held whole = record { piece = []; rest = whole; parts = refl; gained = Appends-nil held }
