-- Fronts of what is printed.
use Rattle.std.proofs.Common.{◌≡◌, ℕ, zero, suc, ◌+◌, ◌<◌, ◌≤◌, List, [], ◌∷◌, ◌++◌, length, map, take, drop, slice_get, get_or, Option, Some, option_map, Result, Ok, Err, OnErr, refl, sym, ap, subst, ◌∙◌, arith, append-nil, take_all}
use Rattle.std.proofs.lemmas.Grind.{flat_map-append}
use Rattle.std.proofs.lemmas.Option.{slice_get-get_or}
use Rattle.std.proofs.KnownBytes.{Appends-trans}
use Rattle.std.specs.Io.KnownBytes.{Appends}
use Rattle.gd_runs.specs.Explained.{memory_line}
use Rattle.gd_runs.proofs.Rounds.{some_same, no_some}
use Rattle.gd_reply.specs.declared.reply.Reply.{Reply}
use Rattle.gd_reply.specs.Replies.{reply_text}
use Rattle.gd_round_lines.specs.Replies.{no_memory}
use Rattle.gd_threads.specs.PassedOn.{printed}
use Rattle.gd_outside.specs.Gains.{GainsFront}
use Rattle.gd_outside.proofs.Fronts.{front_first, front_second}

-- ---- replies, one after another

pub printed-append : (xs ys : List (List ℕ)) → printed (xs ++ ys) ≡ printed xs ++ printed ys
printed-append xs ys = flat_map-append (λ (reply : List ℕ). reply ++ 10 ∷ []) xs ys

got_map : {A B : Type 0} (f : A → B) (xs : List A) (k : ℕ) (x : A) → slice_get xs k ≡ Some x → slice_get (map f xs) k ≡ Some (f x)
got_map f [] k x is = no_some is
got_map f (a ∷ xs) zero x is = ap (λ o. option_map f o) is
got_map f (a ∷ xs) (suc k) x is = got_map f xs k x is

-- the reply that a loop is at
pub reply_at : (rs : List Reply) (i : ℕ) (r : Reply) → i < length rs → r ≡ get_or rs i r → slice_get (map reply_text rs) i ≡ Some (reply_text r)
reply_at rs i r within is = got_map reply_text rs i r (slice_get-get_or rs i r within ∙ ap Some (sym is))

pub passed_at : (first n k : ℕ) → k < n → slice_get (no_memory first n) k ≡ Some (memory_line (first + k))
passed_at first zero k within = absurd (omega (arith, within))
passed_at first (suc n) zero within = ap (λ (line : ℕ). Some (memory_line line)) (omega arith)
passed_at first (suc n) (suc k) within = passed_at (first + 1) n k (omega (arith, within)) ∙ ap (λ (line : ℕ). Some (memory_line line)) (omega arith)

pub length-passed : (first n : ℕ) → length (no_memory first n) ≡ n
length-passed first zero = refl
length-passed first (suc n) = ap suc (length-passed (first + 1) n)

taken : (ts : List (List ℕ)) (i : ℕ) (t : List ℕ) → slice_get ts i ≡ Some t → take (suc i) ts ≡ take i ts ++ t ∷ []
taken [] i t is = no_some is
taken (u ∷ us) zero t is = ap (λ (x : List ℕ). x ∷ []) (some_same is)
taken (u ∷ us) (suc i) t is = ap (λ (xs : List (List ℕ)). u ∷ xs) (taken us i t is)

parted : (ts : List (List ℕ)) (i : ℕ) (t : List ℕ) → slice_get ts i ≡ Some t → take i ts ++ (t ∷ drop (suc i) ts) ≡ ts
parted [] i t is = no_some is
parted (u ∷ us) zero t is = ap (λ (x : List ℕ). x ∷ us) (sym (some_same is))
parted (u ∷ us) (suc i) t is = ap (λ (xs : List (List ℕ)). u ∷ xs) (parted us i t is)

printed-one : (t : List ℕ) → printed (t ∷ []) ≡ t ++ 10 ∷ []
printed-one t = append-nil (t ++ 10 ∷ [])

-- one more was printed
pub printed_more : (old mid new : Option (List ℕ)) (ts : List (List ℕ)) (i : ℕ) (t : List ℕ) → slice_get ts i ≡ Some t → Appends old mid (printed (take i ts)) → Appends mid new (t ++ 10 ∷ []) → Appends old new (printed (take (suc i) ts))
printed_more old mid new ts i t is before here =
    subst (λ (out : List ℕ). Appends old new out) (sym (ap printed (taken ts i t is) ∙ printed-append (take i ts) (t ∷ []) ∙ ap (λ (out : List ℕ). printed (take i ts) ++ out) (printed-one t)))
    (Appends-trans old mid new (printed (take i ts)) (t ++ 10 ∷ []) before here)

-- one was not printed in full
pub printed_stops : (old mid new : Option (List ℕ)) (ts : List (List ℕ)) (i : ℕ) (t : List ℕ) → slice_get ts i ≡ Some t → Appends old mid (printed (take i ts)) → GainsFront mid new (t ++ 10 ∷ []) → GainsFront old new (printed ts)
printed_stops old mid new ts i t is before front =
    subst (GainsFront old new) (sym (printed-append (take i ts) (t ∷ drop (suc i) ts)) ∙ ap printed (parted ts i t is))
    (front_second old mid new (printed (take i ts)) (printed (t ∷ drop (suc i) ts)) before (front_first mid new (t ++ 10 ∷ []) (printed (drop (suc i) ts)) front))

-- all were
pub printed_all : (old new : Option (List ℕ)) (ts : List (List ℕ)) (i : ℕ) → length ts ≤ i → Appends old new (printed (take i ts)) → Appends old new (printed ts)
printed_all old new ts i long gained = subst (λ (xs : List (List ℕ)). Appends old new (printed xs)) (take_all i ts long) gained
