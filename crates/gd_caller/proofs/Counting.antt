-- What sessions keep of the replies to reads, counted one after another.
use Rattle.std.proofs.Common.{◌≡◌, ◌⊎◌, inl, inr, ⊎_elim, refl, ℕ, zero, suc, ◌+◌, ◌-◌, ◌<◌, ◌≤◌, ◌^◌, List, [], ◌∷◌, ◌++◌, length, map, take, drop, set, Option, Some, None, slice_get, sym, subst, ap, ◌∙◌, arith, take_all, take-append-drop}
use Rattle.std.specs.Prelude.{IfSome}
use Rattle.gd_prim.specs.declared.Batch.{Batch}
use Rattle.gd_runs.specs.Request.{reply_of}
use Rattle.gd_runs.specs.Side.{Kept, Told}
use Rattle.gd_runs.proofs.Rounds.{no_some, some_same, reply_kept_at}
use Rattle.std.specs.List.{AllByRecursion}
use Rattle.gd_core_laws.specs.Bounds.{kept_of}
use Rattle.gd_core_laws.specs.Writes.{RisesBy}
use Rattle.gd_mql.specs.Requests.{read_set_view}
use Rattle.gd_lookup.specs.Keeping.{KeepingValue, CountsReply}
use Rattle.gd_round_lines.specs.declared.work.ReadLine.{ReadLine}
use Rattle.gd_round_lines.specs.declared.work.WriteLine.{WriteLine}
use Rattle.gd_round_lines.specs.declared.worked.Worked.{Worked}
use Rattle.gd_round_lines.specs.Works.{AreApart}
use Rattle.gd_round_lines.specs.Worked.{IsWorked}
use Rattle.gd_round_lines.proofs.Sets.{there, less_or}
use Rattle.gd_caller.specs.Counts.{CountsPut, CountsRead, CountsReads}
use Rattle.gd_caller.specs.Joined.{IsOfWrites}
use Rattle.gd_caller.specs.Reads.{IsReplyTo}
use Rattle.gd_caller.specs.Told.{reply_or}
use Rattle.gd_caller.proofs.Joins.{kept_write, rise_same}

-- ---- replies over what is shown

short : (n : ℕ) (xs : List Batch) → n ≤ length xs → length (take n xs) ≡ n
short zero xs within = refl
short (suc n) [] within = absurd (omega (arith, within))
short (suc n) (x ∷ xs) within = ap suc (short n xs (omega (arith, within)))

-- the reply over what is shown is that over all batches
pub shown_reply : (batches : List Batch) (shown at k : ℕ) (r : ReadLine) → at ≤ shown → shown ≤ length batches → reply_of (take shown batches) at k (read_set_view r.request) ≡ reply_of batches at k (read_set_view r.request)
shown_reply batches shown at k r below within =
    let long = short shown batches within in
    sym (reply_kept_at (take shown batches) (drop shown batches) at k (read_set_view r.request) (omega (arith, long, below))) ∙ ap (λ (bs : List Batch). reply_of bs at k (read_set_view r.request)) (take-append-drop shown batches)

pub shown_long : (batches : List Batch) (shown at : ℕ) → at ≤ shown → shown ≤ length batches → at ≤ length (take shown batches)
shown_long batches shown at below within = let long = short shown batches within in omega (arith, long, below)

-- what a worker kept of a read is the reply to it over what is shown
pub is_reply_to : (first : ℕ) (reads : List ReadLine) (batches : List Batch) (shown n : ℕ) (r : ReadLine) (o : Option Worked) → shown ≤ length batches → RisesBy (λ (a : ReadLine). a.line) reads → slice_get reads n ≡ Some r → first ≤ r.line
    → ((w : Worked) → o ≡ Some w → IsWorked first reads batches shown (r.line - first) w) → IfSome o (IsReplyTo batches shown r)
is_reply_to first reads batches shown n r None within rise at_r low is = tt
is_reply_to first reads batches shown n r (Some w) within rise at_r low is =
    let of = is w refl in
    let line : of.read.line ≡ r.line = let at = of.line in omega (arith, at, low) in
    let same : of.read ≡ r = rise_same reads n of.place r of.read rise at_r of.there line in
    let inside = of.within in
    let below = of.below in
    let here : w.at ≤ shown = omega (arith, inside, below) in (
      here,
      subst (λ (q : ReadLine). w.reply.items ≡ reply_of (take shown batches) w.at q.line (read_set_view q.request)) same
          (of.is ∙ ap (λ (bs : List Batch). reply_of bs w.at of.read.line (read_set_view of.read.request)) of.begins ∙ shown_reply batches (length of.entered) w.at of.read.line of.read inside (omega (arith, below, within))
          ∙ sym (shown_reply batches shown w.at of.read.line of.read here within)),
    )

-- what fits of it is what was kept
pub fitting_reply : (batches : List Batch) (shown : ℕ) (r : ReadLine) (o : Option Worked) (w : Worked) → o ≡ Some w → IfSome o (IsReplyTo batches shown r) → IsReplyTo batches shown r w
fitting_reply batches shown r o w is kept = subst (λ (x : Option Worked). IfSome x (IsReplyTo batches shown r)) is kept

-- ---- reads, one after another

set_here : (xs : List (List ℕ)) (p : ℕ) (x : List ℕ) → p < length xs → slice_get (set xs p x) p ≡ Some x
set_here [] p x within = absurd (omega (arith, within))
set_here (y ∷ xs) zero x within = refl
set_here (y ∷ xs) (suc p) x within = set_here xs p x (omega (arith, within))

set_other : (xs : List (List ℕ)) (p j : ℕ) (x : List ℕ) → (j ≡ p → ⊥) → slice_get (set xs p x) j ≡ slice_get xs j
set_other [] p j x other = refl
set_other (y ∷ xs) zero zero x other = absurd (other refl)
set_other (y ∷ xs) zero (suc j) x other = refl
set_other (y ∷ xs) (suc p) zero x other = refl
set_other (y ∷ xs) (suc p) (suc j) x other = set_other xs p j x (λ is. other (ap suc is))

-- a reply that was put is at its place alone
put_other : (first : ℕ) (r : ReadLine) (texts now : List (List ℕ)) (old new : KeepingValue) (j : ℕ) → CountsPut first r texts now old new → (j ≡ r.line - first → ⊥) → slice_get now j ≡ slice_get texts j
put_other first r texts now old new j put other = ⊎_elim
    (λ (reply, is, counts). ap (λ (l : List (List ℕ)). slice_get l j) is ∙ set_other texts (r.line - first) j reply other)
    (λ (is, same). ap (λ (l : List (List ℕ)). slice_get l j) is)
    put

put_here : (first : ℕ) (texts was now : List (List ℕ)) (r : ReadLine) (old new : KeepingValue) → r.line - first < length was → slice_get was (r.line - first) ≡ slice_get texts (r.line - first) → CountsPut first r was now old new → CountsRead first texts now old r new
put_here first texts was now r old new within before put = ⊎_elim
    (λ (reply, is, counts). inl (reply, ap (λ (l : List (List ℕ)). slice_get l (r.line - first)) is ∙ set_here was (r.line - first) reply within, counts))
    (λ (is, same). inr (ap (λ (l : List (List ℕ)). slice_get l (r.line - first)) is ∙ before, same))
    put

-- what was counted of reads, where the replies at their places stay
reads_stay : (first : ℕ) (texts now next : List (List ℕ)) (rs : List ReadLine) (old new : KeepingValue) → ((x : ℕ) (q : ReadLine) → slice_get rs x ≡ Some q → slice_get next (q.line - first) ≡ slice_get now (q.line - first)) → CountsReads first texts now old rs new → CountsReads first texts next old rs new
reads_stay first texts now next [] old new same counts = counts
reads_stay first texts now next (r ∷ rs) old new same (mid, one, rest) = (
  mid,
  ⊎_elim
      (λ (reply, at, counts). inl (reply, same 0 r refl ∙ at, counts))
      (λ (at, none). inr (same 0 r refl ∙ at, none))
      one,
  reads_stay first texts now next rs mid new (λ x q at. same (suc x) q at) rest,
)

reads_push : (first : ℕ) (texts now : List (List ℕ)) (rs : List ReadLine) (r : ReadLine) (old mid new : KeepingValue) → CountsReads first texts now old rs mid → CountsRead first texts now mid r new → CountsReads first texts now old (rs ++ r ∷ []) new
reads_push first texts now [] r old mid new counts one = (new, subst (λ (k : KeepingValue). CountsRead first texts now k r new) counts one, refl)
reads_push first texts now (q ∷ rs) r old mid new (next, here, rest) one = (next, here, reads_push first texts now rs r next mid new rest one)

-- where the first replies at the places of reads are others' it is the same
pub reads_from : (first : ℕ) (texts was now : List (List ℕ)) (rs : List ReadLine) (old new : KeepingValue) → ((x : ℕ) (q : ReadLine) → slice_get rs x ≡ Some q → slice_get was (q.line - first) ≡ slice_get texts (q.line - first)) → CountsReads first was now old rs new → CountsReads first texts now old rs new
reads_from first texts was now [] old new same counts = counts
reads_from first texts was now (r ∷ rs) old new same (mid, one, rest) = (
  mid,
  ⊎_elim (λ is. inl is) (λ (at, none). inr (at ∙ same 0 r refl, none)) one,
  reads_from first texts was now rs mid new (λ x q at. same (suc x) q at) rest,
)

take_there : (rs : List ReadLine) (n x : ℕ) (q : ReadLine) → slice_get (take n rs) x ≡ Some q → (x < n) × (slice_get rs x ≡ Some q)
take_there rs zero x q at = no_some at
take_there [] (suc n) x q at = no_some at
take_there (r ∷ rs) (suc n) zero q at = (omega arith, at)
take_there (r ∷ rs) (suc n) (suc x) q at = let (less, here) = take_there rs n x q at in (omega (arith, less), here)

take_next : (rs : List ReadLine) (n : ℕ) (r : ReadLine) → slice_get rs n ≡ Some r → take (n + 1) rs ≡ take n rs ++ r ∷ []
take_next [] n r at = no_some at
take_next (q ∷ rs) zero r at = ap (λ (z : ReadLine). z ∷ []) (some_same at)
take_next (q ∷ rs) (suc n) r at = let more : suc n + 1 ≡ suc (n + 1) = omega arith in ap (λ (k : ℕ). take k (q ∷ rs)) more ∙ ap (λ (zs : List ReadLine). q ∷ zs) (take_next rs n r at)

-- The first n reads were counted; at the places of the others the first replies stand.
pub record Counting (first : ℕ) (texts now : List (List ℕ)) (reads : List ReadLine) (n : ℕ) (old new : KeepingValue) : Type 0 where
  pub counted : CountsReads first texts now old (take n reads) new
  pub behind : (x : ℕ) (q : ReadLine) → slice_get reads x ≡ Some q → n ≤ x → slice_get now (q.line - first) ≡ slice_get texts (q.line - first)

pub counting_none : (first : ℕ) (texts : List (List ℕ)) (reads : List ReadLine) (old : KeepingValue) → Counting first texts texts reads 0 old old
counting_none first texts reads old = record { counted = refl; behind = λ x q at more. refl }

-- LAW: one read more was counted
pub counting_more : (first : ℕ) (texts now next : List (List ℕ)) (reads : List ReadLine) (n : ℕ) (r : ReadLine) (old mid new : KeepingValue) → RisesBy (λ (a : ReadLine). a.line) reads → ((x : ℕ) (q : ReadLine) → slice_get reads x ≡ Some q → first ≤ q.line) → slice_get reads n ≡ Some r
    → r.line - first < length now → Counting first texts now reads n old mid → CountsPut first r now next mid new → Counting first texts next reads (n + 1) old new
counting_more first texts now next reads n r old mid new rise low at_r within c put = record {
  counted = subst (λ (rs : List ReadLine). CountsReads first texts next old rs new) (sym (take_next reads n r at_r))
      (reads_push first texts next (take n reads) r old mid new
      (reads_stay first texts now next (take n reads) old mid (λ x q at. let (less, here) = take_there reads n x q at in put_other first r now next mid new (q.line - first) put (before x q less here)) c.counted)
      (put_here first texts now next r mid new within (c.behind n r at_r (omega arith)) put));
  behind = λ x q at more. put_other first r now next mid new (q.line - first) put (after x q (omega (arith, more)) at) ∙ c.behind x q at (omega (arith, more));
}
  where
    before : (x : ℕ) (q : ReadLine) → x < n → slice_get reads x ≡ Some q → q.line - first ≡ r.line - first → ⊥
    before x q less at same = let line = rise x n q r less at at_r in let a = low x q at in let b = low n r at_r in omega (arith, line, a, b, same)

    after : (x : ℕ) (q : ReadLine) → n < x → slice_get reads x ≡ Some q → q.line - first ≡ r.line - first → ⊥
    after x q more at same = let line = rise n x r q more at_r at in let a = low x q at in let b = low n r at_r in omega (arith, line, a, b, same)

pub counting_end : (first : ℕ) (texts now : List (List ℕ)) (reads : List ReadLine) (n : ℕ) (old new : KeepingValue) → length reads ≤ n → Counting first texts now reads n old new → CountsReads first texts now old reads new
counting_end first texts now reads n old new all c = subst (λ (rs : List ReadLine). CountsReads first texts now old rs new) (take_all n reads all) c.counted

-- ---- reads of a round whose writes were told

-- at the place of a read what was told is the first reply
pub told_first : (first : ℕ) (reads : List ReadLine) (writes : List WriteLine) (outs : List Told) (texts told : List (List ℕ)) → AreApart reads writes → AllByRecursion (IsOfWrites writes) outs → length told ≡ length texts
    → ((j : ℕ) (x : List ℕ) → slice_get told j ≡ Some x → (y : List ℕ) × (slice_get texts j ≡ Some y) × (x ≡ reply_or (first + j) y (kept_of outs (first + j)))) → (x : ℕ) (q : ReadLine) → slice_get reads x ≡ Some q → first ≤ q.line → q.line - first < length texts
    → slice_get told (q.line - first) ≡ slice_get texts (q.line - first)
told_first first reads writes outs texts told apart of many tells x q at low within =
    let p = q.line - first in
    let here : first + p ≡ q.line = omega (arith, low) in
    let (t, at_t) = there told p (omega (arith, within, many)) in
    let (y, at_y, is) = tells p t at_t in
    let none : kept_of outs (first + p) ≡ None = by (kept_of outs (first + p)) refl here in
    at_t ∙ ap Some (is ∙ ap (reply_or (first + p) y) none) ∙ sym at_y
  where
    by : (o : Option Kept) → kept_of outs (first + (q.line - first)) ≡ o → first + (q.line - first) ≡ q.line → kept_of outs (first + (q.line - first)) ≡ None
    by None is here = is
    by (Some kept) is here = let (y, w, at_w, line) = kept_write writes outs (first + (q.line - first)) kept of is in absurd (apart x y q w at at_w (sym (line ∙ here)))
