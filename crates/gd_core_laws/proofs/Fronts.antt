-- Writes append to a history, and what a stop leaves of them is a front of what they end with.
use Rattle.std.proofs.Common.{◌≡◌, refl, ℕ, zero, suc, ◌+◌, ◌≤◌, ◌⊎◌, inl, inr, ⊎_elim, Bool, true, false, ◌==◌, if◌then◌else◌, List, [], ◌∷◌, ◌++◌, length, map, take, Option, None, Some, sym, subst, ap, ◌∙◌, arith, append-nil, take_all, length-append}
use Rattle.std.proofs.lemmas.List.{take-append-le, map-append, length-map}
use mathlib.Core.List.{IsPrefix}
use Rattle.gd_prim.specs.declared.Batch.{Batch}
use Rattle.gd_defs.specs.Write.{WriteRequest}
use Rattle.gd_bytes.specs.File.{StandsFor, MayStandFor}
use Rattle.gd_runs.specs.Legal.{Entry, History, batches, size, with_entry}
use Rattle.gd_runs.specs.Core.{State, Settles}
use Rattle.gd_runs.specs.Side.{Kept, kept_doubt, Told, told_of, doubt_groups, IsLeft, WriteKeeps, stores, stores_late, refuses, doubts, leaves_doubt, lacks_memory, lacks_memory_settled}
use Rattle.gd_runs.proofs.Rounds.{no_some, some_same}
use Rattle.gd_core_laws.proofs.Lock.{same_numbers}
use Rattle.gd_core_laws.proofs.Reading.{same_number}
use Rattle.gd_core_laws.specs.Bounds.{kept_of}
use Rattle.gd_core_laws.specs.Fronts.{StandsForFront, MayCount, StandsBetween, GrowsTold}

-- ---- lists

module _ {A : Type 0} where
  pub begins_itself : (xs : List A) → IsPrefix xs xs
  begins_itself xs = ([], append-nil xs)

  behind_both : (xs a b : List A) → xs ++ (a ++ b) ≡ (xs ++ a) ++ b
  behind_both [] a b = refl
  behind_both (x ∷ xs) a b = ap (λ (ys : List A). x ∷ ys) (behind_both xs a b)

  pub begins_then : (xs ys zs : List A) → IsPrefix xs ys → IsPrefix ys zs → IsPrefix xs zs
  begins_then xs ys zs (a, p) (b, q) = (a ++ b, behind_both xs a b ∙ ap (λ (l : List A). l ++ b) p ∙ q)

  pub begins_shorter : (xs ys : List A) → IsPrefix xs ys → length xs ≤ length ys
  begins_shorter xs ys (more, is) = let long = ap length is in omega (arith, long, length-append xs more)

  begins_within : (n : ℕ) (xs ys : List A) → n ≤ length xs → IsPrefix xs ys → take n ys ≡ take n xs
  begins_within n xs ys within (more, is) = ap (take n) (sym is) ∙ take-append-le n xs more within

-- ---- what is in doubt

-- the size of a history is the number of its batches
pub size_is : (h : History) → length (batches h) ≡ size h
size_is h = length-append h.loaded (map (λ (e : Entry). e.batch) h.entries) ∙ ap (λ (n : ℕ). length h.loaded + n) (length-map h.entries (λ (e : Entry). e.batch))

-- what is kept of a line stays
kept_more : (o more : List Told) (k : ℕ) (x : Kept) → kept_of o k ≡ Some x → kept_of (o ++ more) k ≡ Some x
kept_more [] more k x is = no_some is
kept_more (t ∷ ts) more k x is = by (t.line == k) refl is (kept_more ts more k x)
  where
    by : (b : Bool) → (t.line == k) ≡ b → (if b then Some t.kept else kept_of ts k) ≡ Some x → (kept_of ts k ≡ Some x → kept_of (ts ++ more) k ≡ Some x) → kept_of (t ∷ (ts ++ more)) k ≡ Some x
    by true same found rest = rw same found
    by false other found rest = rw other (rest found)

told_more : (o q : List Told) (k : ℕ) (x : Kept) → IsPrefix o q → kept_of o k ≡ Some x → kept_of q k ≡ Some x
told_more o q k x (more, is) kept = subst (λ (l : List Told). kept_of l k ≡ Some x) is (kept_more o more k x kept)

-- what was kept last is found, if nothing was kept of its line
kept_last : (o : List Told) (k : ℕ) (x : Kept) → IsLeft o k → kept_of (o ++ told_of k x ∷ []) k ≡ Some x
kept_last [] k x left = ap (λ (b : Bool). if b then Some x else None) (same_number k)
kept_last (t ∷ ts) k x left = by (t.line == k) refl (kept_last ts k x (λ i u at line. left (suc i) u at line))
  where
    by : (b : Bool) → (t.line == k) ≡ b → kept_of (ts ++ told_of k x ∷ []) k ≡ Some x → kept_of (t ∷ (ts ++ told_of k x ∷ [])) k ≡ Some x
    by true same rest = absurd (left 0 t refl (same_numbers t.line k same))
    by false other rest = rw other rest

-- where more is kept
pub may_more : (h : History) (doubt : Option Entry) (o q : List Told) (n : ℕ) (b : Batch) → IsPrefix o q → MayCount h doubt o n b → MayCount h doubt q n b
may_more h doubt o q n b begins (e, is, why) = (e, is, ⊎_elim (λ first. inl first) (λ told. inr (told_more o q e.line (kept_doubt n) begins told)) why)

same_batch : (h : History) (doubt : Option Entry) (o : List Told) (n m : ℕ) (a b : Batch) → n ≡ m → a ≡ b → MayCount h doubt o n a → MayCount h doubt o m b
same_batch h doubt o n m a b number batch may = subst (λ (k : ℕ). MayCount h doubt o k b) number (subst (λ (x : Batch). MayCount h doubt o n x) batch may)

-- what is in doubt behind a later history is so behind the first one
pub may_before : (h : History) (doubt : Option Entry) (o : List Told) (g : History) (doubt_now : Option Entry) (q all : List Told) (n : ℕ) (b : Batch) → GrowsTold h doubt o g doubt_now q → IsPrefix q all → MayCount g doubt_now all n b → MayCount h doubt all n b
may_before h doubt o g doubt_now q all n b grows begins (e, is, why) = ⊎_elim
    (λ first. same_batch h doubt all (size g) n e.batch b (sym first.1) is (may_more h doubt q all (size g) e.batch begins (grows.doubted e first.0)))
    (λ told. (e, is, inr told))
    why

-- ---- growing

pub grows_none : (h : History) (doubt : Option Entry) (o : List Told) → GrowsTold h doubt o h doubt o
grows_none h doubt o = record { grown = begins_itself (batches h); kept = begins_itself o; doubted = λ e is. (e, refl, inl (is, refl)) }

pub grows_then : (h : History) (doubt : Option Entry) (o : List Told) (g : History) (doubt_mid : Option Entry) (p : List Told) (f : History) (doubt_now : Option Entry) (q : List Told)
    → GrowsTold h doubt o g doubt_mid p → GrowsTold g doubt_mid p f doubt_now q → GrowsTold h doubt o f doubt_now q
grows_then h doubt o g doubt_mid p f doubt_now q first second = record {
  grown = begins_then (batches h) (batches g) (batches f) first.grown second.grown;
  kept = begins_then o p q first.kept second.kept;
  doubted = λ e is. may_before h doubt o g doubt_mid p q (size f) e.batch first second.kept (second.doubted e is);
}

-- ---- a write

more_batches : (h : History) (e : Entry) → IsPrefix (batches h) (batches (with_entry h e))
more_batches h e = (
  e.batch ∷ [],
  sym (behind_both h.loaded (map (λ (x : Entry). x.batch) h.entries) (e.batch ∷ [])) ∙ sym (ap (λ (bs : List Batch). h.loaded ++ bs) (map-append (λ (x : Entry). x.batch) h.entries (e ∷ []))),
)

same_history : (a b : History) → a ≡ b → IsPrefix (batches b) (batches a)
same_history a b is = subst (λ (h : History). IsPrefix (batches b) (batches h)) (sym is) (begins_itself (batches b))

grown_by : (s t : State) (e : Entry) → t.history ≡ with_entry s.history e → IsPrefix (batches s.history) (batches t.history)
grown_by s t e is = subst (λ (h : History). IsPrefix (batches s.history) (batches h)) (sym is) (more_batches s.history e)

-- settling appends, and ends a doubt
settles_grown : (s t : State) → Settles s t → IsPrefix (batches s.history) (batches t.history)
settles_grown s t settles = by s.doubt refl
  where
    by : (d : Option Entry) → s.doubt ≡ d → IsPrefix (batches s.history) (batches t.history)
    by None is = same_history t.history s.history (ap (λ (x : State). x.history) (rw is at settles))
    by (Some e) is = ⊎_elim
        (λ drops. same_history t.history s.history (ap (λ (x : State). x.history) drops))
        (λ counts. ⊎_elim (λ shows. grown_by s t e (ap (λ (x : State). x.history) shows)) (λ late. grown_by s t e (ap (λ (x : State). x.history) late)) counts)
        (rw is at settles)

settles_none : (s t : State) → Settles s t → t.doubt ≡ None
settles_none s t settles = by s.doubt refl
  where
    by : (d : Option Entry) → s.doubt ≡ d → t.doubt ≡ None
    by None is = ap (λ (x : State). x.doubt) (rw is at settles)
    by (Some e) is = ⊎_elim
        (λ drops. ap (λ (x : State). x.doubt) drops)
        (λ counts. ⊎_elim (λ shows. ap (λ (x : State). x.doubt) shows) (λ late. ap (λ (x : State). x.doubt) late) counts)
        (rw is at settles)

write_grown : (may : ℕ → Bool) (s : State) (k bytes : ℕ) (w : WriteRequest) (kept : Kept) (t : State) → WriteKeeps may s k bytes w kept t → IsPrefix (batches s.history) (batches t.history)
write_grown may s k bytes w _ _ (stores t e can) = begins_then (batches s.history) (batches t.history) (batches (with_entry t.history e)) (settles_grown s t can.settled) (more_batches t.history e)
write_grown may s k bytes w _ _ (stores_late t e can) = begins_then (batches s.history) (batches t.history) (batches (with_entry t.history e)) (settles_grown s t can.settled) (more_batches t.history e)
write_grown may s k bytes w _ _ (refuses t moment f settled does) = settles_grown s t settled
write_grown may s k bytes w _ _ (doubts t e can) = settles_grown s t can.settled
write_grown may s k bytes w _ _ (leaves_doubt e is) = begins_itself (batches s.history)
write_grown may s k bytes w _ _ lacks_memory = begins_itself (batches s.history)
write_grown may s k bytes w _ _ (lacks_memory_settled t settled) = settles_grown s t settled

-- what is in doubt behind a write was so before it, behind the same history, or the write says so
write_doubted : (may : ℕ → Bool) (s : State) (k bytes : ℕ) (w : WriteRequest) (o : List Told) (kept : Kept) (t : State) → IsLeft o k → WriteKeeps may s k bytes w kept t → (e : Entry) → t.doubt ≡ Some e → MayCount s.history s.doubt (o ++ told_of k kept ∷ []) (size t.history) e.batch
write_doubted may s k bytes w o _ _ left (stores t d can) e is = no_some (sym (settles_none s t can.settled) ∙ is)
write_doubted may s k bytes w o _ _ left (stores_late t d can) e is = no_some (sym (settles_none s t can.settled) ∙ is)
write_doubted may s k bytes w o _ _ left (refuses t moment f settled does) e is = no_some (sym (settles_none s t settled) ∙ is)
write_doubted may s k bytes w o _ _ left (doubts t d can) e is = (
  d,
  ap (λ (x : Entry). x.batch) (some_same is),
  inr (subst (λ (n : ℕ). kept_of (o ++ told_of k (kept_doubt (size t.history)) ∷ []) n ≡ Some (kept_doubt (size t.history))) (sym can.line) (kept_last o k (kept_doubt (size t.history)) left)),
)
write_doubted may s k bytes w o _ _ left (leaves_doubt d was) e is = (e, refl, inl (is, refl))
write_doubted may s k bytes w o _ _ left lacks_memory e is = (e, refl, inl (is, refl))
write_doubted may s k bytes w o _ _ left (lacks_memory_settled t settled) e is = no_some (sym (settles_none s t settled) ∙ is)

-- LAW: a write appends to the history and to what is kept, and tells what is in doubt then
pub grows_write : (may : ℕ → Bool) (s : State) (k bytes : ℕ) (w : WriteRequest) (o : List Told) (kept : Kept) (t : State) → IsLeft o k → WriteKeeps may s k bytes w kept t → GrowsTold s.history s.doubt o t.history t.doubt (o ++ told_of k kept ∷ [])
grows_write may s k bytes w o kept t left step = record {
  grown = write_grown may s k bytes w kept t step;
  kept = (told_of k kept ∷ [], refl);
  doubted = write_doubted may s k bytes w o kept t left step;
}

-- ---- fronts

module _ (old : List Batch) (Old New : ℕ → Batch → Type 0) where
  -- a front of a list is one of each that begins with it
  pub front_more : (mid new : List Batch) (file : List ℕ) → ((n : ℕ) (b : Batch) → Old n b → New n b) → IsPrefix mid new → StandsForFront old mid Old file → StandsForFront old new New file
  front_more mid new file more begins front =
      let shorter = begins_shorter mid new begins in
      let most = front.most in
      let same : take front.count mid ≡ take front.count new = sym (begins_within front.count mid new most begins) in
      record {
        begins = begins_then old mid new front.begins begins;
        count = front.count;
        least = front.least;
        most = omega (arith, most, shorter);
        stands = ⊎_elim
            (λ all. inl (subst (λ (bs : List Batch). StandsFor file bs) same all))
            (λ (b, doubted, stands). inr (b, more front.count b doubted, subst (λ (bs : List Batch). StandsFor file (bs ++ b ∷ [])) same stands))
            front.stands;
      }

  -- a front that has a later list has an earlier one
  pub front_before : (mid new : List Batch) (file : List ℕ) → ((n : ℕ) (b : Batch) → Old n b → New n b) → IsPrefix old mid → StandsForFront mid new Old file → StandsForFront old new New file
  front_before mid new file more begins front =
      let shorter = begins_shorter old mid begins in
      let least = front.least in
      record {
        begins = begins_then old mid new begins front.begins;
        count = front.count;
        least = omega (arith, least, shorter);
        most = front.most;
        stands = ⊎_elim (λ all. inl all) (λ (b, doubted, stands). inr (b, more front.count b doubted, stands)) front.stands;
      }

-- what stands for a history, with all or none of the group in doubt, stands for a front of it
pub front_whole : (old : List Batch) (h : History) (doubt : Option Entry) (InDoubt : ℕ → Batch → Type 0) (file : List ℕ) → IsPrefix old (batches h) → ((e : Entry) → doubt ≡ Some e → InDoubt (size h) e.batch) → MayStandFor (batches h) (doubt_groups doubt) file → StandsForFront old (batches h) InDoubt file
front_whole old h doubt InDoubt file begins doubted stands = record {
  begins = begins;
  count = size h;
  least = let shorter = begins_shorter old (batches h) begins in let long = size_is h in omega (arith, shorter, long);
  most = let long = size_is h in omega (arith, long);
  stands = by doubt refl;
}
  where
    whole : batches h ≡ take (size h) (batches h)
    whole = sym (take_all (size h) (batches h) (let long = size_is h in omega (arith, long)))

    by : (d : Option Entry) → doubt ≡ d → StandsFor file (take (size h) (batches h)) ⊎ ((b : Batch) × InDoubt (size h) b × StandsFor file (take (size h) (batches h) ++ b ∷ []))
    by None is = inl (subst (λ (bs : List Batch). StandsFor file bs) whole (rw is at stands))
    by (Some e) is = ⊎_elim
        (λ all. inl (subst (λ (bs : List Batch). StandsFor file bs) whole all))
        (λ more. inr (e.batch, doubted e is, subst (λ (bs : List Batch). StandsFor file (bs ++ e.batch ∷ [])) whole more))
        (rw is at stands)

-- ---- between two histories

module _ (h : History) (doubt : Option Entry) (o : List Told) (g : History) (doubt_mid : Option Entry) (p : List Told) (first : GrowsTold h doubt o g doubt_mid p) where
  -- what stands for the first one, or for the second one
  pub between_first : (file : List ℕ) → MayStandFor (batches h) (doubt_groups doubt) file → StandsBetween h doubt g p file
  between_first file stands =
      front_more (batches h) (MayCount h doubt p) (MayCount h doubt p) (batches h) (batches g) file (λ n b may. may) first.grown
      (front_whole (batches h) h doubt (MayCount h doubt p) file (begins_itself (batches h)) (λ e is. (e, refl, inl (is, refl))) stands)

  pub between_last : (file : List ℕ) → MayStandFor (batches g) (doubt_groups doubt_mid) file → StandsBetween h doubt g p file
  between_last file stands = front_whole (batches h) g doubt_mid (MayCount h doubt p) file first.grown first.doubted stands

  -- and where the second one grows on
  module _ (f : History) (doubt_now : Option Entry) (q : List Told) (second : GrowsTold g doubt_mid p f doubt_now q) where
    pub between_more : (file : List ℕ) → StandsBetween h doubt g p file → StandsBetween h doubt f q file
    between_more file front = front_more (batches h) (MayCount h doubt p) (MayCount h doubt q) (batches g) (batches f) file (λ n b may. may_more h doubt p q n b second.kept may) second.grown front

    pub between_before : (file : List ℕ) → StandsBetween g doubt_mid f q file → StandsBetween h doubt f q file
    between_before file front = front_before (batches h) (MayCount g doubt_mid q) (MayCount h doubt q) (batches g) (batches f) file (λ n b may. may_before h doubt o g doubt_mid p q n b first second.kept may) first.grown front
