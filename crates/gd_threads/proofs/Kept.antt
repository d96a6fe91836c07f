-- What sessions keep stays right while more is shown.
use Rattle.std.proofs.Common.{◌≡◌, refl, ℕ, zero, suc, ◌+◌, ◌≤◌, ◌⊎◌, ⊎_elim, Bool, List, [], ◌∷◌, ◌++◌, length, map, take, Option, Some, None, sym, subst, ap, ◌∙◌, arith, append_assoc, length-append}
use mathlib.Core.List.{IsPrefix}
use Rattle.gd_prim.specs.declared.Batch.{Batch}
use Rattle.gd_defs.specs.Write.{WriteRequest}
use Rattle.gd_runs.specs.Legal.{Entry, History, batches, size, with_entry}
use Rattle.gd_runs.specs.Core.{State, Settles}
use Rattle.gd_runs.specs.Side.{Kept, Told, told_of, WriteLine, WriteKeeps, stores, stores_late, refuses, doubts, leaves_doubt, lacks_memory, lacks_memory_settled}
use Rattle.gd_core_laws.specs.Writes.{CallerWrites}
use Rattle.gd_cache.specs.Shown.{Shown}
use Rattle.gd_cache.proofs.Answered.{kept_later}
use Rattle.gd_crew.specs.PassedOn.{AllRight, SideValue, state_of}
use Rattle.gd_round_lines.specs.declared.work.Works.{Works}
use Rattle.gd_round_lines.specs.Works.{write_of}
use Rattle.gd_threads.specs.Working.{ShowsMore, RunsWrites}
use Rattle.gd_threads.proofs.Served.{no_sessions}

-- what is kept rightly is right over all batches that begin with those over which it was
pub all_later : (bs cs : List Batch) (caches : List Shown) → IsPrefix bs cs → AllRight bs caches → AllRight cs caches
all_later bs cs [] begins all = tt
all_later bs cs (s ∷ ss) begins (one, rest) = (kept_later bs cs s begins one, all_later bs cs ss begins rest)

-- ---- fronts of lists

begins_itself : (xs : List Batch) → IsPrefix xs xs
begins_itself [] = ([], refl)
begins_itself (x ∷ xs) = let (rest, is) = begins_itself xs in (rest, ap (λ (l : List Batch). x ∷ l) is)

-- of a list and one that begins with it, the shorter front begins the longer one
takes_begin : (n m : ℕ) (xs more : List Batch) → n ≤ length xs → n ≤ m → IsPrefix (take n xs) (take m (xs ++ more))
takes_begin zero m xs more within less = (take m (xs ++ more), refl)
takes_begin (suc n) m [] more within less = absurd (omega (arith, within))
takes_begin (suc n) zero (x ∷ xs) more within less = absurd (omega (arith, less))
takes_begin (suc n) (suc m) (x ∷ xs) more within less = let (rest, is) = takes_begin n m xs more (omega (arith, within)) (omega (arith, less)) in (rest, ap (λ (l : List Batch). x ∷ l) is)

pub fronts_begin : (a b xs ys : List Batch) → a ≡ take (length a) xs → b ≡ take (length b) ys → IsPrefix xs ys → length a ≤ length b → IsPrefix a b
fronts_begin a b xs ys first second (more, is) less =
    subst (λ (l : List Batch). IsPrefix l b) (sym first)
    (subst (λ (l : List Batch). IsPrefix (take (length a) xs) l) (ap (take (length b)) is ∙ sym second)
    (takes_begin (length a) (length b) xs more within less))
  where
    within : length a ≤ length xs
    within = let same = ap length first in let low = low_take (length a) xs in omega (arith, same, low)
      where
        low_take : (n : ℕ) (zs : List Batch) → length (take n zs) ≤ length zs
        low_take zero zs = omega arith
        low_take (suc n) [] = omega arith
        low_take (suc n) (z ∷ zs) = let rest = low_take n zs in omega (arith, rest)

-- ---- how much the caller's writes show

more_size : (h : History) (e : Entry) → size (with_entry h e) ≡ size h + 1
more_size h e = let long = length-append h.entries (e ∷ []) in omega (arith, long)

-- no less is shown, and no more than there is
abbrev Shows : State → State → Type 0
Shows s t = (s.shown ≤ t.shown) × (t.shown ≤ size t.history)

settles_shown : (s t : State) → Settles s t → s.shown ≤ size s.history → Shows s t × (size s.history ≤ size t.history)
settles_shown s t settles low = by s.doubt refl
  where
    same : (u : State) → u.history ≡ s.history → u.shown ≡ s.shown → t ≡ u → Shows s t × (size s.history ≤ size t.history)
    same u history shown is = rw is (let h = ap size history in ((omega (arith, shown), omega (arith, shown, h, low)), omega (arith, h)))

    some : (e : Entry) → (t ≡ record s { doubt = None }) ⊎ ((t ≡ record s { history = with_entry s.history e; shown = size s.history + 1; doubt = None }) ⊎ (t ≡ record s { history = with_entry s.history e; doubt = None })) → Shows s t × (size s.history ≤ size t.history)
    some e cases =
        let more = more_size s.history e in
        ⊎_elim
        (λ is. same (record s { doubt = None }) refl refl is)
        (λ rest. ⊎_elim
        (λ is. rw is ((omega (arith, low), omega (arith, more)), omega (arith, more)))
        (λ is. rw is ((omega arith, omega (arith, more, low)), omega (arith, more)))
        rest)
        cases

    by : (d : Option Entry) → s.doubt ≡ d → Shows s t × (size s.history ≤ size t.history)
    by None is = same (record s { doubt = None }) refl refl (rw is at settles)
    by (Some e) is = some e (rw is at settles)

write_shows : (may : ℕ → Bool) (s : State) (k bytes : ℕ) (w : WriteRequest) (kept : Kept) (t : State) → WriteKeeps may s k bytes w kept t → s.shown ≤ size s.history → Shows s t
write_shows may s k bytes w _ _ (stores t e can) low = let (shows, long) = settles_shown s t can.settled low in let more = more_size t.history e in (omega (arith, low, long), omega (arith, more))
write_shows may s k bytes w _ _ (stores_late t e can) low = let ((up, within), long) = settles_shown s t can.settled low in let more = more_size t.history e in (up, omega (arith, within, more))
write_shows may s k bytes w _ _ (refuses t moment f settled does) low = (settles_shown s t settled low).0
write_shows may s k bytes w _ _ (doubts t e can) low = (settles_shown s t can.settled low).0
write_shows may s k bytes w _ _ (leaves_doubt e is) low = (omega arith, low)
write_shows may s k bytes w _ _ lacks_memory low = (omega arith, low)
write_shows may s k bytes w _ _ (lacks_memory_settled t settled) low = (settles_shown s t settled low).0

pub callers_show : (may : ℕ → Bool) (ls : List WriteLine) (s t : State) (o q : List Told) → CallerWrites may s o ls t q → s.shown ≤ size s.history → Shows s t
callers_show may [] s t o q (here, same) low = rw here (omega arith, low)
callers_show may (a ∷ ls) s t o q run low = ⊎_elim
    (λ over. callers_show may ls s t o q over low)
    (λ (left, (kept, m, step, rest)).
    let (up, within) = write_shows may s a.line a.bytes a.request kept m step low in
    let (more, most) = callers_show may ls m t (o ++ told_of a.line kept ∷ []) q rest within in
    (omega (arith, up, more), most))
    run

-- ---- a round

prefix_on : (xs ys zs : List Batch) → IsPrefix xs ys → IsPrefix ys zs → IsPrefix xs zs
prefix_on xs ys zs (p, first) (q, second) = (p ++ q, sym (append_assoc xs p q) ∙ (ap (λ (l : List Batch). l ++ q) first ∙ second))

-- what is shown of a side is a front of its history
abbrev pub ShowsFront : {D C : Type 0} → SideValue D C → Type 0
ShowsFront side = side.shown ≡ take (length side.shown) (batches side.history)

module _ {D C : Type 0} where
  -- where more is shown, what was shown begins it
  pub shown_more : (old mid : SideValue D C) → ShowsMore old mid → ShowsFront old → ShowsFront mid → IsPrefix old.shown mid.shown
  shown_more old mid shows first second =
      let above = shows.above in
      let long = ap (λ (s : SideValue D C). length s.shown) shows.is in
      fronts_begin old.shown mid.shown (batches old.history) (batches mid.history) first second (subst (λ (h : History). IsPrefix (batches old.history) (batches h)) (sym (ap (λ (s : SideValue D C). s.history) shows.is)) (begins_itself (batches old.history))) (omega (arith, above, long))

module _ {D C : Type 0} (content : D → Option (List ℕ)) (moment : D → ℕ) (images : D → List ℕ → Type 0) (images_since : D → ℕ → List ℕ → Type 0) (faults : D → ℕ) (may : C → ℕ → Bool) where
  -- what was shown when the writes of a round were run begins what is shown then
  pub shown_run : (works : Works) (mid late : SideValue D C) → RunsWrites content moment images images_since faults may works mid late → ShowsFront mid → ShowsFront late → IsPrefix mid.shown late.shown
  shown_run works mid late runs first second =
      let joined = runs.joined in
      let low = runs.joins.locked.lock.shows in
      let (more, most) = callers_show (may joined.clock) (map write_of works.writes.items) (state_of joined no_sessions) (state_of late no_sessions) joined.outcomes late.outcomes (runs.left.writes no_sessions) runs.most in
      fronts_begin mid.shown late.shown (batches mid.history) (batches late.history) first second
      (prefix_on (batches mid.history) (batches joined.history) (batches late.history) runs.joins.locked.grows.grown runs.left.grows.grown) (omega (arith, low, more))
