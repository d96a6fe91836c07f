-- A write keeps what the side keeps of its history and its outcomes.
use Rattle.std.proofs.Common.{◌≡◌, refl, ℕ, zero, suc, ◌+◌, ◌≤◌, ◌<◌, ◌⊎◌, inl, inr, ⊎_elim, Bool, List, [], ◌∷◌, ◌++◌, length, Option, Some, None, Ok, slice_get, sym, subst, ap, ◌∙◌, arith, length-append}
use Rattle.gd_defs.specs.Write.{WriteRequest}
use Rattle.gd_runs.specs.Legal.{Entry, History, size, with_entry, exec_line, IsEntryAfter, IsLegal}
use Rattle.gd_runs.specs.Explained.{MayBe, entry_at, IsOfLine}
use Rattle.gd_runs.specs.Core.{State, Settles, Writable}
use Rattle.gd_runs.specs.Side.{Kept, kept_stored, kept_late, kept_refused, kept_doubt, kept_unsettled, kept_memory, number_of, entry_of, Told, Agrees, AreInOrder, MayFollow, IsLeft, WriteKeeps, stores, stores_late, refuses, doubts, leaves_doubt, lacks_memory, lacks_memory_settled, KeepsHistory, IsFresh, told_of}
use Rattle.gd_runs.proofs.Rounds.{no_some, some_same, get_within, get_cases, slot_back, entry_below, entry_old, entry_new, entry_cases, entries_after}
use Rattle.gd_core_laws.proofs.Lines.{one_longer}

-- the one element of a list of one
pub only : {X : Type 0} (a : X) (i : ℕ) (x : X) → slice_get (a ∷ []) i ≡ Some x → (i ≡ 0) × (x ≡ a)
only a zero x at = (refl, sym (some_same at))
only a (suc i) x at = no_some at

-- ---- a history with an entry more

module _ (may : ℕ → Bool) (h : History) (e : Entry) where
  pub more_legal : IsLegal h → IsEntryAfter h e → ((d : ℕ) (x : Entry) → entry_at h d ≡ Some x → x.line ≡ e.line → ⊥) → IsLegal (with_entry h e)
  more_legal legal after fresh = record {
    loaded = legal.loaded;
    entries = entries_after (record { loaded = h.loaded; entries = [] }) h.entries (e ∷ []) legal.entries (after, tt);
    lines = λ i j x y at_x at_y less same. ⊎_elim
        (λ old_x. ⊎_elim
        (λ old_y. legal.lines i j x y old_x old_y less same)
        (λ (m, place, new_y). fresh (length h.loaded + i) x (slot_back h.loaded h.entries i x old_x) (same ∙ ap (λ (z : Entry). z.line) (only e m y new_y).1))
        (get_cases h.entries (e ∷ []) j y at_y))
        (λ (m, place, new_x). ⊎_elim
        (λ old_y. let within = get_within h.entries j y old_y in omega (arith, within, place, less))
        (λ (n, place_y, new_y). let first = (only e m x new_x).0 in let second = (only e n y new_y).0 in omega (arith, place, place_y, first, second, less))
        (get_cases h.entries (e ∷ []) j y at_y))
        (get_cases h.entries (e ∷ []) i x at_x);
  }

  more_moments : ((d : ℕ) (x : Entry) → entry_at h d ≡ Some x → MayBe may x.moment) → MayBe may e.moment → (d : ℕ) (x : Entry) → entry_at (with_entry h e) d ≡ Some x → MayBe may x.moment
  more_moments old moment d x at = ⊎_elim (λ it. old d x it) (λ (i, is, there). subst (λ (y : Entry). MayBe may y.moment) (sym (only e i x there).1) moment) (entry_cases h (e ∷ []) d x at)

  -- what is kept of a line that the new entry is not of, or that is in doubt at its place
  more_agree : (doubt : Option Entry) (line : ℕ) (k : Kept) → Agrees h doubt line k → ((n : ℕ) → k ≡ kept_doubt n → e.line ≡ line → n ≡ size h) → Agrees (with_entry h e) None line k
  more_agree doubt line (kept_stored n r) (x, (at, is), same) place = (x, (entry_old h (e ∷ []) n x at, is), same)
  more_agree doubt line (kept_late n) (x, (at, is)) place = (x, (entry_old h (e ∷ []) n x at, is))
  more_agree doubt line (kept_refused f n) agree place = tt
  more_agree doubt line (kept_doubt n) agree place = (
    λ d x (at, is). ⊎_elim
        (λ old. agree.0 d x (old, is))
        (λ (i, d_is, there). let one = only e i x there in let zero_is = one.0 in let n_is = place n refl (sym (ap (λ (z : Entry). z.line) one.1) ∙ is) in omega (arith, d_is, zero_is, n_is))
        (entry_cases h (e ∷ []) d x at),
    tt,
  )
  more_agree doubt line kept_unsettled agree place = tt
  more_agree doubt line kept_memory agree place = tt

  last_of_line : (k : ℕ) → e.line ≡ k → IsOfLine (with_entry h e) k (size h) e
  last_of_line k is = (subst (λ (n : ℕ). entry_at (with_entry h e) n ≡ Some e) (omega arith) (entry_new h (e ∷ []) 0 e refl), is)

-- a doubt that was dropped
drop_agree : (h : History) (doubt : Option Entry) (line : ℕ) (k : Kept) → Agrees h doubt line k → Agrees h None line k
drop_agree h doubt line (kept_stored n r) agree = agree
drop_agree h doubt line (kept_late n) agree = agree
drop_agree h doubt line (kept_refused f n) agree = tt
drop_agree h doubt line (kept_doubt n) agree = (agree.0, tt)
drop_agree h doubt line kept_unsettled agree = tt
drop_agree h doubt line kept_memory agree = tt

-- a doubt that came, of another line
doubt_agree : (h : History) (e : Entry) (line : ℕ) (k : Kept) → Agrees h None line k → (e.line ≡ line → ⊥) → Agrees h (Some e) line k
doubt_agree h e line (kept_stored n r) agree other = agree
doubt_agree h e line (kept_late n) agree other = agree
doubt_agree h e line (kept_refused f n) agree other = tt
doubt_agree h e line (kept_doubt n) agree other = (agree.0, λ same. absurd (other same))
doubt_agree h e line kept_unsettled agree other = tt
doubt_agree h e line kept_memory agree other = tt

-- an entry that is kept is below the size of the history
entry_within : (h : History) (doubt : Option Entry) (line e : ℕ) (k : Kept) → Agrees h doubt line k → entry_of k ≡ Some e → e < size h
entry_within h doubt line e (kept_stored n r) (x, of, same) is = let below = entry_below h n x of.0 in let n_is = some_same is in omega (arith, below, n_is)
entry_within h doubt line e (kept_late n) (x, of) is = let below = entry_below h n x of.0 in let n_is = some_same is in omega (arith, below, n_is)
entry_within h doubt line e (kept_refused f n) agree is = no_some is
entry_within h doubt line e (kept_doubt n) agree is = no_some is
entry_within h doubt line e kept_unsettled agree is = no_some is
entry_within h doubt line e kept_memory agree is = no_some is

-- ---- an outcome more

-- an outcome whose number is the size of the history stands behind the others
more_order : (may : ℕ → Bool) (h : History) (doubt : Option Entry) (outcomes : List Told) (k : ℕ) (kept : Kept) → KeepsHistory may h doubt outcomes → IsLeft outcomes k
    → ((n : ℕ) → number_of kept ≡ Some n → n ≡ size h) → AreInOrder (outcomes ++ told_of k kept ∷ [])
more_order may h doubt outcomes k kept side left number = record {
  lines = λ i j a b at_a at_b less same. ⊎_elim
      (λ old_a. ⊎_elim
      (λ old_b. side.order.lines i j a b old_a old_b less same)
      (λ (m, place, new_b). left i a old_a (same ∙ ap (λ (t : Told). t.line) (only (told_of k kept) m b new_b).1))
      (get_cases outcomes (told_of k kept ∷ []) j b at_b))
      (λ (m, place, new_a). last i j m a b place new_a at_b less)
      (get_cases outcomes (told_of k kept ∷ []) i a at_a);
  rise = λ i j m n a b at_a at_b less num_a num_b. ⊎_elim
      (λ old_a. ⊎_elim
      (λ old_b. side.order.rise i j m n a b old_a old_b less num_a num_b)
      (λ (p, place, new_b). let within = side.within i m a old_a num_a in let n_is = last_number p b n new_b num_b in omega (arith, within, n_is))
      (get_cases outcomes (told_of k kept ∷ []) j b at_b))
      (λ (p, place, new_a). absurd (last i j p a b place new_a at_b less))
      (get_cases outcomes (told_of k kept ∷ []) i a at_a);
  above = λ i j e n a b at_a at_b less ent_a num_b. ⊎_elim
      (λ old_a. ⊎_elim
      (λ old_b. side.order.above i j e n a b old_a old_b less ent_a num_b)
      (λ (p, place, new_b). let within = entry_within h doubt a.line e a.kept (side.agree i a old_a) ent_a in let n_is = last_number p b n new_b num_b in omega (arith, within, n_is))
      (get_cases outcomes (told_of k kept ∷ []) j b at_b))
      (λ (p, place, new_a). absurd (last i j p a b place new_a at_b less))
      (get_cases outcomes (told_of k kept ∷ []) i a at_a);
}
  where
    last_number : (p : ℕ) (b : Told) (n : ℕ) → slice_get (told_of k kept ∷ []) p ≡ Some b → number_of b.kept ≡ Some n → n ≡ size h
    last_number p b n at is = number n (subst (λ (t : Told). number_of t.kept ≡ Some n) (only (told_of k kept) p b at).1 is)

    last : (i j m : ℕ) (a b : Told) → i ≡ length outcomes + m → slice_get (told_of k kept ∷ []) m ≡ Some a → slice_get (outcomes ++ told_of k kept ∷ []) j ≡ Some b → i < j → ⊥
    last i j m a b place at_a at_b less =
        let within = get_within (outcomes ++ told_of k kept ∷ []) j b at_b in
        let long = length-append outcomes (told_of k kept ∷ []) in
        omega (arith, within, long, place, less)

more_within : (h g : History) (outcomes : List Told) (k : ℕ) (kept : Kept) → ((i n : ℕ) (t : Told) → slice_get outcomes i ≡ Some t → number_of t.kept ≡ Some n → n ≤ size h) → ((n : ℕ) → number_of kept ≡ Some n → n ≡ size h) → size h ≤ size g
    → (i n : ℕ) (t : Told) → slice_get (outcomes ++ told_of k kept ∷ []) i ≡ Some t → number_of t.kept ≡ Some n → n ≤ size g
more_within h g outcomes k kept within number grows i n t at is = ⊎_elim
    (λ old. let below = within i n t old is in omega (arith, below, grows))
    (λ (p, place, new). let n_is = number n (subst (λ (u : Told). number_of u.kept ≡ Some n) (only (told_of k kept) p t new).1 is) in omega (arith, n_is, grows))
    (get_cases outcomes (told_of k kept ∷ []) i t at)

-- an outcome that leaves the history and the doubt
told_more : (may : ℕ → Bool) (h : History) (doubt : Option Entry) (outcomes : List Told) (k : ℕ) (kept : Kept) → KeepsHistory may h doubt outcomes → IsLeft outcomes k → Agrees h doubt k kept
    → ((n : ℕ) → number_of kept ≡ Some n → n ≡ size h) → KeepsHistory may h doubt (outcomes ++ told_of k kept ∷ [])
told_more may h doubt outcomes k kept side left agree number = record {
  legal = side.legal;
  next = side.next;
  moments = side.moments;
  agree = λ i t at. ⊎_elim
      (λ old. side.agree i t old)
      (λ (p, place, new). subst (λ (u : Told). Agrees h doubt u.line u.kept) (sym (only (told_of k kept) p t new).1) agree)
      (get_cases outcomes (told_of k kept ∷ []) i t at);
  order = more_order may h doubt outcomes k kept side left number;
  within = more_within h h outcomes k kept side.within number (omega arith);
}

-- ---- a doubt is ended

-- the side after a doubt has ended
pub record Settled (may : ℕ → Bool) (s t : State) (outcomes : List Told) : Type 0 where
  pub side : KeepsHistory may t.history t.doubt outcomes
  pub none : t.doubt ≡ None
  pub shown : (t.shown ≡ s.shown) ⊎ (t.shown ≡ size t.history)
  -- the entries are those that were, or the one in doubt is one more
  pub entries : (t.history ≡ s.history) ⊎ ((e : Entry) × (s.doubt ≡ Some e) × (t.history ≡ with_entry s.history e))

settled_none : (may : ℕ → Bool) (s : State) (outcomes : List Told) → KeepsHistory may s.history s.doubt outcomes → Settled may s (record s { doubt = None }) outcomes
settled_none may s outcomes side = record {
  side = record {
    legal = side.legal;
    next = tt;
    moments = side.moments;
    agree = λ i t at. drop_agree s.history s.doubt t.line t.kept (side.agree i t at);
    order = side.order;
    within = side.within;
  };
  none = refl;
  shown = inl refl;
  entries = inl refl;
}

settled_some : (may : ℕ → Bool) (s : State) (outcomes : List Told) (e : Entry) (n : ℕ) → s.doubt ≡ Some e → (n ≡ s.shown) ⊎ (n ≡ size s.history + 1) → KeepsHistory may s.history s.doubt outcomes
    → Settled may s (record s { history = with_entry s.history e; shown = n; doubt = None }) outcomes
settled_some may s outcomes e n is shown side =
    let next : MayFollow may s.history (Some e) = subst (MayFollow may s.history) is side.next in
    let longer = one_longer s.history e in
    record {
      side = record {
        legal = next.0;
        next = tt;
        moments = more_moments may s.history e side.moments next.1;
        agree = λ i t at. more_agree may s.history e s.doubt t.line t.kept (side.agree i t at) (λ m kept same.
            let agree : Agrees s.history (Some e) t.line (kept_doubt m) = subst (λ (k : Kept). Agrees s.history (Some e) t.line k) kept (subst (λ (d : Option Entry). Agrees s.history d t.line t.kept) is (side.agree i t at)) in
            agree.1 same);
        order = side.order;
        within = λ i m t at number. let below = side.within i m t at number in omega (arith, below, longer);
      };
      none = refl;
      shown = ⊎_elim (λ a. inl a) (λ b. inr (omega (arith, b, longer))) shown;
      entries = inr (e, is, refl);
    }

pub settle_keeps : (may : ℕ → Bool) (s t : State) (outcomes : List Told) → KeepsHistory may s.history s.doubt outcomes → Settles s t → Settled may s t outcomes
settle_keeps may s t outcomes side step = by s.doubt refl
  where
    by : (d : Option Entry) → s.doubt ≡ d → Settled may s t outcomes
    by None is = let same = rw is at step in subst (λ (x : State). Settled may s x outcomes) (sym same) (settled_none may s outcomes side)
    by (Some e) is =
        let cases = rw is at step in
        ⊎_elim
        (λ no. subst (λ (x : State). Settled may s x outcomes) (sym no) (settled_none may s outcomes side))
        (λ yes. ⊎_elim
        (λ now. subst (λ (x : State). Settled may s x outcomes) (sym now) (settled_some may s outcomes e (size s.history + 1) is (inr refl) side))
        (λ late. subst (λ (x : State). Settled may s x outcomes) (sym late) (settled_some may s outcomes e s.shown is (inl refl) side))
        yes)
        cases

-- its line is fresh as before
pub settled_fresh : (may : ℕ → Bool) (s t : State) (outcomes : List Told) (k : ℕ) → Settled may s t outcomes → IsFresh s.history s.doubt k → (e : ℕ) (x : Entry) → entry_at t.history e ≡ Some x → x.line ≡ k → ⊥
settled_fresh may s t outcomes k settled fresh e x at is = ⊎_elim
    (λ same. fresh.entries e x (subst (λ (h : History). entry_at h e ≡ Some x) same at) is)
    (λ (d, doubt, more). ⊎_elim
    (λ old. fresh.entries e x old is)
    (λ (i, place, new). fresh.doubted d doubt (sym (ap (λ (z : Entry). z.line) (only d i x new).1) ∙ is))
    (entry_cases s.history (d ∷ []) e x (subst (λ (h : History). entry_at h e ≡ Some x) more at)))
    settled.entries

-- ---- a write

module _ (may : ℕ → Bool) (s : State) (outcomes : List Told) (k bytes : ℕ) (w : WriteRequest) (side : KeepsHistory may s.history s.doubt outcomes) (left : IsLeft outcomes k) (fresh : IsFresh s.history s.doubt k) where
  after_it : (t : State) (e : Entry) → Writable may s k bytes w t e → IsEntryAfter t.history e
  after_it t e can = subst (λ (v : WriteRequest). exec_line t.history v e.moment e.bytes ≡ Ok (e.batch, e.result)) (sym can.request)
      (subst (λ (n : ℕ). exec_line t.history w e.moment n ≡ Ok (e.batch, e.result)) (sym can.len) can.result)

  legal_it : (t : State) (e : Entry) → Writable may s k bytes w t e → Settled may s t outcomes → IsLegal (with_entry t.history e)
  legal_it t e can settled = more_legal may t.history e settled.side.legal (after_it t e can) (λ d x at is. settled_fresh may s t outcomes k settled fresh d x at (is ∙ can.line))

  -- an entry more
  entry_keeps : (t : State) (e : Entry) (kept : Kept) → Writable may s k bytes w t e → Settled may s t outcomes → Agrees (with_entry t.history e) None k kept → number_of kept ≡ Some (size t.history)
      → KeepsHistory may (with_entry t.history e) t.doubt (outcomes ++ told_of k kept ∷ [])
  entry_keeps t e kept can settled agree number =
      let longer = one_longer t.history e in
      let number_is : (n : ℕ) → number_of kept ≡ Some n → n ≡ size t.history = λ n is. some_same (sym is ∙ number) in
      subst (λ (d : Option Entry). KeepsHistory may (with_entry t.history e) d (outcomes ++ told_of k kept ∷ [])) (sym settled.none) (record {
        legal = legal_it t e can settled;
        next = tt;
        moments = more_moments may t.history e settled.side.moments can.moment;
        agree = λ i u at. ⊎_elim
            (λ old. more_agree may t.history e t.doubt u.line u.kept (settled.side.agree i u old) (λ n is same. absurd (left i u old (sym same ∙ can.line))))
            (λ (p, place, new). subst (λ (v : Told). Agrees (with_entry t.history e) None v.line v.kept) (sym (only (told_of k kept) p u new).1) agree)
            (get_cases outcomes (told_of k kept ∷ []) i u at);
        order = more_order may t.history t.doubt outcomes k kept settled.side left number_is;
        within = more_within t.history (with_entry t.history e) outcomes k kept settled.side.within number_is (omega (arith, longer));
      })

  pub write_keeps : (kept : Kept) (u : State) → WriteKeeps may s k bytes w kept u → KeepsHistory may u.history u.doubt (outcomes ++ told_of k kept ∷ [])
  write_keeps _ _ (stores t e can) = entry_keeps t e (kept_stored (size t.history) e.result) can (settle_keeps may s t outcomes side can.settled) (e, last_of_line may t.history e k can.line, refl) refl
  write_keeps _ _ (stores_late t e can) = entry_keeps t e (kept_late (size t.history)) can (settle_keeps may s t outcomes side can.settled) (e, last_of_line may t.history e k can.line) refl
  write_keeps _ _ (refuses t moment f ends does) =
      let settled = settle_keeps may s t outcomes side ends in
      told_more may t.history t.doubt outcomes k (kept_refused f (size t.history)) settled.side left tt (λ n is. sym (some_same is))
  write_keeps _ _ (doubts t e can) =
      let settled = settle_keeps may s t outcomes side can.settled in
      let kept = kept_doubt (size t.history) in
      record {
        legal = settled.side.legal;
        next = (legal_it t e can settled, can.moment);
        moments = settled.side.moments;
        agree = λ i u at. ⊎_elim
            (λ old. doubt_agree t.history e u.line u.kept (drop_agree t.history t.doubt u.line u.kept (settled.side.agree i u old)) (λ same. left i u old (sym same ∙ can.line)))
            (λ (p, place, new). subst (λ (v : Told). Agrees t.history (Some e) v.line v.kept) (sym (only (told_of k kept) p u new).1)
            (λ d x (there, is). absurd (settled_fresh may s t outcomes k settled fresh d x there is), λ same. refl))
            (get_cases outcomes (told_of k kept ∷ []) i u at);
        order = more_order may t.history t.doubt outcomes k kept settled.side left (λ n is. sym (some_same is));
        within = more_within t.history t.history outcomes k kept settled.side.within (λ n is. sym (some_same is)) (omega arith);
      }
  write_keeps _ _ (leaves_doubt e is) = told_more may s.history s.doubt outcomes k kept_unsettled side left tt (λ n is. no_some is)
  write_keeps _ _ lacks_memory = told_more may s.history s.doubt outcomes k kept_memory side left tt (λ n is. no_some is)
  write_keeps _ _ (lacks_memory_settled t ends) = let settled = settle_keeps may s t outcomes side ends in told_more may t.history t.doubt outcomes k kept_memory settled.side left tt (λ n is. no_some is)
