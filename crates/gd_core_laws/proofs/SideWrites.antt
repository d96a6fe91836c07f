-- The caller's writes keep what is kept of the writes of a round.
use Rattle.std.proofs.Common.{◌≡◌, refl, ℕ, suc, ◌+◌, ◌≤◌, ◌<◌, ◌⊎◌, inl, inr, ⊎_elim, Bool, true, false, List, [], ◌∷◌, ◌++◌, length, Option, Some, None, slice_get, sym, subst, ap, ◌∙◌, arith, append-nil, append_assoc, length-append}
use Rattle.std.specs.Prelude.{IsTrue}
use Rattle.gd_tree.specs.Json.{Json}
use Rattle.gd_runs.specs.Legal.{Entry, History, size, with_entry, with_entries, exec_line}
use Rattle.gd_runs.specs.Explained.{entry_at}
use Rattle.gd_runs.specs.Core.{State, Settles}
use Rattle.gd_runs.specs.Side.{Kept, kept_stored, kept_late, kept_refused, kept_doubt, kept_unsettled, kept_memory, number_of, is_stored_or_doubt, Told, WriteLine, Begun, IsOldDoubt, IsOfBegun, IsRefusalOf, IsLeft, WriteKeeps, stores, stores_late, refuses, doubts, leaves_doubt, lacks_memory, lacks_memory_settled, IsFresh, told_of}
use Rattle.gd_runs.proofs.Rounds.{no_some, some_same, get_left, get_right, get_within, get_cases, entry_cases, upto_kept, size_more}
use Rattle.gd_runs.proofs.LineMore.{upto_all}
use Rattle.gd_core_laws.specs.Round.{KeepsWrites}
use Rattle.gd_core_laws.specs.Writes.{AreNew, KeepsSide, CallerWrites, AreAhead}
use Rattle.gd_core_laws.proofs.Lines.{one_longer}
use Rattle.gd_core_laws.proofs.OneLine.{nothing_more}
use Rattle.gd_core_laws.proofs.SideHistory.{only, settle_keeps, write_keeps}

-- a refusal stays one of a longer history
refusal_kept : (h : History) (more : List Entry) (a : WriteLine) (k : Kept) → IsRefusalOf h a k → IsRefusalOf (with_entries h more) a k
refusal_kept h more a (kept_stored e r) is = tt
refusal_kept h more a (kept_late e) is = tt
refusal_kept h more a (kept_refused f n) (most, (moment, does)) =
    let longer = size_more h more in
    (omega (arith, most, longer), (moment, ap (λ (g : History). exec_line g a.request moment a.bytes) (upto_kept h more n most) ∙ does))
refusal_kept h more a (kept_doubt n) is = tt
refusal_kept h more a kept_unsettled is = tt
refusal_kept h more a kept_memory is = tt

-- an entry that is of the round stays so with more outcomes
begun_more : (l : Begun) (outcomes more : List Told) (x : Entry) → IsOfBegun l outcomes x → IsOfBegun l (outcomes ++ more) x
begun_more l outcomes more x (i, a, at, line, request, len, (j, t, out, told, stands)) = (i, a, at, line, request, len, (j, t, get_left outcomes more j t out, told, stands))

grown_more : (l h : History) (new more : List Entry) → h ≡ with_entries l new → with_entries h more ≡ with_entries l (new ++ more)
grown_more l h new more is = ap (λ (g : History). with_entries g more) is ∙ ap (λ (es : List Entry). record { loaded = l.loaded; entries = es }) (append_assoc l.entries new more)

module _ (l : Begun) (fresh : AreNew l) (h : History) (shown : ℕ) (doubt : Option Entry) (outcomes : List Told) (new : List Entry) (old : KeepsWrites l h shown doubt outcomes new) where
  longer : size l.history ≤ size h
  longer = let is = ap size old.grown in let more = size_more l.history new in omega (arith, is, more)

  -- ---- a doubt is ended

  settled_writes : (n : ℕ) → shown ≤ n → KeepsWrites l h n None outcomes new
  settled_writes n above = record {
    grown = old.grown;
    entries = old.entries;
    in_doubt = λ x is. no_some is;
    outcomes_of = old.outcomes_of;
    least = old.least;
    waits = λ x was is. no_some is;
    shows = let shows = old.shows in omega (arith, shows, above);
    shows_stored = λ j e r t at is. let below = old.shows_stored j e r t at is in omega (arith, below, above);
    sorted = old.sorted;
  }

  settled_entry : (e : Entry) (n : ℕ) → doubt ≡ Some e → shown ≤ n → KeepsWrites l (with_entry h e) n None outcomes (new ++ e ∷ [])
  settled_entry e n is above = record {
    grown = grown_more l.history h new (e ∷ []) old.grown;
    entries = λ i x at. ⊎_elim
        (λ it. old.entries i x it)
        (λ (j, place, there).
        let (j_is, same) = only e j x there in
        ⊎_elim
        (λ was.
        let none = ap length (old.waits e was is) in
        inl (omega (arith, place, j_is, none), subst (IsOldDoubt l) (sym same) was))
        (λ of. inr (subst (IsOfBegun l outcomes) (sym same) of))
        (old.in_doubt e is))
        (get_cases new (e ∷ []) i x at);
    in_doubt = λ x none. no_some none;
    outcomes_of = λ j t at. let (i, a, there, line, refusal) = old.outcomes_of j t at in (i, a, there, line, refusal_kept h (e ∷ []) a t.kept refusal);
    least = old.least;
    waits = λ x was none. no_some none;
    shows = let shows = old.shows in omega (arith, shows, above);
    shows_stored = λ j d r t at it. let below = old.shows_stored j d r t at it in omega (arith, below, above);
    sorted = old.sorted;
  }

  -- ---- an outcome more, and the entries that it made

  module _ (at_line : ℕ) (a : WriteLine) (in_lines : slice_get l.lines at_line ≡ Some a) (left : IsLeft outcomes a.line) (kept : Kept)
      (front : (i x y : ℕ) (t : Told) (b c : WriteLine) → slice_get outcomes i ≡ Some t → slice_get l.lines x ≡ Some b → b.line ≡ t.line → slice_get l.lines y ≡ Some c → b.session ≡ c.session → c.line ≡ a.line → t.line < a.line) where
    abbrev outs : List Told
    outs = outcomes ++ told_of a.line kept ∷ []

    -- it is the last one
    last : (i j m : ℕ) (u : Told) → i ≡ length outcomes + m → slice_get outs j ≡ Some u → i < j → ⊥
    last i j m u place at less = let within = get_within outs j u at in let long = length-append outcomes (told_of a.line kept ∷ []) in omega (arith, within, long, place, less)

    -- an entry of this line is of the round
    pub of_this : (e : Entry) → e.line ≡ a.line → e.bytes ≡ a.bytes → e.request ≡ a.request → IsTrue (is_stored_or_doubt kept) → IsOfBegun l outs e
    of_this e line len request stands = (at_line, a, in_lines, sym line, sym request, sym len, (length outcomes + 0, told_of a.line kept, get_right outcomes (told_of a.line kept ∷ []) 0 (told_of a.line kept) refl, sym line, stands))

    pub told_writes : (more : List Entry) (n : ℕ) (d : Option Entry) → shown ≤ n → ((i : ℕ) (x : Entry) → slice_get more i ≡ Some x → IsOfBegun l outs x)
        → ((x : Entry) → d ≡ Some x → ((doubt ≡ Some x) × (more ≡ [])) ⊎ IsOfBegun l outs x) → IsRefusalOf (with_entries h more) a kept → ((m : ℕ) → number_of kept ≡ Some m → size h ≤ m)
        → ((e : ℕ) (r : Json) → kept ≡ kept_stored e r → e < n) → KeepsWrites l (with_entries h more) n d outs (new ++ more)
    told_writes more n d above of_more in_doubt refusal number stored = record {
      grown = grown_more l.history h new more old.grown;
      entries = λ i x at. ⊎_elim
          (λ it. ⊎_elim (λ was. inl was) (λ of. inr (begun_more l outcomes (told_of a.line kept ∷ []) x of)) (old.entries i x it))
          (λ (j, place, there). inr (of_more j x there))
          (get_cases new more i x at);
      in_doubt = λ x is. ⊎_elim
          (λ (was, none). ⊎_elim (λ first. inl first) (λ of. inr (begun_more l outcomes (told_of a.line kept ∷ []) x of)) (old.in_doubt x was))
          (λ of. inr of)
          (in_doubt x is);
      outcomes_of = λ j t at. ⊎_elim
          (λ it. let (i, b, there, line, refused) = old.outcomes_of j t it in (i, b, there, line, refusal_kept h more b t.kept refused))
          (λ (p, place, there). let same = (only (told_of a.line kept) p t there).1 in
          (at_line, a, in_lines, ap (λ (u : Told). u.line) (sym same), subst (λ (u : Told). IsRefusalOf (with_entries h more) a u.kept) (sym same) refusal))
          (get_cases outcomes (told_of a.line kept ∷ []) j t at);
      least = λ j m t at is. ⊎_elim
          (λ it. old.least j m t it is)
          (λ (p, place, there). let same = (only (told_of a.line kept) p t there).1 in let above_it = number m (subst (λ (u : Told). number_of u.kept ≡ Some m) same is) in let long = longer in omega (arith, above_it, long))
          (get_cases outcomes (told_of a.line kept ∷ []) j t at);
      waits = λ x was is. ⊎_elim
          (λ (there, none). ap (λ (es : List Entry). es ++ more) (old.waits x was there) ∙ none)
          (λ (i, b, there, line, request, len, out). absurd (fresh.doubted i b x there was line))
          (in_doubt x is);
      shows = let shows = old.shows in omega (arith, shows, above);
      shows_stored = λ j e r t at is. ⊎_elim
          (λ it. let below = old.shows_stored j e r t it is in omega (arith, below, above))
          (λ (p, place, there). stored e r (subst (λ (u : Told). u.kept ≡ kept_stored e r) (only (told_of a.line kept) p t there).1 is))
          (get_cases outcomes (told_of a.line kept ∷ []) j t at);
      sorted = λ i j x y t u b c at_i at_j less at_x at_y line_b line_c session. ⊎_elim
          (λ old_t. ⊎_elim
          (λ old_u. old.sorted i j x y t u b c old_t old_u less at_x at_y line_b line_c session)
          (λ (p, place, there).
          let line = ap (λ (v : Told). v.line) (only (told_of a.line kept) p u there).1 in
          let below = front i x y t b c old_t at_x line_b at_y session (line_c ∙ line) in
          omega (arith, below, line))
          (get_cases outcomes (told_of a.line kept ∷ []) j u at_j))
          (λ (p, place, there). absurd (last i j p u place at_j less))
          (get_cases outcomes (told_of a.line kept ∷ []) i t at_i);
    }

    pub no_more : (n : ℕ) (d : Option Entry) → shown ≤ n → ((x : Entry) → d ≡ Some x → (doubt ≡ Some x) ⊎ IsOfBegun l outs x) → IsRefusalOf h a kept → ((m : ℕ) → number_of kept ≡ Some m → size h ≤ m)
        → ((e : ℕ) (r : Json) → kept ≡ kept_stored e r → e < n) → KeepsWrites l h n d outs new
    no_more n d above in_doubt refusal number stored =
        subst (λ (es : List Entry). KeepsWrites l h n d outs es) (append-nil new)
        (subst (λ (g : History). KeepsWrites l g n d outs (new ++ [])) (nothing_more h)
        (told_writes [] n d above (λ i x at. no_some at) (λ x is. ⊎_elim (λ was. inl (was, refl)) (λ of. inr of) (in_doubt x is)) (subst (λ (g : History). IsRefusalOf g a kept) (sym (nothing_more h)) refusal) number stored))

-- ---- a write of the caller

-- the writes of a round after a step
pub record StepWrites (l : Begun) (t : State) (outcomes : List Told) : Type 0 where
  pub new : List Entry
  pub writes : KeepsWrites l t.history t.shown t.doubt outcomes new
  pub most : t.shown ≤ size t.history

pub settle_writes : (may : ℕ → Bool) (l : Begun) (fresh : AreNew l) (s t : State) (outcomes : List Told) (new : List Entry) → KeepsWrites l s.history s.shown s.doubt outcomes new → s.shown ≤ size s.history → Settles s t → StepWrites l t outcomes
settle_writes may l fresh s t outcomes new old most step = by s.doubt refl
  where
    dropped : StepWrites l (record s { doubt = None }) outcomes
    dropped = record { new = new; writes = settled_writes l fresh s.history s.shown s.doubt outcomes new old s.shown (omega arith); most = most }

    by : (d : Option Entry) → s.doubt ≡ d → StepWrites l t outcomes
    by None is = let same = rw is at step in subst (λ (x : State). StepWrites l x outcomes) (sym same) dropped
    by (Some e) is =
        let cases = rw is at step in
        let longer = one_longer s.history e in
        ⊎_elim
        (λ no. subst (λ (x : State). StepWrites l x outcomes) (sym no) dropped)
        (λ yes. ⊎_elim
        (λ now. subst (λ (x : State). StepWrites l x outcomes) (sym now)
        (record { new = new ++ e ∷ []; writes = settled_entry l fresh s.history s.shown s.doubt outcomes new old e (size s.history + 1) is (omega (arith, most)); most = omega (arith, longer) }))
        (λ late. subst (λ (x : State). StepWrites l x outcomes) (sym late)
        (record { new = new ++ e ∷ []; writes = settled_entry l fresh s.history s.shown s.doubt outcomes new old e s.shown is (omega arith); most = omega (arith, most, longer) }))
        yes)
        cases

module _ (may : ℕ → Bool) (l : Begun) (fresh : AreNew l) (s : State) (outcomes : List Told) (new : List Entry) (p : ℕ) (side : KeepsSide may l p s outcomes new)
    (at_line : ℕ) (a : WriteLine) (in_lines : slice_get l.lines at_line ≡ Some a) (above : p ≤ a.line) (left : IsLeft outcomes a.line) where
  is_fresh : IsFresh s.history s.doubt a.line
  is_fresh = record {
    entries = λ e x at is. ⊎_elim
        (λ old. fresh.entries at_line e a x in_lines old (sym is))
        (λ (i, place, there). ⊎_elim
        (λ (zero_is, was). fresh.doubted at_line a x in_lines was (sym is))
        (λ (i', b, at_b, line, request, len, (j, t, out, told, stands)). left j t out (told ∙ is))
        (side.writes.entries i x there))
        (entry_cases l.history new e x (subst (λ (h : History). entry_at h e ≡ Some x) side.writes.grown at));
    doubted = λ x doubt is. ⊎_elim
        (λ was. fresh.doubted at_line a x in_lines was (sym is))
        (λ (i', b, at_b, line, request, len, (j, t, out, told, stands)). left j t out (told ∙ is))
        (side.writes.in_doubt x doubt);
  }

  ahead : (i x y : ℕ) (t : Told) (b c : WriteLine) → slice_get outcomes i ≡ Some t → slice_get l.lines x ≡ Some b → b.line ≡ t.line → slice_get l.lines y ≡ Some c → b.session ≡ c.session → c.line ≡ a.line → t.line < a.line
  ahead i x y t b c at_i at_x line at_y session is =
      let less = side.front i x y t b c at_i at_x line at_y session (omega (arith, above, is)) (λ j u at_j line_u. left j u at_j (line_u ∙ is)) in
      omega (arith, less, is)

  abbrev with_told : Kept → List Told
  with_told kept = outcomes ++ told_of a.line kept ∷ []

  not_stored : (k : Kept) (e : ℕ) (r : Json) (n : ℕ) → is_stored_or_doubt k ≡ false → k ≡ kept_stored e r → e < n
  not_stored k e r n is same = absurd (apart (sym (ap is_stored_or_doubt same) ∙ is))
    where
      apart : true ≡ false → ⊥
      apart q = cc

  step_writes : (kept : Kept) (u : State) → WriteKeeps may s a.line a.bytes a.request kept u → StepWrites l u (with_told kept)
  step_writes _ _ (stores t e can) =
      let first = settle_writes may l fresh s t outcomes new side.writes side.most can.settled in
      let settled = settle_keeps may s t outcomes side.history can.settled in
      let kept = kept_stored (size t.history) e.result in
      let longer = one_longer t.history e in
      let most = first.most in
      let none = settled.none in
      record {
        new = first.new ++ e ∷ [];
        writes = told_writes l fresh t.history t.shown t.doubt outcomes first.new first.writes at_line a in_lines left kept ahead (e ∷ []) (size t.history + 1) t.doubt (omega (arith, most))
            (λ i x at. subst (IsOfBegun l (with_told kept)) (sym (only e i x at).1) (of_this l fresh t.history t.shown t.doubt outcomes first.new first.writes at_line a in_lines left kept ahead e can.line can.len can.request refl))
            (λ x is. no_some (sym none ∙ is)) tt (λ m is. let same = some_same is in omega (arith, same))
            (λ d r is. let same : size t.history ≡ d = cc in omega (arith, same));
        most = omega (arith, longer);
      }
  step_writes _ _ (stores_late t e can) =
      let first = settle_writes may l fresh s t outcomes new side.writes side.most can.settled in
      let settled = settle_keeps may s t outcomes side.history can.settled in
      let kept = kept_late (size t.history) in
      let longer = one_longer t.history e in
      let most = first.most in
      let none = settled.none in
      record {
        new = first.new ++ e ∷ [];
        writes = told_writes l fresh t.history t.shown t.doubt outcomes first.new first.writes at_line a in_lines left kept ahead (e ∷ []) t.shown t.doubt (omega arith)
            (λ i x at. subst (IsOfBegun l (with_told kept)) (sym (only e i x at).1) (of_this l fresh t.history t.shown t.doubt outcomes first.new first.writes at_line a in_lines left kept ahead e can.line can.len can.request refl))
            (λ x is. no_some (sym none ∙ is)) tt (λ m is. let same = some_same is in omega (arith, same))
            (λ d r is. cc);
        most = omega (arith, longer, most);
      }
  step_writes _ _ (refuses t moment f ends does) =
      let first = settle_writes may l fresh s t outcomes new side.writes side.most ends in
      record {
        new = first.new;
        writes = no_more l fresh t.history t.shown t.doubt outcomes first.new first.writes at_line a in_lines left (kept_refused f (size t.history)) ahead t.shown t.doubt (omega arith) (λ x is. inl is)
            (omega arith, (moment, ap (λ (g : History). exec_line g a.request moment a.bytes) (upto_all t.history) ∙ does)) (λ m is. let same = some_same is in omega (arith, same)) (λ d r is. cc);
        most = first.most;
      }
  step_writes _ _ (doubts t e can) =
      let first = settle_writes may l fresh s t outcomes new side.writes side.most can.settled in
      let kept = kept_doubt (size t.history) in
      record {
        new = first.new;
        writes = no_more l fresh t.history t.shown t.doubt outcomes first.new first.writes at_line a in_lines left kept ahead t.shown (Some e) (omega arith)
            (λ x is. inr (subst (IsOfBegun l (with_told kept)) (some_same is) (of_this l fresh t.history t.shown t.doubt outcomes first.new first.writes at_line a in_lines left kept ahead e can.line can.len can.request refl)))
            tt (λ m is. let same = some_same is in omega (arith, same)) (λ d r is. cc);
        most = first.most;
      }
  step_writes _ _ (leaves_doubt e is) = record {
    new = new;
    writes = no_more l fresh s.history s.shown s.doubt outcomes new side.writes at_line a in_lines left kept_unsettled ahead s.shown s.doubt (omega arith) (λ x is. inl is) tt (λ m is. no_some is) (λ d r is. cc);
    most = side.most;
  }
  step_writes _ _ lacks_memory = record {
    new = new;
    writes = no_more l fresh s.history s.shown s.doubt outcomes new side.writes at_line a in_lines left kept_memory ahead s.shown s.doubt (omega arith) (λ x is. inl is) tt (λ m is. no_some is) (λ d r is. cc);
    most = side.most;
  }
  step_writes _ _ (lacks_memory_settled t ends) =
      let first = settle_writes may l fresh s t outcomes new side.writes side.most ends in
      record {
        new = first.new;
        writes = no_more l fresh t.history t.shown t.doubt outcomes first.new first.writes at_line a in_lines left kept_memory ahead t.shown t.doubt (omega arith) (λ x is. inl is) tt (λ m is. no_some is) (λ d r is. cc);
        most = first.most;
      }

  -- a write of the caller keeps it all
  pub side_keeps : (kept : Kept) (u : State) → WriteKeeps may s a.line a.bytes a.request kept u → (more : List Entry) × KeepsSide may l (a.line + 1) u (with_told kept) more
  side_keeps kept u step =
      let w = step_writes kept u step in (
        w.new,
        record {
          history = write_keeps may s outcomes a.line a.bytes a.request side.history left is_fresh kept u step;
          writes = w.writes;
          most = w.most;
          front = λ i x y t b c at_i at_x line at_y session after free. ⊎_elim
              (λ old. side.front i x y t b c old at_x line at_y session (omega (arith, above, after)) (λ j v at_j. free j v (get_left outcomes (told_of a.line kept ∷ []) j v at_j)))
              (λ (m, place, there). let is = ap (λ (v : Told). v.line) (only (told_of a.line kept) m t there).1 in omega (arith, is, after))
              (get_cases outcomes (told_of a.line kept ∷ []) i t at_i);
        },
      )

-- ---- the caller's walk

rest_ahead : (l : Begun) (p q : ℕ) (a : WriteLine) (ls : List WriteLine) → AreAhead l p (a ∷ ls) → q ≤ a.line + 1 → AreAhead l q ls
rest_ahead l p q a ls are le = record {
  among = λ i b at. are.among (suc i) b at;
  rise = λ i j b c less at_b at_c. are.rise (suc i) (suc j) b c (omega (arith, less)) at_b at_c;
  ahead = λ i b at. let less = are.rise 0 (suc i) a b (omega arith) refl at in omega (arith, less, le);
}

-- the caller's writes keep it all
pub walk_keeps : (may : ℕ → Bool) (l : Begun) (fresh : AreNew l) (ls : List WriteLine) (s : State) (outcomes : List Told) (new : List Entry) (p : ℕ) (t : State) (outs : List Told) → KeepsSide may l p s outcomes new → AreAhead l p ls
    → CallerWrites may s outcomes ls t outs → (q : ℕ) × (more : List Entry) × KeepsSide may l q t outs more
walk_keeps may l fresh [] s outcomes new p t outs side are (t_is, outs_is) =
    (p, new, subst (λ (x : State). KeepsSide may l p x outs new) (sym t_is) (subst (λ (os : List Told). KeepsSide may l p s os new) (sym outs_is) side))
walk_keeps may l fresh (a ∷ ls) s outcomes new p t outs side are steps = ⊎_elim
    (λ passed. walk_keeps may l fresh ls s outcomes new p t outs side (rest_ahead l p p a ls are (let ahead = are.ahead 0 a refl in omega (arith, ahead))) passed)
    (λ (left, (kept, m, step, others)).
    let (x, in_lines) = are.among 0 a refl in
    let (more, next) = side_keeps may l fresh s outcomes new p side x a in_lines (are.ahead 0 a refl) left kept m step in
    walk_keeps may l fresh ls m (outcomes ++ told_of a.line kept ∷ []) more (a.line + 1) t outs next (rest_ahead l p (a.line + 1) a ls are (omega arith)) others)
    steps
