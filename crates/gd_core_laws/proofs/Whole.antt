-- A write line over the core, with a doubt that is ended first; and the whole run.
use Rattle.std.proofs.Common.{◌≡◌, refl, ℕ, zero, suc, ◌+◌, ◌≤◌, ◌==◌, ⊎_elim, Bool, true, false, List, [], ◌∷◌, ◌++◌, length, map, Option, Some, None, Ok, if◌then◌else◌, slice_get, option_map, sym, subst, ap, ◌∙◌, arith, length-append, append_assoc}
use Rattle.std.proofs.lemmas.List.{append-nil}
use Rattle.gd_prim.specs.declared.Batch.{Batch}
use Rattle.gd_prim.specs.Builtin.{builtin}
use Rattle.gd_prim.specs.WellFormed.{all_follow}
use Rattle.gd_defs.specs.Write.{WriteRequest}
use Rattle.gd_runs.specs.Owed.{MembersOf}
use Rattle.gd_runs.specs.Request.{write}
use Rattle.gd_runs.specs.Input.{line_from}
use Rattle.gd_runs.specs.Legal.{Entry, size, with_entry}
use Rattle.gd_runs.specs.Explained.{Numbered, Run, Explains, max_round, numbered, pieces, lines_of}
use Rattle.gd_runs.specs.Core.{State, opened, Settles, Writable, WriteStep, stores, stores_late, refuses, doubts, leaves_doubt, lacks_memory, lacks_memory_settled}
use Rattle.gd_runs.proofs.Rounds.{no_some, some_same, get_left, get_right, get_within, no_round}
use Rattle.gd_runs.proofs.LineMore.{UptoRound}
use Rattle.gd_core_laws.specs.Serve.{ReadServed, LineServed, no_line, reads, writes, Shows, LinesServed, Serves}
use Rattle.gd_core_laws.specs.Serve as serve
use Rattle.gd_core_laws.specs.Served.{IsServed, IsDoubted, IsDoubtOf}
use Rattle.gd_core_laws.proofs.Reading.{read_served}
use Rattle.gd_core_laws.proofs.OneLine.{settled_explained}
use Rattle.gd_core_laws.proofs.Lines.{IsNext, one_longer, stays, fault_served, memory_served, answer_served, not_tried_served, refused_served, late_served, stored_served, doubtful_served}

-- ---- a doubt is ended

-- the core after a doubt has ended, with no group in doubt
pub record IsSettled (loaded : List Batch) (may : ℕ → Bool) (given : List Numbered) (output : List ℕ) (t : State) (runs : List Run) : Type 0 where
  pub served : IsServed loaded may given output t runs
  pub none : t.doubt ≡ None

-- the state with a group that was in doubt as its last entry, of which so much is shown
abbrev with_doubt : State → Entry → ℕ → State
with_doubt s e shown = record s { history = with_entry s.history e; shown = shown; doubt = None }

module _ (loaded : List Batch) (may : ℕ → Bool) (given : List Numbered) (output : List ℕ) (s : State) (runs : List Run) (inv : IsServed loaded may given output s runs) (round : ℕ) (upto_here : UptoRound runs round) where
  dropped_served : IsSettled loaded may given output (record s { doubt = None }) runs
  dropped_served = record {
    served = record { explained = inv.explained; least = inv.least; most = inv.most; told = inv.told; within = inv.within; seen = inv.seen; doubted = tt };
    none = refl;
  }

  counted_served : (e : Entry) → IsDoubtOf may s.history runs e → (n : ℕ) → s.shown ≤ n → n ≤ size s.history + 1 → IsSettled loaded may given output (with_doubt s e n) runs
  counted_served e is n above below =
      let longer = one_longer s.history e in
      record {
        served = record {
          explained = settled_explained loaded may given output s runs inv round upto_here e is;
          least = let least = inv.least in omega (arith, least, above);
          most = omega (arith, below, longer);
          told = λ k r d at told. let shown = inv.told k r d at told in omega (arith, shown, above);
          within = λ i. let within = inv.within i in omega (arith, within, above);
          seen = inv.seen;
          doubted = tt;
        };
        none = refl;
      }

  pub settle_served : (t : State) → Settles s t → IsSettled loaded may given output t runs
  settle_served t step = by s.doubt refl inv.doubted
    where
      by : (d : Option Entry) → s.doubt ≡ d → IsDoubted may s.history runs s.doubt → IsSettled loaded may given output t runs
      by None is doubted = let same = rw is at step in subst (λ (x : State). IsSettled loaded may given output x runs) (sym same) dropped_served
      by (Some e) is doubted =
          let doubt : IsDoubtOf may s.history runs e = subst (IsDoubted may s.history runs) is doubted in
          let cases = rw is at step in
          let most = inv.most in
          ⊎_elim
          (λ no. subst (λ (x : State). IsSettled loaded may given output x runs) (sym no) dropped_served)
          (λ yes. ⊎_elim
          (λ shown. subst (λ (x : State). IsSettled loaded may given output x runs) (sym shown) (counted_served e doubt (size s.history + 1) (omega (arith, most)) (omega arith)))
          (λ late. subst (λ (x : State). IsSettled loaded may given output x runs) (sym late) (counted_served e doubt s.shown (omega arith) (omega (arith, most))))
          yes)
          cases

module _ (loaded : List Batch) (may : ℕ → Bool) (given : List Numbered) (output : List ℕ) (s : State) (runs : List Run) (inv : IsServed loaded may given output s runs) where
  -- entries that were not shown may be
  pub shows_served : (t : State) → Shows s t → IsServed loaded may given output t runs
  shows_served t (n, above, below, is) = subst (λ (x : State). IsServed loaded may given output x runs) (sym is) (record {
    explained = inv.explained;
    least = let least = inv.least in omega (arith, least, above);
    most = below;
    told = λ k r d at told. let shown = inv.told k r d at told in omega (arith, shown, above);
    within = λ i. let within = inv.within i in omega (arith, within, above);
    seen = inv.seen;
    doubted = inv.doubted;
  })

-- ---- a line

-- some line more, whatever it came to
abbrev IsServedMore : List Batch → (ℕ → Bool) → List Numbered → List ℕ → List Run → Numbered → List ℕ → State → Type 0
IsServedMore loaded may given output runs l reply t = (more : List Run) × IsServed loaded may (given ++ l ∷ []) (output ++ (reply ++ 10 ∷ [])) t (runs ++ more) × (length more ≡ 1)

module _ (loaded : List Batch) (may : ℕ → Bool) (given : List Numbered) (output : List ℕ) (s : State) (runs : List Run) (inv : IsServed loaded may given output s runs) (l : Numbered) (upto_here : UptoRound runs l.round) where
  next : (t : State) (i : ℕ) (w : WriteRequest) (e : Entry) (settled : IsSettled loaded may given output t runs) → line_from l.bytes ≡ Ok (write i w) → Writable may s (length runs) (length l.bytes) w t e
      → IsNext loaded may given output t runs settled.served l upto_here i w e
  next t i w e settled is can = record { is = is; moment = can.moment; result = can.result; line = can.line; len = can.len; request = can.request }

  write_served : (i : ℕ) (w : WriteRequest) (reply : List ℕ) (u : State) → line_from l.bytes ≡ Ok (write i w) → WriteStep may s (length runs) (length l.bytes) i w reply u → IsServedMore loaded may given output runs l reply u
  write_served i w _ _ is (stores t e can) =
      let settled = settle_served loaded may given output s runs inv l.round upto_here t can.settled in
      (_, stored_served loaded may given output t runs settled.served l upto_here i w e (next t i w e settled is can) settled.none, refl)
  write_served i w _ _ is (stores_late t e can) =
      let settled = settle_served loaded may given output s runs inv l.round upto_here t can.settled in
      (_, late_served loaded may given output t runs settled.served l upto_here i w e (next t i w e settled is can) settled.none, refl)
  write_served i w _ _ is (refuses t moment f ends does) =
      let settled = settle_served loaded may given output s runs inv l.round upto_here t ends in
      (_, refused_served loaded may given output t runs settled.served l upto_here i w moment f is does, refl)
  write_served i w _ _ is (doubts t e can) =
      let settled = settle_served loaded may given output s runs inv l.round upto_here t can.settled in
      (_, doubtful_served loaded may given output t runs settled.served l upto_here i w e (next t i w e settled is can), refl)
  write_served i w _ _ is (leaves_doubt e doubt) = (_, not_tried_served loaded may given output s runs inv l upto_here (i, w, is), refl)
  write_served i w _ _ is lacks_memory = (_, memory_served loaded may given output s runs inv l upto_here s (stays s), refl)
  write_served i w _ _ is (lacks_memory_settled t ends) =
      let settled = settle_served loaded may given output s runs inv l.round upto_here t ends in
      (_, memory_served loaded may given output t runs settled.served l upto_here t (stays t), refl)

  -- a line and what it came to
  pub line_more : (members : MembersOf) (reply : List ℕ) (t : State) → LineServed members may s (length runs) l.bytes reply t → IsServedMore loaded may given output runs l reply t
  line_more members _ _ (no_line f is) = (_, fault_served loaded may given output s runs inv l upto_here f is, refl)
  line_more members _ _ (reads i r reply t is step) = (_, answer_served loaded may given output s runs inv l upto_here i r reply t is (read_served members s (length runs) i r reply t step), refl)
  line_more members _ _ (writes i w reply t is step) = write_served i w reply t is step
  line_more members _ _ (serve.lacks_memory t only) = (_, memory_served loaded may given output s runs inv l upto_here t only, refl)

-- ---- lines

-- no line is of an earlier round than one before it
abbrev pub RoundsRise : List Numbered → Type 0
RoundsRise ls = (i j : ℕ) (a b : Numbered) → i ≤ j → slice_get ls i ≡ Some a → slice_get ls j ≡ Some b → a.round ≤ b.round

got_line : (runs : List Run) (k : ℕ) (r : Run) → slice_get runs k ≡ Some r → slice_get (map (λ (q : Run). q.line) runs) k ≡ Some r.line
got_line [] k r is = no_some is
got_line (q ∷ runs) zero r is = ap (λ o. option_map (λ (q : Run). q.line) o) is
got_line (q ∷ runs) (suc k) r is = got_line runs k r is

-- the lines so far are of rounds up to that of the next one
pub upto_next : (given ls : List Numbered) (l : Numbered) (runs : List Run) → map (λ (r : Run). r.line) runs ≡ given → RoundsRise (given ++ l ∷ ls) → UptoRound runs l.round
upto_next given ls l runs lines rise k r at =
    let old : slice_get given k ≡ Some r.line = subst (λ (ms : List Numbered). slice_get ms k ≡ Some r.line) lines (got_line runs k r at) in
    let last : slice_get (given ++ l ∷ ls) (length given + 0) ≡ Some l = get_right given (l ∷ ls) 0 l refl in
    let within = get_within given k r.line old in
    rise k (length given + 0) r.line l (omega (arith, within)) (get_left given (l ∷ ls) k r.line old) last

-- a served core and more lines
pub lines_more : (members : MembersOf) (may : ℕ → Bool) (loaded : List Batch) (ls given : List Numbered) (output : List ℕ) (s : State) (runs : List Run) (k : ℕ) (out : List ℕ) (t : State)
    → IsServed loaded may given output s runs → k ≡ length runs → RoundsRise (given ++ ls) → LinesServed members may s k ls out t → (all : List Run) × IsServed loaded may (given ++ ls) (output ++ out) t all
lines_more members may loaded [] given output s runs k out t inv count rise (none, shows) = (
  runs,
  subst (λ (ms : List Numbered). IsServed loaded may ms (output ++ out) t runs) (sym (append-nil given))
      (subst (λ (o : List ℕ). IsServed loaded may given o t runs) (sym (ap (λ (o : List ℕ). output ++ o) none ∙ append-nil output))
      (shows_served loaded may given output s runs inv t shows)),
)
lines_more members may loaded (l ∷ ls) given output s runs k out t inv count rise (before, reply, after, rest, shows, step, out_is, others) =
    let shown = shows_served loaded may given output s runs inv before shows in
    let upto = upto_next given ls l runs inv.explained.lines rise in
    let (more, served, one) = line_more loaded may given output before runs shown l upto members reply after (subst (λ (n : ℕ). LineServed members may before n l.bytes reply after) count step) in
    let long = length-append runs more in
    let lines : (given ++ l ∷ []) ++ ls ≡ given ++ l ∷ ls = append_assoc given (l ∷ []) ls in
    let (all, end) = lines_more members may loaded ls (given ++ l ∷ []) (output ++ (reply ++ 10 ∷ [])) after (runs ++ more) (k + 1) rest t served (omega (arith, long, count, one)) (subst RoundsRise (sym lines) rise) others in
    let outs : (output ++ (reply ++ 10 ∷ [])) ++ rest ≡ output ++ out = append_assoc output (reply ++ 10 ∷ []) rest ∙ ap (λ (o : List ℕ). output ++ o) (append_assoc reply (10 ∷ []) rest ∙ sym out_is) in
    (all, subst (λ (o : List ℕ). IsServed loaded may (given ++ l ∷ ls) o t all) outs (subst (λ (ms : List Numbered). IsServed loaded may ms ((output ++ (reply ++ 10 ∷ [])) ++ rest) t all) lines end))

-- ---- the rounds of an input rise

none_before : (ps : List (List ℕ)) (round n i : ℕ) (a : Numbered) → slice_get (numbered round n ps) i ≡ Some a → round ≤ a.round
none_before [] round n i a is = no_some is
none_before ([] ∷ ps) round n i a is = let e = none_before ps (round + 1) 0 i a is in omega (arith, e)
none_before ((c ∷ cs) ∷ ps) round n zero a is = let same : record { bytes = c ∷ cs; round = round } ≡ a = some_same is in let e = ap (λ (m : Numbered). m.round) same in omega (arith, e)
none_before ((c ∷ cs) ∷ ps) round n (suc i) a is = by (none_before ps (round + 1) 0 i a) (none_before ps round (n + 1) i a) (n + 1 == max_round) is
  where
    by : (slice_get (numbered (round + 1) 0 ps) i ≡ Some a → round + 1 ≤ a.round) → (slice_get (numbered round (n + 1) ps) i ≡ Some a → round ≤ a.round) → (b : Bool) → slice_get (if b then numbered (round + 1) 0 ps else numbered round (n + 1) ps) i ≡ Some a → round ≤ a.round
    by next same true at = let e = next at in omega (arith, e)
    by next same false at = same at

numbered_rise : (ps : List (List ℕ)) (round n : ℕ) → RoundsRise (numbered round n ps)
numbered_rise [] round n i j a b before at_i at_j = no_some at_i
numbered_rise ([] ∷ ps) round n i j a b before at_i at_j = numbered_rise ps (round + 1) 0 i j a b before at_i at_j
numbered_rise ((c ∷ cs) ∷ ps) round n zero j a b before at_i at_j =
    let same : record { bytes = c ∷ cs; round = round } ≡ a = some_same at_i in let e = ap (λ (m : Numbered). m.round) same in
    let later = none_before ((c ∷ cs) ∷ ps) round n j b at_j in
    omega (arith, e, later)
numbered_rise ((c ∷ cs) ∷ ps) round n (suc i) zero a b before at_i at_j = absurd (omega (arith, before))
numbered_rise ((c ∷ cs) ∷ ps) round n (suc i) (suc j) a b before at_i at_j = by (numbered_rise ps (round + 1) 0 i j a b (omega (arith, before))) (numbered_rise ps round (n + 1) i j a b (omega (arith, before))) (n + 1 == max_round) at_i at_j
  where
    by : (slice_get (numbered (round + 1) 0 ps) i ≡ Some a → slice_get (numbered (round + 1) 0 ps) j ≡ Some b → a.round ≤ b.round)
        → (slice_get (numbered round (n + 1) ps) i ≡ Some a → slice_get (numbered round (n + 1) ps) j ≡ Some b → a.round ≤ b.round) → (t : Bool) → slice_get (if t then numbered (round + 1) 0 ps else numbered round (n + 1) ps) i ≡ Some a → slice_get (if t then numbered (round + 1) 0 ps else numbered round (n + 1) ps) j ≡ Some b → a.round ≤ b.round
    by next same true x y = next x y
    by next same false x y = same x y

pub lines_rise : (input : List ℕ) → RoundsRise (lines_of input)
lines_rise input = numbered_rise (pieces [] input) 0 0

-- ---- the whole run

-- a store that has been opened, before any line
pub served_at_first : (loaded : List Batch) (may : ℕ → Bool) → all_follow builtin 0 loaded ≡ true → IsServed loaded may [] [] (opened loaded) []
served_at_first loaded may follow = record {
  explained = no_round loaded may follow;
  least = omega arith;
  most = omega arith;
  told = λ k r d at told. no_some at;
  within = λ i. omega arith;
  seen = λ i k r d at session told. no_some at;
  doubted = tt;
}

-- lines that are served on a store that has been opened, in rounds that rise, leave a served core
pub lines_served : (members : MembersOf) (may : ℕ → Bool) (loaded : List Batch) (ls : List Numbered) (output : List ℕ) (t : State) → all_follow builtin 0 loaded ≡ true → RoundsRise ls
    → LinesServed members may (opened loaded) 0 ls output t → (runs : List Run) × IsServed loaded may ls output t runs
lines_served members may loaded ls output t follow rise steps = lines_more members may loaded ls [] [] (opened loaded) [] 0 output t (served_at_first loaded may follow) refl rise steps

-- the history of the core explains what was printed for an input
pub served_explained : (members : MembersOf) (may : ℕ → Bool) (loaded : List Batch) (input output : List ℕ) (t : State) → all_follow builtin 0 loaded ≡ true → Serves members may loaded input output t
    → Explains loaded may input output t.history
served_explained members may loaded input output t follow steps =
    let (runs, served) = lines_served members may loaded (lines_of input) output t follow (lines_rise input) steps in (runs, served.explained)
