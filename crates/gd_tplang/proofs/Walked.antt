-- The steps of the code's walk.
use Rattle.std.proofs.Common.{◌≡◌, ◌∙◌, sym, ap, ℕ, suc, ◌+◌, ◌<◌, ◌≤◌, max, List, [], ◌∷◌, length, true, false, ◌||◌, Result, Ok, Err, Bor, arith}
use Rattle.std.specs.Prelude.{codes}
use Rattle.gd_defs.specs.Query.{Mode}
use Rattle.gd_defs.specs.Template.{Hop}
use Rattle.gd_grammar.specs.Chain.{◌>>=◌}
use Rattle.gd_grammar.specs.Grammar.{Reads, text_at}
use Rattle.gd_tplang.specs.declared.stop.Stop.{Stop}
use Rattle.gd_tplang.specs.Stop.{Stopped}
use Rattle.gd_grammar.specs.Choice.{is_byte, begins}
use Rattle.gd_tplang.specs.Written.{Test, head_at, test_at, begins_clause}
use Rattle.gd_tplang.specs.Meaning.{is_bad_test}
use Rattle.gd_tplang.specs.Survey.{Marks, Walk, marks, top, others, finish, enters, space_at, IsOpen, Enough}
use Rattle.gd_tplang.specs.Walks.{Enters, Steps}
use Rattle.gd_tplang.proofs.Texts.{stopped_then}
use Rattle.gd_tplang.proofs.Lists.{stopped_same}
use Rattle.gd_tplang.proofs.Surveys.{step_closes, step_enters, step_tests, step_opens, byte_gone, space_gone, head_gone, test_gone}

-- the marks when a template is opened within others
abbrev opened : ℕ → Marks → Marks
opened level m = record { bad = m.bad; deepest = max m.deepest (level + 1) }

-- reads what stands before the items of a clause's template, and goes on
abbrev opens : ℕ → Walk → List ℕ → Reads Marks
opens k w bytes = head_at bytes >>= λ h. text_at (codes " ") h.1 >>= λ u. text_at (codes "(") u.1 >>= λ v. finish k (0 ∷ w.counts) (opened (length w.counts) (marks w)) v.1

opens_is : (k : ℕ) (w : Walk) (bytes : List ℕ) → IsOpen w → length w.counts < k → begins begins_clause bytes ≡ true → enters k (top w.counts) (others w.counts) (marks w) bytes ≡ opens k w bytes
opens_is k w bytes inside enough comes =
    let long = ap length inside in
    step_opens k (top w.counts) (others w.counts) (marks w) bytes (omega (arith, long, enough)) comes
    ∙ ap (λ cs. head_at bytes >>= λ h. text_at (codes " ") h.1 >>= λ u. text_at (codes "(") u.1 >>= λ v. finish k (0 ∷ cs) (opened (length cs) (marks w)) v.1) (sym inside)

pub clause_head_stops : (e : Stop) (k : ℕ) (w : Walk) (bytes : List ℕ) → IsOpen w → length w.counts < k → begins begins_clause bytes ≡ true → Stopped e (head_at bytes) → Stopped e (enters k (top w.counts) (others w.counts) (marks w) bytes)
clause_head_stops e k w bytes inside enough comes s =
    stopped_same e _ _ (sym (opens_is k w bytes inside enough comes)) (stopped_then e (head_at bytes) (λ h. text_at (codes " ") h.1 >>= λ u. text_at (codes "(") u.1 >>= λ v. finish k (0 ∷ w.counts) (opened (length w.counts) (marks w)) v.1) s)

behind_head : (k : ℕ) (w : Walk) (bytes : List ℕ) (h : Mode × Hop) (rest : List ℕ) → IsOpen w → length w.counts < k → begins begins_clause bytes ≡ true → head_at bytes ≡ Ok (h, rest)
    → enters k (top w.counts) (others w.counts) (marks w) bytes ≡ (text_at (codes " ") rest >>= λ u. text_at (codes "(") u.1 >>= λ v. finish k (0 ∷ w.counts) (opened (length w.counts) (marks w)) v.1)
behind_head k w bytes h rest inside enough comes is =
    opens_is k w bytes inside enough comes ∙ ap (λ (r : Reads (Mode × Hop)). r >>= λ h. text_at (codes " ") h.1 >>= λ u. text_at (codes "(") u.1 >>= λ v. finish k (0 ∷ w.counts) (opened (length w.counts) (marks w)) v.1) is

pub clause_space_stops : (e : Stop) (k : ℕ) (w : Walk) (bytes : List ℕ) (h : Mode × Hop) (rest : List ℕ) → IsOpen w → length w.counts < k → begins begins_clause bytes ≡ true → head_at bytes ≡ Ok (h, rest) → Stopped e (text_at (codes " ") rest)
    → Stopped e (enters k (top w.counts) (others w.counts) (marks w) bytes)
clause_space_stops e k w bytes h rest inside enough comes is s =
    stopped_same e _ _ (sym (behind_head k w bytes h rest inside enough comes is)) (stopped_then e (text_at (codes " ") rest) (λ u. text_at (codes "(") u.1 >>= λ v. finish k (0 ∷ w.counts) (opened (length w.counts) (marks w)) v.1) s)

behind_space : (k : ℕ) (w : Walk) (bytes : List ℕ) (h : Mode × Hop) (rest more : List ℕ) → IsOpen w → length w.counts < k → begins begins_clause bytes ≡ true → head_at bytes ≡ Ok (h, rest) → text_at (codes " ") rest ≡ Ok (tt, more)
    → enters k (top w.counts) (others w.counts) (marks w) bytes ≡ (text_at (codes "(") more >>= λ v. finish k (0 ∷ w.counts) (opened (length w.counts) (marks w)) v.1)
behind_space k w bytes h rest more inside enough comes is space =
    behind_head k w bytes h rest inside enough comes is ∙ ap (λ (r : Reads (Unit {0})). r >>= λ u. text_at (codes "(") u.1 >>= λ v. finish k (0 ∷ w.counts) (opened (length w.counts) (marks w)) v.1) space

pub clause_bracket_stops : (e : Stop) (k : ℕ) (w : Walk) (bytes : List ℕ) (h : Mode × Hop) (rest more : List ℕ) → IsOpen w → length w.counts < k → begins begins_clause bytes ≡ true → head_at bytes ≡ Ok (h, rest) → text_at (codes " ") rest ≡ Ok (tt, more)
    → Stopped e (text_at (codes "(") more) → Stopped e (enters k (top w.counts) (others w.counts) (marks w) bytes)
clause_bracket_stops e k w bytes h rest more inside enough comes is space s =
    stopped_same e _ _ (sym (behind_space k w bytes h rest more inside enough comes is space)) (stopped_then e (text_at (codes "(") more) (λ v. finish k (0 ∷ w.counts) (opened (length w.counts) (marks w)) v.1) s)

pub clause_opens : (k : ℕ) (w now : Walk) (bytes : List ℕ) (h : Mode × Hop) (rest more last : List ℕ) → IsOpen w → length w.counts < k → begins begins_clause bytes ≡ true → head_at bytes ≡ Ok (h, rest) → text_at (codes " ") rest ≡ Ok (tt, more)
    → text_at (codes "(") more ≡ Ok (tt, last) → now ≡ record { counts = 0 ∷ w.counts; bad = w.bad; deepest = max w.deepest (length w.counts + 1) }
    → (enters k (top w.counts) (others w.counts) (marks w) bytes ≡ finish k now.counts (marks now) last) × (length last < length bytes) × (length now.counts ≤ length w.counts + 1)
clause_opens k w now bytes h rest more last inside enough comes is space bracket now_is =
    let first = head_gone bytes h rest is in
    let second = ap length (byte_gone 32 rest more space) in
    let third = ap length (byte_gone 40 more last bracket) in
    let counts = ap (λ (x : Walk). length x.counts) now_is in (
      behind_space k w bytes h rest more inside enough comes is space ∙ ap (λ (r : Reads (Unit {0})). r >>= λ v. finish k (0 ∷ w.counts) (opened (length w.counts) (marks w)) v.1) bracket ∙ ap (λ (x : Walk). finish k x.counts (marks x) last) (sym now_is),
      omega (arith, first, second, third),
      omega (arith, counts),
    )

-- ---- tests

abbrev tested : Marks → Test → Marks
tested m t = record { bad = m.bad || is_bad_test t; deepest = m.deepest }

tests_is : (k : ℕ) (w : Walk) (bytes : List ℕ) → IsOpen w → begins begins_clause bytes ≡ false → enters k (top w.counts) (others w.counts) (marks w) bytes ≡ (test_at bytes >>= λ t. finish k w.counts (tested (marks w) t.0) t.1)
tests_is k w bytes inside other = step_tests k (top w.counts) (others w.counts) (marks w) bytes other ∙ ap (λ cs. test_at bytes >>= λ t. finish k cs (tested (marks w) t.0) t.1) (sym inside)

pub test_stops : (e : Stop) (k : ℕ) (w : Walk) (bytes : List ℕ) → IsOpen w → begins begins_clause bytes ≡ false → Stopped e (test_at bytes) → Stopped e (enters k (top w.counts) (others w.counts) (marks w) bytes)
test_stops e k w bytes inside other s = stopped_same e _ _ (sym (tests_is k w bytes inside other)) (stopped_then e (test_at bytes) (λ t. finish k w.counts (tested (marks w) t.0) t.1) s)

pub test_enters : (k : ℕ) (w now : Walk) (bytes : List ℕ) (t : Test) (rest : List ℕ) → IsOpen w → begins begins_clause bytes ≡ false → test_at bytes ≡ Ok (t, rest) → now ≡ record { counts = w.counts; bad = w.bad || is_bad_test t; deepest = w.deepest }
    → (enters k (top w.counts) (others w.counts) (marks w) bytes ≡ finish k now.counts (marks now) rest) × (length rest < length bytes) × (length now.counts ≤ length w.counts + 1)
test_enters k w now bytes t rest inside other is now_is =
    let counts = ap (λ (x : Walk). length x.counts) now_is in (
      tests_is k w bytes inside other ∙ ap (λ (r : Reads Test). r >>= λ t. finish k w.counts (tested (marks w) t.0) t.1) is ∙ ap (λ (x : Walk). finish k x.counts (marks x) rest) (sym now_is),
      test_gone bytes t rest is,
      omega (arith, counts),
    )

-- ---- steps

pub closes : (k : ℕ) (w now : Walk) (bytes rest : List ℕ) → IsOpen w → length w.counts ≤ w.deepest → text_at (41 ∷ []) bytes ≡ Ok (tt, rest) → now ≡ record { counts = others w.counts; bad = w.bad; deepest = w.deepest } → Enough k w.counts bytes
    → (finish k w.counts (marks w) bytes ≡ finish k now.counts (marks now) rest) × (length rest < length bytes) × Enough k now.counts rest
closes k w now bytes rest inside deep is now_is enough =
    let gone = byte_gone 41 bytes rest is in
    let shorter = ap length gone in
    let long = ap length inside in
    let counts = ap (λ (x : Walk). length x.counts) now_is in (
      ap (λ l. finish k w.counts (marks w) l) gone ∙ ap (λ cs. finish k cs (marks w) (41 ∷ rest)) inside ∙ step_closes k (top w.counts) (others w.counts) (marks w) rest (omega (arith, long, deep)) ∙ ap (λ (x : Walk). finish k x.counts (marks x) rest) (sym now_is),
      omega (arith, shorter),
      omega (arith, shorter, long, counts, enough),
    )

enters_is : (k : ℕ) (w : Walk) (bytes : List ℕ) → IsOpen w → begins (is_byte 41) bytes ≡ false → finish k w.counts (marks w) bytes ≡ (space_at (top w.counts) bytes >>= λ u. enters k (suc (top w.counts)) (others w.counts) (marks w) u.1)
enters_is k w bytes inside other = ap (λ cs. finish k cs (marks w) bytes) inside ∙ step_enters k (top w.counts) (others w.counts) (marks w) bytes other

pub space_stops : (e : Stop) (k : ℕ) (w : Walk) (bytes : List ℕ) → IsOpen w → begins (is_byte 41) bytes ≡ false → Stopped e (space_at (top w.counts) bytes) → Stopped e (finish k w.counts (marks w) bytes)
space_stops e k w bytes inside other s = stopped_same e _ _ (sym (enters_is k w bytes inside other)) (stopped_then e (space_at (top w.counts) bytes) (λ u. enters k (suc (top w.counts)) (others w.counts) (marks w) u.1) s)

-- an item that was read is a step
pub item_steps : (k : ℕ) (w mid now : Walk) (bytes rest : List ℕ) (result : Result (Bor (List ℕ)) Stop) → IsOpen w → Enough k w.counts bytes → begins (is_byte 41) bytes ≡ false → space_at (top w.counts) bytes ≡ Ok (tt, rest)
    → mid ≡ record { counts = suc (top w.counts) ∷ others w.counts; bad = w.bad; deepest = w.deepest } → Enters k mid rest now result → Steps k w bytes now result
item_steps k w mid now bytes rest result inside enough other is mid_is entered = by result entered
  where
    same : finish k w.counts (marks w) bytes ≡ enters k (top mid.counts) (others mid.counts) (marks mid) rest
    same = enters_is k w bytes inside other ∙ ap (λ (r : Reads (Unit {0})). r >>= λ u. enters k (suc (top w.counts)) (others w.counts) (marks w) u.1) is ∙ ap (λ (x : Walk). enters k (top x.counts) (others x.counts) (marks x) rest) (sym mid_is)

    by : (result : Result (Bor (List ℕ)) Stop) → Enters k mid rest now result → Steps k w bytes now result
    by (Ok last) (goes, shorter, few) =
        let gone = space_gone (top w.counts) bytes rest is in
        let long = ap length inside in
        let counts = ap (λ (x : Walk). length x.counts) mid_is in
        (same ∙ goes, omega (arith, gone, shorter), omega (arith, gone, shorter, few, long, counts, enough))
    by (Err e) stopped = stopped_same e _ _ (sym same) stopped

-- there are levels enough for a clause
pub clause_enough : (k : ℕ) (w mid : Walk) (bytes rest : List ℕ) → IsOpen w → Enough k w.counts bytes → space_at (top w.counts) bytes ≡ Ok (tt, rest) → begins begins_clause rest ≡ true
    → mid ≡ record { counts = suc (top w.counts) ∷ others w.counts; bad = w.bad; deepest = w.deepest } → length mid.counts < k
clause_enough k w mid bytes rest inside enough is comes mid_is =
    let gone = space_gone (top w.counts) bytes rest is in
    let long = ap length inside in
    let counts = ap (λ (x : Walk). length x.counts) mid_is in
    let some = not_empty rest comes in
    omega (arith, gone, long, counts, some, enough)
  where
    not_empty : (l : List ℕ) → begins begins_clause l ≡ true → 0 < length l
    not_empty [] e = cc
    not_empty (c ∷ cs) e = omega arith
