-- A candidate is tried from its start to its end, whatever else the scan does.
use Rattle.std.proofs.Common.{◌≡◌, ℕ, ◌+◌, List, [], ◌∷◌, ◌++◌, refl, ap, sym, subst, ◌∙◌}
use Rattle.std.specs.Prelude.{map, option_map}
use Rattle.gd_prim.specs.declared.Primitive.{Primitive}
use Rattle.gd_tree.specs.Trees.{tree}
use Rattle.gd_defs.specs.Template.{Template, template}
use Rattle.gd_scan_laws.specs.PassedOn.{IterAt, Frame, Scan, ScanOrder, Candidate, candidate, candidates_from, tried, owed_by}
use Rattle.gd_match_laws.specs.Moves.{order_from, fresh, picks, frames_move, gives, Runs, stays, moves}
use Rattle.gd_match_laws.proofs.Reached.{StackGoes, stack_still, stack_then, iter_at, AtEnd, comes-to-end}
use Rattle.gd_match_laws.proofs.Scans.{run-keeps}

module _ (prims : List Primitive) (order : ScanOrder) where
  -- a scan comes to this one, and gives one candidate
  abbrev GivesOne : Template → Scan → Scan → Type 0
  GivesOne t s e = (c : Candidate) × Runs prims order t s (c ∷ []) e

  one-after : (t : Template) (i : IterAt) (n : ℕ) (gs hs : List Frame) (e : Scan) → StackGoes prims t gs hs → ((m : ℕ) → GivesOne t (record { iter = i; weight = m; frames = hs }) e) → GivesOne t (record { iter = i; weight = n; frames = gs }) e
  one-after t i n _ _ e (stack_still gs) more = more n
  one-after t i n _ _ e (stack_then gs hs es d step rest) more =
      let to = one-after t i (n + d) hs es e rest more in
      (to.0, moves (record { iter = i; weight = n; frames = gs }) (record { iter = i; weight = n + d; frames = hs }) e [] (to.0 ∷ []) (frames_move t (record { iter = i; weight = n; frames = gs }) d hs step) to.1)

  -- from its start a candidate is tried to its end, and given
  from-start : (t : Template) (x : ℕ) (i : IterAt) → GivesOne t (record { iter = i; weight = 0; frames = fresh x (iter_at 0) ∷ [] }) (record { iter = i; weight = 0; frames = [] })
  from-start (template ks asked) x i =
      let run = comes-to-end prims (template ks asked) x in
      one-after (template ks asked) i 0 (fresh x (iter_at 0) ∷ []) (run.0 ∷ []) (record { iter = i; weight = 0; frames = [] }) run.2
      (λ m. (
        record { weight = m; answer = option_map (tree run.0.place) run.1 },
        moves (record { iter = i; weight = m; frames = run.0 ∷ [] }) (record { iter = i; weight = 0; frames = [] }) (record { iter = i; weight = 0; frames = [] }) (record { weight = m; answer = option_map (tree run.0.place) run.1 } ∷ []) []
            (gives ks asked (record { iter = i; weight = m; frames = run.0 ∷ [] }) run.0 0 run.1 refl run.3) (stays (record { iter = i; weight = 0; frames = [] })),
      ))

  -- what is given is what was owed
  as-owed : (t : Template) (s : Scan) (x : ℕ × ℕ) (i : IterAt) (c : Candidate) → s.frames ≡ [] → order_from prims t order s.iter.place ≡ x ∷ order_from prims t order i.place → Runs prims order t s (c ∷ []) (record { iter = i; weight = 0; frames = [] })
      → c ≡ candidate prims t x.1
  as-owed t s x i c none found runs =
      let owed : tried prims t s.weight s.frames ++ candidates_from prims t order s.iter.place ≡ c ∷ candidates_from prims t order i.place = run-keeps prims order t s (c ∷ []) (record { iter = i; weight = 0; frames = [] }) runs in
      let first : tried prims t s.weight s.frames ++ candidates_from prims t order s.iter.place ≡ candidate prims t x.1 ∷ candidates_from prims t order i.place =
      ap (λ fs. tried prims t s.weight fs ++ candidates_from prims t order s.iter.place) none ∙ ap (λ l. map (λ d. candidate prims t d.1) l) found in
      same _ _ _ _ (sym owed ∙ first)
    where
      same : (a b : Candidate) (us vs : List Candidate) → a ∷ us ≡ b ∷ vs → a ≡ b
      same a b us vs is = cc

  -- LAW: the first candidate of what is left of a scan is given by a run of moves
  pub at-once : (t : Template) (s : Scan) (x : ℕ × ℕ) (i : IterAt) → s.frames ≡ [] → order_from prims t order s.iter.place ≡ x ∷ order_from prims t order i.place → Runs prims order t s (candidate prims t x.1 ∷ []) (record { iter = i; weight = 0; frames = [] })
  at-once t s x i none found =
      let tried = from-start t x.1 i in
      let runs : Runs prims order t s (tried.0 ∷ []) (record { iter = i; weight = 0; frames = [] }) =
      moves s (record { iter = i; weight = 0; frames = fresh x.1 (iter_at 0) ∷ [] }) (record { iter = i; weight = 0; frames = [] }) [] (tried.0 ∷ []) (picks t s x i (iter_at 0) none found) tried.1 in
      subst (λ c. Runs prims order t s (c ∷ []) (record { iter = i; weight = 0; frames = [] })) (as-owed t s x i tried.0 none found runs) runs
