-- Runs of lines, one behind another.
use Rattle.std.proofs.Common.{◌≡◌, ℕ, ◌+◌, List, [], ◌∷◌, ◌++◌, length, Bool, sym, ap, subst, ◌∙◌, arith, append_assoc}
use Rattle.gd_runs.specs.Owed.{MembersOf}
use Rattle.gd_runs.specs.Explained.{Numbered}
use Rattle.gd_runs.specs.Core.{State}
use Rattle.gd_runs.specs.Pace.{DueOf, Left}
use Rattle.gd_replay_laws.specs.Runs.{RepliesOver}
use Rattle.gd_replay_laws.specs.Paced.{PacedRun}

pub runs_join : (told : Bool) (members : MembersOf) (may : ℕ → Bool) (s mid t : State) (k : ℕ) (before behind : List Numbered) (output rest : List ℕ) → RepliesOver told members may s k before output mid
    → RepliesOver told members may mid (k + length before) behind rest t → RepliesOver told members may s k (before ++ behind) (output ++ rest) t
runs_join told members may s mid t k [] behind output rest (o, m) more =
    let at : k + 0 ≡ k = omega arith in
    subst (λ (out : List ℕ). RepliesOver told members may s k behind (out ++ rest) t) (sym o) (subst (λ (x : State). RepliesOver told members may x k behind rest t) m (subst (λ (n : ℕ). RepliesOver told members may mid n behind rest t) at more))
runs_join told members may s mid t k (a ∷ ls) behind output rest (reply, next, tail, first, o, others) more =
    let at : k + length (a ∷ ls) ≡ (k + 1) + length ls = omega arith in (
      reply,
      next,
      tail ++ rest,
      first,
      ap (λ (out : List ℕ). out ++ rest) o ∙ append_assoc reply (10 ∷ tail) rest,
      runs_join told members may next mid t (k + 1) ls behind tail rest others (subst (λ (n : ℕ). RepliesOver told members may mid n behind rest t) at more),
    )

pub paced_join : (told : Bool) (members : MembersOf) (d : DueOf) (may : ℕ → Bool) (s mid t : State) (a b z : Left) (k : ℕ) (before behind : List Numbered) (output rest : List ℕ) → PacedRun told members d may s a k before output mid b
    → PacedRun told members d may mid b (k + length before) behind rest t z → PacedRun told members d may s a k (before ++ behind) (output ++ rest) t z
paced_join told members d may s mid t a b z k [] behind output rest (o, m, same) more =
    let at : k + 0 ≡ k = omega arith in
    subst (λ (out : List ℕ). PacedRun told members d may s a k behind (out ++ rest) t z) (sym o) (subst (λ (x : State). PacedRun told members d may x a k behind rest t z) m
    (subst (λ (c : Left). PacedRun told members d may mid c k behind rest t z) same (subst (λ (n : ℕ). PacedRun told members d may mid b n behind rest t z) at more)))
paced_join told members d may s mid t a b z k (l ∷ ls) behind output rest (reply, next, c, tail, first, pace, o, others) more =
    let at : k + length (l ∷ ls) ≡ (k + 1) + length ls = omega arith in (
      reply,
      next,
      c,
      tail ++ rest,
      first,
      pace,
      ap (λ (out : List ℕ). out ++ rest) o ∙ append_assoc reply (10 ∷ tail) rest,
      paced_join told members d may next mid t c b z (k + 1) ls behind tail rest others (subst (λ (n : ℕ). PacedRun told members d may mid b n behind rest t z) at more),
    )
