-- Lines that are replied to, one list behind another.
use Rattle.std.proofs.Common.{◌≡◌, ℕ, ◌+◌, List, [], ◌∷◌, ◌++◌, length, sym, ap, subst, ◌∙◌, arith, append_assoc}
use Rattle.gd_runs.specs.Explained.{Numbered}
use Rattle.gd_answering.specs.Answering.{Replies, Reaches}

module _ {A : Type 0} (answers : A → ℕ → List ℕ → List ℕ → A → Type 0) where
  pub replies_join : (s mid t : A) (k : ℕ) (before behind : List Numbered) (output rest : List ℕ) → Replies answers s k before output mid → Replies answers mid (k + length before) behind rest t
      → Replies answers s k (before ++ behind) (output ++ rest) t
  replies_join s mid t k [] behind output rest (o, m) more =
      let at : k + 0 ≡ k = omega arith in
      subst (λ (out : List ℕ). Replies answers s k behind (out ++ rest) t) (sym o) (subst (λ (x : A). Replies answers x k behind rest t) m (subst (λ (n : ℕ). Replies answers mid n behind rest t) at more))
  replies_join s mid t k (l ∷ ls) behind output rest (reply, next, tail, first, o, others) more =
      let at : k + length (l ∷ ls) ≡ (k + 1) + length ls = omega arith in (
        reply,
        next,
        tail ++ rest,
        first,
        ap (λ (out : List ℕ). out ++ rest) o ∙ append_assoc reply (10 ∷ tail) rest,
        replies_join next mid t (k + 1) ls behind tail rest others (subst (λ (n : ℕ). Replies answers mid n behind rest t) at more),
      )

  -- what each answer keeps is kept by lines
  pub replies_keep : (P : A → Type 0) → ((s : A) (k : ℕ) (line reply : List ℕ) (t : A) → P s → answers s k line reply t → P t)
      → (s t : A) (k : ℕ) (lines : List Numbered) (output : List ℕ) → Replies answers s k lines output t → P s → P t
  replies_keep P keeps s t k [] output (o, same) holds = subst P (sym same) holds
  replies_keep P keeps s t k (l ∷ ls) output (reply, next, tail, first, o, others) holds = replies_keep P keeps next t (k + 1) ls tail others (keeps s k l.bytes reply next holds first)

  pub reaches_keeps : (P : A → Type 0) → ((s : A) (k : ℕ) (line reply : List ℕ) (t : A) → P s → answers s k line reply t → P t)
      → (s t : A) → Reaches answers s t → P s → P t
  reaches_keeps P keeps s t reaches holds = replies_keep P keeps s t 0 reaches.lines reaches.output reaches.replies holds
