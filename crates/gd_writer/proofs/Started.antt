-- A side before its first write.
use Rattle.std.proofs.Common.{◌≡◌, refl, ℕ, Bool, true, List, [], length, Option, None, Some, sym, subst, ap, ◌∙◌, arith, append-nil}
use Rattle.std.specs.Option.{ForSome, is_some}
use Rattle.gd_prim.specs.declared.Batch.{Batch}
use Rattle.gd_prim.specs.History.{is_history}
use Rattle.gd_runs.specs.Legal.{Entry, History, batches, size}
use Rattle.gd_runs.specs.Side.{KeepsHistory}
use Rattle.gd_runs.proofs.Rounds.{no_some, slot}
use Rattle.gd_writer.specs.declared.outcome.WriteOf.{WriteOf}
use Rattle.gd_writer.specs.Parts.{LedgerValue, CopiesValue}
use Rattle.gd_writer.specs.Side.{IsSide}

-- what is told of a disk that tells its content
pub told_so : {X : Type 0} (o : Option X) (Q : Type 0) → is_some o ≡ true → ForSome o (λ x. Q) → Q
told_so None Q is holds = cc
told_so (Some x) Q is holds = holds x refl

-- a history without entries is kept
pub begins_history : (may : ℕ → Bool) (store : List Batch) → is_history store ≡ true → KeepsHistory may (record { loaded = store; entries = [] }) None []
unfolding is_history
begins_history may store follow = record {
  legal = record { loaded = follow; entries = tt; lines = λ i j x y a b before same. no_some a };
  next = tt;
  moments = λ e x at. let (i, is, there) = slot store [] e x at in no_some there;
  agree = λ i t at. no_some at;
  order = record { lines = λ i j a b at_a at_b less same. no_some at_a; rise = λ i j m n a b at_a at_b less is_m is_n. no_some at_a; above = λ i j e n a b at_a at_b less is_e is_n. no_some at_a };
  within = λ i n t at number. no_some at;
}

-- a side before its first write keeps what a side keeps
pub side_begins : {D C : Type 0} (may : C → ℕ → Bool) (ledger : LedgerValue D) (copies : CopiesValue) (clock : C) (outcomes : List WriteOf) (store : List Batch)
    → ledger.history ≡ record { loaded = store; entries = [] } → ledger.doubt ≡ None → copies.shown ≡ store → copies.all ≡ store → outcomes ≡ [] → is_history store ≡ true → IsSide may ledger copies clock outcomes
side_begins may ledger copies clock outcomes store history doubt shown all none follow = subst (IsSide may ledger copies clock) (sym none) (record {
  all = all ∙ sym (append-nil store) ∙ ap batches (sym history);
  most = let size_is = ap size history in let long = ap length shown in omega (arith, size_is, long);
  history = subst (λ (h : History). KeepsHistory (may clock) h ledger.doubt []) (sym history) (subst (λ (d : Option Entry). KeepsHistory (may clock) (record { loaded = store; entries = [] }) d []) (sym doubt) (begins_history (may clock) store follow));
  shows = λ i e r t at is. no_some at;
  told = tt;
})
