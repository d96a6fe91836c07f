-- What is found in a cache that is right is the reply.
use Rattle.std.proofs.Common.{◌≡◌, ◌∙◌, sym, ℕ, List, length, Option, Some, None, IfSome, option_map}
use Rattle.std.specs.Prelude.{nat_le}
use Rattle.std.specs.Map.{lookup}
use Rattle.std.proofs.lemmas.Bool.{leb-true}
use Rattle.gd_defs.specs.Reply.{max_reply}
use Rattle.gd_grammar.proofs.Steps.{some_same, not_some, either, maybe}
use Rattle.gd_runs.specs.Request.{ReadSet}
use Rattle.gd_cache.specs.declared.key.ReplyKey.{ReplyKey}
use Rattle.gd_cache.specs.Asked.{dateline_at}
use Rattle.gd_cache.specs.Hits.{same_key}
use Rattle.gd_cache.specs.Line.{kept_text}
use Rattle.gd_cache.specs.Shown.{Shown}
use Rattle.gd_cache.proofs.Found.{lookup_right}
use Rattle.gd_lookup.specs.Found.{within_reply, found_line, found_reply, IsReplyAt, IsReplyFor}

-- what is found at a dateline is the reply to whatever read has it there
pub found_is_reply : (s : Shown) (text : List ℕ) (dateline k : ℕ) (bytes : List ℕ) → found_line s text dateline k ≡ Some bytes → IsReplyAt s text dateline k bytes
found_is_reply s text dateline k bytes is batches q at right key within has =
    let key_is : ReplyKey = record { text = text; dateline = dateline } in
    let step = maybe (lookup (same_key key_is) s.pairs) (λ kept. within_reply (kept_text dateline k kept)) bytes is in
    let kept = step.value in
    let of = lookup_right batches s key_is kept right step.gave in
    either (nat_le (length (kept_text dateline k kept)) max_reply) (Some (kept_text dateline k kept)) None (Some bytes)
    (λ low same. sym (some_same (kept_text dateline k kept) bytes same) ∙ sym (of.right q key at within has k (leb-true (length (kept_text dateline k kept)) max_reply low)))
    (λ high none. not_some bytes none) step.then_gave

-- and so is what a call gives that gives what is found
pub all_right : {A : Type 0} (f : A → List ℕ) (s : Shown) (text : List ℕ) (dateline k : ℕ) (r : Option A) → option_map f r ≡ found_line s text dateline k → IfSome r (λ x. IsReplyAt s text dateline k (f x))
all_right f s text dateline k None is = tt
all_right f s text dateline k (Some x) is = found_is_reply s text dateline k (f x) (sym is)

-- and what is found for a read is its reply
pub found_is_answer : (s : Shown) (text : List ℕ) (q : ReadSet) (at k : ℕ) (bytes : List ℕ) → found_reply s text (dateline_at at q) k ≡ Some bytes → IsReplyFor s text q at k bytes
found_is_answer s text q at k bytes is batches right key within =
    let step = maybe (dateline_at at q) (λ n. found_line s text n k) bytes is in
    found_is_reply s text step.value k bytes step.then_gave batches q at right key within step.gave

-- and so is what a call gives that gives what is found
pub all_answers : {A : Type 0} (f : A → List ℕ) (s : Shown) (text : List ℕ) (q : ReadSet) (at k : ℕ) (r : Option A) → option_map f r ≡ found_reply s text (dateline_at at q) k → IfSome r (λ x. IsReplyFor s text q at k (f x))
all_answers f s text q at k None is = tt
all_answers f s text q at k (Some x) is = found_is_answer s text q at k (f x) (sym is)
