-- Which reads of a session find their reply kept.
use Rattle.std.specs.Prelude.{ℕ, ◌+◌, ◌&&◌, List, [], ◌∷◌, length, take, Bool, nat_le, nat_eq, if◌then◌else◌}
use Rattle.std.specs.List.{list_any}
use Rattle.std.specs.Set.{remove_key}
use Rattle.std.specs.Cmp.Lexicographic.{pointwise}
use Rattle.gd_cache.specs.declared.key.ReplyKey.{ReplyKey}

-- two keys are the same: one text at one dateline
abbrev pub same_key : ReplyKey → ReplyKey → Bool
same_key a b = pointwise nat_eq a.text b.text && nat_eq a.dateline b.dateline

-- a call of the cache: the key of a read that was answered, and how many bytes its result has
pub record Call : Type 0 where
  pub key : ReplyKey
  pub outcome : ℕ

-- a reply is short enough to be kept
abbrev pub fits : ReplyKey → ℕ → Bool
fits key outcome = nat_le (length key.text) 4096 && nat_le outcome 65536

-- a key is among these
abbrev pub is_in : ReplyKey → List ReplyKey → Bool
is_in key keys = list_any (same_key key) keys

-- the keys after a call, the latest first: one that is in comes to the front, where another one that is short enough is put; past so many the last is dropped
abbrev pub keys_after : ℕ → List ReplyKey → Call → List ReplyKey
keys_after most keys c = if is_in c.key keys then c.key ∷ remove_key (same_key c.key) keys else (if fits c.key c.outcome then take most (c.key ∷ keys) else keys)

-- one where the key of the call is in
abbrev pub hit : List ReplyKey → Call → ℕ
hit keys c = if is_in c.key keys then 1 else 0

-- how many of the calls, in order, find their key among so many, of which these are in
abbrev pub hits_from : ℕ → List ReplyKey → List Call → ℕ
hits_from most keys [] = 0
hits_from most keys (c ∷ cs) = hit keys c + hits_from most (keys_after most keys c) cs

-- how many of the calls, in order, find their key among at most so many, of which none is in at first
abbrev pub hits_of : List Call → ℕ → ℕ
hits_of calls most = hits_from most [] calls
