-- What sessions keep of the replies to the reads of a round.
use Rattle.std.specs.Prelude.{◌≡◌, ◌⊎◌, ℕ, ◌-◌, List, [], ◌∷◌, Some, slice_get, slice_set}
use Rattle.gd_lookup.specs.Keeping.{KeepingValue, CountsReply}
use Rattle.gd_round_lines.specs.declared.work.ReadLine.{ReadLine}

-- the reply to a read was counted, where it was put in place of its first one; where that stays nothing was
abbrev pub CountsPut : ℕ → ReadLine → List (List ℕ) → List (List ℕ) → KeepingValue → KeepingValue → Type 0
CountsPut first r texts now old new = ((reply : List ℕ) × (now ≡ slice_set texts (r.line - first) reply) × CountsReply old r.session r.key r.line reply new) ⊎ ((now ≡ texts) × (new ≡ old))

-- the reply that stands at the place of a read was counted; or it is the first one, and nothing was
abbrev pub CountsRead : ℕ → List (List ℕ) → List (List ℕ) → KeepingValue → ReadLine → KeepingValue → Type 0
CountsRead first texts now old r new = ((reply : List ℕ) × (slice_get now (r.line - first) ≡ Some reply) × CountsReply old r.session r.key r.line reply new) ⊎ ((slice_get now (r.line - first) ≡ slice_get texts (r.line - first)) × (new ≡ old))

-- so it is of reads, one after another
abbrev pub CountsReads : ℕ → List (List ℕ) → List (List ℕ) → KeepingValue → List ReadLine → KeepingValue → Type 0
CountsReads first texts now old [] new = new ≡ old
CountsReads first texts now old (r ∷ rs) new = (next : KeepingValue) × CountsRead first texts now old r next × CountsReads first texts now next rs new
