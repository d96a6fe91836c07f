-- A run of lines as it begins, and as it goes on with another clock and disk.
use Rattle.std.proofs.Common.{◌≡◌, ℕ, Bool, List, [], Option, sym, subst, arith}
use Rattle.std.specs.Io.KnownBytes.{prepend_known}
use Rattle.gd_prim.specs.declared.Batch.{Batch}
use Rattle.gd_runs.specs.Core.{State, opened}
use Rattle.gd_input.specs.Held.{Held, IsBounded}
use Rattle.gd_input.specs.Pieces.{Known, Advances}
use Rattle.gd_runs.specs.Pace.{Left}
use Rattle.gd_replay_laws.specs.Paced.{AreWithin}
use Rattle.gd_replay_laws.specs.Runs.{AreBelow}
use Rattle.gd_replay_laws.proofs.Below.{opened_below}
use Rattle.gd_replay.specs.declared.stop.Stop.{Stop}
use Rattle.gd_replay.specs.declared.stop.Stop.TheVariants as stop
use Rattle.gd_replay.specs.Runs.{PiecePrints, PieceStops, RunUpto}
use Rattle.gd_replay.proofs.Known.{start_known, advances_none}

pub begun_upto : (told : Bool) (may : ℕ → Bool) (loaded : List Batch) (held : Option (List ℕ)) (n : ℕ) (s : State) (had : Left) (reader : Held) (a : Option (List ℕ)) → AreWithin had (λ i. 0) → reader ≡ record { bytes = []; consumed = 0 } → s ≡ opened loaded
    → Known a (prepend_known reader.bytes a) (RunUpto told may loaded held held n n 0 s had)
begun_upto told may loaded held n s had reader a none new opens =
    subst (λ (r : Held). Known a (prepend_known r.bytes a) (RunUpto told may loaded held held n n 0 s had)) (sym new)
    (subst (λ (t : State). Known a (prepend_known [] a) (RunUpto told may loaded held held n n 0 t had)) (sym opens) (start_known told may loaded held n had none a))

pub begun_advances : (reader : Held) (a : Option (List ℕ)) → reader ≡ record { bytes = []; consumed = 0 } → Advances a (prepend_known reader.bytes a) 0 reader.consumed
begun_advances reader a new = subst (λ (r : Held). Advances a (prepend_known r.bytes a) 0 r.consumed) (sym new) (advances_none a)

pub begun_bounded : (reader : Held) → reader ≡ record { bytes = []; consumed = 0 } → IsBounded reader
begun_bounded reader new = subst (λ (r : Held). IsBounded r) (sym new) (record { buffered = omega arith; taken = omega arith })

pub begun_below : (s : State) (loaded : List Batch) (k : ℕ) → s ≡ opened loaded → AreBelow k s
begun_below s loaded k opens = subst (AreBelow k) (sym opens) (opened_below k loaded)

-- ---- by the moments of the clock that there was, and as the file was told

module _ (told now : Bool) (on : now ≡ told) (given may : ℕ → Bool) (same : may ≡ given) (s : State) (k : ℕ) (piece : List ℕ) (old new : Option (List ℕ)) (a c : ℕ) (had : Left) where
  pub prints_by : (t : State) (n : ℕ) (has : Left) → PiecePrints now may s k piece t n old new a c had has → PiecePrints told given s k piece t n old new a c had has
  prints_by t n has prints = subst (λ (b : Bool). PiecePrints b given s k piece t n old new a c had has) on (subst (λ (m : ℕ → Bool). PiecePrints now m s k piece t n old new a c had has) same prints)

  pub stops_by : (leaves : State → Type 0) (why : Stop) → PieceStops now may s k piece leaves why old new a c had → PieceStops told given s k piece leaves why old new a c had
  stops_by leaves why stops = subst (λ (b : Bool). PieceStops b given s k piece leaves why old new a c had) on (subst (λ (m : ℕ → Bool). PieceStops now m s k piece leaves why old new a c had) same stops)

  -- and by what is left that follows
  pub stops_more : (leaves also : State → Type 0) → ((t : State) → leaves t → also t) → (why : Stop) → PieceStops now may s k piece leaves why old new a c had → PieceStops now may s k piece also why old new a c had
  stops_more leaves also more stop.ReadFault stops = stops
  stops_more leaves also more stop.TooMuch stops = stops
  stops_more leaves also more (stop.Unopened f) stops = stops
  stops_more leaves also more stop.SinkFault stops = record { output = stops.output; rest = stops.rest; state = stops.state; runs = stops.runs; next = stops.next; paced = stops.paced; left = more stops.state stops.left; gained = stops.gained; rose = stops.rose }
  stops_more leaves also more stop.Memory stops = record { left = more s stops.left; kept = stops.kept; rose = stops.rose }
  stops_more leaves also more (stop.Lost f) stops = record { left = more s stops.left; kept = stops.kept; rose = stops.rose }
