-- A piece of the input, as the line that it is.
use Rattle.std.proofs.Common.{◌≡◌, ℕ, ◌+◌, ◌≤◌, List, [], ◌∷◌, ◌++◌, bytes_eq, Bool, true, false, Option, refl, sym, subst, arith}
use Rattle.std.proofs.KnownBytes.{Appends-nil}
use Rattle.gd_base.specs.Counts.{RoseBy}
use Rattle.gd_sessions.specs.PassedOn.{one_member}
use Rattle.gd_runs.specs.Core.{State}
use Rattle.gd_runs.specs.Pace.{DueOf, Left}
use Rattle.gd_replay_laws.specs.Paced.{LinePaces}
use Rattle.gd_replay_laws.specs.Runs.{LineOver, PieceRuns}
use Rattle.gd_replay_laws.specs.Faults.{faults_from}
use Rattle.gd_replay_laws.proofs.Faults.{plain_reply, rose_none, rose_line}
use Rattle.gd_replay.specs.declared.stop.Stop.{Stop}
use Rattle.gd_replay.specs.declared.stop.Stop.TheVariants as stop
use Rattle.gd_replay.specs.Runs.{LinePrints, LineFront, LineStops, PiecePrints, PieceFront, PieceStops, PiecePaces}

one_line : (told : Bool) (may : ℕ → Bool) (s : State) (k c : ℕ) (cs reply : List ℕ) (t : State) → LineOver told one_member may s k (c ∷ cs) reply t → PieceRuns told one_member may s k (c ∷ cs) (reply ++ 10 ∷ []) t
one_line told may s k c cs reply t line = λ round. (reply, t, [], line, refl, (refl, refl))

one_paced : (told : Bool) (may : ℕ → Bool) (s : State) (k c : ℕ) (cs reply : List ℕ) (t : State) (had has : Left) → LineOver told one_member may s k (c ∷ cs) reply t → ((d : DueOf) → LinePaces one_member d s k (c ∷ cs) reply t had has)
    → PiecePaces told may s k (c ∷ cs) (reply ++ 10 ∷ []) t had has
one_paced told may s k c cs reply t had has line paced = λ d a within.
    let (z, pace, rest) = paced d a within in (z, λ round. (reply, t, z, [], line, pace, refl, (refl, refl, refl)), rest)

-- a line that is not blank
pub line_prints : (told : Bool) (may : ℕ → Bool) (s : State) (k : ℕ) (piece : List ℕ) (t : State) (old new : Option (List ℕ)) (a b : ℕ) (had has : Left) → bytes_eq piece [] ≡ false → a ≤ b → LinePrints told may s k piece t old new a b had has
    → PiecePrints told may s k piece t (k + 1) old new a b had has
line_prints told may s k [] t old new a b had has some later prints = absurd (cc)
line_prints told may s k (c ∷ cs) t old new a b had has some later prints = record {
  output = prints.reply ++ 10 ∷ [];
  runs = one_line told may s k c cs prints.reply t prints.line;
  paced = one_paced told may s k c cs prints.reply t had has prints.line prints.paced;
  many = refl;
  gained = prints.gained;
  rose = rose_line k a b prints.reply (plain_reply told one_member may s k (c ∷ cs) prints.reply t prints.line) prints.counted later;
}

-- a blank one
pub blank_prints : (told : Bool) (may : ℕ → Bool) (s : State) (k : ℕ) (piece : List ℕ) (held : Option (List ℕ)) (n : ℕ) (had : Left) → bytes_eq piece [] ≡ true → PiecePrints told may s k piece s k held held n n had had
blank_prints told may s k [] held n had none = record { output = []; runs = λ round. (refl, refl); paced = λ d a within. (a, λ round. (refl, refl, refl), within); many = omega arith; gained = Appends-nil held; rose = rose_none n n (omega arith) }
blank_prints told may s k (c ∷ cs) held n had none = absurd (cc)

-- a line that stops a run
line_front : (told : Bool) (may : ℕ → Bool) (s : State) (k : ℕ) (piece : List ℕ) (leaves : State → Type 0) (old new : Option (List ℕ)) (a b : ℕ) (had : Left) → bytes_eq piece [] ≡ false → a ≤ b → LineFront told may s k piece leaves old new a b had
    → PieceFront told may s k piece leaves old new a b had
line_front told may s k [] leaves old new a b had some later front = absurd (cc)
line_front told may s k (c ∷ cs) leaves old new a b had some later front = record {
  output = front.front.piece;
  rest = front.front.rest;
  state = front.state;
  runs = subst (λ (out : List ℕ). PieceRuns told one_member may s k (c ∷ cs) out front.state) (sym front.front.parts) (one_line told may s k c cs front.reply front.state front.line);
  next = front.next;
  paced = subst (λ (out : List ℕ). PiecePaces told may s k (c ∷ cs) out front.state had front.next) (sym front.front.parts) (one_paced told may s k c cs front.reply front.state had front.next front.line front.paced);
  left = front.left;
  gained = front.front.gained;
  rose = subst (λ (out : List ℕ). RoseBy a b (faults_from k out)) (sym front.front.parts) (rose_line k a b front.reply (plain_reply told one_member may s k (c ∷ cs) front.reply front.state front.line) front.counted later);
}

pub line_stops : (told : Bool) (may : ℕ → Bool) (s : State) (k : ℕ) (piece : List ℕ) (leaves : State → Type 0) (why : Stop) (old new : Option (List ℕ)) (a b : ℕ) (had : Left) → bytes_eq piece [] ≡ false → a ≤ b → LineStops told may s k piece leaves why old new a b had
    → PieceStops told may s k piece leaves why old new a b had
line_stops told may s k piece leaves stop.ReadFault old new a b had some later stops = stops
line_stops told may s k piece leaves stop.SinkFault old new a b had some later stops = line_front told may s k piece leaves old new a b had some later stops
line_stops told may s k piece leaves stop.Memory old new a b had some later stops = stops
line_stops told may s k piece leaves stop.TooMuch old new a b had some later stops = stops
line_stops told may s k piece leaves (stop.Unopened f) old new a b had some later stops = stops
line_stops told may s k piece leaves (stop.Lost f) old new a b had some later stops = stops
