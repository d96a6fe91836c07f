use Rattle.std.proofs.Common.{◌≡◌, All, vec_len}
use Rattle.gd_shared.specs.Shared.{IsNewSeat}
use Rattle.gd_shared.proofs.sharing.new_seats.Given as goal

abbrev pub invariant-loop : goal.invariant-loop
invariant-loop l = (l.publisher ≡ l.fn.publisher) × (vec_len l.made ≡ l.counter) × All (IsNewSeat l.fn.publisher.history l.fn.publisher.shown) l.made.items
