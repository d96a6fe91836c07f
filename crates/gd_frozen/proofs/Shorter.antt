-- What is left behind what was read is no longer than the bytes, and further items are read however many are wanted.
use Rattle.std.proofs.Common.{◌≡◌, ◌+◌, ◌≤◌, ℕ, List, Bool, ◌++◌, length, length-append, refl, ap, arith, Ok, decimal}
use Rattle.gd_grammar.specs.Grammar.{Reads, IsText, more_at}
use Rattle.gd_grammar.proofs.Steady.{Steady, nothing, enough}
use Rattle.gd_tree.specs.Trees.{Trees}
use Rattle.gd_bytes.specs.Frozen.{Frame, Walk, trees_text, frame_text, walk_text}
use Rattle.gd_bytes.specs.FrozenRead.{walk_at}
use Rattle.gd_frozen.specs.Pieces.{trees_at}
use Rattle.gd_frozen.specs.FrozenAt.{frame_at}
use Rattle.gd_frozen.proofs.TreesSteady.{Trees_in, Steady-trees}
use Rattle.gd_frozen.proofs.FrozenSteady.{Frame_fits, Steady-frame, Walk_fits, walk_more, Steady-walk}

short : {A : Type 0} (spells : A → List ℕ → Type 0) (read : List ℕ → Reads A) (goes_on : ℕ → Bool) → Steady spells read goes_on → (bytes : List ℕ) (x : A) (rest : List ℕ) → read bytes ≡ Ok (x, rest) → length rest ≤ length bytes
short spells read goes_on reads bytes x rest is = let (w, s, split) = reads.found bytes x rest is in let l = ap length split in let n = length-append w rest in omega (arith, l, n)

pub trees_short : (bytes : List ℕ) (ts : Trees) (rest : List ℕ) → trees_at bytes ≡ Ok (ts, rest) → length rest ≤ length bytes
trees_short = short (IsText trees_text Trees_in) trees_at nothing Steady-trees

pub trees_enough : (n m : ℕ) (bytes : List ℕ) → length bytes ≤ n → length bytes ≤ m → more_at n 44 trees_at bytes ≡ more_at m 44 trees_at bytes
trees_enough = enough trees_text Trees_in trees_at nothing Steady-trees 44 refl

pub frame_short : (bytes : List ℕ) (f : Frame) (rest : List ℕ) → frame_at bytes ≡ Ok (f, rest) → length rest ≤ length bytes
frame_short = short (IsText frame_text Frame_fits) frame_at nothing Steady-frame

pub frames_enough : (n m : ℕ) (bytes : List ℕ) → length bytes ≤ n → length bytes ≤ m → more_at n 59 frame_at bytes ≡ more_at m 59 frame_at bytes
frames_enough = enough frame_text Frame_fits frame_at nothing Steady-frame 59 refl

pub walk_short : (bytes : List ℕ) (w : Walk) (rest : List ℕ) → walk_at bytes ≡ Ok (w, rest) → length rest ≤ length bytes
walk_short = short (IsText walk_text Walk_fits) walk_at walk_more Steady-walk

pub walks_enough : (n m : ℕ) (bytes : List ℕ) → length bytes ≤ n → length bytes ≤ m → more_at n 59 walk_at bytes ≡ more_at m 59 walk_at bytes
walks_enough = enough walk_text Walk_fits walk_at walk_more Steady-walk 59 refl
