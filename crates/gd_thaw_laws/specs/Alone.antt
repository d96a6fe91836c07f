-- A candidate that is tried by itself, as the only one of an order, and where it belongs.
use Rattle.std.specs.Prelude.{◌≡◌, ℕ, List, [], ◌∷◌}
use Rattle.gd_prim.specs.declared.Primitive.{Primitive}
use Rattle.gd_defs.specs.Template.{Template}
use Rattle.gd_bytes.specs.Frozen.{IterAt, Frame, Scan}
use Rattle.gd_runs.specs.Owed.{ScanOrder, Candidate}
use Rattle.gd_match_laws.specs.PassedOn.{start}
use Rattle.gd_match_laws.specs.Moves.{order_from, Runs}

-- the scan of an order that has come to this position, with the weight and the frames of another one
abbrev pub standing_at : IterAt → Scan → Scan
standing_at i s = record { iter = i; weight = s.weight; frames = s.frames }

-- ---- laws

-- Where nothing is left of an order but what is tried, its frames go as they go in any other order, and the same candidate is given.
abbrev pub FramesGoAlone : Type 0
FramesGoAlone = (prims : List Primitive) (alone order : ScanOrder) (t : Template) (i : IterAt) (s m : Scan) (cs : List Candidate) → order_from prims t alone s.iter.place ≡ []
    → Runs prims alone t s cs m → Runs prims order t (standing_at i s) cs (standing_at i m)

-- Where the next candidate of an order is tried by itself and its frames are not at their end, the scan of the order stands behind it with these frames.
abbrev pub CandidatesGoAlone : Type 0
CandidatesGoAlone = (prims : List Primitive) (order : ScanOrder) (t : Template) (c : ℕ × ℕ) (i : IterAt) (s m : Scan) (cs : List Candidate) (f : Frame) (fs : List Frame) → s.frames ≡ []
    → order_from prims t order s.iter.place ≡ c ∷ order_from prims t order i.place → Runs prims ((0, c.1) ∷ []) t start cs m → m.frames ≡ f ∷ fs
    → Runs prims order t s cs (standing_at i m)
