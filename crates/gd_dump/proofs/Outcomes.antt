-- Facts of one outcome.
use Rattle.std.proofs.Common.{Result, Ok, Err, OnOk, OnErr}

pub at_ok : {T E P : Type 0} (r : Result T E) → P → OnOk r P
at_ok (Ok x) p = p
at_ok (Err e) p = tt

pub err_so : {T E P Q : Type 0} (r : Result T E) → (P → Q) → OnErr r P → OnErr r Q
err_so (Ok x) so p = tt
err_so (Err e) so p = so p

pub ok_so : {T E P Q : Type 0} (r : Result T E) → (P → Q) → OnOk r P → OnOk r Q
ok_so (Ok x) so p = so p
ok_so (Err e) so p = tt
