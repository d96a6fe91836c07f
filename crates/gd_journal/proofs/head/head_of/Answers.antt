use Rattle.std.proofs.Common.{◌≡◌, ℕ, [], ◌∷◌, get_or, refl, sym, ◌∙◌, ap, arith}
use Rattle.gd_journal.proofs.Heads.{whole_of, five, four_bytes}
use Rattle.gd_journal.proofs.head.head_of.Goals as goal

pub returns-clause-head : goal.returns-clause-head
returns-clause-head c = λ tail head size.
    let bs = c.args.bytes.now in
    let b = five bs tail head (omega arith) in
    let len = get_or bs 1 0 ∷ get_or bs 2 0 ∷ get_or bs 3 0 ∷ get_or bs 4 0 ∷ [] in
    let one : get_or bs 0 0 ≡ 1 = c.if-bytes-ne1.false in
    let e = c.from_be_bytes-size.ensures in
    whole_of tail len c.from_be_bytes-size.result c.args.room (ap (λ (x : ℕ). x ∷ len) (sym one) ∙ sym b ∙ head) size refl (four_bytes _ _ _ _ (omega (arith, c.type_inv.bytes 1)) (omega (arith, c.type_inv.bytes 2)) (omega (arith, c.type_inv.bytes 3)) (omega (arith, c.type_inv.bytes 4))) e (omega arith) (omega arith) (omega arith)
