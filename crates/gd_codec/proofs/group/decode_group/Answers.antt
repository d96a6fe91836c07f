use Rattle.std.proofs.Common.{arith}
use Rattle.gd_codec.specs.Groups.{whole_group_at}
use Rattle.gd_codec.proofs.Stops.{stopped_at}
use Rattle.gd_codec.proofs.Batches.{group_found, group_bad, group_whole, group_left}
use Rattle.gd_grammar.proofs.Options.{bytes_below}
use Rattle.gd_codec.proofs.Meaning.{spelled_meant, not_meant}
use Rattle.gd_codec.proofs.Writing.{fits_may}
use Rattle.gd_codec.proofs.group.decode_group.Goals as goal

pub overflow_sub-result : goal.overflow_sub-result
overflow_sub-result c =
    let bytes = c.args.bytes.now in
    let (rest, is, left) = stopped_at c.in-Err-Bad.field-0 c.in-Err-Bad.left (whole_group_at bytes) c.in-Err-Bad.field-0-is c.in-Err-Bad.ensures in
    let within = group_left bytes rest is in
    omega (arith, left, within)

pub returns-in-Ok-clause-read : goal.returns-in-Ok-clause-read
returns-in-Ok-clause-read c = group_found c.args.bytes.now c.in-Ok.batches.items c.in-Ok.ensures

pub returns-in-Ok-clause-again : goal.returns-in-Ok-clause-again
returns-in-Ok-clause-again c = λ batches is. let whole = group_whole c.args.bytes.now batches is in let read = c.in-Ok.ensures in cc (whole, read)

pub returns-in-Err-Bad-clause-read : goal.returns-in-Err-Bad-clause-read
returns-in-Err-Bad-clause-read c =
    let bytes = c.args.bytes.now in
    let (rest, is, left) = stopped_at c.in-Err-Bad.field-0 c.in-Err-Bad.left (whole_group_at bytes) c.in-Err-Bad.field-0-is c.in-Err-Bad.ensures in
    group_bad bytes rest c.in-Err-Bad.left is left

pub returns-in-Err-Bad-clause-again : goal.returns-in-Err-Bad-clause-again
returns-in-Err-Bad-clause-again c = λ batches is.
    let bytes = c.args.bytes.now in
    let (rest, stops, left) = stopped_at c.in-Err-Bad.field-0 c.in-Err-Bad.left (whole_group_at bytes) c.in-Err-Bad.field-0-is c.in-Err-Bad.ensures in
    let whole = group_whole bytes batches is in
    cc (whole, stops)

pub returns-in-Ok-clause-meant : goal.returns-in-Ok-clause-meant
returns-in-Ok-clause-meant c = spelled_meant c.in-Ok.batches.items c.args.bytes.now (group_found c.args.bytes.now c.in-Ok.batches.items c.in-Ok.ensures)

pub returns-in-Err-Bad-clause-meant : goal.returns-in-Err-Bad-clause-meant
returns-in-Err-Bad-clause-meant c = λ bad.
    let bytes = c.args.bytes.now in
    let (rest, stops, left) = stopped_at c.in-Err-Bad.field-0 c.in-Err-Bad.left (whole_group_at bytes) c.in-Err-Bad.field-0-is c.in-Err-Bad.ensures in
    not_meant bytes (bytes_below bytes (λ i. (c.type_inv.bytes i).fits)) (λ bs is. let whole = group_whole bytes bs is in cc (whole, stops))

pub returns-in-Ok-clause-writable : goal.returns-in-Ok-clause-writable
returns-in-Ok-clause-writable c = fits_may c.in-Ok.batches.items (group_found c.args.bytes.now c.in-Ok.batches.items c.in-Ok.ensures).0
