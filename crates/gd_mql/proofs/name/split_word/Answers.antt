use Rattle.std.proofs.Common.{◌∙◌, ap, length}
use Rattle.gd_defs.specs.Query.Names.{word_front}
use Rattle.gd_mql.proofs.Spelling.{word_cut}
use Rattle.gd_mql.proofs.name.split_word.Goals as goal

pub split_at-requires : goal.split_at-requires
split_at-requires c = word_cut c.args.text.now c.word_len.result c.utf8.text (c.word_len.ensures.count ∙ ap (λ bytes. length (word_front bytes)) c.as_bytes.ensures.value)
