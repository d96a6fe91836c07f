use Rattle.gd_shared.proofs.Table.{may_join, may_tell, may_learn}
use Rattle.gd_shared.proofs.publisher.Publisher.seat.Goals as goal

pub reader-requires : goal.reader-requires
reader-requires c = may_join

pub tell-requires : goal.tell-requires
tell-requires c = may_tell _ _

pub learn-requires-clause-rule : goal.learn-requires-clause-rule
learn-requires-clause-rule c = may_learn _ _ _ _
