use Rattle.rules.proofs.Laws.Bools.{told}
use Rattle.rules.specs.Effects.{reply_of}
use Rattle.parts.proofs.changes.reply.Goals as goal

pub returns-else-is_free : goal.returns-else-is_free
unfolding reply_of
returns-else-is_free c = rw (told c.is_free.ensures c.if-is_free.false, c.free_message-else-is_free.ensures)
