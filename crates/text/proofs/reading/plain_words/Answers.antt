use borrow.Author.Rules.{rules}
use Rattle.text.proofs.Plain.{words_are}
use Rattle.text.proofs.reading.plain_words.Goals as goal

pub returns : goal.returns
returns c = words_are _ _ _ (search rules) (search rules)
