use Rattle.streams.proofs.calling.word.Goals as goal

pub returns-in-Err-TooLong-clause-too_long : goal.returns-in-Err-TooLong-clause-too_long
returns-in-Err-TooLong-clause-too_long g c = c.from_raw_os_error.ensures.code
