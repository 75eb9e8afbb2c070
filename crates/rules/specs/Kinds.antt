-- The kinds of an event and the reasons of a refusal, and their numbers (document 01, "Events" and "Numbers a call gives back"). Assumes nothing.
use Rattle.std.specs.Prelude.{◌≡◌, ◌<◌, ℕ, Result, Ok, Err, MatchResult}
use Rattle.rules.specs.declared.kinds.Kind.{Kind}
use Rattle.rules.specs.declared.kinds.Kind.TheVariants.{Read, Write, Send, Deliver, Drop, WantRead, WantWrite, LostToken, LostData, LostDeletionAck}
use Rattle.rules.specs.declared.refusals.Refusal.{Refusal}
use Rattle.rules.specs.declared.refusals.Refusal.TheVariants.{IllFormed, Unknown, NoLine, NoNode, Memory, NoMessage, ToItself, WrongAmount, WrongOwner, Blocked, NotValid, NoFreeSlot, NotAble, WantsAlready, AbleAlready, NoCause, NextSerialBorne, NothingLeft, WrongSize, UnevenWords, NoRoom, BackupElsewhere}

-- the number of a kind
abbrev pub kind_number : Kind → ℕ
kind_number Read = 0
kind_number Write = 1
kind_number Send = 2
kind_number Deliver = 3
kind_number Drop = 4
kind_number WantRead = 5
kind_number WantWrite = 6
kind_number LostToken = 7
kind_number LostData = 8
kind_number LostDeletionAck = 9

-- the number that is given back for a reason
abbrev pub number_of : Refusal → ℕ
number_of IllFormed = 1
number_of Unknown = 2
number_of NoLine = 3
number_of NoNode = 4
number_of Memory = 5
number_of NoMessage = 6
number_of ToItself = 7
number_of WrongAmount = 8
number_of WrongOwner = 9
number_of Blocked = 10
number_of NotValid = 11
number_of NoFreeSlot = 12
number_of NotAble = 13
number_of WantsAlready = 14
number_of AbleAlready = 15
number_of NoCause = 16
number_of NextSerialBorne = 17
number_of NothingLeft = 18
number_of WrongSize = 19
number_of UnevenWords = 20
number_of NoRoom = 21
number_of BackupElsewhere = 23

-- the number of what may be refused: 0 where it is not
abbrev pub number_in : {A : Type 0} → Result A Refusal → ℕ
number_in (Ok _) = 0
number_in (Err why) = number_of why

-- the kind of this number, or, above 9, that there is none such
abbrev pub Decodes : ℕ → Result Kind Refusal → Type 0
Decodes n r = MatchResult r (λ kind. kind_number kind ≡ n) (λ why. (9 < n) × (why ≡ Unknown))
