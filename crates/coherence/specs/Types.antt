-- The types of `rules`, under short names. Assumes nothing.
pub use Rattle.rules.specs.declared.cells.Want.{Want}
pub use Rattle.rules.specs.declared.cells.Cell.{Cell}
pub use Rattle.rules.specs.declared.messages.MessageKind.{MessageKind}
pub use Rattle.rules.specs.declared.messages.MessageKind.TheVariants.{Free, Tokens, OwnershipAck, DeletionAck}
pub use Rattle.rules.specs.declared.messages.Message.{Message}
pub use Rattle.rules.specs.declared.states.State.{State}
pub use Rattle.rules.specs.declared.events.Event.{Event}
pub use Rattle.rules.specs.declared.events.Answer.{Answer}
pub use Rattle.rules.specs.declared.events.Stepped.{Stepped}
