-- The types of `rules`, under short names. Assumes nothing.
pub use Rattle.rules.specs.declared.cells.Want.{Want}
pub use Rattle.rules.specs.declared.cells.Want.TheVariants.{Read, Write}
pub use Rattle.rules.specs.declared.cells.Cell.{Cell}
pub use Rattle.rules.specs.declared.messages.MessageKind.TheVariants.{Tokens, OwnershipAck, DeletionAck}
pub use Rattle.rules.specs.declared.messages.Message.{Message}
pub use Rattle.rules.specs.declared.events.Event.{Event}
pub use Rattle.rules.specs.declared.events.Arrival.{Arrival}
