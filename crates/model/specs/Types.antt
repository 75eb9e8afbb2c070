-- The types of `rules`, under short names. Assumes nothing.
pub use Rattle.rules.specs.declared.states.State.{State}
pub use Rattle.rules.specs.declared.events.Event.{Event}
pub use Rattle.rules.specs.declared.events.Answer.{Answer}
pub use Rattle.rules.specs.declared.events.Stepped.{Stepped}
pub use Rattle.rules.specs.declared.events.Batched.{Batched}
