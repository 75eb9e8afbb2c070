-- What an answer cites about a search by a test of each tag. Assumes nothing.
pub use Rattle.std.proofs.Common.{◌≡◌, true, false, eqb, rules}
pub use Rattle.std.proofs.lemmas.Iterator.{YieldsList-from_slice, IsFirst-from_position, cases_from_any}
pub use borrow.Author.Tests.{tests}
