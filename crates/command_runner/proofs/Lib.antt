-- Pieces of a text that go to a writer one after another.
pub mod Waiting
-- That what was written is the answer of the text.
pub mod OneAnswer
-- What a run leaves with its writer.
pub mod Unanswered
