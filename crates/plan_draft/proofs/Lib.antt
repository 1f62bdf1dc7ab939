pub mod DraftLines
