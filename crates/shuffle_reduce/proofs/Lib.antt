pub mod CoverLemmas
pub mod MergeLemmas
pub mod IndexLemmas
pub mod OneIndex
