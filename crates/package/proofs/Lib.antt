pub mod Common
pub mod NumberLemmas
pub mod IndexLemmas
pub mod SearchLemmas
pub mod ProbeLemmas
pub mod ColumnLemmas
pub mod PackageLemmas
