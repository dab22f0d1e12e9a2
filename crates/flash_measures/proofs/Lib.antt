pub mod WithinLaws
