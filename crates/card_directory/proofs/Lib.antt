pub mod DirectoryLaws
pub mod ListedLaws
