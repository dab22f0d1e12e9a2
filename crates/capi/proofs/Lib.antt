pub mod CopyLaws
