pub mod MoveLaws
pub mod BlankLaws
pub mod ConservedLaws
