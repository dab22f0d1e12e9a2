pub mod OwnPageLaws
