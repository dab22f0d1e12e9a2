pub mod GameLaws
