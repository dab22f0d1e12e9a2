pub mod OwnPage
